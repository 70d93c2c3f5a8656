-- The new names that are given are what places are called.
use Rattle.std.specs.Prelude.{◌≡◌, ℕ, Bool, true, false, cond, List, map, slice_get, Option, Some, None, IfSome, IsTrue}
use Rattle.std.specs.Option.{unwrap_or}
use Rattle.std.proofs.Common.{refl, sym, ap, ◌∙◌, subst}
use Rattle.list_laws.proofs.Mapped.{map_same}
use Rattle.list_laws.proofs.Members.{In}
use Rattle.list_laws.proofs.Tests.{none_some, tested}
use Rattle.scope_rules.proofs.SameNames.{same_name_tells}
use Rattle.scope_rules.specs.Bindings.{node, same_name}
use Rattle.scope_rules.specs.PrivateNames.{declaring_class}
use Rattle.scope_rules.specs.Symbols.{node_symbol, symbol_of, symbols}
use Rattle.syntax_lex.specs.Identifier.{is_identifier_name}
use Rattle.tree_apply.proofs.SymbolsOfPlaces.{Symbol, class_of_node, plain_has_none, plain_is_public, symbol_of_node, symbol_told}
use Rattle.tree_apply.specs.Applied.{applied, differing, new_of, private_new, symbol_new}
use Rattle.tree_nodes.specs.Tree.{Parts, Text}
use Rattle.tree_places.specs.Places.{Place, places}
use Rattle.tree_places.specs.Renaming.{is_plain}
use Rattle.tree_semantic.specs.ClassBodies.{class_of_place, node_class}

differs_or_not : (x y : Text) → unwrap_or (differing x y) y ≡ x
unfolding differing
differs_or_not x y = tested (same_name x y)
    (λ t. ap (λ (b : Bool). unwrap_or (cond b None (Some x)) y) t ∙ sym ((same_name_tells x y).0 t))
    (λ t. ap (λ (b : Bool). unwrap_or (cond b None (Some x)) y) t)

-- a name that differs was set
differs_set : (o : Option Text) (y x : Text) → differing (unwrap_or o y) y ≡ Some x → o ≡ Some x
unfolding differing
differs_set None y x e = absurd (none_some x (sym (ap (λ (b : Bool). cond b None (Some y)) ((same_name_tells y y).1 refl)) ∙ e))
differs_set (Some z) y x e = tested (same_name z y)
    (λ t. absurd (none_some x (sym (ap (λ (b : Bool). cond b None (Some z)) t) ∙ e)))
    (λ t. sym (ap (λ (b : Bool). cond b None (Some z)) t) ∙ e)

module _ (ps : List Place) (name : ℕ → Option Text) (private : ℕ → Text → Option Text) where
  by_class : (p : Place) (c : Option ℕ) → unwrap_or (elim c as (λ _. Option Text) [ None ↦ None | Some d ↦ private d p.name ]) p.name ≡ elim c as (λ _. Text) [ None ↦ p.name | Some d ↦ unwrap_or (private d p.name) p.name ]
  by_class p None = refl
  by_class p (Some d) = refl

  by_symbol : (p : Place) (o : Option ℕ) → unwrap_or (elim o as (λ _. Option Text) [ None ↦ None | Some k ↦ differing (unwrap_or (name k) p.name) p.name ]) p.name ≡ elim o as (λ _. Text) [ None ↦ p.name | Some k ↦ unwrap_or (name k) p.name ]
  by_symbol p None = refl
  by_symbol p (Some k) = differs_or_not (unwrap_or (name k) p.name) p.name

  called_now : (p : Place) → unwrap_or (new_of ps name private p) p.name ≡ applied ps name private p
  unfolding new_of private_new symbol_new applied
  called_now p = go p.site.private
    where
      go : (b : Bool) → unwrap_or (cond b (elim (declaring_class ps p.name p.site.setting.classes) as (λ _. Option Text) [ None ↦ None | Some c ↦ private c p.name ])
          (elim (symbol_of same_name ps p) as (λ _. Option Text) [ None ↦ None | Some k ↦ differing (unwrap_or (name k) p.name) p.name ])) p.name
          ≡ cond b (elim (declaring_class ps p.name p.site.setting.classes) as (λ _. Text) [ None ↦ p.name | Some c ↦ unwrap_or (private c p.name) p.name ])
          (elim (symbol_of same_name ps p) as (λ _. Text) [ None ↦ p.name | Some k ↦ unwrap_or (name k) p.name ])
      go true = by_class p (declaring_class ps p.name p.site.setting.classes)
      go false = by_symbol p (symbol_of same_name ps p)

  pub all_called : map (λ (p : Place). unwrap_or (new_of ps name private p) p.name) ps ≡ map (applied ps name private) ps
  all_called = map_same (λ (p : Place). unwrap_or (new_of ps name private p) p.name) (applied ps name private) ps (λ p i. called_now p)

  -- plain names stay
  pub plain_stays : (p : Place) → is_plain p.site ≡ true → new_of ps name private p ≡ None
  unfolding new_of symbol_new
  plain_stays p h =
      ap (λ (b : Bool). cond b (private_new ps private p) (elim (symbol_of same_name ps p) as (λ _. Option Text) [ None ↦ None | Some k ↦ differing (unwrap_or (name k) p.name) p.name ])) (plain_is_public p.site h)
      ∙ ap (λ (o : Option ℕ). elim o as (λ _. Option Text) [ None ↦ None | Some k ↦ differing (unwrap_or (name k) p.name) p.name ]) (plain_has_none ps p h)

  -- what is given is an identifier name
  module _ (names : (k : ℕ) (x : Text) → name k ≡ Some x → IsTrue (is_identifier_name x)) (privates : (c : ℕ) (old x : Text) → private c old ≡ Some x → IsTrue (is_identifier_name x)) where
    pub new_identifier : (p : Place) (x : Text) → new_of ps name private p ≡ Some x → IsTrue (is_identifier_name x)
    unfolding new_of private_new symbol_new
    new_identifier p x e = go p.site.private e
      where
        of_class : (c : Option ℕ) → elim c as (λ _. Option Text) [ None ↦ None | Some d ↦ private d p.name ] ≡ Some x → IsTrue (is_identifier_name x)
        of_class None f = absurd (none_some x f)
        of_class (Some d) f = privates d p.name x f

        of_symbol : (o : Option ℕ) → elim o as (λ _. Option Text) [ None ↦ None | Some k ↦ differing (unwrap_or (name k) p.name) p.name ] ≡ Some x → IsTrue (is_identifier_name x)
        of_symbol None f = absurd (none_some x f)
        of_symbol (Some k) f = names k x (differs_set (name k) p.name x f)

        go : (b : Bool) → cond b (elim (declaring_class ps p.name p.site.setting.classes) as (λ _. Option Text) [ None ↦ None | Some c ↦ private c p.name ])
            (elim (symbol_of same_name ps p) as (λ _. Option Text) [ None ↦ None | Some k ↦ differing (unwrap_or (name k) p.name) p.name ]) ≡ Some x → IsTrue (is_identifier_name x)
        go true f = of_class (declaring_class ps p.name p.site.setting.classes) f
        go false f = of_symbol (symbol_of same_name ps p) f

-- ---- the new name at a node

module _ (t : Parts) (p : Place) (i : In p (places t)) where
  pub private_there : (private : ℕ → Text → Option Text) (n : ℕ) → p.site.private ≡ true → p.site.node ≡ n → (c : Option ℕ) → c ≡ node_class (places t) n
      → elim c as (λ _. Option Text) [ None ↦ None | Some d ↦ private d p.name ] ≡ private_new (places t) private p
  unfolding private_new class_of_place node
  private_there private n public at c e =
      ap (λ (d : Option ℕ). elim d as (λ _. Option Text) [ None ↦ None | Some k ↦ private k p.name ])
      (e ∙ ap (node_class (places t)) (sym at) ∙ class_of_node t p i ∙ ap (λ (b : Bool). cond b (declaring_class (places t) p.name p.site.setting.classes) None) public)

  symbol_at : (n : ℕ) → p.site.node ≡ n → symbol_of same_name (places t) p ≡ node_symbol same_name (places t) n
  unfolding node
  symbol_at n at = sym (symbol_of_node t p i) ∙ ap (node_symbol same_name (places t)) at

  pub symbol_there : (name : ℕ → Option Text) (n k : ℕ) (new old : Text) → p.site.node ≡ n → Some k ≡ node_symbol same_name (places t) n → IfSome (slice_get (symbols same_name (places t)) k) (λ b. new ≡ unwrap_or (name k) b.name) → p.name ≡ old
      → differing new old ≡ symbol_new (places t) name p
  unfolding symbol_new
  symbol_there name n k new old at e told same =
      let is : symbol_of same_name (places t) p ≡ Some k = symbol_at n at ∙ sym e in
      let s : Symbol t p k = symbol_told t p i k is in
      let named : new ≡ unwrap_or (name k) s.place.name = subst (λ (o : Option Place). IfSome o (λ b. new ≡ unwrap_or (name k) b.name)) s.at told in
      ap (λ (x : Text). differing x old) (named ∙ ap (unwrap_or (name k)) s.named)
      ∙ ap (differing (unwrap_or (name k) p.name)) (sym same)
      ∙ sym (ap (λ (o : Option ℕ). elim o as (λ _. Option Text) [ None ↦ None | Some j ↦ differing (unwrap_or (name j) p.name) p.name ]) is)

  pub none_there : (name : ℕ → Option Text) (n : ℕ) → p.site.node ≡ n → None ≡ node_symbol same_name (places t) n → None ≡ symbol_new (places t) name p
  unfolding symbol_new
  none_there name n at e = sym (ap (λ (o : Option ℕ). elim o as (λ _. Option Text) [ None ↦ None | Some j ↦ differing (unwrap_or (name j) p.name) p.name ]) (symbol_at n at ∙ sym e))
