-- A program under the names that the mangler has set is mangled.
use Rattle.std.specs.Prelude.{◌≡◌, ℕ, Bool, true, false, cond, ◌||◌, List, [], ◌∷◌, map, get_or, Option, Some, None, option_map, IsTrue, IsFalse}
use Rattle.std.specs.List.{Contains}
use Rattle.std.specs.Option.{unwrap_or}
use Rattle.std.proofs.Common.{refl, sym, ap, ◌∙◌, subst}
use Rattle.std.proofs.lemmas.Bool.{or_parts, or_right}
use Rattle.list_laws.proofs.Mapped.{map_same}
use Rattle.list_laws.proofs.Members.{In, contains_from_in}
use Rattle.list_laws.proofs.Tests.{none_some, some_one, tested}
use Rattle.name_rules.proofs.Mangling as mangling
use Rattle.name_rules.specs.GivenNames.{names_of_slots}
use Rattle.name_rules.specs.Groups.{group_at}
use Rattle.name_rules.specs.Kept.{kept_alone}
use Rattle.name_rules.specs.Mangled.{IsMangled}
use Rattle.name_rules.specs.MangledLaws.{HasNewNames}
use Rattle.name_rules.specs.Options.{Options}
use Rattle.name_rules.specs.PrivateNumbers.{index_of, new_names, new_private_name, number_in, private_number}
use Rattle.name_rules.specs.ShortNames.{short}
use Rattle.name_rules.specs.SlotNames.{group_in, named_by_slot, slot_in}
use Rattle.name_rules.specs.Slots.{slot_of, slots_of}
use Rattle.program_laws.proofs.Programs.{programs_are_rooted}
use Rattle.scope_rules.specs.Bindings.{binding, bound, same_name}
use Rattle.scope_rules.specs.Evals.{is_open}
use Rattle.scope_rules.specs.Faults.{has_crossing, has_fault, has_reach, has_redeclaration, has_sloppy_function, has_undeclared}
use Rattle.scope_rules.specs.PrivateNames.{declaring_class, is_among, private_names}
use Rattle.scope_rules.specs.Symbols.{symbol_of}
use Rattle.symbol_names.proofs.SymbolsNamed.{new_by_place}
use Rattle.symbol_names.specs.Named.{AreNamed, called}
use Rattle.tree_apply.proofs.SymbolsOfPlaces.{Symbol, no_symbol, symbol_told}
use Rattle.tree_apply.specs.Applied.{applied}
use Rattle.tree_core.specs.Program.{IsProgram}
use Rattle.tree_nodes.specs.Tree.{Parts, Text, Tree, alone}
use Rattle.tree_places.proofs.Outwards.{inside_refl}
use Rattle.tree_places.specs.Places.{Place, names, places, withs}
use Rattle.tree_places.specs.Renaming.{IsRenamed}
use Rattle.tree_places.specs.Scopes.{is_inside}

-- ---- places of symbols

module _ (o : Options) (t : Parts) where
  slot_bound : (p q : Place) → binding same_name (places t) q ≡ binding same_name (places t) p → slot_in o t q ≡ slot_in o t p
  unfolding slot_in group_in
  slot_bound p q e = ap (λ (b : Option ℕ). slot_of (slots_of o t) (group_at (kept_alone o (withs t) (places t) (bound same_name (places t))) (places t) (bound same_name (places t)) b)) e

  no_slot : (p : Place) → binding same_name (places t) p ≡ None → slot_in o t p ≡ None
  unfolding slot_in group_in group_at slot_of
  no_slot p e = ap (λ (b : Option ℕ). slot_of (slots_of o t) (group_at (kept_alone o (withs t) (places t) (bound same_name (places t))) (places t) (bound same_name (places t)) b)) e

  abbrev by_slot : Option ℕ → Text → Text
  by_slot s x = elim s as (λ _. Text) [ None ↦ x | Some k ↦ get_or (names_of_slots o t) k [] ]

  -- places that are bound alike, and have one name, are called alike
  called_alike : (p q : Place) → q.name ≡ p.name → binding same_name (places t) q ≡ binding same_name (places t) p → called o t q ≡ called o t p
  unfolding named_by_slot
  called_alike p q n e = ap (λ (s : Option ℕ). by_slot s q.name) (slot_bound p q e) ∙ ap (by_slot (slot_in o t p)) n

  called_itself : (p : Place) → binding same_name (places t) p ≡ None → called o t p ≡ p.name
  unfolding named_by_slot
  called_itself p e = ap (λ (s : Option ℕ). by_slot s p.name) (no_slot p e)

  public_called : (name : ℕ → Option Text) → AreNamed o t name → (p : Place) → In p (places t) → (s : Option ℕ) → symbol_of same_name (places t) p ≡ s → elim s as (λ _. Text) [ None ↦ p.name | Some k ↦ unwrap_or (name k) p.name ] ≡ called o t p
  public_called name are p i None e = sym (called_itself p (no_symbol t p i e))
  public_called name are p i (Some k) e =
      let s : Symbol t p k = symbol_told t p i k e in
      ap (unwrap_or (name k)) (sym s.named) ∙ are.named k s.place s.at ∙ called_alike p s.place s.named s.bound

-- ---- private names

record Declared (ps : List Place) (x : Text) (cs : List ℕ) (c : ℕ) : Type 0 where
  outer : List ℕ
  inside : is_inside cs (c ∷ outer) ≡ true
  among : is_among (private_names ps c) x ≡ true
  number : private_number ps x cs ≡ private_number ps x (c ∷ outer)

declared_told : (ps : List Place) (x : Text) (cs : List ℕ) (c : ℕ) → declaring_class ps x cs ≡ Some c → Declared ps x cs c
unfolding declaring_class private_number is_inside
declared_told ps x [] c e = absurd (none_some c e)
declared_told ps x (d ∷ ds) c e = tested (is_among (private_names ps d) x)
    (λ t. let same : d ≡ c = some_one d c (sym (ap (λ (b : Bool). cond b (Some d) (declaring_class ps x ds)) t) ∙ e) in
    subst (Declared ps x (d ∷ ds)) same (record { outer = ds; inside = inside_refl (d ∷ ds); among = t; number = refl }))
    (λ t. let r : Declared ps x ds c = declared_told ps x ds c (sym (ap (λ (b : Bool). cond b (Some d) (declaring_class ps x ds)) t) ∙ e) in
    record {
      outer = r.outer;
      inside = or_right _ _ r.inside;
      among = r.among;
      number = ap (λ (b : Bool). cond b (cond (is_open ps d) None (Some (number_in ps ds (index_of x (private_names ps d))))) (private_number ps x ds)) t ∙ r.number;
    })

undeclared_told : (ps : List Place) (x : Text) (cs : List ℕ) → declaring_class ps x cs ≡ None → private_number ps x cs ≡ None
unfolding declaring_class private_number
undeclared_told ps x [] e = refl
undeclared_told ps x (d ∷ ds) e = tested (is_among (private_names ps d) x)
    (λ t. absurd (none_some d (sym e ∙ ap (λ (b : Bool). cond b (Some d) (declaring_class ps x ds)) t)))
    (λ t. ap (λ (b : Bool). cond b (cond (is_open ps d) None (Some (number_in ps ds (index_of x (private_names ps d))))) (private_number ps x ds)) t
    ∙ undeclared_told ps x ds (sym (ap (λ (b : Bool). cond b (Some d) (declaring_class ps x ds)) t) ∙ e))

name_or_short : (x : Text) (n : Option ℕ) → unwrap_or (option_map short n) x ≡ elim n as (λ _. Text) [ None ↦ x | Some k ↦ short k ]
name_or_short x None = refl
name_or_short x (Some k) = refl

module _ (ps : List Place) (classes : ℕ) (private : ℕ → Text → Option Text)
    (are : (p : Place) → Contains ps p → (c : ℕ) (outer : List ℕ) → IsTrue (is_inside p.site.setting.classes (c ∷ outer)) → (x : Text) → IsTrue (is_among (private_names ps c) x) → private c x ≡ option_map short (private_number ps x (c ∷ outer))) where
  private_called : (p : Place) → In p ps → (c : Option ℕ) → declaring_class ps p.name p.site.setting.classes ≡ c → elim c as (λ _. Text) [ None ↦ p.name | Some d ↦ unwrap_or (private d p.name) p.name ] ≡ new_private_name ps p
  unfolding new_private_name
  private_called p i None e = sym (ap (λ (n : Option ℕ). elim n as (λ _. Text) [ None ↦ p.name | Some k ↦ short k ]) (undeclared_told ps p.name p.site.setting.classes e))
  private_called p i (Some c) e =
      let d : Declared ps p.name p.site.setting.classes c = declared_told ps p.name p.site.setting.classes c e in
      ap (λ (x : Option Text). unwrap_or x p.name) (are p (contains_from_in ps p i) c d.outer d.inside p.name d.among ∙ ap (option_map short) (sym d.number))
      ∙ name_or_short p.name (private_number ps p.name p.site.setting.classes)

-- ---- all together

-- where there is no fault no private name is undeclared
all_declared : (ps : List Place) → has_fault same_name ps ≡ false → has_undeclared same_name ps ≡ false
unfolding has_fault
all_declared ps sound =
    (or_parts (has_redeclaration same_name ps || has_crossing same_name ps || has_sloppy_function ps) (has_undeclared same_name ps)
    (or_parts (has_redeclaration same_name ps || has_crossing same_name ps || has_sloppy_function ps || has_undeclared same_name ps) (has_reach (bound same_name ps)) sound).0).1

module _ (o : Options) (t : Parts) (name : ℕ → Option Text) (private : ℕ → Text → Option Text) (named : AreNamed o t name)
    (are : (p : Place) → Contains (places t) p → (c : ℕ) (outer : List ℕ) → IsTrue (is_inside p.site.setting.classes (c ∷ outer)) → (x : Text) → IsTrue (is_among (private_names (places t) c) x) → private c x ≡ option_map short (private_number (places t) x (c ∷ outer))) where
  each_new : (p : Place) → In p (places t) → applied (places t) name private p ≡ cond p.site.private (new_private_name (places t) p) (called o t p)
  unfolding applied
  each_new p i = go p.site.private
    where
      go : (b : Bool) → cond b (elim (declaring_class (places t) p.name p.site.setting.classes) as (λ _. Text) [ None ↦ p.name | Some c ↦ unwrap_or (private c p.name) p.name ])
          (elim (symbol_of same_name (places t) p) as (λ _. Text) [ None ↦ p.name | Some k ↦ unwrap_or (name k) p.name ])
          ≡ cond b (new_private_name (places t) p) (called o t p)
      go true = private_called (places t) 0 private are p i (declaring_class (places t) p.name p.site.setting.classes) refl
      go false = public_called o t name named p i (symbol_of same_name (places t) p) refl

  all_new : map (applied (places t) name private) (places t) ≡ new_names o t
  all_new = map_same (applied (places t) name private) (λ (p : Place). cond p.site.private (new_private_name (places t) p) (called o t p)) (places t) each_new ∙ sym (new_by_place o t)

pub applied_mangles : (o : Options) (t u : Tree) (name : ℕ → Option Text) (private : ℕ → Text → Option Text) → IsProgram t → IsFalse (has_fault same_name (places (alone t))) → IsRenamed (alone t) (alone u)
    → names (alone u) ≡ map (applied (places (alone t)) name private) (places (alone t)) → AreNamed o (alone t) name
    → ((p : Place) → Contains (places (alone t)) p → (c : ℕ) (outer : List ℕ) → IsTrue (is_inside p.site.setting.classes (c ∷ outer)) → (x : Text) → IsTrue (is_among (private_names (places (alone t)) c) x) → private c x ≡ option_map short (private_number (places (alone t)) x (c ∷ outer)))
    → IsMangled (alone t) o (alone u)
applied_mangles o t u name private program sound renamed put named are =
    let has : HasNewNames o (alone t) (alone u) = record { rooted = programs_are_rooted t program; renamed = renamed; names = put ∙ all_new o (alone t) name private named are } in
    mangling.is_mangled o (alone t) (alone u) has (all_declared (places (alone t)) sound)
