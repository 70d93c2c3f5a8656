-- What the places of a binding say of the names of functions and classes.
use Rattle.std.specs.Prelude.{◌≡◌, ℕ, Bool, true, false, not, ◌&&◌, List, [], ◌∷◌, Option, Some, None, find, option_map}
use Rattle.std.specs.BTreeMap.{BTreeMap}
use Rattle.std.specs.Option.{unwrap_or}
use Rattle.std.proofs.Common.{refl, sym, ap, ◌∙◌}
use Rattle.kept_names.specs.Keeping.{keeping}
use Rattle.kept_names.specs.Marks.{HasFirstValues, assigns, gets_value_at, may_get_value}
use Rattle.kept_names.specs.NamesKept.{first_value}
use Rattle.kept_names.specs.declared.values.InDeclarator.{InDeclarator}
use Rattle.list_laws.proofs.FirstOf.{find_nothing}
use Rattle.mangle_options.specs.Settings.{options_in}
use Rattle.mangle_options.specs.declared.options.MangleOptions.{MangleOptions}
use Rattle.name_rules.specs.Kept.{gets_value, has_value, is_assigned, is_declared_with, is_place_of, name_kept, role_kept, same_pattern, value_kept}
use Rattle.name_rules.specs.Options.{Options}
use Rattle.place_list.specs.Tables.{listed}
use Rattle.scope_rules.specs.Bindings.{Bound, is_node, node}
use Rattle.scope_rules.specs.Homes.{declares}
use Rattle.std.specs.List.{list_any}
use Rattle.tree_nodes.specs.Tree.{Text}

pub and_true : (b : Bool) → (b && true) ≡ b
and_true true = refl
and_true false = refl

pub and_false : (b : Bool) → (b && false) ≡ false
and_false true = refl
and_false false = refl

-- ---- a place that gets a value

same_declarator : (m : Option ℕ) (d : ℕ) → same_pattern (listed m) (d ∷ []) ≡ is_node m d
unfolding same_pattern listed is_node
same_declarator None d = refl
same_declarator (Some n) d = refl

all_pass : (a b c v r : Bool) → (a && v && r) ≡ true → (c && b) ≡ (a && b && c && v && r)
all_pass true true true true true e = refl
all_pass true true false true true e = refl
all_pass true false true true true e = refl
all_pass true false false true true e = refl
all_pass false b c v r e = absurd (cc)
all_pass true b c false r e = absurd (cc)
all_pass true b c true false e = absurd (cc)

one_fails : (a b c v r : Bool) → (a && v && r) ≡ false → false ≡ (a && b && c && v && r)
one_fails false b c v r e = refl
one_fails true true true true true e = absurd (cc)
one_fails true true true true false e = refl
one_fails true true true false r e = refl
one_fails true true false v r e = refl
one_fails true false c v r e = refl

module _ (q : Bound Text) (d n : ℕ) where
  pub value_place : (m : Option ℕ) → q.place.site.setting.pattern ≡ listed m → may_get_value q ≡ true → (is_node m d && is_node q.binding n) ≡ gets_value_at d n q
  unfolding gets_value_at may_get_value
  value_place m is e =
      ap (λ (b : Bool). b && is_node q.binding n) (sym (ap (λ (ns : List ℕ). same_pattern ns (d ∷ [])) is ∙ same_declarator m d))
      ∙ all_pass (declares q.place.site) (is_node q.binding n) (same_pattern q.place.site.setting.pattern (d ∷ [])) (has_value q.place.site.setting.value) (not q.place.site.setting.in_rest) e

  pub no_value_place : may_get_value q ≡ false → false ≡ gets_value_at d n q
  unfolding gets_value_at may_get_value
  no_value_place e = one_fails (declares q.place.site) (is_node q.binding n) (same_pattern q.place.site.setting.pattern (d ∷ [])) (has_value q.place.site.setting.value) (not q.place.site.setting.in_rest) e

-- ---- the first value decides

decided : {Y : Type 0} (value : Y → Bool) (o : Option Y) → unwrap_or (option_map value o) false ≡ elim o as (λ _. Bool) [ None ↦ false | Some q ↦ value q ]
decided value None = refl
decided value (Some q) = refl

module _ (o : Options) (bs : List (Bound Text)) (b : Bound Text) where
  pub first_value_decides : (m : BTreeMap InDeclarator Bool) (d : ℕ) → HasFirstValues o bs m → b.place.site.setting.pattern ≡ d ∷ [] → first_value m d (node b.place) ≡ is_declared_with o bs b
  unfolding is_declared_with gets_value gets_value_at is_place_of
  first_value_decides m d has is =
      ap (λ (v : Option Bool). unwrap_or v false) (has d (node b.place))
      ∙ decided (λ (q : Bound Text). value_kept o q.place.site.setting.value) (find (gets_value_at d (node b.place)) bs)
      ∙ ap (λ (ns : List ℕ). elim (find (λ (q : Bound Text). declares q.place.site && is_node q.binding (node b.place) && same_pattern q.place.site.setting.pattern ns && has_value q.place.site.setting.value && not q.place.site.setting.in_rest) bs) as (λ _. Bool) [ None ↦ false | Some q ↦ value_kept o q.place.site.setting.value ])
      (sym is)

  never : (a c v r : Bool) → (a && c && false && v && r) ≡ false
  never true true v r = refl
  never true false v r = refl
  never false c v r = refl

  none_same : (ns : List ℕ) → same_pattern ns [] ≡ false
  unfolding same_pattern
  none_same [] = refl
  none_same (n ∷ ns) = refl

  gets_none : b.place.site.setting.pattern ≡ [] → (q : Bound Text) → gets_value b q ≡ false
  unfolding gets_value
  gets_none is q =
      ap (λ (t : Bool). declares q.place.site && is_place_of b q && t && has_value q.place.site.setting.value && not q.place.site.setting.in_rest)
      (ap (same_pattern q.place.site.setting.pattern) is ∙ none_same q.place.site.setting.pattern)
      ∙ never (declares q.place.site) (is_place_of b q) (has_value q.place.site.setting.value) (not q.place.site.setting.in_rest)

  pub no_declarator : b.place.site.setting.pattern ≡ [] → false ≡ is_declared_with o bs b
  unfolding is_declared_with
  no_declarator is = sym (ap (λ (r : Option (Bound Text)). elim r as (λ _. Bool) [ None ↦ false | Some q ↦ value_kept o q.place.site.setting.value ]) (find_nothing (gets_value b) bs (λ q i. gets_none is q)))

  pub assigned_is : list_any (assigns o (node b.place)) bs ≡ is_assigned o bs b
  unfolding assigns is_assigned is_place_of
  assigned_is = refl

-- ---- no other setting bears on names that are kept so

pub kept_by_settings : (m : MangleOptions) (renames_root : Bool) (bs : List (Bound Text)) (b : Bound Text) → name_kept (keeping m.keep_names) bs b ≡ name_kept (options_in m renames_root) bs b
unfolding name_kept role_kept is_declared_with is_assigned value_kept keeping options_in
kept_by_settings m r bs b = refl
