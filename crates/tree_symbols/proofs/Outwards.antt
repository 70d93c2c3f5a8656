-- Scopes outwards and listings onwards, one step at a time; and what is read of a scope.
use Rattle.std.specs.Prelude.{◌≡◌, ◌+◌, ◌<◌, ◌≤◌, ◌-◌, ℕ, suc, Bool, true, false, List, [], ◌∷◌, length, map, get_or, slice_get, Option, Some, None, IfSome, IsTrue, ◌↔◌}
use Rattle.std.specs.List.{range_with_len}
use Rattle.std.proofs.Common.{refl, sym, ap, ◌∙◌, arith}
use Rattle.std.proofs.lemmas.List.{get_or_default, length-map}
use Rattle.list_laws.proofs.Tests.{some_one}
use Rattle.number_tables.specs.GroupsOf.{group_at, group_count}
use Rattle.number_tables.specs.declared.groups.Groups.{Groups}
use Rattle.place_list.proofs.OutwardWalks.{line_form, line_outwards, lower, outer_below}
use Rattle.place_list.proofs.PlacesStand.{mapped_at, read_at}
use Rattle.place_list.specs.Bounds.{IsBelow}
use Rattle.place_list.specs.TableViews.{scope_at, scope_parents, scopes_in}
use Rattle.place_list.specs.Tables.{list_at, or_none_listed}
use Rattle.place_list.specs.declared.tables.PlaceList.{PlaceList}
use Rattle.place_list.specs.declared.tables.ScopeEntry.{ScopeEntry}
use Rattle.syntax_sem.specs.SymbolId.{number_of}
use Rattle.syntax_sem.specs.declared.symbol.symbol_id.SymbolId.{SymbolId}
use Rattle.tree_places.specs.Scopes.{Scope}
use Rattle.tree_symbols.specs.Around.{LeadOutwards, listed_from, parents_of, scopes_from}
use Rattle.tree_symbols.specs.Scopings.{parent_of}

module _ (es : List ScopeEntry) (n : ℕ) (e : ScopeEntry) (lead : LeadOutwards es (Some n)) (read : e ≡ get_or es n e) where
  parent_read : slice_get (parents_of es) n ≡ Some e.parent
  parent_read = mapped_at (λ (x : ScopeEntry). x.parent) es n e (read_at es n e lead.at read)

  pub next_outwards : scopes_from es (Some n) ≡ n ∷ scopes_from es e.parent
  unfolding scopes_from
  next_outwards = line_outwards (parents_of es) lead.comes_before n e.parent parent_read

  pub leads_on : LeadOutwards es e.parent
  leads_on = record { comes_before = lead.comes_before; few = lead.few; at = lower (length es) n e.parent lead.at (outer_below (parents_of es) lead.comes_before n e.parent parent_read) }

-- the same, read with any default
module _ (es : List ScopeEntry) (n : ℕ) (d : ScopeEntry) (lead : LeadOutwards es (Some n)) where
  pub next_entry : scopes_from es (Some n) ≡ n ∷ scopes_from es (get_or es n d).parent
  next_entry = next_outwards es n (get_or es n d) lead (get_or_default es n d (get_or es n d) lead.at)

  pub entry_leads : LeadOutwards es (get_or es n d).parent
  entry_leads = leads_on es n (get_or es n d) lead (get_or_default es n d (get_or es n d) lead.at)

pub none_outwards : (es : List ScopeEntry) → scopes_from es None ≡ []
unfolding scopes_from list_at
none_outwards es = refl

module _ (g : Groups SymbolId) (s : ℕ) where
  pub next_listed : s < group_count g → listed_from g s ≡ (s, map number_of (group_at g s)) ∷ listed_from g (s + 1)
  unfolding listed_from
  next_listed h =
      let one : group_count g - s ≡ suc (group_count g - (s + 1)) = omega (arith, h) in
      ap (λ n. map (λ m. (m, map number_of (group_at g m))) (range_with_len s n)) one

  pub none_listed : group_count g ≤ s → listed_from g s ≡ []
  unfolding listed_from
  none_listed h =
      let none : group_count g - s ≡ 0 = omega (arith, h) in
      ap (λ n. map (λ m. (m, map number_of (group_at g m))) (range_with_len s n)) none

-- ---- a scope of a list, by its number

told_at : (o : Option Scope) (P : Scope → Type 0) → P (or_none_listed o) → IfSome o P
unfolding or_none_listed
told_at None P p = tt
told_at (Some s) P p = p

module _ (l : PlaceList) (k : ℕ) where
  pub of_scope : (P : Scope → Type 0) → P (scope_at l (Some k)) → IfSome (slice_get (scopes_in l) k) P
  unfolding list_at
  of_scope P p = told_at (slice_get (scopes_in l) k) P p

  -- the scope around it
  pub parent_told : (p : Option ℕ) → IsBelow (length l.scopes.items) p → scope_at l (Some k) ≡ k ∷ scope_at l p → IfSome (slice_get (scopes_in l) k) (λ s. p ≡ parent_of s)
  unfolding parent_of list_at
  parent_told p below line = of_scope (λ s. p ≡ parent_of s) (go p below ∙ ap (λ (s : Scope). parent_of s) (sym line))
    where
      go : (o : Option ℕ) → IsBelow (length l.scopes.items) o → o ≡ parent_of (k ∷ scope_at l o)
      go None h = refl
      go (Some n) h =
          let f = line_form (scope_parents l) n (let many : length (scope_parents l) ≡ length l.scopes.items = length-map l.scopes.items (λ (e : ScopeEntry). e.parent) in omega (arith, many, h)) in
          ap (λ (s : Scope). parent_of (k ∷ s)) (sym f.1)

-- what a bit says
pub bit_is : (bs : List Bool) (i : ℕ) (b x : Bool) → IsTrue b ↔ (slice_get bs i ≡ Some true) → slice_get bs i ≡ Some x → b ≡ x
bit_is bs i true x told there = some_one true x (sym (told.0 refl) ∙ there)
bit_is bs i false true told there = told.1 there
bit_is bs i false false told there = refl
