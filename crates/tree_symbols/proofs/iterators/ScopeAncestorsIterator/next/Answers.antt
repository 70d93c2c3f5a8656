use Rattle.std.specs.Prelude.{◌≡◌, ◌∷◌, [], ℕ, None, Some, Option, false, length, get_or}
use Rattle.std.proofs.Common.{ap, arith, subst, sym, ◌∙◌}
use Rattle.place_list.specs.declared.setting.ScopeKind.TheVariants.{TopLevel}
use Rattle.place_list.specs.declared.tables.ScopeEntry.{ScopeEntry}
use Rattle.tree_symbols.specs.Around.{LeadOutwards, scopes_from}
use Rattle.tree_symbols.proofs.Outwards.{entry_leads, next_entry, none_outwards}
use Rattle.tree_symbols.proofs.iterators.ScopeAncestorsIterator.next.Goals as goal

-- what an index past the end would read
abbrev no_entry : ScopeEntry
no_entry = record { parent = None; var_scope = None; node = 0; kind = TopLevel; strict = false }

pub invariant_of-self : goal.invariant_of-self
invariant_of-self c =
    let lead : LeadOutwards c.self.inside.scopes.now (Some c.in-Some.scope) = subst (λ (o : Option ℕ). LeadOutwards c.self.inside.scopes.now o) c.in-Some.is c.self.invariant in
    entry_leads c.self.inside.scopes.now c.in-Some.scope no_entry lead

pub returns-in-Some-clause-steps : goal.returns-in-Some-clause-steps
returns-in-Some-clause-steps c =
    let es = c.self.inside.scopes.now in
    let lead : LeadOutwards c.self.inside.scopes.now (Some c.in-Some.scope) = subst (λ (o : Option ℕ). LeadOutwards c.self.inside.scopes.now o) c.in-Some.is c.self.invariant in
    sym c.self.view_is ∙ ap (scopes_from es) c.in-Some.is ∙ next_entry c.self.inside.scopes.now c.in-Some.scope no_entry lead
    ∙ ap (λ (n : ℕ). n ∷ scopes_from c.self.inside.scopes.now (get_or c.self.inside.scopes.now c.in-Some.scope no_entry).parent) (sym c.from_usize.ensures)

pub returns-in-Some-clause-goes : goal.returns-in-Some-clause-goes
returns-in-Some-clause-goes c =
    let es = c.self.inside.scopes.now in
    let lead : LeadOutwards c.self.inside.scopes.now (Some c.in-Some.scope) = subst (λ (o : Option ℕ). LeadOutwards c.self.inside.scopes.now o) c.in-Some.is c.self.invariant in
    let longer = ap length (sym c.self.view_is ∙ ap (scopes_from es) c.in-Some.is ∙ next_entry c.self.inside.scopes.now c.in-Some.scope no_entry lead) in
    record { on = λ f. (tt, tt, omega (arith, longer)); keeps = tt; rests = λ f. tt }

pub returns-in-None-clause-steps : goal.returns-in-None-clause-steps
returns-in-None-clause-steps c =
    let none : c.args.self.now ≡ [] = sym c.self.view_is ∙ ap (scopes_from c.self.inside.scopes.now) c.in-None.is ∙ none_outwards c.self.inside.scopes.now in
    (none, none)
