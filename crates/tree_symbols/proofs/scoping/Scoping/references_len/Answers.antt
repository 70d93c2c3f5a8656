use Rattle.std.specs.Prelude.{◌≤◌, ℕ}
use Rattle.std.proofs.Common.{subst, sym}
use Rattle.tree_symbols.specs.Scopings.{places_of}
use Rattle.tree_symbols.proofs.scoping.Scoping.references_len.Goals as goal

pub returns-clause-references : goal.returns-clause-references
returns-clause-references c = c.len.ensures (places_of c.args.self.now) c.requires.references_are

pub returns-clause-few : goal.returns-clause-few
returns-clause-few c = subst (λ (n : ℕ). n ≤ 4294967295) (sym (c.len.ensures (places_of c.args.self.now) c.requires.references_are)) c.requires.few_references
