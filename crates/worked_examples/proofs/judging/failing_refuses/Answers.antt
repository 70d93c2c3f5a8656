use Rattle.name_rules.specs.Mangled.{IsMangled}
use Rattle.name_rules.specs.Options.{Options}
use Rattle.std.specs.Prelude.{List, ◌∷◌}
use Rattle.tree_nodes.specs.Tree.{Parts}
use Rattle.worked_examples.proofs.judging.failing_refuses.Goals as goal
use Rattle.worked_examples.specs.Judged.{Alike, Bound, Clause, FailsBy, Fewest, Free, Marked, One, Plain, Private, Stay}

refuses : (c : Clause) (cs : List Clause) (t : Parts) (o : Options) (u : Parts) → FailsBy (c ∷ cs) t o u → ¬ IsMangled t o u
refuses Alike cs t o u f m = f.alike m.renamed.alike
refuses Plain cs t o u f m = f.plain m.renamed.plain
refuses Marked cs t o u f m = f.marked m.renamed.marked
refuses Bound cs t o u f m = f.bound m.bound
refuses Private cs t o u f m = f.private m.private
refuses Stay cs t o u f m = f.stay m.stay
refuses One cs t o u f m = f.one m.one
refuses Free cs t o u f m = f.free m.free
refuses Fewest cs t o u f m = f.fewest m.fewest

pub returns : goal.returns
returns c = refuses
