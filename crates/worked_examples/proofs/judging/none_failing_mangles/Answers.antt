use Rattle.worked_examples.proofs.judging.none_failing_mangles.Goals as goal

pub returns : goal.returns
returns c t o u f = record { renamed = record { alike = f.alike; plain = f.plain; marked = f.marked }; bound = f.bound; private = f.private; stay = f.stay; one = f.one; free = f.free; fewest = f.fewest }
