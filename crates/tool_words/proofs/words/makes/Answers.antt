use Rattle.std.proofs.Common.{ap, codes, bytes_eq, ◌∙◌, arith}
use Rattle.std.proofs.lemmas.Bool.Decides.{nat_tests}
use Rattle.tree_nodes.specs.Tree.{Text}
use Rattle.tool_words.proofs.Commands.{first_of_two, other_count}
use Rattle.tool_words.proofs.words.makes.Goals as goal

pub returns-then-words-eq2 : goal.returns-then-words-eq2
returns-then-words-eq2 c =
    first_of_two c.args.words.now c.index-words-0.result c.eq.result c.if-words-eq2.true c.index-words-0.is
    (c.eq.ensures ∙ ap (λ (w : Text). bytes_eq w (codes "--make")) c.as_str.ensures)

pub returns-else-words-eq2 : goal.returns-else-words-eq2
returns-else-words-eq2 c = grind (arith, nat_tests, other_count c.args.words.now, c.if-words-eq2.false)
