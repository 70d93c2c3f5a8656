use Rattle.mangle_tool.proofs.Answers.{is_tree_answer}
use Rattle.mangle_tool.proofs.Mangles.{few_asked}
use Rattle.mangle_tool.specs.Asked.{layout_of}
use Rattle.mangle_tool.specs.Mangling.{options_for}
use Rattle.mangle_tool.proofs.estree.answer.answer_of.Goals as goal

pub returns-clause-answer : goal.returns-clause-answer
returns-clause-answer c =
    is_tree_answer (options_for c.args.options.now c.args.program) (layout_of c.args.layout) c.args.program _ _
    (few_asked c.args.options.now c.args.program c.requires.few) c.in_ok-mangled.ensures.mangled c.in_ok-text_in.ensures
