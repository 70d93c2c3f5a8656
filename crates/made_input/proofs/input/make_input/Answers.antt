use Rattle.made_input.proofs.Pushed.{text_pushed}
use Rattle.made_input.proofs.input.make_input.Goals as goal

pub returns : goal.returns
returns c =
    text_pushed c.args.n _ _ _ _ c.requires.most c.new-text.ensures.bytes c.in_ok-push_str.ensures.bytes c.in_ok-push_functions.ensures c.in_ok-push_str-2.ensures.bytes
