use Rattle.std.proofs.Common.{ap, sym, ◌∙◌}
use Rattle.oxc_mangler.proofs.OptionsTold.{given_asked, usual_asked}
use Rattle.oxc_mangler.specs.Asked.{asked, reserved_by}
use Rattle.oxc_mangler.proofs.asked.options_or_usual.Goals as goal

pub returns-in-Some-clause-asked : goal.returns-in-Some-clause-asked
returns-in-Some-clause-asked c = λ t. given_asked _ t ∙ sym (ap (λ o. asked o t) c.in-Some.is)

pub returns-in-None-clause-asked : goal.returns-in-None-clause-asked
returns-in-None-clause-asked c = λ t.
    usual_asked c.new.result c.new.ensures.top_level c.new.ensures.function c.new.ensures.class c.new.ensures.reserved c.new.ensures.debug t
    ∙ sym (ap (λ o. asked o t) c.in-None.is)

pub returns-in-Some-clause-reserved : goal.returns-in-Some-clause-reserved
returns-in-Some-clause-reserved c = sym (ap reserved_by c.in-Some.is)

pub returns-in-None-clause-reserved : goal.returns-in-None-clause-reserved
returns-in-None-clause-reserved c = c.new.ensures.reserved ∙ sym (ap reserved_by c.in-None.is)
