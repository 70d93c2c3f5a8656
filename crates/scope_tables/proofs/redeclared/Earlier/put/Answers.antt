use Rattle.scope_tables.proofs.redeclared.Earlier.put.Goals as goal

pub returns : goal.returns
returns c = λ all some stand among e. record { plain = c.in_ok-put_place.ensures all some stand among e.plain; singles = c.in_ok-put_place-2.ensures all some stand among e.singles }
