use Rattle.std.proofs.Common.{refl, nat_eq, Bor, Option, None, Some, ◌≡◌, ℕ, false, List, ◌∷◌, drop}
use Rattle.std.proofs.lemmas.Bool.{eqb-true, false_from_ne_true}
use Rattle.std.specs.Option.{MatchOption, unwrap_or}
use Rattle.std.specs.Str.{chars}
use Rattle.syntax_lex.specs.LineTerminator.{begins_with_line_feed, parts_of}
use Rattle.syntax_lex.proofs.Lines.{parts_past_line_feed, parts_past_terminator}
use Rattle.syntax_lex.proofs.line_terminator.past_terminator.Goals as goal

behind : (rest : Bor (List ℕ)) (found : Option (Bor (List ℕ)))
    → MatchOption found (begins_with_line_feed (chars rest.now) ≡ false) (λ line. chars rest.now ≡ 10 ∷ chars line.now)
    → parts_of (chars (unwrap_or found rest).now) ≡ drop 1 (parts_of (13 ∷ chars rest.now))
behind rest None alone = parts_past_terminator 13 (chars rest.now) refl alone
behind rest (Some line) parts = rw parts (parts_past_line_feed (chars line.now))

pub returns-then-c-eq-CR : goal.returns-then-c-eq-CR
returns-then-c-eq-CR c =
    rw (c.unwrap_or.ensures, c.if-c-eq-CR.true) (behind c.args.rest c.past_line_feed.result c.past_line_feed.ensures)

pub returns-else-c-eq-CR : goal.returns-else-c-eq-CR
returns-else-c-eq-CR c =
    parts_past_terminator c.args.c (chars c.args.rest.now) c.requires (rw (false_from_ne_true (nat_eq c.args.c 13) (λ e. c.if-c-eq-CR.false (eqb-true c.args.c 13 e))) refl)
