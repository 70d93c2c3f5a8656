use Rattle.std.proofs.Common.{rules, ◌≡◌, ◌∷◌, [], ◌++◌, suc, length, length-append, refl, arith}
use Rattle.std.proofs.lemmas.Iterator.Consumers.{YieldsList-turn, YieldsList-end}
use Rattle.std.proofs.lemmas.Result.{on_ok_weaker, on_err_weaker}
use Rattle.oxc_estree.proofs.Refusals.{at_err, refused_after, refused_at_once, refused_within, all_printed, Appends-trans}
use Rattle.oxc_estree.proofs.CodePointTexts.{gives_road, points_at, points_begin, points_end, points_next}
use Rattle.oxc_estree.proofs.code_points.print_code_points.Goals as goal

pub loop-code_point-init : goal.loop-code_point-init
loop-code_point-init g c =
    let gives = g.met.I.CodePoints.gives_these c.args.code_points in
    let same = c.into_iter-code_point-iterator.ensures.into_iter_gives in
    record {
      can_next = rw same gives.can_next;
      finite = rw same gives.ends;
      written = ([], c.in_ok-print_ascii_byte.ensures.ok, points_begin (g.I.CodePoints.code_points c.args.code_points));
    }

pub loop-code_point-preserved : goal.loop-code_point-preserved
loop-code_point-preserved g c =
    let road = gives_road (g.met.I.CodePoints.gives_these c.args.code_points) c.into_iter-code_point-iterator.ensures.into_iter_gives in
    let turn = YieldsList-turn road c.loop-code_point.yielded c.loop-code_point.code_point-iterator c.loop-code_point.yielded_by _ c.next.new.self c.in-Some.code_point c.in-Some.is c.next.ensures.steps in
    let w = c.loop-code_point.invariant.written in
    let count : length (c.loop-code_point.yielded ++ c.in-Some.code_point ∷ []) ≡ suc (length c.loop-code_point.yielded) = omega (arith, length-append c.loop-code_point.yielded (c.in-Some.code_point ∷ [])) in
    record {
      can_next = search rules;
      finite = search rules;
      written = rw (count, c.in_ok-lead.ensures.next) (_, Appends-trans w.1 c.in_ok-lead.ensures.ok, points_next w.2 turn.0 turn.1);
    }

pub returns-in_err-lead-clause-refused : goal.returns-in_err-lead-clause-refused
returns-in_err-lead-clause-refused g c =
    let road = gives_road (g.met.I.CodePoints.gives_these c.args.code_points) c.into_iter-code_point-iterator.ensures.into_iter_gives in
    let turn = YieldsList-turn road c.loop-code_point.yielded c.loop-code_point.code_point-iterator c.loop-code_point.yielded_by _ c.next.new.self c.in-Some.code_point c.in-Some.is c.next.ensures.steps in
    let w = c.loop-code_point.invariant.written in
    at_err _ (refused_within _ _ (points_at w.2 turn.0 turn.1) w.1 c.in_err-lead.ensures.refused)

pub returns-in_err-print_lead-clause-refused : goal.returns-in_err-print_lead-clause-refused
returns-in_err-print_lead-clause-refused g c =
    let road = gives_road (g.met.I.CodePoints.gives_these c.args.code_points) c.into_iter-code_point-iterator.ensures.into_iter_gives in
    let end = YieldsList-end road c.loop-code_point.yielded c.loop-code_point.code_point-iterator c.loop-code_point.yielded_by _ c.next.new.self c.in-None.is c.next.ensures.steps in
    let w = c.loop-code_point.invariant.written in
    at_err _ (refused_within _ (34 ∷ []) (points_end w.2 end.1) w.1 c.in_err-print_lead.ensures.refused)

pub returns-clause-ok : goal.returns-clause-ok
returns-clause-ok g c =
    let road = gives_road (g.met.I.CodePoints.gives_these c.args.code_points) c.into_iter-code_point-iterator.ensures.into_iter_gives in
    let end = YieldsList-end road c.loop-code_point.yielded c.loop-code_point.code_point-iterator c.loop-code_point.yielded_by _ c.next.new.self c.in-None.is c.next.ensures.steps in
    let w = c.loop-code_point.invariant.written in
    on_ok_weaker c.print_ascii_byte-2.result
    (λ a. all_printed _ (points_end w.2 end.1) w.1 (Appends-trans c.in_ok-print_lead.ensures.ok a))
    c.print_ascii_byte-2.ensures.ok

pub returns-clause-refused : goal.returns-clause-refused
returns-clause-refused g c =
    let road = gives_road (g.met.I.CodePoints.gives_these c.args.code_points) c.into_iter-code_point-iterator.ensures.into_iter_gives in
    let end = YieldsList-end road c.loop-code_point.yielded c.loop-code_point.code_point-iterator c.loop-code_point.yielded_by _ c.next.new.self c.in-None.is c.next.ensures.steps in
    let w = c.loop-code_point.invariant.written in
    on_err_weaker c.print_ascii_byte-2.result
    (λ u. refused_after _ (points_end w.2 end.1) w.1 (refused_after _ refl c.in_ok-print_lead.ensures.ok (refused_at_once (34 ∷ []) u)))
    c.print_ascii_byte-2.ensures.err
