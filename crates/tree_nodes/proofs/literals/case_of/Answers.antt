use Rattle.std.proofs.Common.{true, false, ◌∙◌, refl}
use Rattle.tree_nodes.specs.Literals.{case_of}
use Rattle.tree_nodes.proofs.LiteralCases.{case_by_raw, case_by_value, case_RegExp, case_BigInt, no_case}
use Rattle.tree_nodes.proofs.literals.case_of.Goals as goal

pub returns-in-true-true-true : goal.returns-in-true-true-true
unfolding case_of
returns-in-true-true-true c =
    let a = c.in-true-true-true in
    c.by_raw_at.ensures ∙ case_by_raw _ _ _ _ a.ensures a.ensures' a.ensures''

pub returns-in-false-true-true : goal.returns-in-false-true-true
unfolding case_of
returns-in-false-true-true c =
    let a = c.in-false-true-true in
    c.by_value_at.ensures ∙ case_by_value _ _ _ _ a.ensures a.ensures' a.ensures''

pub returns-in-true-true-false : goal.returns-in-true-true-false
unfolding case_of
returns-in-true-true-false c = let a = c.in-true-true-false in case_BigInt _ _ _ _ a.ensures a.ensures' c.if-text_at.ensures

pub returns-in-true-false-true : goal.returns-in-true-false-true
unfolding case_of
returns-in-true-false-true c = let a = c.in-true-false-true in case_RegExp _ _ _ _ a.ensures a.ensures'' c.if-text_at-2.ensures

pub returns-in_default : goal.returns-in_default
unfolding case_of
returns-in_default c =
    let a = c.in-true-true-false in
    no_case _ _ _ _ true true false _ false a.ensures a.ensures' a.ensures'' refl c.if-text_at.ensures refl refl refl

pub returns-in_default-2 : goal.returns-in_default-2
unfolding case_of
returns-in_default-2 c =
    let a = c.in-true-false-true in
    no_case _ _ _ _ true false true false _ a.ensures a.ensures' a.ensures'' c.if-text_at-2.ensures refl refl refl refl

pub returns-in_default-3 : goal.returns-in_default-3
unfolding case_of
returns-in_default-3 c = let a = c.in_default in no_case _ _ _ _ _ _ _ _ _ a.ensures a.ensures' a.ensures'' refl refl refl refl refl

pub returns-in_default-4 : goal.returns-in_default-4
unfolding case_of
returns-in_default-4 c = let a = c.in_default in no_case _ _ _ _ _ _ _ _ _ a.ensures a.ensures' a.ensures'' refl refl refl refl refl

pub returns-in_default-5 : goal.returns-in_default-5
unfolding case_of
returns-in_default-5 c = let a = c.in_default in no_case _ _ _ _ _ _ _ _ _ a.ensures a.ensures' refl refl refl refl refl refl
