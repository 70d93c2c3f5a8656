use Rattle.std.proofs.Common.{◌≡◌, ◌∙◌, ℕ, List, Bool, true, false, true≢false, Bor, IsUtf8, map, ap, ap₂, subst, sym}
use Rattle.std.specs.List.{AllByRecursion}
use Rattle.name_map.proofs.MadeMaps.{given_back}
use Rattle.name_map.proofs.Restored.{applied, fits, misplaced}
use Rattle.name_map.specs.Filled.{apply_map, filled_tree, given}
use Rattle.name_map.specs.Fits.{Fits, marks_fit, names_fit, plain_places}
use Rattle.name_map.specs.Undoing.{OldName, put_marks, put_names}
use Rattle.tree_core.specs.Program.{IsProgram}
use Rattle.tree_nodes.specs.Standing.{is_placed}
use Rattle.tree_nodes.specs.Tree.{Tree, alone}
use Rattle.tree_places.specs.Places.{names}
use Rattle.tree_places.specs.Renaming.{marks}
use Rattle.name_map.proofs.restoring.restore.Goals as goal

abbrev texts : List (Bor (List ℕ)) → List (List ℕ)
texts xs = map (λ x. x.now) xs

abbrev names_of : Tree → List (List ℕ)
names_of t = names (alone t)

abbrev marks_of : Tree → List Bool
marks_of t = marks (alone t)

pub returns-then-not-names_fit-clause-bad_map : goal.returns-then-not-names_fit-clause-bad_map
returns-then-not-names_fit-clause-bad_map c = λ e f.
    let plain : c.as_slice.result.now ≡ plain_places c.args.program.now = c.as_slice.ensures.value ∙ c.in_ok-spots.ensures.plain ∙ ap plain_places c.root-root.ensures.root in
    true≢false (sym f.names ∙ ap₂ (λ ps os. names_fit ps 0 os) (sym plain) (sym c.names.ensures) ∙ sym c.names_fit.ensures.fit ∙ c.if-not-names_fit.true)

pub returns-then-not-marks_fit-clause-bad_map : goal.returns-then-not-marks_fit-clause-bad_map
returns-then-not-marks_fit-clause-bad_map c = λ e f.
    let own : c.as_slice-2.result.now ≡ marks_of c.args.program.now = c.as_slice-2.ensures.value ∙ c.in_ok-marks.ensures ∙ ap marks_of c.root-root.ensures.root in
    true≢false (sym f.marks ∙ ap₂ (λ bs is. marks_fit bs 0 is) (sym own) (sym c.marks.ensures) ∙ sym c.marks_fit.ensures ∙ c.if-not-marks_fit.true)

pub returns-then-not-is_placed-clause-bad_map : goal.returns-then-not-is_placed-clause-bad_map
returns-then-not-is_placed-clause-bad_map c = λ e f.
    let u = c.args.program.now in
    let root = c.root-root.ensures.root in
    let xs : texts c.as_slice-3.result.now ≡ put_names c.args.map.now.names (names_of u) =
    ap texts c.as_slice-3.ensures.value ∙ c.put_names-names.ensures ∙ ap₂ put_names c.names-2.ensures (c.in_ok-spots.ensures.names ∙ ap names_of root) in
    let bs : c.as_slice-4.result.now ≡ put_marks c.args.map.now.marks (marks_of u) =
    c.as_slice-4.ensures.value ∙ c.put_marks-marks.ensures ∙ ap₂ put_marks c.marks-2.ensures (c.in_ok-marks.ensures ∙ ap marks_of root) in
    let made : c.in_ok-restored.restored ≡ apply_map u c.args.map.now =
    applied u c.in_ok-restored.restored c.args.map.now (texts c.as_slice-3.result.now) c.as_slice-4.result.now
    (c.in_ok-restored.ensures ∙ ap (filled_tree (given (texts c.as_slice-3.result.now) c.as_slice-4.result.now)) root) xs bs in
    true≢false (sym (misplaced u c.args.map.now f) ∙ ap is_placed (sym made) ∙ sym c.is_placed.ensures ∙ c.if-not-is_placed.true)

pub from_root-requires : goal.from_root-requires
from_root-requires c =
    let u = c.args.program.now in
    let m = c.args.map.now in
    let root = c.root-root.ensures.root in
    let xs : texts c.as_slice-3.result.now ≡ put_names m.names (names_of u) =
    ap texts c.as_slice-3.ensures.value ∙ c.put_names-names.ensures ∙ ap₂ put_names c.names-2.ensures (c.in_ok-spots.ensures.names ∙ ap names_of root) in
    let bs : c.as_slice-4.result.now ≡ put_marks m.marks (marks_of u) =
    c.as_slice-4.ensures.value ∙ c.put_marks-marks.ensures ∙ ap₂ put_marks c.marks-2.ensures (c.in_ok-marks.ensures ∙ ap marks_of root) in
    let made : c.in_ok-restored.restored ≡ apply_map u m =
    applied u c.in_ok-restored.restored m (texts c.as_slice-3.result.now) c.as_slice-4.result.now
    (c.in_ok-restored.ensures ∙ ap (filled_tree (given (texts c.as_slice-3.result.now) c.as_slice-4.result.now)) root) xs bs in
    let plain : c.as_slice.result.now ≡ plain_places u = c.as_slice.ensures.value ∙ c.in_ok-spots.ensures.plain ∙ ap plain_places root in
    let own : c.as_slice-2.result.now ≡ marks_of u = c.as_slice-2.ensures.value ∙ c.in_ok-marks.ensures ∙ ap marks_of root in
    let fit : Fits u m = fits u m c.root-root.ensures.program
    (ap₂ (λ ps os. names_fit ps 0 os) (sym plain) (sym c.names.ensures) ∙ sym c.names_fit.ensures.fit ∙ c.if-not-names_fit.false)
    (subst (AllByRecursion (λ (o : OldName). IsUtf8 o.name)) c.names.ensures c.names_fit.ensures.texts)
    (ap₂ (λ cs is. marks_fit cs 0 is) (sym own) (sym c.marks.ensures) ∙ sym c.marks_fit.ensures ∙ c.if-not-marks_fit.false)
    (ap is_placed (sym made) ∙ sym c.is_placed.ensures ∙ c.if-not-is_placed.false) in
    subst IsProgram (sym made) fit.program

pub returns-clause-fits : goal.returns-clause-fits
returns-clause-fits c =
    let u = c.args.program.now in
    let m = c.args.map.now in
    let root = c.root-root.ensures.root in
    let xs : texts c.as_slice-3.result.now ≡ put_names m.names (names_of u) =
    ap texts c.as_slice-3.ensures.value ∙ c.put_names-names.ensures ∙ ap₂ put_names c.names-2.ensures (c.in_ok-spots.ensures.names ∙ ap names_of root) in
    let bs : c.as_slice-4.result.now ≡ put_marks m.marks (marks_of u) =
    c.as_slice-4.ensures.value ∙ c.put_marks-marks.ensures ∙ ap₂ put_marks c.marks-2.ensures (c.in_ok-marks.ensures ∙ ap marks_of root) in
    let made : c.in_ok-restored.restored ≡ apply_map u m =
    applied u c.in_ok-restored.restored m (texts c.as_slice-3.result.now) c.as_slice-4.result.now
    (c.in_ok-restored.ensures ∙ ap (filled_tree (given (texts c.as_slice-3.result.now) c.as_slice-4.result.now)) root) xs bs in
    let plain : c.as_slice.result.now ≡ plain_places u = c.as_slice.ensures.value ∙ c.in_ok-spots.ensures.plain ∙ ap plain_places root in
    let own : c.as_slice-2.result.now ≡ marks_of u = c.as_slice-2.ensures.value ∙ c.in_ok-marks.ensures ∙ ap marks_of root in
    fits u m c.root-root.ensures.program
    (ap₂ (λ ps os. names_fit ps 0 os) (sym plain) (sym c.names.ensures) ∙ sym c.names_fit.ensures.fit ∙ c.if-not-names_fit.false)
    (subst (AllByRecursion (λ (o : OldName). IsUtf8 o.name)) c.names.ensures c.names_fit.ensures.texts)
    (ap₂ (λ cs is. marks_fit cs 0 is) (sym own) (sym c.marks.ensures) ∙ sym c.marks_fit.ensures ∙ c.if-not-marks_fit.false)
    (ap is_placed (sym made) ∙ sym c.is_placed.ensures ∙ c.if-not-is_placed.false)

pub returns-clause-restored : goal.returns-clause-restored
returns-clause-restored c =
    let u = c.args.program.now in
    let m = c.args.map.now in
    let root = c.root-root.ensures.root in
    let xs : texts c.as_slice-3.result.now ≡ put_names m.names (names_of u) =
    ap texts c.as_slice-3.ensures.value ∙ c.put_names-names.ensures ∙ ap₂ put_names c.names-2.ensures (c.in_ok-spots.ensures.names ∙ ap names_of root) in
    let bs : c.as_slice-4.result.now ≡ put_marks m.marks (marks_of u) =
    c.as_slice-4.ensures.value ∙ c.put_marks-marks.ensures ∙ ap₂ put_marks c.marks-2.ensures (c.in_ok-marks.ensures ∙ ap marks_of root) in
    c.from_root.ensures
    ∙ applied u c.in_ok-restored.restored m (texts c.as_slice-3.result.now) c.as_slice-4.result.now
    (c.in_ok-restored.ensures ∙ ap (filled_tree (given (texts c.as_slice-3.result.now) c.as_slice-4.result.now)) root) xs bs

pub returns-clause-given_back : goal.returns-clause-given_back
returns-clause-given_back c =
    let u = c.args.program.now in
    let m = c.args.map.now in
    let root = c.root-root.ensures.root in
    let xs : texts c.as_slice-3.result.now ≡ put_names m.names (names_of u) =
    ap texts c.as_slice-3.ensures.value ∙ c.put_names-names.ensures ∙ ap₂ put_names c.names-2.ensures (c.in_ok-spots.ensures.names ∙ ap names_of root) in
    let bs : c.as_slice-4.result.now ≡ put_marks m.marks (marks_of u) =
    c.as_slice-4.ensures.value ∙ c.put_marks-marks.ensures ∙ ap₂ put_marks c.marks-2.ensures (c.in_ok-marks.ensures ∙ ap marks_of root) in
    given_back u c.from_root.result m
    (c.from_root.ensures
    ∙ applied u c.in_ok-restored.restored m (texts c.as_slice-3.result.now) c.as_slice-4.result.now
    (c.in_ok-restored.ensures ∙ ap (filled_tree (given (texts c.as_slice-3.result.now) c.as_slice-4.result.now)) root) xs bs)
