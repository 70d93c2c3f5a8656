use Rattle.std.proofs.Common.{◌≡◌, ◌∙◌, ◌↔◌, ℕ, List, Bool, Bor, IsTrue, map, ap, ap₂, subst}
use Rattle.name_map.proofs.RenamedTold.{told}
use Rattle.name_map.specs.Filled.{filled_tree, given}
use Rattle.name_map.specs.Fits.{plain_places}
use Rattle.name_map.specs.Kept.{keeps_marks, keeps_plain}
use Rattle.name_map.specs.Spots.{pairs}
use Rattle.tree_core.specs.Program.{IsProgram}
use Rattle.tree_nodes.specs.Tree.{Tree, alone}
use Rattle.tree_places.specs.Places.{names}
use Rattle.tree_places.specs.Renaming.{marks}
use Rattle.name_map.proofs.make.is_renamed.Goals as goal

abbrev texts : List (Bor (List ℕ)) → List (List ℕ)
texts xs = map (λ x. x.now) xs

pub returns-clause-told : goal.returns-clause-told
returns-clause-told c =
    let t = c.args.before.now in
    let u = c.args.after.now in
    let own = c.requires in
    let xs : texts c.as_slice-names.result.now ≡ names (alone t) = ap texts c.as_slice-names.ensures.value ∙ own.before in
    let bs : c.as_slice-marks.result.now ≡ marks (alone t) = c.as_slice-marks.ensures.value ∙ own.marks in
    let back : c.in_ok-back.back ≡ filled_tree (given (names (alone t)) (marks (alone t))) u =
    c.in_ok-back.ensures ∙ ap (filled_tree (given (texts c.as_slice-names.result.now) c.as_slice-marks.result.now)) c.root.ensures.root
    ∙ ap₂ (λ ys cs. filled_tree (given ys cs) u) xs bs in
    let a = c.same_node-same.result in
    let same : IsTrue a ↔ (filled_tree (given (names (alone t)) (marks (alone t))) u ≡ t) =
    subst (λ (w : Tree). IsTrue a ↔ (w ≡ t)) back (subst (λ (w : Tree). IsTrue a ↔ (c.in_ok-back.back ≡ w)) c.root-2.ensures.root c.same_node-same.ensures) in
    let plain : c.keeps_plain-plain.result ≡ keeps_plain (plain_places t) (names (alone t)) (names (alone u)) =
    c.keeps_plain-plain.ensures
    ∙ ap (λ ps. keeps_plain ps (texts c.as_slice-names.result.now) (texts c.as_slice-2.result.now)) (c.as_slice.ensures.value ∙ own.plain)
    ∙ ap₂ (keeps_plain (plain_places t)) xs (ap texts c.as_slice-2.ensures.value ∙ own.after) in
    let marked : c.keeps_marks-marked.result ≡ keeps_marks (marks (alone t)) (pairs (alone u)) =
    c.keeps_marks-marked.ensures ∙ ap₂ keeps_marks bs (c.as_slice-3.ensures.value ∙ own.pairs) in
    rw c.all_three.ensures
    (told t u c.root.ensures.program a c.keeps_plain-plain.result c.keeps_marks-marked.result same plain marked)

pub returns-clause-program : goal.returns-clause-program
returns-clause-program c = c.root-2.ensures.program
