-- A tree has a fault exactly where one is found.
use Rattle.std.specs.Prelude.{◌≡◌, ℕ, Bool, true, false, ◌||◌, List, [], ◌∷◌, ◌++◌}
use Rattle.std.specs.List.{list_any}
use Rattle.std.proofs.Common.{refl, sym, ap, ◌∙◌}
use Rattle.std.proofs.lemmas.List.Folds.{list_any-append}
use Rattle.list_laws.proofs.AnyOf.{any_map}
use Rattle.place_list.specs.Nodes.{NestedNode, nested_nodes}
use Rattle.scope_report.proofs.EitherTest.{any_either}
use Rattle.scope_report.specs.Findings.{findings, located}
use Rattle.scope_report.specs.Found.{Found, found, found_at, found_from, found_in, rules, when}
use Rattle.scope_report.specs.Laws.{FaultsAreFound, is_fault}
use Rattle.scope_report.specs.declared.finding.Rule.TheVariants.{Fault, Shadow, Unresolved, Unused}
use Rattle.scope_report.specs.Rules.{verdict_on}
use Rattle.scope_report.specs.declared.verdict.Verdict.{Verdict}
use Rattle.scope_rules.specs.Bindings.{same_name}
use Rattle.scope_rules.specs.Faults.{has_fault}
use Rattle.scope_tables.proofs.EachPlace.{faults_are}
use Rattle.scope_tables.proofs.Resolutions.{one_of_five}
use Rattle.scope_tables.specs.FaultsOf.{each_after, faults_of, place_faults}
use Rattle.scope_tables.specs.declared.faults.Faults.{Faults}
use Rattle.tree_nodes.specs.Tree.{Text, alone}
use Rattle.tree_places.specs.Places.{Place, places}

is_found : Found → Bool
is_found f = is_fault f.rule

any_fault : Faults → Bool
any_fault f = f.redeclaration || f.crossing || f.sloppy_function || f.undeclared || f.reach

-- ---- among the rules of a place

fault_at : (x : Text) (start : ℕ) (v : Verdict) → list_any is_found (found_at x start (rules v)) ≡ any_fault v.faults
unfolding is_found any_fault rules found_at when is_fault
fault_at x start v = go v.faults.redeclaration v.faults.crossing v.faults.sloppy_function v.faults.undeclared v.faults.reach v.unused v.unresolved v.shadow
  where
    go : (a b c d e u w s : Bool)
        → list_any is_found (found_at x start (when a (Fault 1) (when b (Fault 2) (when c (Fault 3) (when d (Fault 4) (when e (Fault 5) (when u Unused (when w Unresolved (when s Shadow [])))))))))
        ≡ (a || b || c || d || e)
    go true b c d e u w s = refl
    go false true c d e u w s = refl
    go false false true d e u w s = refl
    go false false false true e u w s = refl
    go false false false false true u w s = refl
    go false false false false false true true true = refl
    go false false false false false true true false = refl
    go false false false false false true false true = refl
    go false false false false false true false false = refl
    go false false false false false false true true = refl
    go false false false false false false true false = refl
    go false false false false false false false true = refl
    go false false false false false false false false = refl

-- ---- among the findings of places

module _ (ns : List NestedNode) (all : List Place) where
  faults_from : (before ps : List Place) → list_any is_found (found_from ns all before ps) ≡ list_any any_fault (each_after (faults_of all) before ps)
  unfolding found_from each_after verdict_on
  faults_from before [] = refl
  faults_from before (p ∷ ps) =
      list_any-append is_found (found_at p.name p.site.start (rules (verdict_on ns all before p))) (found_from ns all (before ++ p ∷ []) ps)
      ∙ ap (λ (b : Bool). b || list_any is_found (found_from ns all (before ++ p ∷ []) ps)) (fault_at p.name p.site.start (verdict_on ns all before p))
      ∙ ap (λ (b : Bool). any_fault (faults_of all before p) || b) (faults_from (before ++ p ∷ []) ps)

-- ---- each of the five

one_of : (fs : List Faults)
    → (list_any (λ (f : Faults). f.redeclaration) fs || list_any (λ (f : Faults). f.crossing) fs || list_any (λ (f : Faults). f.sloppy_function) fs || list_any (λ (f : Faults). f.undeclared) fs || list_any (λ (f : Faults). f.reach) fs)
    ≡ list_any any_fault fs
unfolding any_fault
one_of fs =
    let r : Faults → Bool = λ f. f.redeclaration in
    let c : Faults → Bool = λ f. f.crossing in
    let s : Faults → Bool = λ f. f.sloppy_function in
    let u : Faults → Bool = λ f. f.undeclared in
    let b : Faults → Bool = λ f. f.reach in
    ap (λ (t : Bool). t || list_any s fs || list_any u fs || list_any b fs) (any_either r c fs)
    ∙ ap (λ (t : Bool). t || list_any u fs || list_any b fs) (any_either (λ f. r f || c f) s fs)
    ∙ ap (λ (t : Bool). t || list_any b fs) (any_either (λ f. r f || c f || s f) u fs)
    ∙ any_either (λ f. r f || c f || s f || u f) b fs

fault_of : List Faults → Faults
fault_of fs = record {
  redeclaration = list_any (λ f. f.redeclaration) fs;
  crossing = list_any (λ f. f.crossing) fs;
  sloppy_function = list_any (λ f. f.sloppy_function) fs;
  undeclared = list_any (λ f. f.undeclared) fs;
  reach = list_any (λ f. f.reach) fs;
}

some_fault : (ps : List Place) → list_any any_fault (place_faults ps) ≡ has_fault same_name ps
unfolding fault_of
some_fault ps = sym (one_of (place_faults ps)) ∙ one_of_five ps (fault_of (place_faults ps)) (faults_are ps (place_faults ps) (fault_of (place_faults ps)) refl refl refl refl refl refl)

pub faults_are_found : FaultsAreFound
unfolding findings located found_in found is_found place_faults
faults_are_found t text =
    let ns : List NestedNode = nested_nodes (alone t) in
    let ps : List Place = places (alone t) in
    sym (any_map (located text) (λ f. is_fault f.rule) (found_in t) ∙ faults_from ns ps [] ps ∙ some_fault ps)
