-- What is found at one place more.
use Rattle.std.specs.Prelude.{◌≡◌, ◌+◌, ℕ, Bool, true, false, List, [], ◌∷◌, ◌++◌, take, slice_get, Some}
use Rattle.std.proofs.Common.{sym, ap, ◌∙◌, append_assoc}
use Rattle.std.proofs.lemmas.List.{append-nil, map-append}
use Rattle.place_list.specs.Nodes.{NestedNode}
use Rattle.scope_tables.proofs.BoundPlaces.{take_read}
use Rattle.scope_report.specs.Found.{Found, found_at, found_from, rules, when}
use Rattle.scope_report.specs.Rules.{verdict_on}
use Rattle.scope_report.specs.Views.{Pushes, found_view, found_views}
use Rattle.scope_report.specs.declared.finding.Rule.{Rule}
use Rattle.scope_report.specs.declared.found.FoundAt.{FoundAt}
use Rattle.scope_report.specs.declared.verdict.Verdict.{Verdict}
use Rattle.tree_nodes.specs.Tree.{Text}
use Rattle.tree_places.specs.Places.{Place}

-- ---- rules at one place

pub none_more : (x : Text) (start : ℕ) (fs : List Found) → fs ≡ fs ++ found_at x start []
unfolding found_at
none_more x start fs = sym (append-nil fs)

pub pushed : (x : Text) (start : ℕ) (rule : Rule) (old new : List FoundAt) (f : FoundAt) → found_view f ≡ record { rule = rule; name = x; start = start } → new ≡ old ++ f ∷ []
    → (b : Bool) → b ≡ true → Pushes x start b rule old new
unfolding found_at when
pushed x start rule old new f is e b t rest =
    ap (λ (fs : List FoundAt). found_views fs ++ found_at x start rest) e
    ∙ ap (λ (fs : List Found). fs ++ found_at x start rest) (map-append found_view old (f ∷ []))
    ∙ append_assoc (found_views old) (found_view f ∷ []) (found_at x start rest)
    ∙ ap (λ (g : Found). found_views old ++ (g ∷ found_at x start rest)) is
    ∙ ap (λ (c : Bool). found_views old ++ found_at x start (when c rule rest)) (sym t)

pub not_pushed : (x : Text) (start : ℕ) (rule : Rule) (old : List FoundAt) → (b : Bool) → b ≡ false → Pushes x start b rule old old
unfolding when
not_pushed x start rule old b t rest = ap (λ (c : Bool). found_views old ++ found_at x start (when c rule rest)) (sym t)

-- ---- places

module _ (ns : List NestedNode) (all : List Place) where
  from_more : (before xs : List Place) (x : Place)
      → found_from ns all before (xs ++ x ∷ []) ≡ found_from ns all before xs ++ found_at x.name x.site.start (rules (verdict_on ns all (before ++ xs) x))
  unfolding found_from
  from_more before [] x =
      append-nil (found_at x.name x.site.start (rules (verdict_on ns all before x)))
      ∙ ap (λ (b : List Place). found_at x.name x.site.start (rules (verdict_on ns all b x))) (sym (append-nil before))
  from_more before (y ∷ xs) x =
      let here : List Found = found_at y.name y.site.start (rules (verdict_on ns all before y)) in
      ap (λ (fs : List Found). here ++ fs) (from_more (before ++ y ∷ []) xs x)
      ∙ sym (append_assoc here (found_from ns all (before ++ y ∷ []) xs) (found_at x.name x.site.start (rules (verdict_on ns all ((before ++ y ∷ []) ++ xs) x))))
      ∙ ap (λ (b : List Place). (here ++ found_from ns all (before ++ y ∷ []) xs) ++ found_at x.name x.site.start (rules (verdict_on ns all b x))) (append_assoc before (y ∷ []) xs)

  pub found_more : (i : ℕ) (p : Place) → slice_get all i ≡ Some p → (old new : List Found) → old ≡ found_from ns all [] (take i all)
      → (v : Verdict) → v ≡ verdict_on ns all (take i all) p → new ≡ old ++ found_at p.name p.site.start (rules v) → new ≡ found_from ns all [] (take (i + 1) all)
  found_more i p read old new so_far v is more =
      more
      ∙ ap (λ (fs : List Found). fs ++ found_at p.name p.site.start (rules v)) so_far
      ∙ ap (λ (w : Verdict). found_from ns all [] (take i all) ++ found_at p.name p.site.start (rules w)) is
      ∙ sym (ap (found_from ns all []) (take_read all i p read) ∙ from_more [] (take i all) p)
