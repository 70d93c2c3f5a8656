-- Starts of places in a text.
use Rattle.std.specs.Prelude.{◌≡◌, ◌+◌, ◌<◌, ℕ, List, [], ◌∷◌, ◌++◌, length, take, get_or, slice_get, Some}
use Rattle.std.specs.List.{Contains}
use Rattle.std.specs.Str.{IsCharBoundary}
use Rattle.std.proofs.Common.{sym, ap, subst, ◌∙◌, inl, inr, ◌⊎◌}
use Rattle.std.proofs.lemmas.List.{map-append, take_more}
use Rattle.std.proofs.lemmas.Option.{slice_get_within}
use Rattle.list_laws.proofs.Tests.{some_one}
use Rattle.list_laws.proofs.Members.{In, contains_from_in, from_append, in_at, in_from_Contains, in_map}
use Rattle.scope_report.specs.Findings.{HasBadSpan, StartInText}
use Rattle.scope_report.specs.Found.{Found}
use Rattle.scope_report.specs.Positions.{ArePositions, position_of}
use Rattle.scope_report.specs.Views.{found_view, found_views}
use Rattle.scope_report.specs.declared.found.FoundAt.{FoundAt}
use Rattle.scope_report.specs.declared.positions.Position.{Position}
use Rattle.tree_nodes.specs.Tree.{Text}

pub none_start : (text : Text) → StartInText text []
none_start text f i = absurd (in_from_Contains [] f i)

starts_more : (text : Text) (fs : List Found) (x : Found) → StartInText text fs → IsCharBoundary text x.start → StartInText text (fs ++ x ∷ [])
starts_more text fs x before here f i = go (from_append fs (x ∷ []) f (in_from_Contains (fs ++ x ∷ []) f i))
  where
    go : In f fs ⊎ In f (x ∷ []) → IsCharBoundary text f.start
    go (inl j) = before f (contains_from_in fs f j)
    go (inr (inl e)) = subst (λ (g : Found). IsCharBoundary text g.start) e here
    go (inr (inr j)) = absurd j

module _ (all : List FoundAt) (i : ℕ) (d : FoundAt) (h : i < length all) where
  pub listed_at : Contains (found_views all) (found_view (get_or all i d))
  listed_at = contains_from_in (found_views all) (found_view (get_or all i d)) (in_map found_view all (get_or all i d) (in_at all i d h))

  pub one_start_more : (text : Text) → StartInText text (found_views (take i all)) → IsCharBoundary text (get_or all i d).start → StartInText text (found_views (take (i + 1) all))
  one_start_more text before here =
      subst (StartInText text) (sym (ap found_views (take_more all i d h) ∙ map-append found_view (take i all) (get_or all i d ∷ [])))
      (starts_more text (found_views (take i all)) (found_view (get_or all i d)) before here)

  pub bad_start : (text : Text) → ¬ IsCharBoundary text (get_or all i d).start → HasBadSpan text (found_views all)
  bad_start text bad = (found_view (get_or all i d), listed_at, bad)

-- ---- what a table of positions says at a start

module _ (text : Text) (ps qs : List Position) (offset : ℕ) (same : qs ≡ ps) (are : ArePositions text ps) (cut : IsCharBoundary text offset) where
  pub offset_there : offset < length qs
  offset_there = subst (λ (rs : List Position). offset < length rs) (sym same) (slice_get_within ps offset (position_of text offset) (are offset cut))

  pub position_there : (p : Position) → slice_get qs offset ≡ Some p → p ≡ position_of text offset
  position_there p read = some_one p (position_of text offset) (sym read ∙ ap (λ (rs : List Position). slice_get rs offset) same ∙ are offset cut)
