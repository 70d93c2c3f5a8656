-- A source text and a program in one value, and the lines of findings.
use Rattle.std.proofs.Common.{◌≡◌, ◌≤◌, ◌<◌, ◌+◌, ◌^◌, ℕ, zero, suc, false, List, [], ◌∷◌, ◌++◌, Some, None, length, take, nat_le, slice_get, codes, option_and_then, sym, ap, ◌∙◌, arith}
use Rattle.std.proofs.lemmas.Bool.{or_parts}
use Rattle.std.proofs.lemmas.Bool.Decides.{nat_tests}
use Rattle.std.proofs.lemmas.Grind.{flat_map-append}
use Rattle.std.proofs.lemmas.List.{append-nil, take_more}
use Rattle.std.proofs.lemmas.Option.{get_or_from_slice_get, slice_get_within}
use Rattle.scope_report.specs.declared.finding.Finding.{Finding}
use Rattle.serde_json.specs.Data.{Data, null, boolean, number, string, array, object}
use Rattle.serde_json.specs.Find.{as_str}
use Rattle.tool_commands.specs.Pairs.{Pair, both, pair, pair_in}
use Rattle.tool_commands.specs.Report.{finding_line, report_text, sourced, sourced_in}
use Rattle.tree_core.specs.JsonOf.{json_of}
use Rattle.tree_core.specs.Limits.{is_long_text, is_too_large}
use Rattle.tree_core.specs.Reading.{tree_of}
use Rattle.tree_nodes.proofs.Cases.{none_some, some_same}
use Rattle.tree_nodes.specs.Tree.{Text}

-- ---- a source text and a program

pub sourced_told : (d s n : Data) → pair_in (codes "source") (codes "node") d ≡ Some (pair s n) → sourced_in d ≡ both sourced (as_str s) (tree_of (json_of n))
sourced_told d s n e = ap (option_and_then (λ (p : Pair). both sourced (as_str p.first) (tree_of (json_of p.second)))) e

pub not_sourced : (d : Data) → pair_in (codes "source") (codes "node") d ≡ None → sourced_in d ≡ None
not_sourced d e = ap (option_and_then (λ (p : Pair). both sourced (as_str p.first) (tree_of (json_of p.second)))) e

short_string : (s : Text) → is_too_large (string s) 0 ≡ false → length s < 2 ^ 32
unfolding is_too_large
short_string s h = let short : nat_le (2 ^ 32) (length s) ≡ false = (or_parts (nat_le (2 ^ 30) 0) (is_long_text s) h).1 in grind (arith, nat_tests, short)

-- a text within the limits is short
pub text_short : (d : Data) (s : Text) → as_str d ≡ Some s → is_too_large d 0 ≡ false → length s < 2 ^ 32
text_short null s e h = none_some s e
text_short (boolean b) s e h = none_some s e
text_short (number n) s e h = none_some s e
text_short (string t) s e h = let same = some_same t s e in rw (← same) (short_string t h)
text_short (array ds) s e h = none_some s e
text_short (object ms) s e h = none_some s e

-- ---- the lines of findings

pub line_more : (fs : List Finding) (i : ℕ) (f : Finding) → Some f ≡ slice_get fs i → (old new : List ℕ) → old ≡ report_text (take i fs) → new ≡ old ++ finding_line f → new ≡ report_text (take (i + 1) fs)
line_more fs i f e old new so_far put =
    let there : slice_get fs i ≡ Some f = sym e in
    put ∙ ap (λ (t : List ℕ). t ++ finding_line f) so_far
    ∙ sym (ap report_text (take_more fs i f (slice_get_within fs i f there) ∙ ap (λ (g : Finding). take i fs ++ g ∷ []) (get_or_from_slice_get fs i f f there))
    ∙ flat_map-append finding_line (take i fs) (f ∷ [])
    ∙ ap (λ (t : List ℕ). report_text (take i fs) ++ t) (append-nil (finding_line f)))

pub none_left : (fs : List Finding) (i : ℕ) → None ≡ slice_get fs i → length fs ≤ i
none_left [] i e = omega arith
none_left (f ∷ fs) zero e = none_some f e
none_left (f ∷ fs) (suc i) e = let l = none_left fs i e in omega (arith, l)
