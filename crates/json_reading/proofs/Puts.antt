-- Members that are put in one after the other: each is found under its key, no key stands twice, and what holds of each holds of all.
use Rattle.std.proofs.Common.{◌≡◌, ℕ, List, Bool, true, false, not, ◌&&◌, Option, Some, None, option_map, is_some, if◌then◌else◌, bytes_eq, Ordering, Less, Equal, Greater, is_eq, nat_cmp, true≢false, refl, sym, ap, ◌∙◌}
use Rattle.std.specs.Cmp.Lexicographic.{slice_cmp}
use Rattle.std.specs.Ordering.{match_ordering}
use Rattle.std.proofs.lemmas.Map.Text.{is_eq-slice_cmp}
use Rattle.std.proofs.lemmas.Slice.Eq.{bytes_eq-Decides}
use Rattle.json_text.specs.Json.{Json, Members, no_members, member}
use Rattle.json_text.specs.Units.{units_of}
use Rattle.list_laws.proofs.Tests.{none_told}
use Rattle.serde_json.specs.Data as parsed
use Rattle.tree_core.specs.JsonOf.{json_of, members_of}
use Rattle.tree_core.specs.Reading.{are_distinct, find_member}
use Rattle.tree_nodes.proofs.Cases.{both, bytes_differ, bytes_equal, bytes_same, bytes_turned, none_some, not_true}
use Rattle.json_reading.proofs.Strings.{units_back}
use Rattle.json_reading.specs.Parsed.{members_parsed, parsed_as, text_in_units}
use Rattle.json_reading.specs.Readable.{HaveReadable, IsReadable}

-- the JSON value that a value is read as
abbrev pub back : Json → Json
back v = json_of (parsed_as v)

-- what stands under a key
abbrev pub find : List ℕ → parsed.Members → Option Json
find q ms = find_member q (members_of ms)

-- ---- one more

missing : (b : Bool) (d : Json) (o : Option Json) → (if b then Some d else o) ≡ None → (b ≡ false) × (o ≡ None)
missing true d o e = none_some d (sym e)
missing false d o e = (refl, e)

-- keys with other code units are apart
not_tied : (b l : List ℕ) → slice_cmp nat_cmp b l ≡ Equal → bytes_eq (units_of l) (units_of b) ≡ false → ⊥
not_tied b l tie apart =
    let same : b ≡ l = bytes_equal b l (sym (is_eq-slice_cmp b l) ∙ ap is_eq tie) in
    true≢false (sym (bytes_same (units_of b)) ∙ ap (λ (k : List ℕ). bytes_eq (units_of k) (units_of b)) same ∙ apart)

swapped : (x y : Bool) (d e : Json) (o : Option Json) → (x ≡ true → y ≡ true → ⊥)
    → (if y then Some e else (if x then Some d else o)) ≡ (if x then Some d else (if y then Some e else o))
swapped true true d e o apart = absurd (apart refl refl)
swapped true false d e o apart = refl
swapped false y d e o apart = refl

found_at : (o : Ordering) (b l : List ℕ) (d e : parsed.Data) (ms : parsed.Members) → slice_cmp nat_cmp b l ≡ o → bytes_eq (units_of l) (units_of b) ≡ false → (q : List ℕ)
    → find q (parsed.put b d ms) ≡ (if bytes_eq (units_of b) q then Some (json_of d) else find q ms)
    → find q (match_ordering o (parsed.member b d (parsed.member l e ms)) (parsed.member l d ms) (parsed.member l e (parsed.put b d ms)))
    ≡ (if bytes_eq (units_of b) q then Some (json_of d) else find q (parsed.member l e ms))
found_at Less b l d e ms is apart q later = refl
found_at Equal b l d e ms is apart q later = absurd (not_tied b l is apart)
found_at Greater b l d e ms is apart q later =
    ap (λ (o : Option Json). if bytes_eq (units_of l) q then Some (json_of e) else o) later
    ∙ swapped (bytes_eq (units_of b) q) (bytes_eq (units_of l) q) (json_of d) (json_of e) (find q ms)
    (λ x y. true≢false (sym ((bytes_eq-Decides (units_of l) (units_of b)).1 (bytes_equal (units_of l) q y ∙ sym (bytes_equal (units_of b) q x))) ∙ apart))

-- a member under a new key is found under it, and the others under theirs
put_found : (b : List ℕ) (d : parsed.Data) (ms : parsed.Members) → find (units_of b) ms ≡ None → (q : List ℕ)
    → find q (parsed.put b d ms) ≡ (if bytes_eq (units_of b) q then Some (json_of d) else find q ms)
put_found b d parsed.no_members new q = refl
put_found b d (parsed.member l e ms) new q =
    let m = missing (bytes_eq (units_of l) (units_of b)) (json_of e) (find (units_of b) ms) new in
    found_at (slice_cmp nat_cmp b l) b l d e ms refl m.0 q (put_found b d ms m.1 q)

distinct_at : (o : Ordering) (b l : List ℕ) (d e : parsed.Data) (ms : parsed.Members) → slice_cmp nat_cmp b l ≡ o → bytes_eq (units_of l) (units_of b) ≡ false
    → find (units_of b) (parsed.member l e ms) ≡ None → find (units_of l) (parsed.put b d ms) ≡ find (units_of l) ms
    → are_distinct (members_of (parsed.member l e ms)) ≡ true → are_distinct (members_of (parsed.put b d ms)) ≡ true
    → are_distinct (members_of (match_ordering o (parsed.member b d (parsed.member l e ms)) (parsed.member l d ms) (parsed.member l e (parsed.put b d ms)))) ≡ true
distinct_at Less b l d e ms is apart new same one more = rw new one
distinct_at Equal b l d e ms is apart new same one more = absurd (not_tied b l is apart)
distinct_at Greater b l d e ms is apart new same one more =
    let here = both (not (is_some (find (units_of l) ms))) (are_distinct (members_of ms)) one in
    rw (same, here.0, more) refl

put_distinct : (b : List ℕ) (d : parsed.Data) (ms : parsed.Members) → find (units_of b) ms ≡ None → are_distinct (members_of ms) ≡ true → are_distinct (members_of (parsed.put b d ms)) ≡ true
put_distinct b d parsed.no_members new one = refl
put_distinct b d (parsed.member l e ms) new one =
    let m = missing (bytes_eq (units_of l) (units_of b)) (json_of e) (find (units_of b) ms) new in
    let rest = both (not (is_some (find (units_of l) ms))) (are_distinct (members_of ms)) one in
    let same : find (units_of l) (parsed.put b d ms) ≡ find (units_of l) ms =
    put_found b d ms m.1 (units_of l)
    ∙ ap (λ (x : Bool). if x then Some (json_of d) else find (units_of l) ms) (bytes_turned (units_of l) (units_of b) m.0) in
    distinct_at (slice_cmp nat_cmp b l) b l d e ms refl m.0 new same one (put_distinct b d ms m.1 rest.1)

-- a test of all members, one after the other
pub record IsTest (here : List ℕ → Json → Bool) (test : Members → Bool) : Type 0 where
  pub none : test no_members ≡ true
  pub more : (k : List ℕ) (d : Json) (ms : Members) → test (member k d ms) ≡ (here k d && test ms)

module _ (here : List ℕ → Json → Bool) (test : Members → Bool) (is : IsTest here test) where
  passes : (k : List ℕ) (d : Json) (ms : Members) → here k d ≡ true → test ms ≡ true → test (member k d ms) ≡ true
  passes k d ms h t = is.more k d ms ∙ ap (λ (b : Bool). b && test ms) h ∙ t

  parts : (k : List ℕ) (d : Json) (ms : Members) → test (member k d ms) ≡ true → (here k d ≡ true) × (test ms ≡ true)
  parts k d ms t = both (here k d) (test ms) (sym (is.more k d ms) ∙ t)

  test_at : (o : Ordering) (b l : List ℕ) (d e : parsed.Data) (ms : parsed.Members) → slice_cmp nat_cmp b l ≡ o → bytes_eq (units_of l) (units_of b) ≡ false
      → here (units_of b) (json_of d) ≡ true → test (members_of (parsed.member l e ms)) ≡ true → test (members_of (parsed.put b d ms)) ≡ true
      → test (members_of (match_ordering o (parsed.member b d (parsed.member l e ms)) (parsed.member l d ms) (parsed.member l e (parsed.put b d ms)))) ≡ true
  test_at Less b l d e ms cmp apart h one more = passes (units_of b) (json_of d) (members_of (parsed.member l e ms)) h one
  test_at Equal b l d e ms cmp apart h one more = absurd (not_tied b l cmp apart)
  test_at Greater b l d e ms cmp apart h one more =
      passes (units_of l) (json_of e) (members_of (parsed.put b d ms)) (parts (units_of l) (json_of e) (members_of ms) one).0 more

  put_passes : (b : List ℕ) (d : parsed.Data) (ms : parsed.Members) → find (units_of b) ms ≡ None → here (units_of b) (json_of d) ≡ true
      → test (members_of ms) ≡ true → test (members_of (parsed.put b d ms)) ≡ true
  put_passes b d parsed.no_members new h t = passes (units_of b) (json_of d) no_members h is.none
  put_passes b d (parsed.member l e ms) new h t =
      let m = missing (bytes_eq (units_of l) (units_of b)) (json_of e) (find (units_of b) ms) new in
      test_at (slice_cmp nat_cmp b l) b l d e ms refl m.0 h t (put_passes b d ms m.1 h (parts (units_of l) (json_of e) (members_of ms) t).1)

-- ---- all of an object

abbrev or_found : Option Json → Option Json → Option Json
or_found (Some d) o = Some d
or_found None o = o

or_none : (o : Option Json) → or_found o None ≡ o
or_none None = refl
or_none (Some d) = refl

-- none of these keys was found before
abbrev IsNew : Members → parsed.Members → Type 0
IsNew ms found = (q : List ℕ) (d : Json) → find_member q ms ≡ Some d → find q found ≡ None

none_before : (ms : Members) → IsNew ms parsed.no_members
none_before ms q d e = refl

module _ (k : List ℕ) (x : Json) (ms : Members) (found : parsed.Members) (b : List ℕ) (is : units_of b ≡ k) (new : IsNew (member k x ms) found) where
  here_new : find (units_of b) found ≡ None
  here_new = ap (λ (l : List ℕ). find l found) is ∙ new k x (ap (λ (z : Bool). if z then Some x else find_member k ms) (bytes_same k))

  more_new : (d : parsed.Data) → find_member k ms ≡ None → IsNew ms (parsed.put b d found)
  more_new d none_here q e f =
      let apart : bytes_eq (units_of b) q ≡ false =
      bytes_differ (units_of b) q (λ same. none_some e (sym none_here ∙ ap (λ (l : List ℕ). find_member l ms) (sym is ∙ same) ∙ f)) in
      put_found b d found here_new q
      ∙ ap (λ (z : Bool). if z then Some (json_of d) else find q found) apart
      ∙ new q e (ap (λ (z : Bool). if z then Some x else find_member q ms) (ap (λ (l : List ℕ). bytes_eq l q) (sym is) ∙ apart) ∙ f)

no_later : (k : List ℕ) (ms : Members) → (not (is_some (find_member k ms)) && are_distinct ms) ≡ true → (find_member k ms ≡ None) × (are_distinct ms ≡ true)
no_later k ms d =
    let p = both (not (is_some (find_member k ms))) (are_distinct ms) d in
    (none_told (find_member k ms) (not_true (is_some (find_member k ms)) p.0), p.1)

found_after : (ms : Members) (found : parsed.Members) → HaveReadable ms → are_distinct ms ≡ true → IsNew ms found → (q : List ℕ)
    → find q (members_parsed ms found) ≡ or_found (option_map back (find_member q ms)) (find q found)
found_after no_members found h d new q = refl
found_after (member k x ms) found h d new q =
    let b : List ℕ = text_in_units k in
    let is : units_of b ≡ k = units_back k h.0 in
    let none_here = no_later k ms d in
    found_after ms (parsed.put b (parsed_as x) found) h.2 none_here.1 (more_new k x ms found b is new (parsed_as x) none_here.0) q
    ∙ ap (or_found (option_map back (find_member q ms)))
    (put_found b (parsed_as x) found (here_new k x ms found b is new) q ∙ ap (λ (l : List ℕ). if bytes_eq l q then Some (back x) else find q found) is)
    ∙ by_test (bytes_eq k q) refl none_here.0
  where
    by_test : (z : Bool) → bytes_eq k q ≡ z → find_member k ms ≡ None
        → or_found (option_map back (find_member q ms)) (if z then Some (back x) else find q found) ≡ or_found (option_map back (if z then Some x else find_member q ms)) (find q found)
    by_test true e none_here =
        let none : find_member q ms ≡ None = ap (λ (l : List ℕ). find_member l ms) (sym (bytes_equal k q e)) ∙ none_here in
        ap (λ (o : Option Json). or_found (option_map back o) (Some (back x))) none
    by_test false e none_here = refl

distinct_after : (ms : Members) (found : parsed.Members) → HaveReadable ms → are_distinct ms ≡ true → IsNew ms found → are_distinct (members_of found) ≡ true
    → are_distinct (members_of (members_parsed ms found)) ≡ true
distinct_after no_members found h d new one = one
distinct_after (member k x ms) found h d new one =
    let b : List ℕ = text_in_units k in
    let is : units_of b ≡ k = units_back k h.0 in
    let none_here = no_later k ms d in
    distinct_after ms (parsed.put b (parsed_as x) found) h.2 none_here.1 (more_new k x ms found b is new (parsed_as x) none_here.0)
    (put_distinct b (parsed_as x) found (here_new k x ms found b is new) one)

module _ (here : List ℕ → Json → Bool) (test : Members → Bool) (is_test : IsTest here test) (holds : (k : List ℕ) (x : Json) → IsReadable x → here k x ≡ true → here k (back x) ≡ true) where
  test_after : (ms : Members) (found : parsed.Members) → HaveReadable ms → are_distinct ms ≡ true → IsNew ms found → test ms ≡ true → test (members_of found) ≡ true
      → test (members_of (members_parsed ms found)) ≡ true
  test_after no_members found h d new t one = one
  test_after (member k x ms) found h d new t one =
      let b : List ℕ = text_in_units k in
      let is : units_of b ≡ k = units_back k h.0 in
      let none_here = no_later k ms d in
      let p = parts here test is_test k x ms t in
      test_after ms (parsed.put b (parsed_as x) found) h.2 none_here.1 (more_new k x ms found b is new (parsed_as x) none_here.0) p.1
      (put_passes here test is_test b (parsed_as x) found (here_new k x ms found b is new)
      (ap (λ (l : List ℕ). here l (back x)) is ∙ holds k x h.1 p.0) one)

-- the members of an object that is read
abbrev pub members_back : Members → Members
members_back ms = members_of (members_parsed ms parsed.no_members)

module _ (ms : Members) (h : HaveReadable ms) (d : are_distinct ms ≡ true) where
  pub found_back : (q : List ℕ) → find_member q (members_back ms) ≡ option_map back (find_member q ms)
  found_back q = found_after ms parsed.no_members h d (none_before ms) q ∙ or_none (option_map back (find_member q ms))

  pub distinct_back : are_distinct (members_back ms) ≡ true
  distinct_back = distinct_after ms parsed.no_members h d (none_before ms) refl

  pub test_back : (here : List ℕ → Json → Bool) (test : Members → Bool) → IsTest here test → ((k : List ℕ) (x : Json) → IsReadable x → here k x ≡ true → here k (back x) ≡ true)
      → test ms ≡ true → test (members_back ms) ≡ true
  test_back here test is holds t = test_after here test is holds ms parsed.no_members h d (none_before ms) t is.none
