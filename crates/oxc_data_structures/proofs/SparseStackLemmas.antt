-- How the parts of a `SparseStack` follow its entries.
use Rattle.std.proofs.Common.{◌≡◌, ℕ, suc, ◌-◌, ◌<◌, Bool, true, false, cond, List, [], ◌∷◌, ◌++◌, length, get_or, set, map, Option, Some, None, refl, sym, ap, ◌∙◌, subst, arith}
use Rattle.std.proofs.lemmas.List.{length-append, length-map, length-set, map-append, same_from_push, append-nil, get_or_read, get_or-set_same, set-get_or, set-set}
use Rattle.std.proofs.lemmas.List.Elements.{filter_map-append}
use Rattle.std.proofs.lemmas.Option.{slice_get_read}
use Rattle.std.specs.Prelude.{slice_get, is_some}
use Rattle.std.specs.Option.{option_to_list}
use Rattle.oxc_data_structures.proofs.ListLemmas.{get_or-at_last, get_or-last, slice_get-last, set-last, split_last}
use Rattle.oxc_data_structures.specs.SparseStack.{Becomes, Entries, FillsTop, IsKeptOrMade, IsStored, entries_of, filled_values, top, with_top}

module _ {T : Type 0} where
  -- the marks and the values are those of these entries
  pub record IsPartsOf (items : List (Option T)) (marks : List Bool) (values : List T) : Type 0 where
    pub marks_are : marks ≡ map is_some items
    pub values_are : values ≡ filled_values items

  -- entries come back from their parts
  pub entries_of-own_parts : (items : List (Option T)) → entries_of (map is_some items) (filled_values items) ≡ items
  entries_of-own_parts [] = refl
  entries_of-own_parts (None ∷ items) = ap (λ es. None ∷ es) (entries_of-own_parts items)
  entries_of-own_parts (Some v ∷ items) = ap (λ es. Some v ∷ es) (entries_of-own_parts items)

  pub entries_of-parts : (items : List (Option T)) (marks : List Bool) (values : List T) → IsPartsOf items marks values
      → entries_of marks values ≡ items
  entries_of-parts items marks values p = rw (p.marks_are, p.values_are) (entries_of-own_parts items)

  -- parts of some entries can be stored
  pub IsStored-from_parts : (items : List (Option T)) (marks : List Bool) (values : List T) → IsPartsOf items marks values
      → 0 < length items → IsStored marks values
  IsStored-from_parts items marks values p some =
      let e : entries_of marks values ≡ items = entries_of-parts items marks values p in
      record {
        not_empty = rw (p.marks_are, length-map items is_some) some;
        marks_are = ap (λ es. map is_some es) e ∙ sym p.marks_are;
        values_are = ap (λ es. filled_values es) e ∙ sym p.values_are;
      }

  pub IsPartsOf-stored : (marks : List Bool) (values : List T) → IsStored marks values
      → IsPartsOf (entries_of marks values) marks values
  IsPartsOf-stored marks values h = record { marks_are = sym h.marks_are; values_are = sym h.values_are }

  pub length-entries_of : (marks : List Bool) (values : List T) → IsStored marks values
      → length (entries_of marks values) ≡ length marks
  length-entries_of marks values h = sym (length-map (entries_of marks values) is_some) ∙ ap length h.marks_are

  -- one entry more on top
  pub IsPartsOf-push : (items : List (Option T)) (marks : List Bool) (values : List T) (entry : Option T)
      → IsPartsOf items marks values
      → IsPartsOf (items ++ entry ∷ []) (marks ++ is_some entry ∷ []) (values ++ option_to_list entry)
  IsPartsOf-push items marks values None p = record {
    marks_are = rw (map-append is_some items (None ∷ [])) (ap (λ ms. ms ++ false ∷ []) p.marks_are);
    values_are = rw (filter_map-append (λ (e : Option T). e) items (None ∷ [])) (ap (λ vs. vs ++ []) p.values_are);
  }
  IsPartsOf-push items marks values (Some v) p = record {
    marks_are = rw (map-append is_some items (Some v ∷ [])) (ap (λ ms. ms ++ true ∷ []) p.marks_are);
    values_are = rw (filter_map-append (λ (e : Option T). e) items (Some v ∷ [])) (ap (λ vs. vs ++ v ∷ []) p.values_are);
  }

  -- an entry was put on top
  pub record IsPushed (marks : List Bool) (values : List T) (entry : Option T) : Type 0 where
    pub stored : IsStored (marks ++ is_some entry ∷ []) (values ++ option_to_list entry)
    pub items : entries_of (marks ++ is_some entry ∷ []) (values ++ option_to_list entry)
        ≡ entries_of marks values ++ entry ∷ []

  pub pushed : (marks : List Bool) (values : List T) (entry : Option T) → IsStored marks values → IsPushed marks values entry
  pushed marks values entry h =
      let items = entries_of marks values ++ entry ∷ [] in
      let parts = IsPartsOf-push (entries_of marks values) marks values entry (IsPartsOf-stored marks values h) in
      record {
        stored = IsStored-from_parts items _ _ parts (omega (arith, length-append (entries_of marks values) (entry ∷ [])));
        items = entries_of-parts items _ _ parts;
      }

  -- the top entry, and the entries below it with their parts
  pub record Top (marks : List Bool) (values : List T) : Type 0 where
    pub below : List (Option T)
    pub entry : Option T
    pub items : entries_of marks values ≡ below ++ entry ∷ []
    pub marks_are : marks ≡ map is_some below ++ is_some entry ∷ []
    pub values_are : values ≡ filled_values below ++ option_to_list entry

  pub top_of : (marks : List Bool) (values : List T) → IsStored marks values → Top marks values
  top_of marks values h =
      let t = split_last (entries_of marks values) (omega (arith, length-entries_of marks values h, h.not_empty)) in
      let own = IsPartsOf-push t.0 (map is_some t.0) (filled_values t.0) t.1 (record { marks_are = refl; values_are = refl }) in
      record {
        below = t.0;
        entry = t.1;
        items = t.2;
        marks_are = sym h.marks_are ∙ ap (λ es. map is_some es) t.2 ∙ sym own.marks_are;
        values_are = sym h.values_are ∙ ap (λ es. filled_values es) t.2 ∙ sym own.values_are;
      }

  -- two lists, each with what an option holds behind it, are equal part by part
  same_behind : (xs ys : List T) (a b : Option T) → is_some a ≡ is_some b → xs ++ option_to_list a ≡ ys ++ option_to_list b
      → (xs ≡ ys) × (a ≡ b)
  same_behind xs ys None None s e = (sym (append-nil xs) ∙ e ∙ append-nil ys, refl)
  same_behind xs ys (Some v) (Some w) s e = let p = same_from_push xs ys v w e in (p.0, ap Some p.1)
  same_behind xs ys None (Some w) s e = absurd (cc)
  same_behind xs ys (Some v) None s e = absurd (cc)

  -- an entry was taken off the top
  pub record IsPopped (marks marks' : List Bool) (values values' : List T) (entry : Option T) : Type 0 where
    pub items : entries_of marks values ≡ entries_of marks' values' ++ entry ∷ []
    pub stored : 1 < length (entries_of marks values) → IsStored marks' values'

  pub popped : (marks marks' : List Bool) (values values' : List T) (entry : Option T) → IsStored marks values
      → marks ≡ marks' ++ is_some entry ∷ [] → values ≡ values' ++ option_to_list entry
      → IsPopped marks marks' values values' entry
  popped marks marks' values values' entry h m v =
      let t = top_of marks values h in
      let ms = same_from_push (map is_some t.below) marks' (is_some t.entry) (is_some entry) (sym t.marks_are ∙ m) in
      let vs = same_behind (filled_values t.below) values' t.entry entry ms.1 (sym t.values_are ∙ v) in
      let parts : IsPartsOf t.below marks' values' = record { marks_are = sym ms.0; values_are = sym vs.0 } in
      let below : entries_of marks' values' ≡ t.below = entries_of-parts t.below marks' values' parts in
      record {
        items = rw (below, ← vs.1) t.items;
        stored = λ two. IsStored-from_parts t.below marks' values' parts
            (omega (arith, two, ap length t.items, length-append t.below (t.entry ∷ [])));
      }

  some_behind : (xs : List T) (a : Option T) (vs : List T) → is_some a ≡ true → vs ≡ xs ++ option_to_list a → 0 < length vs
  some_behind xs None vs s e = absurd (cc)
  some_behind xs (Some v) vs s e = omega (arith, ap length e, length-append xs (v ∷ []))

  -- there is a value where the top entry is filled
  pub values_some : (marks : List Bool) (values : List T) → IsStored marks values → get_or marks (length marks - 1) false ≡ true
      → 0 < length values
  values_some marks values h filled =
      let t = top_of marks values h in
      some_behind (filled_values t.below) t.entry values
      (sym (get_or-at_last (map is_some t.below) (is_some t.entry) false marks t.marks_are) ∙ filled) t.values_are

  -- the top entry was filled, and its value was taken off with it
  pub popped_filled : (marks marks' : List Bool) (mark : Bool) (values values' : List T) (entry : Option T)
      → IsStored marks values → marks ≡ marks' ++ mark ∷ [] → mark ≡ true → values ≡ values' ++ option_to_list entry
      → (0 < length values → is_some entry ≡ true) → IsPopped marks marks' values values' entry
  popped_filled marks marks' mark values values' entry h m is_true v some =
      let filled : marks ≡ marks' ++ true ∷ [] = m ∙ ap (λ b. marks' ++ b ∷ []) is_true in
      let is_some_entry : is_some entry ≡ true = some (values_some marks values h (get_or-at_last marks' true false marks filled)) in
      popped marks marks' values values' entry h (filled ∙ ap (λ b. marks' ++ b ∷ []) (sym is_some_entry)) v

  -- the top entry was `None`
  pub popped_absent : (marks marks' : List Bool) (mark : Bool) (values : List T)
      → IsStored marks values → marks ≡ marks' ++ mark ∷ [] → mark ≡ false → IsPopped marks marks' values values None
  popped_absent marks marks' mark values h m is_false =
      popped marks marks' values values None h (m ∙ ap (λ b. marks' ++ b ∷ []) is_false) (sym (append-nil values))

  value_of : (below : List T) (entry : Option T)
      → entry ≡ cond (is_some entry) (slice_get (below ++ option_to_list entry) (length (below ++ option_to_list entry) - 1)) None
  value_of below None = refl
  value_of below (Some v) = sym (slice_get-last below v)

  entry_by_parts : (items below : List (Option T)) (entry : Option T) (marks : List Bool) (values : List T)
      → items ≡ below ++ entry ∷ [] → marks ≡ map is_some below ++ is_some entry ∷ []
      → values ≡ filled_values below ++ option_to_list entry
      → get_or items (length items - 1) None ≡ cond (get_or marks (length marks - 1) false) (slice_get values (length values - 1)) None
  entry_by_parts items below entry marks values e m v =
      rw (e, get_or-last below entry None, m, get_or-last (map is_some below) (is_some entry) false, v)
      (value_of (filled_values below) entry)

  -- the top entry, by the last mark and the last value
  pub top_entry : (marks : List Bool) (values : List T) → IsStored marks values
      → get_or (entries_of marks values) (length (entries_of marks values) - 1) None
      ≡ cond (get_or marks (length marks - 1) false) (slice_get values (length values - 1)) None
  top_entry marks values h =
      let t = top_of marks values h in
      entry_by_parts (entries_of marks values) t.below t.entry marks values t.items t.marks_are t.values_are

  own_parts : (items : List (Option T)) → IsPartsOf items (map is_some items) (filled_values items)
  own_parts items = record { marks_are = refl; values_are = refl }

  -- a stack of which the top entry's value was taken out
  pub record IsTaken (marks : List Bool) (values values' : List T) (entry : Option T) : Type 0 where
    pub stored : IsStored (set marks (length marks - 1) false) values'
    pub items : entries_of (set marks (length marks - 1) false) values'
        ≡ set (entries_of marks values) (length (entries_of marks values) - 1) None
    pub value : entry ≡ get_or (entries_of marks values) (length (entries_of marks values) - 1) None

  taken_by_parts : (items below : List (Option T)) (entry entry' : Option T) (marks : List Bool) (values values' : List T)
      → entries_of marks values ≡ items → items ≡ below ++ entry ∷ [] → marks ≡ map is_some below ++ is_some entry ∷ []
      → values ≡ filled_values below ++ option_to_list entry
      → values ≡ values' ++ option_to_list entry' → is_some entry ≡ is_some entry' → IsTaken marks values values' entry'
  taken_by_parts items below entry entry' marks values values' is e m v v' same =
      let vs = same_behind (filled_values below) values' entry entry' same (sym v ∙ v') in
      let marks' : set marks (length marks - 1) false ≡ map is_some below ++ false ∷ [] =
      rw m (set-last (map is_some below) (is_some entry) false) in
      let parts : IsPartsOf (below ++ None ∷ []) (set marks (length marks - 1) false) values' =
      rw (marks', ← vs.0, ← append-nil (filled_values below))
      (IsPartsOf-push below (map is_some below) (filled_values below) None (own_parts below)) in
      record {
        stored = IsStored-from_parts (below ++ None ∷ []) _ values' parts (omega (arith, length-append below (None ∷ [])));
        items =
            entries_of-parts (below ++ None ∷ []) _ values' parts
            ∙ sym (rw (is, e) (set-last below entry None));
        value = rw (is, e, get_or-last below entry None) (sym vs.1);
      }

  -- the top entry's value was taken out of a filled entry
  pub taken : (marks : List Bool) (values values' : List T) (entry : Option T) → IsStored marks values
      → get_or marks (length marks - 1) false ≡ true → values ≡ values' ++ option_to_list entry
      → (0 < length values → is_some entry ≡ true) → IsTaken marks values values' entry
  taken marks values values' entry h filled v some =
      let t = top_of marks values h in
      let mark : is_some t.entry ≡ true = sym (get_or-at_last (map is_some t.below) (is_some t.entry) false marks t.marks_are) ∙ filled in
      let is_some_entry : is_some entry ≡ true = some (values_some marks values h filled) in
      taken_by_parts (entries_of marks values) t.below t.entry entry marks values values' refl t.items t.marks_are
      t.values_are v (mark ∙ sym is_some_entry)

  -- an entry that is `None` stays so
  pub absent_stays : (marks : List Bool) (values : List T) → IsStored marks values
      → get_or marks (length marks - 1) false ≡ false
      → set (entries_of marks values) (length (entries_of marks values) - 1) None ≡ entries_of marks values
  absent_stays marks values h absent =
      let t = top_of marks values h in
      let mark : is_some t.entry ≡ false = sym (get_or-at_last (map is_some t.below) (is_some t.entry) false marks t.marks_are) ∙ absent in
      stays (entries_of marks values) t.below t.entry t.items mark
    where
      stays : (items below : List (Option T)) (entry : Option T) → items ≡ below ++ entry ∷ [] → is_some entry ≡ false
          → set items (length items - 1) None ≡ items
      stays items below None e m = rw e (set-last below None None)
      stays items below (Some v) e m = absurd (cc)

  refilled : (items : List (Option T)) (values : List T) → length values ≡ length (filled_values items)
      → (items' : List (Option T)) × IsPartsOf items' (map is_some items) values × (length items' ≡ length items)
  refilled [] [] e = ([], own_parts [], refl)
  refilled [] (v ∷ vs) e = absurd (omega arith)
  refilled (None ∷ items) vs e =
      let r = refilled items vs e in
      (None ∷ r.0, record { marks_are = ap (λ ms. false ∷ ms) r.1.marks_are; values_are = r.1.values_are }, ap suc r.2)
  refilled (Some x ∷ items) [] e = absurd (omega arith)
  refilled (Some x ∷ items) (v ∷ vs) e =
      let r = refilled items vs (omega arith) in
      (Some v ∷ r.0, record { marks_are = ap (λ ms. true ∷ ms) r.1.marks_are; values_are = ap (λ ws. v ∷ ws) r.1.values_are }, ap suc r.2)

  -- other values for the same entries
  pub IsStored-values : (marks : List Bool) (values values' : List T) → IsStored marks values → length values' ≡ length values
      → IsStored marks values'
  IsStored-values marks values values' h same =
      let r = refilled (entries_of marks values) values' (same ∙ ap length (sym h.values_are)) in
      let parts : IsPartsOf r.0 marks values' = rw h.marks_are at r.1 in
      IsStored-from_parts r.0 marks values' parts (omega (arith, r.2, length-entries_of marks values h, h.not_empty))

  -- another value for the top entry, which is filled
  pub top_replaced : (marks : List Bool) (values : List T) → IsStored marks values
      → get_or marks (length marks - 1) false ≡ true → (value : T)
      → entries_of marks (set values (length values - 1) value)
      ≡ set (entries_of marks values) (length (entries_of marks values) - 1) (Some value)
  top_replaced marks values h filled value =
      let t = top_of marks values h in
      let mark : is_some t.entry ≡ true = sym (get_or-at_last (map is_some t.below) (is_some t.entry) false marks t.marks_are) ∙ filled in
      replaced (entries_of marks values) t.below t.entry marks values t.items t.marks_are t.values_are mark
    where
      replaced : (items below : List (Option T)) (entry : Option T) (marks : List Bool) (values : List T)
          → items ≡ below ++ entry ∷ [] → marks ≡ map is_some below ++ is_some entry ∷ []
          → values ≡ filled_values below ++ option_to_list entry → is_some entry ≡ true
          → entries_of marks (set values (length values - 1) value) ≡ set items (length items - 1) (Some value)
      replaced items below None marks values e m v s = absurd (cc)
      replaced items below (Some x) marks values e m v s =
          rw (e, set-last below (Some x) (Some value), m, v, set-last (filled_values below) x value)
          (entries_of-parts (below ++ Some value ∷ []) _ _
          (IsPartsOf-push below (map is_some below) (filled_values below) (Some value) (own_parts below)))

  -- the top entry holds the last value where it is filled
  pub kept_top : (marks : List Bool) (values : List T) → IsStored marks values → get_or marks (length marks - 1) false ≡ true
      → (value : T) × (get_or (entries_of marks values) (length (entries_of marks values) - 1) None ≡ Some value)
  kept_top marks values h filled =
      let e = top_entry marks values h ∙ ap (λ b. cond b (slice_get values (length values - 1)) None) filled in
      let r = last_value values (values_some marks values h filled) in
      (r.0, e ∙ r.1)
    where
      last_of : (vs front : List T) (last : T) → vs ≡ front ++ last ∷ [] → slice_get vs (length vs - 1) ≡ Some last
      last_of vs front last e = rw e (slice_get-last front last)

      last_value : (vs : List T) → 0 < length vs → (value : T) × (slice_get vs (length vs - 1) ≡ Some value)
      last_value vs some = let s = split_last vs some in (s.1, last_of vs s.0 s.1 s.2)

  -- a stack whose top entry is filled has it filled
  pub FillsTop-kept : (s : Entries T) (made : T → Type 0) (value : T) → top s ≡ Some value → FillsTop s s made value
  FillsTop-kept s made value e = record {
    becomes = record {
      entries = sym (ap (λ entry. set s.items (length s.items - 1) entry) (sym e) ∙ set-get_or s.items (length s.items - 1) None);
      total_capacity = omega arith;
      filled_capacity = omega arith;
    };
    value_is = rw e refl;
  }

  -- filled after room was made
  pub FillsTop-after_room : (old roomy new : Entries T) (made : T → Type 0) (value : T) → Becomes old roomy old.items
      → FillsTop roomy new made value → FillsTop old new made value
  FillsTop-after_room old roomy new made value b f = record {
    becomes = record {
      entries = f.becomes.entries ∙ ap (λ items. set items (length items - 1) (Some value)) b.entries;
      total_capacity = omega (arith, b.total_capacity, f.becomes.total_capacity);
      filled_capacity = omega (arith, b.filled_capacity, f.becomes.filled_capacity);
    };
    value_is = subst (λ items. IsKeptOrMade (get_or items (length items - 1) None) made value) b.entries f.value_is;
  }

  -- the other way round
  pub record IsFilledTop (marks : List Bool) (values : List T) (value : T) : Type 0 where
    pub filled : get_or marks (length marks - 1) false ≡ true
    pub value_is : slice_get values (length values - 1) ≡ Some value

  pub filled_top : (marks : List Bool) (values : List T) (value : T) → IsStored marks values
      → get_or (entries_of marks values) (length (entries_of marks values) - 1) None ≡ Some value
      → IsFilledTop marks values value
  filled_top marks values value h e = by_mark (get_or marks (length marks - 1) false) (sym (top_entry marks values h) ∙ e) refl
    where
      by_mark : (b : Bool) → cond b (slice_get values (length values - 1)) None ≡ Some value
          → get_or marks (length marks - 1) false ≡ b → IsFilledTop marks values value
      by_mark true e is = record { filled = is; value_is = e }
      by_mark false e is = absurd (cc)

  -- a stack's parts, where its top entry was just filled
  pub IsFilledTop-from_fills : (marks : List Bool) (values : List T) (old new : Entries T) (made : T → Type 0) (value : T)
      → IsStored marks values → entries_of marks values ≡ new.items → FillsTop old new made value
      → IsFilledTop marks values value
  IsFilledTop-from_fills marks values old new made value h is f =
      filled_top marks values value h
      (rw (is, f.becomes.entries, length-set old.items (length old.items - 1) (Some value))
      (get_or-set_same old.items (length old.items - 1) (Some value) None
      (omega (arith, length-entries_of marks values h, h.not_empty, ap length (is ∙ f.becomes.entries), length-set old.items (length old.items - 1) (Some value)))))

  -- the last value, as it was read
  pub value_read : (marks : List Bool) (values : List T) (value : T) (n : ℕ) (read : T) → IsStored marks values
      → IsFilledTop marks values value → n ≡ length values → read ≡ get_or values (n - 1) read → read ≡ value
  value_read marks values value n read h f len e =
      let some : 0 < length values = values_some marks values h f.filled in
      let r : slice_get values (n - 1) ≡ Some read = slice_get_read values (length values) (n - 1) read refl (omega arith) e in
      let same : slice_get values (length values - 1) ≡ slice_get values (n - 1) = ap (λ k. slice_get values (k - 1)) (sym len) in
      cc (r, same, f.value_is)

  -- another value for a top entry that was just filled
  pub with_top-filled : (old new : Entries T) (made : T → Type 0) (value other : T) → FillsTop old new made value
      → with_top new (Some other) ≡ with_top old (Some other)
  with_top-filled old new made value other f =
      rw (f.becomes.entries, length-set old.items (length old.items - 1) (Some value)) (set-set old.items (length old.items - 1) (Some value) (Some other))

  -- the top entry, which was `None`, was filled
  pub record IsFilledIn (marks : List Bool) (values : List T) (value : T) : Type 0 where
    pub stored : IsStored (set marks (length marks - 1) true) (values ++ value ∷ [])
    pub items : entries_of (set marks (length marks - 1) true) (values ++ value ∷ [])
        ≡ set (entries_of marks values) (length (entries_of marks values) - 1) (Some value)
    pub was_absent : get_or (entries_of marks values) (length (entries_of marks values) - 1) None ≡ None

  filled_in_by_parts : (items below : List (Option T)) (entry : Option T) (marks : List Bool) (values : List T) (value : T)
      → entries_of marks values ≡ items → items ≡ below ++ entry ∷ [] → marks ≡ map is_some below ++ is_some entry ∷ []
      → values ≡ filled_values below ++ option_to_list entry → is_some entry ≡ false → IsFilledIn marks values value
  filled_in_by_parts items below (Some v) marks values value is e m vs absent = absurd (cc)
  filled_in_by_parts items below None marks values value is e m vs absent =
      let marks' : set marks (length marks - 1) true ≡ map is_some below ++ true ∷ [] =
      rw m (set-last (map is_some below) false true) in
      let parts : IsPartsOf (below ++ Some value ∷ []) (set marks (length marks - 1) true) (values ++ value ∷ []) =
      rw (marks', vs, append-nil (filled_values below))
      (IsPartsOf-push below (map is_some below) (filled_values below) (Some value) (own_parts below)) in
      record {
        stored = IsStored-from_parts (below ++ Some value ∷ []) _ _ parts (omega (arith, length-append below (Some value ∷ [])));
        items =
            entries_of-parts (below ++ Some value ∷ []) _ _ parts
            ∙ sym (rw (is, e) (set-last below None (Some value)));
        was_absent = rw (is, e) (get_or-last below None None);
      }

  pub filled_in : (marks : List Bool) (values : List T) (value : T) → IsStored marks values
      → get_or marks (length marks - 1) false ≡ false → IsFilledIn marks values value
  filled_in marks values value h absent =
      let t = top_of marks values h in
      filled_in_by_parts (entries_of marks values) t.below t.entry marks values value refl t.items t.marks_are t.values_are
      (sym (get_or-at_last (map is_some t.below) (is_some t.entry) false marks t.marks_are) ∙ absent)

-- the last mark, as it was read
pub mark_read : (marks : List Bool) (n : ℕ) (mark known : Bool) → n ≡ length marks → 0 < length marks
    → mark ≡ get_or marks (n - 1) mark → mark ≡ known → get_or marks (length marks - 1) false ≡ known
mark_read marks n mark known len some read is =
    ap (λ k. get_or marks (k - 1) false) (sym len)
    ∙ sym (get_or_read marks (n - 1) mark (omega arith) read false) ∙ is
