-- `end_of` lends the end of a slice, and the slice follows it. Assumes `Logic`.
use mathlib.Core.Path.{◌≡◌, refl, sym, ap, subst, ◌∙◌}
use Prim.Native.Nat.{ℕ, zero, suc, ◌+◌, ◌-◌, ◌*◌, ◌^◌, ◌<◌, ◌≤◌}
use native.Mathlib.Nat.{mul-le-mul_right, zero-mul, suc-mul}
use native.Mathlib.Omega.{arith}
use mathlib.Core.List.{List, [], ◌∷◌, ◌++◌}
use lib.ListN.{length, take, drop as drop_list, take-append-drop, length-drop, length-append}
use seplogic.Ra.Ura.{Ura}
use mir.Syntax.{Args, Fn, named, w64, a_type}
use mir.MapTy.{inst_fn}
use mir.Val.{Val, vint}
use base.Logic.{SProp, ent, sep, ex}
use base.Fml.{Lft, GName, Share, ftrue, flft, fobs, fbor}
use base.Stored.{coded_list}
use prog.Capped.{capped_is}
use prog.Memory.{Memory, capped}
use prog.Routine.{Routine}
use prog.Wp.{Calls, Loops, WpFn, Tables}
use types.Logic.{Logic, sem}
use contract.BorrowLft.{◌⊑◌}
use contract.Lifetimes.{AllOutlive}
use contract.Monad.{Fun, fact}
use contract.Running.{tables, tables_of}
use sound.WpLaws.{WpFn-mono}
use types.Follow.{takes_part}
use types.Kit.{‵, ◌⊛◌, raw, some, later, ◌$◌, ◌∵◌, !, qed, by, move, keep, drop, split, split3, join, fsplit, fsplit3, fjoin, feq_i, feq_l, rewrite, use1, use2, await, pick, group, updating, now, show, suffices, frame, done}
use types.Mut.{open_ref}
use types.Part.{agg, sub, whole}
use types.Run.{stop, fld, addr, bin, and_then, no_more, size_word, returns, enter}
use types.ByLocal.{alloc_all, pass_all, free_all, look_at, get, get_in, through, sets, is}
use types.SemTy.{cells, Arr, Body}
use borrow.Table.Elements.{at, at_mul, cut_app, join_app, length-take-le}
use denote.Array.{Array}
use denote.Builtin.{usize}
use denote.Exit.{yes, no}
use denote.Follow.{follows}
use denote.FollowSlice.{heres_id, slice_of}
use denote.Memory.{mem}
use denote.Param.{param, layouts}
use denote.Plain.{uint_vals, uint_Tells}
use denote.RattleType.{RattleType, owns}
use denote.Ref.{MutBor}
use denote.Signature.{plain}
use denote.Slice.{MutSlice, Room, slice_val, mut_slice_vals, mut_slice_Tells}
use denote.Steps.{nothing, heard}
use denote.Triple.Clauses.{Clauses, closing}
use denote.Triple.Entry.{on_entry}
use denote.Triple.Spec.{Meets, triple_of}
use denote.Triple.Table.{entered}
use denote.Triple.Walked.{says, Stays, stay_dropped, walk_of, ends_at, walked, Goes-dropped, Goes-spent_slice, walk_Meets}
use Rattle.oxc_data_structures.specs.contracts.slice_iter.end_of as F
use Rattle.oxc_data_structures.specs.contracts.slice_iter.end_of.Key.{name as #self}
use Rattle.oxc_data_structures.proofs.slice_iter.end_of.Statement as stated
use Rattle.oxc_data_structures.proofs.slice_iter.end_of.Code as code

module _ (T : RattleType) where
  abbrev args : Args
  args = layouts (a_type ∷ []) (T, tt)

  abbrev function : Fn
  function = inst_fn args code.function

  abbrev P : RattleType
  P = param 0 T

  abbrev stayed : Stays (F.ended T).signature.params (F.ended T).kept
  stayed = (stay_dropped _ no, (stay_dropped (plain (λ _. usize)) yes, tt))

-- where the product fits a word, the count is zero or the size fits too
uncapped : (i k : ℕ) → i * k < 2 ^ 64 → i * capped k ≡ i * k
uncapped zero k h = zero-mul (capped k) ∙ sym (zero-mul k)
uncapped (suc i) k h = let step = suc-mul i k in ap (λ (j : ℕ). suc i * j) (capped_is k (omega arith))

module _ {M : Type 1} {𝓤 : Ura M} (𝓛 : Logic 𝓤) (R : RattleType) (κ : Lft) (q : Share) (b o : ℕ) (γ : GName) (xs front back : List R.Denot)
    (cut : xs ≡ front ++ back) (p : ℕ) (on : at o (mem R).size (length front) ≡ p) (rm : Room R (length back)) where
  open 𝓛 use {H, A}

  -- the end of the slice under a new name, the token, and what the slice ends as
  abbrev EndLent : GName → SProp 𝓤
  EndLent δ = sep 𝓤 (sem 𝓛 ((MutSlice (named 0) κ R).own_val (record { ref_ptr = (b, p); ghost_name = δ; now = back }) (slice_val (b, p) (length back) ∷ [])))
      (sep 𝓤 (A.lft κ q) (sem 𝓛 (follows (Array R 0) (Array R 0) γ δ (λ ws. front ++ ws))))

  put_back : (ws : List R.Denot) → ent 𝓤 (sep 𝓤 (sem 𝓛 ((Arr (mem R) (length back)).own_at ws b p)) (sem 𝓛 (cells (mem R) front b o))) (sem 𝓛 ((Arr (mem R) (length xs)).own_at (front ++ ws) b o))
  put_back ws =
      let whole : length xs ≡ length front + length back = ap length cut ∙ length-append front back in
      let now_whole : length (front ++ ws) ≡ length front + length ws = length-append front ws in
      qed 𝓛 (‵ ((Arr (mem R) (length back)).own_at ws b p) ∷ ‵ (cells (mem R) front b o) ∷ []) ∵ fsplit ! $ feq_l ! (λ e.
      rewrite ! 0 (λ (k : ℕ). ‵ (cells (mem R) ws b k)) (sym on) refl $ move ! (1 ∷ 0 ∷ []) $
      use2 𝓛 (‵ (cells (mem R) (front ++ ws) b o)) (join_app 𝓛 (mem R) front ws b o) $
      feq_i ! ℕ (length (front ++ ws)) (length xs) (omega arith) $ fjoin ! $ done !)

  lends_end : (vs : List Val) → ent 𝓤 (sep 𝓤 (sem 𝓛 ((MutSlice (named 0) κ R).own_val (record { ref_ptr = (b, o); ghost_name = γ; now = xs }) vs)) (A.lft κ q)) (H.⇛ (ex 𝓤 EndLent))
  lends_end vs = qed 𝓛 (‵ ((MutSlice (named 0) κ R).own_val (record { ref_ptr = (b, o); ghost_name = γ; now = xs }) vs) ∷ ‵ (flft κ q) ∷ []) ∵ updating ! $ fsplit3 ! $ drop ! $
      rewrite ! 0 (λ (l : List R.Denot). ‵ (fobs γ ((coded_list R.coded).code l))) (heres_id R xs) refl $ open_ref ! tt (Arr (mem R) (length xs)) {b = b} {o = o} $ fsplit ! $ drop ! $
      rewrite ! 0 (λ (l : List R.Denot). ‵ (cells (mem R) l b o)) cut refl $
      use1 𝓛 (‵ (cells (mem R) front b o) ⊛ ‵ (cells (mem R) back b (at o (mem R).size (length front)))) (cut_app 𝓛 (mem R) front back b o) $ split ! $ move ! (1 ∷ []) $
      rewrite ! 0 (λ (k : ℕ). ‵ (cells (mem R) back b k)) on refl $
      feq_i ! ℕ (length back) (length back) refl $ fjoin ! $ move ! (2 ∷ 3 ∷ 4 ∷ 0 ∷ 1 ∷ []) $ group ! 5 $
      use1 𝓛 (later (some (λ (δ : GName). ‵ (fobs δ ((coded_list R.coded).code back)) ⊛ ‵ (fbor κ (Body (Arr (mem R) (length back)) b p δ)) ⊛ ‵ (flft κ q) ⊛ ‵ (follows (Array R 0) (Array R 0) γ δ (λ ws. front ++ ws)))))
      (takes_part 𝓛 (Arr (mem R) (length xs)) (Arr (mem R) (length back)) (λ ws. front ++ ws) κ q b o b p γ (sem 𝓛 (cells (mem R) front b o)) put_back ((coded_list R.coded).code xs) ((coded_list R.coded).code xs) back) $ await ! tt $ pick ! (λ δ. split3 ! $
      use2 𝓛 (‵ ((MutSlice (named 0) κ R).own_val (record { ref_ptr = (b, p); ghost_name = δ; now = back }) (slice_val (b, p) (length back) ∷ []))) (slice_of 𝓛 R (named 0) κ b p δ back rm) $ now ! $ show ! EndLent δ $ done !)

module _ (T : RattleType) {M : Type 1} {𝓤 : Ura M} (𝓛 : Logic 𝓤) (at_mem : Memory → SProp 𝓤) (run : Routine → Fun 𝓤) where
  open 𝓛 use {H}

  abbrev clauses : Clauses 𝓤 (F.ended T)
  clauses = F.clauses T 𝓛 at_mem run

  module _ (C : Calls 𝓤 H) (Λ : Loops 𝓤 H) (κ κT : Lft) (q qT : Share) (bounds : AllOutlive 2 (F.ended T).signature.outlives (κ, (κT, tt))) (b o : ℕ) (γ : GName) (xs : List T.Denot) (n : ℕ) where
    abbrev slice : MutBor (List T.Denot)
    slice = record { ref_ptr = (b, o); ghost_name = γ; now = xs }

    abbrev passed : (walk_of 𝓛 (F.ended T) (stayed T) clauses).Ghost
    passed = (((κ, (κT, tt)), (q, (qT, tt)), bounds, (slice, (n, tt)), (mut_slice_vals slice, (vint w64 n ∷ [], tt))), tt)

    abbrev Post : Val → SProp 𝓤
    Post = (walk_of 𝓛 (F.ended T) (stayed T) clauses).post passed

    walk : Room (P T) (length xs) → n < 2 ^ 64 → n ≤ length xs
        → ent 𝓤 (on_entry 𝓛 (F.ended T).signature (κ, (κT, tt)) (q, (qT, tt)) (slice, (n, tt)) (mut_slice_vals slice, (vint w64 n ∷ [], tt))) (WpFn 𝓤 H C Λ (function T) (slice_val (b, o) (length xs) ∷ vint w64 n ∷ []) Post)
    walk rm fn le =
        let s : ℕ = (mem (P T)).size in
        let front : List T.Denot = take n xs in
        let back : List T.Denot = drop_list n xs in
        let lf : length front ≡ n = length-take-le n xs le in
        let lb : length back ≡ length xs - n = length-drop n xs in
        let counted : length xs < 2 ^ 64 = rm.0 in
        let small : length xs * s < 2 ^ 63 = rm.1 in
        let before : n * s ≤ length xs * s = mul-le-mul_right s le in
        let behind : length back * s ≤ length xs * s = mul-le-mul_right s (omega arith) in
        let fs : n * s < 2 ^ 64 = omega arith in
        let fb : length xs - n < 2 ^ 64 = omega arith in
        let p : ℕ = n * s + o in
        let on : at o s (length front) ≡ p = at_mul o s (length front) ∙ ap (λ (k : ℕ). k * s + o) lf in
        let rmb : Room (P T) (length back) = (omega arith, omega arith) in
        qed 𝓛 ((‵ (flft κ q) ⊛ ‵ (flft κT qT) ⊛ ‵ ftrue) ∷ ‵ (owns (MutSlice (named 0) κ (P T) ∷ usize ∷ []) (slice, (n, tt)) (mut_slice_vals slice, (vint w64 n ∷ [], tt))) ∷ []) ∵
        enter ! C Λ (function T) (slice_val (b, o) (length xs) ∷ vint w64 n ∷ []) _ $
        alloc_all ! (λ l. pass_all ! refl ((tt, (tt, (record { fits = counted }, tt))), ((tt, record { fits = fn }), tt)) $
        sets ! (is ! (bin ! (get ! refl) (size_word !) (record { fits = subst (λ (k : ℕ). k < 2 ^ 64) (sym (uncapped n s fs)) fs })) (ap (vint w64) (uncapped n s fs))) refl (tt, record { fits = fs }) $
        sets ! (bin ! (get_in ! (fld ! refl (stop !)) (sub ! 0 refl (whole !))) (get ! refl) tt) refl (tt, tt) $
        sets ! (bin ! (get_in ! (fld ! refl (stop !)) (sub ! 1 refl (whole !))) (get ! refl) le) refl (tt, record { fits = fb }) $
        sets ! (addr ! (through ! refl (stop !))) refl (tt, tt) $
        sets ! (is ! (agg ! (and_then ! (get ! refl) (and_then ! (get ! refl) (no_more !)))) (ap (slice_val (b, p)) (sym lb))) refl (tt, (tt, (record { fits = rmb.0 }, tt))) $
        split ! $ move ! (2 ∷ []) $ fsplit ! $ move ! (0 ∷ 2 ∷ []) $
        use2 𝓛 (later (some (λ (δ : GName). ‵ ((MutSlice (named 0) κ (P T)).own_val (record { ref_ptr = (b, p); ghost_name = δ; now = back }) (slice_val (b, p) (length back) ∷ [])) ⊛ ‵ (flft κ q) ⊛ ‵ (follows (Array (P T) 0) (Array (P T) 0) γ δ (λ ws. front ++ ws)))))
        (lends_end 𝓛 (P T) κ q b o γ xs front back (sym (take-append-drop n xs)) p on rmb (mut_slice_vals slice)) $ await ! tt $ pick ! (λ δ.
        returns ! (look_at ! 0 refl) $ free_all ! refl $ keep ! (0 ∷ 2 ∷ []) $ split3 ! $
        suffices ! _ (ends_at 𝓛 (F.ended T) (stayed T) clauses passed (slice_val (b, p) (length back)) (record { ref_ptr = (b, p); ghost_name = δ; now = back }) (tt, (tt, tt)) (tt, (tt, tt))) $
        nothing ! $ nothing ! $ fjoin ! $ nothing ! $ fjoin ! $ join ! $ move ! (1 ∷ 3 ∷ []) $ join ! $ join ! $ frame ! $ says ! refl $ done !))

  meets : (𝓣 : Tables 𝓤 H) → Meets 𝓛 (F.ended T).signature (WpFn 𝓤 H 𝓣.C 𝓣.Λ (function T)) (closing 𝓛 (F.ended T) clauses)
  meets 𝓣 =
      walk_Meets 𝓛 (F.ended T) (stayed T) (Goes-spent_slice 𝓛 2 (0 ∷ []) tt (plain (λ _. P T)), (Goes-dropped 𝓛 2 (plain (λ _. usize)) yes (λ κs x f. refl), tt)) clauses
      (WpFn 𝓤 H 𝓣.C 𝓣.Λ (function T)) (WpFn-mono 𝓤 H 𝓛.laws 𝓣 (function T))
      (walked 𝓛 (F.ended T) (stayed T) clauses (WpFn 𝓤 H 𝓣.C 𝓣.Λ (function T)) (λ κs. (mut_slice_vals, (uint_vals w64, tt))) (λ κs. (mut_slice_Tells (named 0) κs.0 (P T), (uint_Tells w64, tt)))
      (λ κs qs bounds a g are.
      qed 𝓛 (raw (on_entry 𝓛 (F.ended T).signature κs qs a (mut_slice_vals a.0, (vint w64 a.1.0 ∷ [], tt))) ∷ (raw (fact 𝓤 (κs.1.0 ⊑ T.lives)) ⊛ raw (fact 𝓤 (a.1.0 ≤ length a.0.now))) ∷ []) ∵
      move ! (1 ∷ []) $ split ! $ heard ! _ (λ _. heard ! _ (λ le.
      by ! (walk 𝓣.C 𝓣.Λ κs.0 κs.1.0 qs.0 qs.1.0 bounds a.0.ref_ptr.0 a.0.ref_ptr.1 a.0.ghost_name a.0.now a.1.0 are.0.0.1 are.1.0.1 le)))))

pub end_of_spec : {M : Type 1} → stated.statement M
unfolding tables_of
end_of_spec 𝓤 𝓛 𝓜 𝓡 wired T laws =
    let A = 𝓛.A in
    let 𝓣 : Tables 𝓤 𝓛.H = tables_of 𝓤 𝓛.H 𝓜 (tables 𝓤 𝓛.H 𝓜 𝓡 𝓡.env) in
    entered 𝓤 𝓛.H (triple_of 𝓛 (F.ended T).signature (closing 𝓛 (F.ended T) (clauses T 𝓛 𝓜.mem 𝓡.returns))) 𝓣.C 𝓣.Λ (#self (args T)) (function T) (code.unfolded 𝓤 𝓛.H 𝓜 𝓡 wired (T, tt))
    (meets T 𝓛 𝓜.mem 𝓡.returns 𝓣)
