-- `end_mut` hands on the end of the slice that `slice_mut` lends, and the cursor follows it. Assumes `Logic`.
use mathlib.Core.Path.{◌≡◌, refl, sym, ap, subst}
use Prim.Native.Nat.{ℕ, ◌<◌, ◌≤◌, ◌*◌, ◌^◌}
use mathlib.Core.List.{List, [], ◌∷◌, ◌++◌}
use lib.ListN.{length, take, drop as drop_list}
use seplogic.Ra.Ura.{Ura}
use mir.Syntax.{Args, Fn, named, w64, a_type}
use mir.MapTy.{inst_fn}
use mir.Val.{Val, vint}
use base.Logic.{SProp, ent, emp, id⊢}
use base.Fml.{ftrue, flft}
use prog.Model.{Model}
use prog.Wp.{WpFn}
use types.Logic.{Logic}
use contract.BorrowLft.{◌⊑◌}
use contract.Lifetimes.{Lfts, Shares, AllOutlive}
use contract.Monad.{fact, fact_i}
use contract.Running.{Running, MachineTables, tables, tables_of}
use contract.CodeStep
use sound.WpLaws.{WpFn-mono}
use types.Kit.{‵, ◌⊛◌, raw, some, later, ◌$◌, ◌∵◌, !, qed, by, move, drop, split, split3, join, fsplit, fsplit3, fjoin, fjoin3, feq_i, feq_l, flt_i, flt_l, rewrite, use0, use1, use2, await, pick, suffices, frame, done}
use types.Run.{stop, addr, no_more, and_then, returns, enter}
use types.ByLocal.{alloc_all, pass_all, free_all, look_at, get, through, sets, lands_as}
use denote.Array.{Array}
use denote.Builtin.{usize}
use denote.Exit.{yes, no}
use denote.Follow.{follows, follows_then}
use denote.Memory.{mem}
use denote.Param.{param, layouts}
use denote.Plain.{uint_vals, uint_Tells}
use denote.RattleType.{RattleType, owns}
use denote.Ref.{MutBor, MutRef, mut_vals, mut_Tells}
use denote.Signature.{plain, named_lft}
use denote.Slice.{MutSlice, slice_val, mut_slice_vals}
use denote.Steps.{nothing, only, heard}
use denote.Triple.Call.{calls_at}
use denote.Triple.Clauses.{Clauses, closing, lasts}
use denote.Triple.Entry.{on_entry}
use denote.Triple.Spec.{Meets, triple_of}
use denote.Triple.Table.{entered, framed}
use denote.Triple.Walked.{says, Stays, stay_dropped, walk_of, ends_at, walked, Goes-dropped, Goes-spent_ref, walk_Meets}
use Rattle.oxc_data_structures.specs.SliceCursorMutLends as lends
use Rattle.oxc_data_structures.specs.SliceLends as slice_lends
use Rattle.oxc_data_structures.specs.declared.slice_iter.SliceCursorMut.{SliceCursorMut}
use Rattle.oxc_data_structures.specs.contracts.slice_iter.SliceCursorMut.{the_row}
use Rattle.oxc_data_structures.specs.contracts.slice_iter.SliceCursorMut.slice_mut as outer
use Rattle.oxc_data_structures.specs.contracts.slice_iter.SliceCursorMut.slice_mut.Key.{name as #outer}
use Rattle.oxc_data_structures.proofs.slice_iter.SliceCursorMut.slice_mut.Met as outer-thm
use Rattle.oxc_data_structures.specs.contracts.slice_iter.end_of as inner
use Rattle.oxc_data_structures.specs.contracts.slice_iter.end_of.Key.{name as #inner}
use Rattle.oxc_data_structures.proofs.slice_iter.end_of.Met as inner-thm
use Rattle.oxc_data_structures.specs.contracts.slice_iter.SliceCursorMut.end_mut as F
use Rattle.oxc_data_structures.specs.contracts.slice_iter.SliceCursorMut.end_mut.Key.{name as #self}
use Rattle.oxc_data_structures.proofs.slice_iter.SliceCursorMut.end_mut.Statement as stated
use Rattle.oxc_data_structures.proofs.slice_iter.SliceCursorMut.end_mut.Code as code

module _ (T : RattleType) where
  abbrev args : Args
  args = layouts (a_type ∷ []) (T, tt)

  abbrev function : Fn
  function = inst_fn args code.function

  abbrev stayed : Stays (F.ended T).signature.params (F.ended T).kept
  stayed = (stay_dropped _ no, (stay_dropped (plain (λ _. usize)) yes, tt))

module _ (T : RattleType) {M : Type 1} {𝓤 : Ura M} (𝓛 : Logic 𝓤) (𝓜 : Model 𝓤 𝓛.H) (𝓡 : Running 𝓤 𝓛.H 𝓜)
    (outer-met : Meets 𝓛 (outer.signature T) (𝓡.run (𝓡.env (#outer (args T)))) (outer.spec T 𝓛 𝓜.mem 𝓡.returns))
    (inner-met : Meets 𝓛 (inner.signature T) (𝓡.run (𝓡.env (#inner (args T)))) (inner.spec T 𝓛 𝓜.mem 𝓡.returns)) where
  open 𝓛 use {H}

  abbrev 𝓣 : MachineTables 𝓤 H 𝓜
  𝓣 = tables 𝓤 H 𝓜 𝓡 𝓡.env

  abbrev clauses : Clauses 𝓤 (F.ended T)
  clauses = F.clauses T 𝓛 𝓜.mem 𝓡.returns

  abbrev P : RattleType
  P = param 0 T

  module _ (κs : Lfts 3) (qs : Shares 3) (bounds : AllOutlive 3 (F.ended T).signature.outlives κs) (self : MutBor (SliceCursorMut T.Denot)) (i : ℕ) where
    abbrev Row : RattleType
    Row = the_row (named_lft 3 1 tt κs) P

    abbrev passed : (walk_of 𝓛 (F.ended T) (stayed T) clauses).Ghost
    passed = ((κs, qs, bounds, (self, (i, tt)), (mut_vals self, (vint w64 i ∷ [], tt))), tt)

    abbrev Post : Val → SProp 𝓤
    Post = (walk_of 𝓛 (F.ended T) (stayed T) clauses).post passed

    walk : i < 2 ^ 64 → κs.1.1.0 ⊑ T.lives → i ≤ length self.now.slice.now
        → ent 𝓤 (on_entry 𝓛 (F.ended T).signature κs qs (self, (i, tt)) (mut_vals self, (vint w64 i ∷ [], tt))) (WpFn 𝓤 H 𝓣.C 𝓣.Λ (function T) (mut_vals self ++ vint w64 i ∷ []) Post)
    walk fits lives within =
        let outer-triple = triple_of 𝓛 (outer.signature T) (outer.spec T 𝓛 𝓜.mem 𝓡.returns) in
        let inner-triple = triple_of 𝓛 (inner.signature T) (inner.spec T 𝓛 𝓜.mem 𝓡.returns) in
        let y : outer-triple.Ghost = ((κs, qs, bounds, (self, tt), (mut_vals self, tt)), tt) in
        let owned = owns (MutRef (named 0) κs.0 Row ∷ usize ∷ []) (self, (i, tt)) (mut_vals self, (vint w64 i ∷ [], tt)) in
        qed 𝓛 ((‵ (flft κs.0 qs.0) ⊛ ‵ (flft κs.1.0 qs.1.0) ⊛ ‵ (flft κs.1.1.0 qs.1.1.0) ⊛ ‵ ftrue) ∷ ‵ owned ∷ []) ∵
        enter ! 𝓣.C 𝓣.Λ (function T) (mut_vals self ++ vint w64 i ∷ []) _ $
        alloc_all ! (λ l. pass_all ! refl ((tt, tt), ((tt, record { fits = fits }), tt)) $
        sets ! (addr ! (through ! refl (stop !))) refl (tt, tt) $
        move ! (1 ∷ []) $ fsplit ! $ nothing ! $ move ! (1 ∷ 0 ∷ []) $ join ! $ move ! (2 ∷ 0 ∷ []) $ join ! $
        use0 𝓛 (raw (fact 𝓤 (κs.1.1.0 ⊑ T.lives))) (fact_i 𝓤 _ (emp 𝓤) lives) $ nothing ! $ move ! (1 ∷ 0 ∷ []) $ join ! $ move ! (1 ∷ 0 ∷ []) $ join ! $
        use1 𝓛 (raw (outer-triple.pre y)) (id⊢ 𝓤 _) $
        -- [what `slice_mut` asks; the index; the locals]
        calls_at ! (framed 𝓤 H 𝓜 𝓣) outer-triple outer-met y (and_then ! (get ! refl) (no_more !)) (λ v.
        use1 𝓛 (later (some (λ (s : MutBor (List T.Denot)). ((‵ (flft κs.0 qs.0) ⊛ ‵ (flft κs.1.0 qs.1.0) ⊛ ‵ (flft κs.1.1.0 qs.1.1.0) ⊛ ‵ ftrue) ⊛ ‵ ((MutSlice (named 0) κs.0 P).own_val s (v ∷ []))) ⊛
        some (λ (ws : Unit {0} × Unit {0}). ‵ (lasts (outer.ended T) κs (self, tt) ws) ⊛ (‵ (lends.LendsSlice P self s) ⊛ raw (fact 𝓤 (s.now ≡ self.now.slice.now))))))) (id⊢ 𝓤 _) $
        await ! tt $ pick ! (λ s. split ! $ split ! $ move ! (2 ∷ []) $ pick ! (λ ws. split ! $ drop ! $ split ! $ move ! (1 ∷ []) $ heard ! _ (λ same.
        -- [the slice is lent; the tokens; the slice; the index; the locals]
        let inside : i ≤ length s.now = subst (λ (xs : List T.Denot). i ≤ length xs) (sym same) within in
        move ! (2 ∷ []) $ fsplit3 ! $ fsplit3 ! $ feq_l ! (λ is. flt_l ! (λ counted. flt_l ! (λ small.
        lands_as ! (ap only is) refl (tt, (tt, (record { fits = counted }, tt))) $
        flt_i ! (length s.now * (mem P).size) (2 ^ 63) small $ flt_i ! (length s.now) (2 ^ 64) counted $ feq_i ! (List Val) (mut_slice_vals s) (mut_slice_vals s) refl $ fjoin3 ! $ fjoin3 ! $
        -- [the slice; the slice is lent; the tokens; the index; the locals]
        move ! (0 ∷ 3 ∷ []) $ join ! $ move ! (2 ∷ []) $ split3 ! $ move ! (0 ∷ 2 ∷ []) $ join ! $ move ! (0 ∷ 2 ∷ []) $ join ! $
        use0 𝓛 (raw (fact 𝓤 (i ≤ length s.now))) (fact_i 𝓤 _ (emp 𝓤) inside) $ use0 𝓛 (raw (fact 𝓤 (κs.1.1.0 ⊑ T.lives))) (fact_i 𝓤 _ (emp 𝓤) lives) $ join ! $ move ! (1 ∷ 0 ∷ []) $ join ! $
        let z : inner-triple.Ghost = (((κs.0, (κs.1.1.0, tt)), (qs.0, (qs.1.1.0, tt)), (bounds.1.0, tt), (s, (i, tt)), (mut_slice_vals s, (vint w64 i ∷ [], tt))), tt) in
        use1 𝓛 (raw (inner-triple.pre z)) (id⊢ 𝓤 _) $
        -- [what `end_of` asks; a token; the slice is lent; the locals]
        calls_at ! (framed 𝓤 H 𝓜 𝓣) inner-triple inner-met z (and_then ! (get ! refl) (and_then ! (get ! refl) (no_more !))) (λ w.
        use1 𝓛 (later (some (λ (x : MutBor (List T.Denot)). ((‵ (flft κs.0 qs.0) ⊛ ‵ (flft κs.1.1.0 qs.1.1.0) ⊛ ‵ ftrue) ⊛ ‵ ((MutSlice (named 0) κs.0 P).own_val x (w ∷ []))) ⊛
        some (λ (ws : Unit {0} × (Unit {0} × Unit {0})). ‵ (lasts (inner.ended T) (κs.0, (κs.1.1.0, tt)) (s, (i, tt)) ws) ⊛ (‵ (slice_lends.LendsEnd P s i x) ⊛ raw (fact 𝓤 (x.now ≡ drop_list i s.now))))))) (id⊢ 𝓤 _) $
        await ! tt $ pick ! (λ x. split ! $ split ! $ move ! (2 ∷ []) $ pick ! (λ ws. split ! $ drop ! $ split ! $ move ! (1 ∷ []) $ heard ! _ (λ value.
        -- [the end is lent; the tokens; the end; a token; the slice is lent; the locals]
        move ! (2 ∷ []) $ fsplit3 ! $ fsplit3 ! $ feq_l ! (λ is. flt_l ! (λ counted. flt_l ! (λ small.
        lands_as ! (ap only is) refl (tt, (tt, (record { fits = counted }, tt))) $
        flt_i ! (length x.now * (mem P).size) (2 ^ 63) small $ flt_i ! (length x.now) (2 ^ 64) counted $ feq_i ! (List Val) (mut_slice_vals x) (mut_slice_vals x) refl $ fjoin3 ! $ fjoin3 ! $ move ! (4 ∷ 1 ∷ []) $
        use2 𝓛 (‵ (follows Row (Array P 0) self.ghost_name x.ghost_name (λ y. lends.with_entries self.now (take i s.now ++ y)))) (follows_then 𝓛 Row (Array P 0) (Array P 0) (lends.with_entries self.now) (λ y. take i s.now ++ y) self.ghost_name s.ghost_name x.ghost_name) $
        rewrite ! 0 (λ (xs : List T.Denot). ‵ (follows Row (Array P 0) self.ghost_name x.ghost_name (λ y. lends.with_entries self.now (take i xs ++ y)))) same refl $
        -- [the end follows; the end; the tokens; a token; the locals]
        returns ! (look_at ! 0 refl) $ free_all ! refl $
        suffices ! _ (ends_at 𝓛 (F.ended T) (stayed T) clauses passed (slice_val x.ref_ptr (length x.now)) x (tt, (tt, tt)) (tt, (tt, tt))) $
        move ! (2 ∷ []) $ split ! $ move ! (4 ∷ 1 ∷ []) $ join ! $ move ! (1 ∷ 0 ∷ []) $ join ! $ move ! (2 ∷ []) $
        nothing ! $ nothing ! $ fjoin ! $ nothing ! $ fjoin ! $ join ! $ move ! (1 ∷ 0 ∷ []) $ join ! $ frame ! $
        says ! (subst (λ (xs : List T.Denot). x.now ≡ drop_list i xs) same value) $ done !)))))))))))))))

  meets : Meets 𝓛 (F.ended T).signature (WpFn 𝓤 H 𝓣.C 𝓣.Λ (function T)) (closing 𝓛 (F.ended T) clauses)
  unfolding tables_of contract.CodeStep.c_Tables
  meets =
      walk_Meets 𝓛 (F.ended T) (stayed T) (Goes-spent_ref 𝓛 3 (0 ∷ []) tt (plain (λ κs. the_row (named_lft 3 1 tt κs) P)), (Goes-dropped 𝓛 3 (plain (λ _. usize)) yes (λ κs x f. refl), tt)) clauses
      (WpFn 𝓤 H 𝓣.C 𝓣.Λ (function T)) (WpFn-mono 𝓤 H 𝓛.laws (tables_of 𝓤 H 𝓜 𝓣) (function T))
      (walked 𝓛 (F.ended T) (stayed T) clauses (WpFn 𝓤 H 𝓣.C 𝓣.Λ (function T)) (λ κs. (mut_vals, (uint_vals w64, tt))) (λ κs. (mut_Tells (named 0) κs.0 (the_row (named_lft 3 1 tt κs) P), (uint_Tells w64, tt)))
      (λ κs qs bounds a g are.
      qed 𝓛 (raw (on_entry 𝓛 (F.ended T).signature κs qs a (mut_vals a.0, (vint w64 a.1.0 ∷ [], tt))) ∷ (raw (fact 𝓤 (κs.1.1.0 ⊑ T.lives)) ⊛ raw (fact 𝓤 (a.1.0 ≤ length a.0.now.slice.now))) ∷ []) ∵
      move ! (1 ∷ []) $ split ! $ heard ! _ (λ lives. heard ! _ (λ within. by ! (walk κs qs bounds a.0 a.1.0 are.1.0.1 lives within)))))

pub end_mut_spec : {M : Type 1} → stated.statement M
end_mut_spec 𝓤 𝓛 𝓜 𝓡 wired T laws =
    let outer-met = outer-thm.met 𝓤 𝓛 𝓜 𝓡 (code.calls-oxc_data_structures::slice_iter::SliceCursorMut::slice_mut 𝓡.env wired) T laws in
    let inner-met = inner-thm.met 𝓤 𝓛 𝓜 𝓡 (code.calls-oxc_data_structures::slice_iter::end_of 𝓡.env wired) T laws in
    let 𝓣' = tables 𝓤 𝓛.H 𝓜 𝓡 𝓡.env in
    entered 𝓤 𝓛.H (triple_of 𝓛 (F.ended T).signature (closing 𝓛 (F.ended T) (clauses T 𝓛 𝓜 𝓡 outer-met inner-met))) 𝓣'.C 𝓣'.Λ (#self (args T)) (function T)
    (code.unfolded 𝓤 𝓛.H 𝓜 𝓡 wired (T, tt)) (meets T 𝓛 𝓜 𝓡 outer-met inner-met)
