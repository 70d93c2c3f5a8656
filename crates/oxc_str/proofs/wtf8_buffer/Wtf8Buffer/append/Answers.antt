use Rattle.std.proofs.Common.{◌≡◌, ◌++◌, length-append, arith, ap, ◌∙◌, List, ℕ}
use Rattle.json_text.specs.Units.{units_of}
use Rattle.oxc_str.proofs.Seams.{apart_after, seam_after, count_le}
use Rattle.oxc_str.proofs.wtf8_buffer.Wtf8Buffer.append.Goals as goal

pub overflow_add-self : goal.overflow_add-self
overflow_add-self g c =
    let p = apart_after c.self.inside.bytes.items c.args.more.now _ _ _ c.as_slice.ensures.value c.self.invariant c.requires.text c.requires.counted c.in-None.ensures in
    omega (arith, count_le _ _ p.is, length-append c.self.inside.bytes.items c.args.more.now, c.in_ok-extend_from_slice-in-None.ensures.len)

pub invariant_of-self-in-None : goal.invariant_of-self-in-None
invariant_of-self-in-None g c =
    let p = apart_after c.self.inside.bytes.items c.args.more.now _ _ _ c.as_slice.ensures.value c.self.invariant c.requires.text c.requires.counted c.in-None.ensures in
    rw c.in_ok-extend_from_slice-in-None.ensures.items p.is

pub returns-in_ok-extend_from_slice-in-None-clause-ok : goal.returns-in_ok-extend_from_slice-in-None-clause-ok
returns-in_ok-extend_from_slice-in-None-clause-ok g c =
    let p = apart_after c.self.inside.bytes.items c.args.more.now _ _ _ c.as_slice.ensures.value c.self.invariant c.requires.text c.requires.counted c.in-None.ensures in
    let new : units_of c.extend_from_slice.new.self.items ≡ units_of c.self.inside.bytes.items ++ units_of c.args.more.now =
    rw c.in_ok-extend_from_slice-in-None.ensures.items p.units_are in
    new ∙ ap (λ (l : List ℕ). l ++ units_of c.args.more.now) c.self.view_is

pub join-requires-clause-end : goal.join-requires-clause-end
join-requires-clause-end g c =
    (seam_after c.self.inside.bytes.items c.args.more.now _ _ _ _ c.as_slice.ensures.value c.self.invariant c.requires.text c.requires.counted c.in-Some.ensures).long_before

pub join-requires-clause-front : goal.join-requires-clause-front
join-requires-clause-front g c =
    (seam_after c.self.inside.bytes.items c.args.more.now _ _ _ _ c.as_slice.ensures.value c.self.invariant c.requires.text c.requires.counted c.in-Some.ensures).long_after

pub overflow_sub-self : goal.overflow_sub-self
overflow_sub-self g c =
    (seam_after c.self.inside.bytes.items c.args.more.now _ _ _ _ c.as_slice.ensures.value c.self.invariant c.requires.text c.requires.counted c.in-Some.ensures).some_before

pub overflow_add-self-in-Some : goal.overflow_add-self-in-Some
overflow_add-self-in-Some g c =
    let before = count_le _ _ c.self.invariant in
    let after = count_le c.args.more.now _ (record { text = c.requires.text; counted = c.requires.counted }) in
    omega (arith, before, after)

pub invariant_of-self-in-Some : goal.invariant_of-self-in-Some
invariant_of-self-in-Some g c =
    let s = seam_after c.self.inside.bytes.items c.args.more.now _ _ _ _ c.as_slice.ensures.value c.self.invariant c.requires.text c.requires.counted c.in-Some.ensures in
    rw (c.in_ok-join-in-Some.ensures.ok, c.encode-len.ensures.bytes) s.pushed.is

pub returns-in_ok-join-in-Some-clause-ok : goal.returns-in_ok-join-in-Some-clause-ok
returns-in_ok-join-in-Some-clause-ok g c =
    let s = seam_after c.self.inside.bytes.items c.args.more.now _ _ _ _ c.as_slice.ensures.value c.self.invariant c.requires.text c.requires.counted c.in-Some.ensures in
    let new : units_of c.join.new.bytes.items ≡ units_of c.self.inside.bytes.items ++ units_of c.args.more.now =
    rw (c.in_ok-join-in-Some.ensures.ok, c.encode-len.ensures.bytes) s.pushed.units_are in
    new ∙ ap (λ (l : List ℕ). l ++ units_of c.args.more.now) c.self.view_is
