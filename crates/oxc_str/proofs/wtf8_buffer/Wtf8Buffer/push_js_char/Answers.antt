use Rattle.std.proofs.Common.{◌≡◌, OnOk, sym, subst, ◌∙◌, List, ℕ, ◌++◌}
use Rattle.oxc_str.proofs.Pushes.{one_is_text, one_count, one_units}
use Rattle.oxc_str.proofs.wtf8_buffer.Wtf8Buffer.push_js_char.Goals as goal

pub append-requires-clause-text : goal.append-requires-clause-text
append-requires-clause-text g c = one_is_text c.args.value _ c.encode-len.ensures.code_point c.encode-len.ensures.bytes

pub append-requires-clause-counted : goal.append-requires-clause-counted
append-requires-clause-counted g c =
    c.surrogate_count.ensures ∙ sym (one_count c.args.value _ c.encode-len.ensures.code_point c.encode-len.ensures.bytes)

pub returns-clause-ok : goal.returns-clause-ok
returns-clause-ok g c =
    subst (λ (l : List ℕ). OnOk c.append.result (c.append.new.self ≡ c.args.self.now ++ l)) (one_units c.args.value _ c.encode-len.ensures.code_point c.encode-len.ensures.bytes) c.append.ensures.ok
