use Rattle.std.proofs.Common.{ℕ, List, ap, map, ◌∙◌}
use Rattle.std.proofs.lemmas.Result.{IfOk-weaker}
use Rattle.json_text.specs.Json.{Items, list}
use Rattle.json_text.specs.Layout.{compact}
use Rattle.json_text.specs.Text.{text_of}
use Rattle.name_map.specs.Written.{old_names_value}
use Rattle.oxc_estree.specs.Open.{items_of, number}
use Rattle.tool_commands.proofs.MapTexts.{mapped_written, numbers_listed, pairs_items, pairs_listed}
use Rattle.tool_commands.proofs.mapped_text.mapped_text.Goals as goal

pub returns : goal.returns
returns c =
    IfOk-weaker c.joined.result _ _ (λ s e. e ∙ mapped_written c.args.program.now c.args.map.now c.as_str.result.now c.as_str-2.result.now c.as_str-3.result.now
    (c.as_str.ensures.value ∙ c.in_ok-node.ensures)
    (c.as_str-2.ensures.value ∙ c.in_ok-names.ensures ∙ ap (λ (xs : Items). text_of compact (list xs))
    (ap pairs_items c.as_slice.ensures.value ∙ pairs_listed c.in_ok-pairs.pairs.items ∙ ap old_names_value (c.in_ok-pairs.ensures ∙ c.names.ensures)))
    (c.as_str-3.ensures.value ∙ c.in_ok-marks.ensures ∙ ap (λ (xs : Items). text_of compact (list xs))
    (ap (λ (ns : List ℕ). items_of (map number ns)) c.marks.ensures ∙ numbers_listed c.args.map.now.marks)))
    c.joined.ensures
