use Rattle.std.proofs.Common.{refl, sym, ◌∙◌}
use Rattle.kept_names.proofs.NameCauses.{no_value_place, value_place}
use Rattle.kept_names.specs.Puts.{is_at_key}
use Rattle.kept_names.specs.Views.{bound_of}
use Rattle.place_list.specs.Tables.{place_of, setting_of, site_of}
use Rattle.kept_names.proofs.values.valued.Goals as goal

pub returns-then-may_get_value : goal.returns-then-may_get_value
unfolding bound_of place_of site_of setting_of
returns-then-may_get_value c = λ p d n.
    c.in_declarator.ensures d n
    ∙ value_place (bound_of p c.args.place.now) d n c.args.place.now.place.setting.declarator refl (sym (c.may_get_value.ensures p) ∙ c.if-may_get_value.true)

pub returns-else-may_get_value : goal.returns-else-may_get_value
unfolding is_at_key
returns-else-may_get_value c = λ p d n. no_value_place (bound_of p c.args.place.now) d n (sym (c.may_get_value.ensures p) ∙ c.if-may_get_value.false)
