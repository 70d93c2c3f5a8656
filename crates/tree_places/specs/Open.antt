-- Opens the definitions of this crate, and of those below it, for proofs that compute: `unfolding all_open`.
use Rattle.tree_nodes.specs.Kinds.{is_kind, is_in}
use Rattle.tree_nodes.specs.Along.{first_column, other_columns}
use Rattle.tree_nodes.specs.Literals.{begins_number, by_raw, without_value, with_value, case_from, case_of, has_case, is_fixed, is_text, is_key}
use Rattle.tree_nodes.specs.Roles.{declared_by, written_by, is_special, role_at}
use Rattle.tree_nodes.specs.Standing.{is_named, is_var_alone, is_string_literal, is_plain_key, is_expression, declares_role, is_pattern, is_read, is_property_value, admits, group_admits, identifier_name, own_name, is_identifier, is_short, is_sound, stands, is_placed}
use Rattle.tree_places.specs.Scopes.{number_of, same_scope, is_inside, first_outwards, any_below}
use Rattle.tree_places.specs.Places.{directs, list_items, block_items, strict_in, side, naming_value, with_mark, pattern_on, field_setting, at_field, opened, unmarked, unnamed, hide, enter, met, walk, nowhere, before_all, nothing_yet, seen, scopes, sites, withs, is_place, names, named_by, places}
use Rattle.tree_places.specs.Renaming.{blind, is_property, marks, agreements, both, is_plain, plain_names}
use Rattle.tree_places.specs.Chosen.{given_name, or_own, chosen, spare_plain}
use Rattle.tree_places.specs.Lineage.{is_bare, opens_scope, opens_var_scope, ancestor, at_side, lines, openers, lines_of, openers_of, scope_number, scope_by, var_scope_by, found, found_by}

unfoldable pub all_open : Unit {0}
unfolding is_kind is_in first_column other_columns begins_number by_raw without_value with_value case_from case_of has_case is_fixed is_text is_key declared_by written_by is_special role_at is_named is_var_alone is_string_literal is_plain_key is_expression declares_role is_pattern is_read is_property_value admits group_admits identifier_name own_name is_identifier is_short is_sound stands is_placed number_of same_scope is_inside first_outwards any_below directs list_items block_items strict_in side naming_value with_mark pattern_on field_setting at_field opened unmarked unnamed hide enter met walk nowhere before_all nothing_yet seen scopes sites withs is_place names named_by places blind is_property marks agreements both is_plain plain_names given_name or_own chosen spare_plain is_bare opens_scope opens_var_scope ancestor at_side lines openers lines_of openers_of scope_number scope_by var_scope_by found found_by
all_open = tt
