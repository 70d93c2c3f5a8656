-- Opens the definitions of this crate, and of those below it, for proofs that compute: `unfolding all_open`.
use Rattle.syntax_lex.specs.Identifier.{is_identifier_name}
use Rattle.syntax_lex.specs.Keyword.{reserved_keywords, global_objects, is_reserved_keyword, is_global_object}
use Rattle.name_rules.specs.Options.{renames_root}
use Rattle.name_rules.specs.ShortNames.{more_characters, short, digits_onto, readable_name, candidate}
use Rattle.name_rules.specs.Kept.{is_root, is_place_of, is_of_root, is_exported, holds_with, is_reserved, role_kept, value_kept, has_value, same_pattern, gets_value, is_declared_with, is_assigned, name_kept, is_kept_alone, kept_alone, has_number, is_kept}
use Rattle.name_rules.specs.Groups.{group_of, group_at, members_of, members, leads, group_led_by, groups, groups_of, reaches, is_live, width, greatest, greatest_width}
use Rattle.name_rules.specs.FreeNames.{is_variable, is_unchanged, is_taken, is_spelled, is_free, first_untaken}
use Rattle.name_rules.specs.Slots.{least_missing, slots_live, slot_after, slots_after, slots, slots_of, number_of_slots, slot_of, weight}
use Rattle.name_rules.specs.GivenNames.{count_from, is_before, slot_name, slot_names, free_names, names_of_slots, new_name, given_names}
use Rattle.name_rules.specs.PrivateNumbers.{index_of, open_names, closed_count, nth_unlisted, number_in, private_number, new_private_name, is_of_open_class, with_private, new_names}
use Rattle.name_rules.specs.Mangled.{names_where, stays, changes, same_number, is_with, is_one_name, unshadowed, implied, cost}
use Rattle.name_rules.specs.SlotNames.{group_in, slot_in, named_by_slot}
use Rattle.name_rules.specs.ChosenNames.{place_number, choice_of, choices_of}
use Rattle.name_rules.specs.Bounds.{forbidden, candidate_limit}
use Rattle.scope_rules.specs.Open.{all_open as scope_rules_open}

unfoldable pub all_open : Unit {0}
unfolding scope_rules_open is_identifier_name reserved_keywords global_objects is_reserved_keyword is_global_object renames_root more_characters short digits_onto readable_name candidate is_root is_place_of is_of_root is_exported holds_with is_reserved role_kept value_kept has_value same_pattern gets_value is_declared_with is_assigned name_kept is_kept_alone kept_alone has_number is_kept group_of group_at members_of members leads group_led_by groups groups_of reaches is_live width greatest greatest_width is_variable is_unchanged is_taken is_spelled is_free first_untaken least_missing slots_live slot_after slots_after slots slots_of number_of_slots slot_of weight count_from is_before slot_name slot_names free_names names_of_slots new_name given_names index_of open_names closed_count nth_unlisted number_in private_number new_private_name is_of_open_class with_private new_names names_where stays changes same_number is_with is_one_name unshadowed implied cost group_in slot_in named_by_slot place_number choice_of choices_of forbidden candidate_limit
all_open = tt
