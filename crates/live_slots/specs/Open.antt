-- Opens the definitions of this crate, and of those below it, for proofs that compute: `unfolding all_open`.
use Rattle.live_slots.specs.Buckets.{put_in, values_at}
use Rattle.live_slots.specs.Extents.{extent_at, extent_of, extents}
use Rattle.live_slots.specs.Leaders.{home_led, home_number, homes_led, leaders_by, leaders_from, leaders_in, led_from, row_of, rows_of}
use Rattle.live_slots.specs.Marks.{mark_group, reached}
use Rattle.live_slots.specs.Slots.{busiest_home, counted, first_slot, put_first, refers_at, slot_count, slot_in, weight_by}
use Rattle.scope_marks.specs.Open.{all_open as scope_marks_open}

unfoldable pub all_open : Unit {0}
unfolding scope_marks_open put_in values_at extent_at extent_of extents home_led home_number homes_led leaders_by leaders_from leaders_in led_from row_of rows_of mark_group reached busiest_home counted first_slot put_first refers_at slot_count slot_in weight_by
all_open = tt
