-- 01's refusal numbers and each boundary of a room: 01, "Refusal numbers" and "Rooms and their ends".
use mathlib.Core.Path.{◌≡◌, refl}
use mathlib.Core.Bool.{Bool, true, false}
use Rattle.std.specs.Prelude.{Ok, Err, Some, None}
use Rattle.meaning.specs.Wishes.{wants_assets}
use Rattle.meaning.specs.declared.Options.{Options}
use Rattle.meaning.specs.declared.Service.TheVariants.{Every}
use Rattle.meaning.specs.Narrow.{narrow_refusal}
use Rattle.meaning.specs.Rooms.{packet_limit, good_work_room, good_fragment_room, good_map_room}
use Rattle.meaning.specs.Refusals.{number_of, answer_number, narrowing_number, narrowing_changed, narrowing_length}
use Rattle.meaning.specs.Start.{start_refusal}
use Rattle.meaning.specs.declared.Refusal.TheVariants.{WorkRoom, FragmentRoom, MapRoom, Unsound, Long, Short, Tally, Input, Wishes}

pub record Numbers : Type 0 where
  pub starts : (number_of WorkRoom ≡ 1) × (number_of FragmentRoom ≡ 2) × (number_of MapRoom ≡ 3)
  pub calls : (number_of Unsound ≡ 4) × (number_of Long ≡ 5) × (number_of Short ≡ 6)
  pub others : (number_of Tally ≡ 7) × (number_of Input ≡ 8) × (number_of Wishes ≡ 9)
  pub answers : (answer_number (Ok tt) ≡ 0) × (answer_number (Err Tally) ≡ 7)
  pub narrowings : (narrowing_number (Err Long) ≡ 5) × (narrowing_number (Ok None) ≡ 0) × (narrowing_number (Ok (Some 9)) ≡ 0)
  pub changes : (narrowing_changed (Err Long) ≡ false) × (narrowing_changed (Ok None) ≡ false) × (narrowing_changed (Ok (Some 9)) ≡ true)
  pub lengths : (narrowing_length (Err Long) ≡ 0) × (narrowing_length (Ok None) ≡ 0) × (narrowing_length (Ok (Some 9)) ≡ 9)

pub numbers : Numbers
unfolding number_of answer_number narrowing_number narrowing_changed narrowing_length
numbers = record {
  starts = (refl, refl, refl);
  calls = (refl, refl, refl);
  others = (refl, refl, refl);
  answers = (refl, refl);
  narrowings = (refl, refl, refl);
  changes = (refl, refl, refl);
  lengths = (refl, refl, refl);
}

-- captions and other assets wanted or not
abbrev wishing : Bool → Bool → Options
wishing caption other = record { service = Every; caption = caption; carousel = false; eit = false; other = other }

pub record Rooms : Type 0 where
  -- the smaller of 65,539 and W/2 rounded down
  pub limits : (packet_limit 4096 ≡ 2048) × (packet_limit 4097 ≡ 2048) × (packet_limit 131078 ≡ 65539) × (packet_limit 131080 ≡ 65539)
  pub work : (good_work_room 4095 ≡ false) × (good_work_room 4096 ≡ true) × (good_work_room 131078 ≡ true) × (good_work_room 131079 ≡ false)
  pub total : (good_fragment_room 0 0 ≡ false) × (good_fragment_room 1 1 ≡ true) × (good_fragment_room 16777216 1 ≡ true) × (good_fragment_room 16777217 1 ≡ false)
  pub most : (good_fragment_room 9 0 ≡ false) × (good_fragment_room 9 9 ≡ true) × (good_fragment_room 9 10 ≡ false)
  pub maps : (good_map_room 32767 ≡ false) × (good_map_room 32768 ≡ true) × (good_map_room 32769 ≡ false)
  pub start : start_refusal 4096 1 1 32768 (wishing true false) ≡ 0
  -- the lowest number that applies
  pub start_work : start_refusal 4095 0 0 0 (wishing false false) ≡ 1
  pub start_fragments : start_refusal 4096 0 0 0 (wishing false false) ≡ 2
  pub start_maps : start_refusal 4096 1 1 0 (wishing false false) ≡ 3
  pub start_wishes : (start_refusal 4096 1 1 32768 (wishing false false) ≡ 9) × (start_refusal 4096 1 1 32768 (wishing false true) ≡ 0)
  pub narrowing : (narrow_refusal 65539 65539 ≡ 0) × (narrow_refusal 65540 65540 ≡ 5) × (narrow_refusal 9 8 ≡ 6) × (narrow_refusal 65540 8 ≡ 5)

pub rooms : Rooms
unfolding packet_limit good_work_room good_fragment_room good_map_room wants_assets start_refusal narrow_refusal
rooms = record {
  limits = (refl, refl, refl, refl);
  work = (refl, refl, refl, refl);
  total = (refl, refl, refl, refl);
  most = (refl, refl, refl);
  maps = (refl, refl, refl);
  start = refl;
  start_work = refl;
  start_fragments = refl;
  start_maps = refl;
  start_wishes = (refl, refl);
  narrowing = (refl, refl, refl, refl);
}
