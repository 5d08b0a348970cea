-- Each way to be unsound: every clause of 01's "Unsound" in its order and its words, and that of 02 [1], as a record that is unsound by this clause alone and
-- the nearest one that is sound: the two differ in one number, by one where a note says no other. The program `unsound` runs the same.
use Prim.Native.Nat.{ℕ, zero, suc, ◌-◌, ◌*◌}
use mathlib.Core.Path.{◌≡◌, refl}
use mathlib.Core.Bool.{Bool, true, false}
use mathlib.Core.List.{List, [], ◌∷◌}
use lib.ListN.{replicate}
use Rattle.meaning.specs.Wishes.{all_off}
use Rattle.meaning.specs.Record.{Record}
use Rattle.meaning.specs.Soundness.{rising, distinct, sound_rooms, sound_held, sound_packages, sound_maps, sound_fragments, sound}
use Rattle.meaning.specs.declared.Limits.{Limits}
use Rattle.meaning.specs.declared.Service.TheVariants.{Every, Only}
use Rattle.meaning.specs.declared.Options.{Options}

-- ---- records that differ in few things

abbrev Slots : Type 0
Slots = ℕ × List ℕ

abbrev no_slots : Slots
no_slots = (0, [])

abbrev one_service_lem : Options
one_service_lem = record { service = Only 1; caption = true; carousel = true; eit = true; other = true }

-- no captions, and other assets or not
abbrev without_captions_lem : Bool → Options
without_captions_lem other = record { service = Only 1; caption = false; carousel = true; eit = true; other = other }

abbrev copy_all : Options
copy_all = record { service = Every; caption = true; carousel = true; eit = true; other = true }

abbrev recording : Limits → Options → ℕ → Slots → Slots → Slots → Record
recording L o held_count packages map_heads fragment_heads = record {
  limits = L;
  modes = all_off;
  options = o;
  held_count = held_count;
  plt_seen = true;
  package_count = packages.0;
  map_count = map_heads.0;
  fragment_count = fragment_heads.0;
  leading = 0;
  data_set = replicate 1024 0;
  packages = packages.1;
  map_heads = map_heads.1;
  fragment_heads = fragment_heads.1;
}

-- W, T and M of the record, and the lengths of the rooms that are lent.
abbrev of_rooms : ℕ → ℕ → ℕ → ℕ → ℕ → ℕ → Bool
of_rooms W T M w t n = sound (recording (record { work = W; total = T; most = M }) one_service_lem 0 no_slots no_slots no_slots) w t n

-- The rooms are the start's: P is 2,048, T is 16.
abbrev in_rooms : Options → ℕ → Slots → Slots → Slots → Bool
in_rooms o held_count packages map_heads fragment_heads =
    sound (recording (record { work = 4096; total = 16; most = 16 }) o held_count packages map_heads fragment_heads) 4096 16 32768

abbrev of_held : Options → ℕ → Bool
of_held o n = in_rooms o n no_slots no_slots no_slots

abbrev of_packages : ℕ → List ℕ → Bool
of_packages n ps = in_rooms one_service_lem 0 (n, ps) no_slots no_slots

abbrev of_maps : ℕ → List ℕ → Bool
of_maps n ms = in_rooms one_service_lem 0 no_slots (n, ms) no_slots

abbrev of_fragments : ℕ → List ℕ → Bool
of_fragments n fs = in_rooms one_service_lem 0 no_slots no_slots (n, fs)

-- n numbers that rise by a step, up to `last` steps.
unfoldable pub rows : ℕ → ℕ → ℕ → List ℕ
rows zero last step = []
rows (suc n) last step = (last - n) * step ∷ rows n last step

-- The first is unsound, the second sound.
abbrev Beside : Bool → Bool → Type 0
Beside a b = (a ≡ false) × (b ≡ true)

-- ---- 01, "Unsound"

pub record Unsound : Type 0 where
  -- "a room's length differs from the start's"
  pub work_room_longer : Beside (of_rooms 4096 16 16 4097 16 32768) (of_rooms 4096 16 16 4096 16 32768)
  pub work_room_shorter : Beside (of_rooms 4097 16 16 4096 16 32768) (of_rooms 4096 16 16 4096 16 32768)
  pub fragment_room_longer : Beside (of_rooms 4096 16 16 4096 17 32768) (of_rooms 4096 16 16 4096 16 32768)
  pub fragment_room_shorter : Beside (of_rooms 4096 17 16 4096 16 32768) (of_rooms 4096 16 16 4096 16 32768)
  pub map_room_longer : Beside (of_rooms 4096 16 16 4096 16 32769) (of_rooms 4096 16 16 4096 16 32768)
  pub map_room_shorter : Beside (of_rooms 4096 16 16 4096 16 32767) (of_rooms 4096 16 16 4096 16 32768)
  -- "W, T or M out of range"; where T is 0 every M is, too
  pub W-below : Beside (of_rooms 4095 16 16 4095 16 32768) (of_rooms 4096 16 16 4096 16 32768)
  pub W-above : Beside (of_rooms 131079 16 16 131079 16 32768) (of_rooms 131078 16 16 131078 16 32768)
  pub T-below : Beside (of_rooms 4096 0 1 4096 0 32768) (of_rooms 4096 1 1 4096 1 32768)
  pub T-above : Beside (of_rooms 4096 16777217 16 4096 16777217 32768) (of_rooms 4096 16777216 16 4096 16777216 32768)
  pub M-below : Beside (of_rooms 4096 16 0 4096 16 32768) (of_rooms 4096 16 1 4096 16 32768)
  pub M-above : Beside (of_rooms 4096 16 17 4096 16 32768) (of_rooms 4096 16 16 4096 16 32768)
  -- "held bytes above P-1, or any in copy-all"
  pub held : Beside (of_held one_service_lem 2048) (of_held one_service_lem 2047)
  pub held_in_copy_all : Beside (of_held copy_all 1) (of_held copy_all 0)
  -- "over 255 packages, 256 fragments or 64 maps"; all slots hold what is sound
  pub packages : Beside (of_packages 256 (rows 255 255 0x10000)) (of_packages 255 (rows 255 255 0x10000))
  pub fragments : Beside (of_fragments 257 (rows 256 256 0x1000000000000)) (of_fragments 256 (rows 256 256 0x1000000000000))
  pub maps : Beside (of_maps 65 (rows 64 64 0x10000)) (of_maps 64 (rows 64 64 0x10000))
  -- "a map count above 255"
  pub map_count : Beside (of_maps 1 (0x70100 ∷ [])) (of_maps 1 (0x700FF ∷ []))
  -- "services not strictly rising": the second as the first, though its identifier is higher; the second below the first, which is two
  -- away from one that rises
  pub service_equal : Beside (of_packages 2 (0x20007 ∷ 0x20009 ∷ [])) (of_packages 2 (0x20007 ∷ 0x30009 ∷ []))
  pub service_falling : Beside (of_packages 2 (0x20007 ∷ 0x10009 ∷ [])) (of_packages 2 (0x20007 ∷ 0x30009 ∷ []))
  -- "a map or fragment identifier twice", with another between the two
  pub map_twice : Beside (of_maps 3 (0x70001 ∷ 0x90001 ∷ 0x70001 ∷ [])) (of_maps 3 (0x70001 ∷ 0x90001 ∷ 0x80001 ∷ []))
  pub fragment_twice : Beside (of_fragments 3 (0x7000000000001 ∷ 0x9000000000001 ∷ 0x7000000000001 ∷ []))
      (of_fragments 3 (0x7000000000001 ∷ 0x9000000000001 ∷ 0x8000000000001 ∷ []))
  -- "fragment lengths adding up to more than T"
  pub fragment_lengths : Beside (of_fragments 2 (0x7000000000008 ∷ 0x9000000000009 ∷ [])) (of_fragments 2 (0x7000000000008 ∷ 0x9000000000008 ∷ []))
  -- 02 [1]: "a record with this wish and captions both off"
  pub wishes : Beside (of_held (without_captions_lem false) 0) (of_held (without_captions_lem true) 0)
  -- what slots hold that are not used makes nothing unsound
  pub unused : (of_packages 1 (0x20007 ∷ 0x10009 ∷ []) ≡ true) × (of_maps 1 (0x70001 ∷ 0x70100 ∷ []) ≡ true) × (of_fragments 1 (0x7000000000008 ∷ 0x7000000000009 ∷ []) ≡ true)

-- The last clause, of a drop set carried in the record, has no record: none is carried.
pub unsound : Unsound
unfolding rows rising distinct sound_rooms sound_held sound_packages sound_maps sound_fragments sound
unsound = record {
  work_room_longer = (refl, refl);
  work_room_shorter = (refl, refl);
  fragment_room_longer = (refl, refl);
  fragment_room_shorter = (refl, refl);
  map_room_longer = (refl, refl);
  map_room_shorter = (refl, refl);
  W-below = (refl, refl);
  W-above = (refl, refl);
  T-below = (refl, refl);
  T-above = (refl, refl);
  M-below = (refl, refl);
  M-above = (refl, refl);
  held = (refl, refl);
  held_in_copy_all = (refl, refl);
  packages = (refl, refl);
  fragments = (refl, refl);
  maps = (refl, refl);
  map_count = (refl, refl);
  service_equal = (refl, refl);
  service_falling = (refl, refl);
  map_twice = (refl, refl);
  fragment_twice = (refl, refl);
  fragment_lengths = (refl, refl);
  wishes = (refl, refl);
  unused = (refl, refl, refl);
}
