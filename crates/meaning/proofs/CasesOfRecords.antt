-- Small cases of the record: how its numbers are packed, and how it holds a state. 01, "Rooms and their ends".
use Prim.Native.Nat.{ℕ}
use mathlib.Core.Path.{◌≡◌, refl}
use mathlib.Core.Bool.{true, false}
use mathlib.Core.List.{List, [], ◌∷◌}
use lib.ListN.{replicate}
use Rattle.meaning.specs.Wishes.{all_off}
use Rattle.meaning.specs.Learn.{Fragment}
use Rattle.meaning.specs.Record.{State, slots, Record, pack_pair, pair_of, fragment_head, fragment_identifier, fragment_flags, fragment_length, record_of, bodies_of, room_of, lens, packed_in, fragments_in, state_of}
use Rattle.meaning.specs.Soundness.{rising, distinct, sound, firsts, identifiers}
use Rattle.meaning.specs.declared.Limits.{Limits}
use Rattle.meaning.specs.declared.Service.TheVariants.{Only}
use Rattle.meaning.specs.declared.Options.{Options}

-- ---- numbers: 16 bits and 16; identifier, flags in 8 bits, length in 40

abbrev piece : Fragment
piece = record { identifier = 2; flags = 3; body = 7 ∷ 8 ∷ [] }

abbrev pieces : List Fragment
pieces = piece ∷ record { identifier = 4; flags = 5; body = 9 ∷ [] } ∷ []

abbrev heads : List ℕ
heads = 0x2030000000002 ∷ 0x4050000000001 ∷ []

pub record Packed : Type 0 where
  pub filled_up : slots 4 (7 ∷ 8 ∷ []) ≡ 7 ∷ 8 ∷ 0 ∷ 0 ∷ []
  pub pair : (pack_pair (1, 2) ≡ 0x10002) × (pair_of 0x10002 ≡ (1, 2)) × (pair_of 0xFFFF ≡ (0, 0xFFFF))
  pub head : fragment_head piece ≡ 0x2030000000002
  pub parts : (fragment_identifier 0x2030000000004 ≡ 2) × (fragment_flags 0x2030000000004 ≡ 3) × (fragment_length 0x2030000000004 ≡ 4)
  pub in_turn : packed_in heads (7 ∷ 8 ∷ 9 ∷ 0 ∷ []) ≡ pieces
  pub sum_of_lengths : lens heads ≡ 3
  pub rises : (rising (1 ∷ 2 ∷ 5 ∷ []) ≡ true) × (rising (1 ∷ 1 ∷ []) ≡ false) × (rising (1 ∷ 3 ∷ 2 ∷ []) ≡ false)
  pub none_twice : (distinct (3 ∷ 1 ∷ 2 ∷ []) ≡ true) × (distinct (3 ∷ 1 ∷ 3 ∷ []) ≡ false) × (distinct (3 ∷ 1 ∷ 1 ∷ []) ≡ false)
  pub firsts : firsts ((1, 2) ∷ (3, 4) ∷ []) ≡ 1 ∷ 3 ∷ []
  pub of_fragments : identifiers pieces ≡ 2 ∷ 4 ∷ []
  pub one_after_the_other : bodies_of pieces ≡ 7 ∷ 8 ∷ 9 ∷ []

pub packed : Packed
unfolding slots pack_pair pair_of fragment_head fragment_identifier fragment_flags fragment_length packed_in lens rising distinct bodies_of
packed = record {
  filled_up = refl;
  pair = (refl, refl, refl);
  head = refl;
  parts = (refl, refl, refl);
  in_turn = refl;
  sum_of_lengths = refl;
  rises = (refl, refl, refl);
  none_twice = (refl, refl, refl);
  firsts = refl;
  of_fragments = refl;
  one_after_the_other = refl;
}

-- ---- a room of five bytes: none leads, one, both; a number above the count is taken as the count

pub record InRoom : Type 0 where
  pub none_leads : (fragments_in 0 heads (0 ∷ 0 ∷ 7 ∷ 8 ∷ 9 ∷ []) ≡ pieces) × (room_of 0 pieces (0 ∷ 0 ∷ []) ≡ 0 ∷ 0 ∷ 7 ∷ 8 ∷ 9 ∷ [])
  pub one_leads : (fragments_in 1 heads (7 ∷ 8 ∷ 0 ∷ 0 ∷ 9 ∷ []) ≡ pieces) × (room_of 1 pieces (0 ∷ 0 ∷ []) ≡ 7 ∷ 8 ∷ 0 ∷ 0 ∷ 9 ∷ [])
  pub both_lead : (fragments_in 2 heads (7 ∷ 8 ∷ 9 ∷ 0 ∷ 0 ∷ []) ≡ pieces) × (room_of 2 pieces (0 ∷ 0 ∷ []) ≡ 7 ∷ 8 ∷ 9 ∷ 0 ∷ 0 ∷ [])
  pub above : fragments_in 9 heads (7 ∷ 8 ∷ 9 ∷ 0 ∷ 0 ∷ []) ≡ pieces
  pub no_free_byte : (fragments_in 0 heads (7 ∷ 8 ∷ 9 ∷ []) ≡ pieces) × (fragments_in 1 heads (7 ∷ 8 ∷ 9 ∷ []) ≡ pieces)

pub in_room : InRoom
unfolding fragments_in packed_in lens room_of bodies_of
in_room = record {
  none_leads = (refl, refl);
  one_leads = (refl, refl);
  both_lead = (refl, refl);
  above = refl;
  no_free_byte = (refl, refl);
}

-- ---- a state and its record

abbrev limits : Limits
limits = record { work = 4096; total = 10; most = 9 }

abbrev options : Options
options = record { service = Only 1; caption = true; carousel = true; eit = true; other = true }

abbrev state : State
state = record {
  held = 0x7F ∷ 0x01 ∷ [];
  known = record { plt_seen = true; packages = (1, 5) ∷ (2, 6) ∷ []; map_heads = (5, 1) ∷ []; map_room = 0x77 ∷ 1 ∷ []; data_set = 4 ∷ []; fragments = piece ∷ [] };
}

abbrev holding : Record
holding = record {
  limits = limits;
  modes = all_off;
  options = options;
  held_count = 2;
  plt_seen = true;
  package_count = 2;
  map_count = 1;
  fragment_count = 1;
  leading = 2;
  data_set = 4 ∷ [];
  packages = 0x10005 ∷ 0x20006 ∷ replicate 253 0;
  map_heads = 0x50001 ∷ replicate 63 0;
  fragment_heads = 0x2030000000002 ∷ replicate 255 0;
}

pub record Kept : Type 0 where
  pub as_record : record_of limits all_off options 2 state ≡ holding
  pub as_state : state_of holding (0x7F ∷ 0x01 ∷ 0xEE ∷ []) (7 ∷ 8 ∷ 0xEE ∷ []) (0x77 ∷ 1 ∷ []) ≡ state
  pub is_sound : sound holding 4096 10 32768 ≡ true

pub kept : Kept
unfolding record_of state_of sound
kept = record {
  as_record = refl;
  as_state = refl;
  is_sound = refl;
}
