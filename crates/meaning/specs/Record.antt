-- The filter's record, and how it and the lent rooms hold a state: 01, "Rooms and their ends".
use Rattle.std.specs.Prelude.{ℕ, ◌+◌, ◌*◌, ◌/◌, ◌%◌, ◌-◌, Bool, length, take, drop, replicate}
use mathlib.Core.List.{List, [], ◌∷◌, ◌++◌, map, flatten}
use Rattle.meaning.specs.Bytes.{Bytes}
use Rattle.meaning.specs.Sets.{Words}
use Rattle.meaning.specs.Lists.{sum}
use Rattle.meaning.specs.Learn.{Fragment, Known}
use Rattle.meaning.specs.declared.Options.{Options}
use Rattle.meaning.specs.declared.Modes.{Modes}
use Rattle.meaning.specs.declared.Limits.{Limits}

-- What a recorder has between two calls: the bytes held, and what is known.
pub record State : Type 0 where
  pub held : Bytes
  pub known : Known

-- A list in an array of n slots, unused slots zero.
unfoldable pub slots : ℕ → List ℕ → List ℕ
slots n xs = xs ++ replicate (n - length xs) 0

-- ---- the record

pub record Record : Type 0 where
  pub limits : Limits
  pub modes : Modes
  pub options : Options
  pub held_count : ℕ
  pub plt_seen : Bool
  pub package_count : ℕ
  pub map_count : ℕ
  pub fragment_count : ℕ
  -- how many fragments lead: their bodies stand at the front of the fragment room, the others' at its end
  pub leading : ℕ
  -- 1,024 words
  pub data_set : Words
  -- 255 slots, 64 slots, 256 slots
  pub packages : List ℕ
  pub map_heads : List ℕ
  pub fragment_heads : List ℕ

-- A package (service and identifier) and a map (identifier and count) are one number of 32 bits each.
unfoldable pub pack_pair : ℕ × ℕ → ℕ
pack_pair x = x.0 * 65536 + x.1

unfoldable pub pair_of : ℕ → ℕ × ℕ
pair_of n = (n / 65536, n % 65536)

-- A fragment's head is one of 64: identifier, flags in 8 bits, length in 40.
unfoldable pub fragment_head : Fragment → ℕ
fragment_head f = f.identifier * 281474976710656 + f.flags * 1099511627776 + length f.body

unfoldable pub fragment_identifier : ℕ → ℕ
fragment_identifier h = h / 281474976710656

unfoldable pub fragment_flags : ℕ → ℕ
fragment_flags h = h / 1099511627776 % 256

unfoldable pub fragment_length : ℕ → ℕ
fragment_length h = h % 1099511627776

-- The record that holds a state, with so many fragments leading.
unfoldable pub record_of : Limits → Modes → Options → ℕ → State → Record
unfolding slots pack_pair fragment_head
record_of L M o leading st = record {
  limits = L;
  modes = M;
  options = o;
  held_count = length st.held;
  plt_seen = st.known.plt_seen;
  package_count = length st.known.packages;
  map_count = length st.known.map_heads;
  fragment_count = length st.known.fragments;
  leading = leading;
  data_set = st.known.data_set;
  packages = slots 255 (map pack_pair st.known.packages);
  map_heads = slots 64 (map pack_pair st.known.map_heads);
  fragment_heads = slots 256 (map fragment_head st.known.fragments);
}

-- ---- the state in a record and the three rooms: the held bytes are the first of the work room; the bodies of the leading fragments stand one
-- after the other at the front of the fragment room, those of the others so at its end, and what is between is free (02, [3]). Every number
-- of leading ones has a sense: where it is above the count, all lead.

-- The fragments' bodies one after the other.
unfoldable pub bodies_of : List Fragment → Bytes
unfolding flatten
bodies_of fs = flatten (map (λ f. f.body) fs)

-- A fragment room that holds them, with these bytes free.
unfoldable pub room_of : ℕ → List Fragment → Bytes → Bytes
unfolding bodies_of
room_of leading fs free = bodies_of (take leading fs) ++ (free ++ bodies_of (drop leading fs))

-- The sum of the lengths in heads.
unfoldable pub lens : List ℕ → ℕ
unfolding sum fragment_length
lens hs = sum (map fragment_length hs)

-- Fragments whose bodies stand one after the other at the front of some bytes.
unfoldable pub packed_in : List ℕ → Bytes → List Fragment
unfolding fragment_identifier fragment_flags fragment_length
packed_in [] bodies = []
packed_in (h ∷ hs) bodies =
    record { identifier = fragment_identifier h; flags = fragment_flags h; body = take (fragment_length h) bodies } ∷ packed_in hs (drop (fragment_length h) bodies)

unfoldable pub fragments_in : ℕ → List ℕ → Bytes → List Fragment
unfolding packed_in lens
fragments_in leading hs bodies =
    packed_in (take leading hs) bodies ++ packed_in (drop leading hs) (drop (length bodies - lens (drop leading hs)) bodies)

unfoldable pub state_of : Record → Bytes → Bytes → List ℕ → State
unfolding pair_of fragments_in
state_of r work bodies map_room = record {
  held = take r.held_count work;
  known = record {
    plt_seen = r.plt_seen;
    packages = map pair_of (take r.package_count r.packages);
    map_heads = map pair_of (take r.map_count r.map_heads);
    map_room = map_room;
    data_set = r.data_set;
    fragments = fragments_in r.leading (take r.fragment_count r.fragment_heads) bodies;
  };
}
