-- Small cases of messages in pieces, of payloads and of packets: 01, "What is learned".
use Prim.Native.Nat.{ℕ, zero, suc, ◌+◌}
use mathlib.Core.Path.{◌≡◌, refl}
use mathlib.Core.Bool.{true, false}
use mathlib.Core.List.{List, [], ◌∷◌, ◌++◌}
use mathlib.Core.Option.{none, some}
use lib.ListN.{length}
use Rattle.meaning.specs.Bytes.{Bytes}
use Rattle.meaning.specs.Learn.{Fragment, Known, Learnt, is_of, without, fragment_bytes, fragment_of, grow_in, hold_first, fits, middle, joined, last, observe, learn}
use Rattle.meaning.specs.declared.Limits.{Limits}
use Rattle.meaning.proofs.Examples.{M}
use Rattle.meaning.proofs.CasesOfLearning.{was, in_second}

abbrev piece : ℕ → Bytes → Fragment
piece p b = record { identifier = p; flags = 3; body = b }

abbrev seven_and_eight : List Fragment
seven_and_eight = piece 7 (1 ∷ 2 ∷ []) ∷ piece 8 (3 ∷ 4 ∷ 5 ∷ []) ∷ []

-- T = 8, M = 4
abbrev pub small : Limits
small = record { work = 65536; total = 8; most = 4 }

abbrev pieces : ℕ → ℕ → List Fragment
pieces zero p = []
pieces (suc n) p = piece p [] ∷ pieces n (p + 1)

pub record Pieces : Type 0 where
  pub its_own : (is_of 7 (piece 7 []) ≡ true) × (is_of 7 (piece 8 []) ≡ false)
  pub without_one : without 7 seven_and_eight ≡ piece 8 (3 ∷ 4 ∷ 5 ∷ []) ∷ []
  pub all_bytes : fragment_bytes seven_and_eight ≡ 5
  pub found : fragment_of 8 seven_and_eight ≡ some (piece 8 (3 ∷ 4 ∷ 5 ∷ []))
  pub not_found : fragment_of 9 seven_and_eight ≡ none
  -- in arrival order, and where it stands
  pub longer : grow_in 7 (9 ∷ []) seven_and_eight ≡ piece 7 (1 ∷ 2 ∷ 9 ∷ []) ∷ piece 8 (3 ∷ 4 ∷ 5 ∷ []) ∷ []
  pub longer_second : grow_in 8 (9 ∷ []) seven_and_eight ≡ piece 7 (1 ∷ 2 ∷ []) ∷ piece 8 (3 ∷ 4 ∷ 5 ∷ 9 ∷ []) ∷ []
  -- the low six bits; M is not tested on a first
  pub held : hold_first small 7 0x43 (1 ∷ 2 ∷ 3 ∷ 4 ∷ 5 ∷ []) [] ≡ piece 7 (1 ∷ 2 ∷ 3 ∷ 4 ∷ 5 ∷ []) ∷ []
  pub total_met : hold_first small 9 3 (1 ∷ 2 ∷ 3 ∷ []) seven_and_eight ≡ seven_and_eight ++ (piece 9 (1 ∷ 2 ∷ 3 ∷ []) ∷ [])
  pub total_passed : hold_first small 9 3 (1 ∷ 2 ∷ 3 ∷ 4 ∷ []) seven_and_eight ≡ seven_and_eight
  -- fewer than 256 others; the identifier's own does not count
  pub others_255 : length (hold_first small 9 3 [] (pieces 255 0x100)) ≡ 256
  pub others_256 : length (hold_first small 9 3 [] (pieces 256 0x100)) ≡ 256
  pub its_own_again : length (hold_first small 0x100 3 [] (pieces 256 0x100)) ≡ 256
  pub most_met : (fits small (piece 7 (1 ∷ 2 ∷ [])) (9 ∷ 9 ∷ []) seven_and_eight ≡ true) × (fits small (piece 7 (1 ∷ 2 ∷ [])) (9 ∷ 9 ∷ 9 ∷ []) seven_and_eight ≡ false)
  pub total_of_all : (fits (record { work = 0; total = 6; most = 4 }) (piece 7 (1 ∷ 2 ∷ [])) (9 ∷ 9 ∷ []) seven_and_eight ≡ false)
      × (fits (record { work = 0; total = 7; most = 4 }) (piece 7 (1 ∷ 2 ∷ [])) (9 ∷ 9 ∷ []) seven_and_eight ≡ true)
  pub middle_grows : middle small 7 (9 ∷ 9 ∷ []) seven_and_eight ≡ piece 7 (1 ∷ 2 ∷ 9 ∷ 9 ∷ []) ∷ piece 8 (3 ∷ 4 ∷ 5 ∷ []) ∷ []
  pub middle_discards : middle small 7 (9 ∷ 9 ∷ 9 ∷ []) seven_and_eight ≡ piece 8 (3 ∷ 4 ∷ 5 ∷ []) ∷ []
  pub middle_alone : middle small 9 (9 ∷ []) seven_and_eight ≡ seven_and_eight
  -- the first's flags and 0 as its two bytes
  pub both_joined : joined (piece 7 (1 ∷ 2 ∷ [])) (3 ∷ []) ≡ 3 ∷ 0 ∷ 1 ∷ 2 ∷ 3 ∷ []

pub piece_cases : Pieces
unfolding is_of without fragment_bytes fragment_of grow_in hold_first fits middle joined
piece_cases = record {
  its_own = (refl, refl);
  without_one = refl;
  all_bytes = refl;
  found = refl;
  not_found = refl;
  longer = refl;
  longer_second = refl;
  held = refl;
  total_met = refl;
  total_passed = refl;
  others_255 = refl;
  others_256 = refl;
  its_own_again = refl;
  most_met = (refl, refl);
  total_of_all = (refl, refl);
  middle_grows = refl;
  middle_discards = refl;
  middle_alone = refl;
  both_joined = refl;
}

-- ---- M in a PA message, whole and cut after its first bytes, on identifier 6 and then on others

abbrev pub limits : Limits
limits = record { work = 65536; total = 65536; most = 65536 }

abbrev pub front : Bytes
front = 0x00 ∷ 0x00 ∷ 0x07 ∷ 0x00 ∷ 0x00 ∷ 0x00 ∷ 0x30 ∷ 0x00 ∷ []

abbrev pub beside : List Fragment → Known → Known
beside fs k = record { plt_seen = k.plt_seen; packages = k.packages; map_heads = k.map_heads; map_room = k.map_room; data_set = k.data_set; fragments = fs }

abbrev pub of_six : ℕ → Bytes → Fragment
of_six flags b = record { identifier = 6; flags = flags; body = b }

abbrev nothing : Known → Learnt
nothing k = record { known = k; lost = 0 }

abbrev pub packet : ℕ → Bytes → Bytes
packet payload_type s = 0x7F ∷ 0x03 ∷ 0x00 ∷ 0x00 ∷ 0x00 ∷ 0x00 ∷ 0x61 ∷ 0x00 ∷ payload_type ∷ 0x00 ∷ 0x06 ∷ 1 ∷ 2 ∷ 3 ∷ 4 ∷ 5 ∷ 6 ∷ 7 ∷ 8 ∷ s

pub record Payloads : Type 0 where
  pub last_joins : last limits 6 M (beside (of_six 0 front ∷ []) was) ≡ nothing (beside [] in_second)
  pub last_too_long : last small 6 M (beside (of_six 0 front ∷ []) was) ≡ nothing (beside [] was)
  pub last_alone_lem : last limits 6 (front ++ M) was ≡ nothing was
  pub a-whole : observe limits 6 (0x00 ∷ 0x55 ∷ front ++ M) (beside (of_six 0 [] ∷ []) was) ≡ nothing (beside [] in_second)
  pub a_first : observe limits 6 (0x40 ∷ 0x55 ∷ front) (beside [] was) ≡ nothing (beside (of_six 0 front ∷ []) was)
  pub a-middle : observe limits 6 (0x80 ∷ 0x55 ∷ 9 ∷ []) (beside (of_six 0 front ∷ []) was) ≡ nothing (beside (of_six 0 (front ++ (9 ∷ [])) ∷ []) was)
  pub a-last : observe limits 6 (0xC0 ∷ 0x55 ∷ M) (beside (of_six 0 front ∷ []) was) ≡ nothing (beside [] in_second)
  -- a whole of one byte drops what is held, an empty payload nothing
  pub one_byte : observe limits 6 (0x00 ∷ []) (beside (of_six 0 front ∷ []) was) ≡ nothing (beside [] was)
  pub empty : observe limits 6 [] (beside (of_six 0 front ∷ []) was) ≡ nothing (beside (of_six 0 front ∷ []) was)
  -- 65 is in the data set
  pub never_of_data : observe limits 65 (0x00 ∷ 0x55 ∷ front ++ M) was ≡ nothing was
  pub signalling : learn limits was (packet 0x02 (0x00 ∷ 0x55 ∷ front ++ M)) ≡ nothing in_second
  pub media : learn limits was (packet 0x00 (0x00 ∷ 0x55 ∷ front ++ M)) ≡ nothing was
  pub unread : learn limits was (0x7F ∷ 0xFE ∷ 0x00 ∷ 0x00 ∷ []) ≡ nothing was

pub payload_cases : Payloads
unfolding last observe learn
payload_cases = record {
  last_joins = refl;
  last_too_long = refl;
  last_alone_lem = refl;
  a-whole = refl;
  a_first = refl;
  a-middle = refl;
  a-last = refl;
  one_byte = refl;
  empty = refl;
  never_of_data = refl;
  signalling = refl;
  media = refl;
  unread = refl;
}
