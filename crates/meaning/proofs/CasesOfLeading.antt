-- Small cases of how fragments stand in their room: how many lead after a payload, and what it is to move each byte once. 02, [3].
use Prim.Native.Nat.{ℕ}
use mathlib.Core.Path.{◌≡◌, refl}
use mathlib.Core.Bool.{true, false}
use mathlib.Core.List.{List, [], ◌∷◌}
use lib.ListN.{take, drop}
use Rattle.meaning.specs.Bytes.{Bytes}
use Rattle.meaning.specs.Learn.{Fragment, Known, over, hold_first, grow_in, without, is_of, fragment_bytes}
use Rattle.meaning.specs.Leading.{index_of, has_fragment, leading_after, leading_observed, leading_over, leading_pushed}
use Rattle.meaning.specs.Moves.{Move, moved_out, among, taken_by, written_by}
use Rattle.meaning.specs.declared.Service.TheVariants.{Every}
use Rattle.meaning.specs.declared.Options.{Options}
use Rattle.meaning.proofs.CasesOfLearning.{was}
use Rattle.meaning.proofs.CasesOfFragments.{limits, beside, packet}

abbrev piece : ℕ → Bytes → Fragment
piece p b = record { identifier = p; flags = 3; body = b }

abbrev three : List Fragment
three = piece 7 (1 ∷ []) ∷ piece 8 (2 ∷ []) ∷ piece 9 (3 ∷ []) ∷ []

-- ---- how many lead

pub record Leads : Type 0 where
  pub index : (index_of 7 three ≡ 0) × (index_of 9 three ≡ 2) × (index_of 6 three ≡ 3)
  pub has : (has_fragment 9 three ≡ true) × (has_fragment 6 three ≡ false)
  -- the one that grew is the last that leads, whatever led before
  pub grew : (leading_after 8 three (grow_in 8 (5 ∷ []) three) 3 ≡ 2) × (leading_after 8 three (grow_in 8 (5 ∷ []) three) 0 ≡ 2)
  -- what went leaves those before it
  pub went : (leading_after 8 three (without 8 three) 3 ≡ 1) × (leading_after 8 three (without 8 three) 0 ≡ 1)
  -- behind a first that is held nothing stands
  pub came : leading_after 6 three (hold_first (record { work = 0; total = 9; most = 9 }) 6 3 (4 ∷ []) three) 1 ≡ 4
  pub came_again : leading_after 7 three (hold_first (record { work = 0; total = 9; most = 9 }) 7 3 (4 ∷ []) three) 1 ≡ 3
  -- with no fragment before and after nothing changes, and a number that is handed in stays as it is
  pub stayed : (leading_after 6 three three 2 ≡ 2) × (leading_after 6 three three 1000 ≡ 1000)

pub leads : Leads
unfolding index_of has_fragment leading_after is_of without grow_in hold_first fragment_bytes
leads = record {
  index = (refl, refl, refl);
  has = (refl, refl);
  grew = (refl, refl);
  went = (refl, refl);
  came = refl;
  came_again = refl;
  stayed = (refl, refl);
}

-- ---- a payload, packets, a push: identifier 6 stands between two others; 65 is in the data set

abbrev six : List Fragment
six = piece 5 (1 ∷ []) ∷ piece 6 (2 ∷ []) ∷ piece 65 (3 ∷ []) ∷ []

abbrev k : Known
k = beside six was

abbrev middle_of_six : Bytes
middle_of_six = 0x80 ∷ 0x55 ∷ 9 ∷ []

abbrev whole_of_six : Bytes
whole_of_six = 0x00 ∷ 0x55 ∷ []

-- no captions, and all
abbrev some_wanted : Options
some_wanted = record { service = Every; caption = false; carousel = true; eit = true; other = true }

abbrev all_wanted : Options
all_wanted = record { service = Every; caption = true; carousel = true; eit = true; other = true }

abbrev chunk_of_six : Bytes
chunk_of_six = 0x7F ∷ 0x03 ∷ 0x00 ∷ 0x12 ∷ drop 4 (packet 0x02 middle_of_six)

pub record Followed : Type 0 where
  pub observed : (leading_observed limits 6 middle_of_six k 0 ≡ 2) × (leading_observed limits 6 whole_of_six k 3 ≡ 1)
  pub not_observed : (leading_observed limits 6 [] k 3 ≡ 3) × (leading_observed limits 65 middle_of_six k 1 ≡ 1)
  pub one_packet : leading_over limits k (packet 0x02 middle_of_six ∷ []) 0 ≡ 2
  pub no_signalling : leading_over limits k (packet 0x00 middle_of_six ∷ []) 0 ≡ 0
  pub unread : leading_over limits k ((0x7F ∷ 0xFE ∷ 0x00 ∷ 0x00 ∷ []) ∷ []) 0 ≡ 0
  -- what the first taught, the second meets
  pub in_turn : (leading_over limits k (packet 0x02 whole_of_six ∷ packet 0x02 middle_of_six ∷ []) 3 ≡ 1)
      × (leading_over limits k (packet 0x02 middle_of_six ∷ packet 0x02 whole_of_six ∷ []) 3 ≡ 1)
  pub none : leading_over limits k [] 3 ≡ 3
  -- held bytes and chunk are one run
  pub pushed : leading_pushed limits some_wanted (record { held = take 5 chunk_of_six; known = k }) (drop 5 chunk_of_six) 0 ≡ 2
  pub copied : leading_pushed limits all_wanted (record { held = []; known = k }) chunk_of_six 0 ≡ 0

pub followed : Followed
unfolding leading_observed leading_over leading_pushed
followed = record {
  observed = (refl, refl);
  not_observed = (refl, refl);
  one_packet = refl;
  no_signalling = refl;
  unread = refl;
  in_turn = (refl, refl);
  none = refl;
  pushed = refl;
  copied = refl;
}

-- ---- moves

abbrev move : ℕ → ℕ → ℕ → Move
move a n b = record { from = a; count = n; to = b }

pub record Moved : Type 0 where
  pub none : moved_out (1 ∷ 2 ∷ 3 ∷ []) [] (1 ∷ 2 ∷ 3 ∷ []) ≡ 1 ∷ 2 ∷ 3 ∷ []
  -- out of what was there, in whatever order they are made
  pub across : moved_out (1 ∷ 2 ∷ 3 ∷ 9 ∷ []) (move 2 1 0 ∷ move 0 1 2 ∷ []) (1 ∷ 2 ∷ 3 ∷ []) ≡ 3 ∷ 2 ∷ 1 ∷ []
  pub body : moved_out (1 ∷ 2 ∷ 3 ∷ 9 ∷ []) (move 3 1 1 ∷ []) (1 ∷ 2 ∷ 3 ∷ []) ≡ 1 ∷ 9 ∷ 3 ∷ []
  pub in_block : (among 2 2 3 ≡ true) × (among 4 2 3 ≡ true) × (among 5 2 3 ≡ false) × (among 1 2 3 ≡ false)
  pub taken : (taken_by (move 0 2 5 ∷ move 1 1 0 ∷ []) 1 ≡ 2) × (taken_by (move 0 2 5 ∷ move 1 1 0 ∷ []) 0 ≡ 1)
  pub written : (written_by (move 0 2 5 ∷ move 4 1 6 ∷ []) 6 ≡ 2) × (written_by (move 0 2 5 ∷ move 4 1 6 ∷ []) 5 ≡ 1)

pub moved : Moved
unfolding moved_out over among taken_by written_by
moved = record {
  none = refl;
  across = refl;
  body = refl;
  in_block = (refl, refl, refl, refl);
  taken = (refl, refl);
  written = (refl, refl);
}
