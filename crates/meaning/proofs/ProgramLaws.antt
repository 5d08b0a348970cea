-- What holds of the two programs for every input: its first three bytes say what is asked for, and no call is refused. Rests on
-- SoundnessLaws, for how many bytes can be held, and on SeriesLaws.
use Prim.Native.Nat.{ℕ, zero, suc, ◌+◌, ◌-◌, ◌≤◌, ◌<◌}
use mathlib.Core.Path.{◌≡◌, refl, sym, ap, ◌∙◌, subst}
use mathlib.Core.Bool.{true, ◌||◌, cond}
use mathlib.Core.List.{List, [], ◌∷◌, ◌++◌, map, map-append}
use native.Mathlib.Omega.{arith}
use lib.ListN.{length, take, drop, replicate, length-take, length-replicate}
use lib.Seq.{get_or-take}
use lib.Dec.{ltb}
use borrow.Author.Tests.{le-leb, le-ltb}
use Rattle.meaning.specs.Bytes.{Bytes, be16_at}
use Rattle.meaning.specs.Readers.{walk, walk_past}
use Rattle.meaning.specs.Rooms.{packet_limit, good_work_room, good_fragment_room}
use Rattle.meaning.specs.Record.{State}
use Rattle.meaning.specs.Calls.{counts_of}
use Rattle.meaning.specs.Start.{fresh}
use Rattle.meaning.specs.Push.{push, length_refusal}
use Rattle.meaning.specs.Series.{call_refusal, series}
use Rattle.meaning.specs.Wishes.{wants_assets}
use Rattle.meaning.specs.Programs.{input_refused, input_options, input_refusal, chunk, program_limits, program_lent, program_calls, Chunks}
use Rattle.meaning.specs.declared.Options.{Options}
use Rattle.meaning.specs.declared.Modes.{Modes}
use Rattle.meaning.proofs.SoundnessLaws.{HoldsState, fresh_holds, series_holds}
use Rattle.meaning.proofs.SeriesLaws.{joined, alone, series_one}

-- ---- the first three bytes

by_flags : (n flags : ℕ) → 2 ≤ n → (ltb n 2 || ltb 31 flags) ≡ ltb 31 flags
by_flags n flags h = rw (le-ltb n 2 h)

refused_by_three : (s : Bytes) → input_refused (take 3 s) ≡ input_refused s
unfolding input_refused
refused_by_three [] = refl
refused_by_three (a ∷ []) = refl
refused_by_three (a ∷ b ∷ []) = refl
refused_by_three (a ∷ b ∷ c ∷ s) = sym (by_flags (length (b ∷ c ∷ s)) a (omega arith))

pub options_by_three : (s : Bytes) → input_options (take 3 s) ≡ input_options s
unfolding input_options be16_at
options_by_three s =
    rw (get_or-take 3 s 0 0 (omega arith), get_or-take 3 s 1 0 (omega arith), get_or-take 3 s 2 0 (omega arith))

pub refusal_by_three : (s : Bytes) → input_refusal (take 3 s) ≡ input_refusal s
unfolding input_refusal
refusal_by_three s = λ i. cond (refused_by_three s i) 8 (cond (wants_assets (options_by_three s i)) 0 9)

-- ---- chunks

pub chunks_append : (cs ds : List Bytes) → Chunks cs → Chunks ds → Chunks (cs ++ ds)
chunks_append [] ds h k = k
chunks_append (c ∷ cs) ds h k = (h.0, h.1, chunks_append cs ds h.2 k)

chunks_behind : (cs ds : List Bytes) → Chunks (cs ++ ds) → Chunks ds
chunks_behind [] ds h = h
chunks_behind (c ∷ cs) ds h = chunks_behind cs ds h.2

walk_chunks : (k : ℕ) (s : Bytes) → Chunks (walk_past chunk k s).found
unfolding walk_past chunk
walk_chunks k [] = tt
walk_chunks zero (b ∷ s) =
    (simp length-take (omega arith), simp length-take (omega arith), walk_chunks (length s - length (drop 32768 (b ∷ s))) s)
walk_chunks (suc k) (b ∷ s) = walk_chunks k s

pub stream_chunks : (s : Bytes) → Chunks (walk chunk s).found
unfolding walk
stream_chunks s = walk_chunks 0 s

-- ---- no call is refused

pub limits_good : (good_work_room program_limits.work ≡ true) × (good_fragment_room program_limits.total program_limits.most ≡ true)
unfolding program_limits good_work_room good_fragment_room
limits_good = (refl, refl)

limit_is : packet_limit program_limits.work ≡ 32768
unfolding packet_limit program_limits
limit_is = refl

pub calls_none : (M : Modes) (o : Options) → program_calls M o [] ≡ record { out = []; counts = counts_of 0; state = fresh (replicate 32768 0) }
unfolding program_calls series
calls_none M o = refl

module _ (M : Modes) (o : Options) (w : wants_assets o ≡ true) where
  pub calls_hold : (cs : List Bytes) → HoldsState program_limits o (program_calls M o cs).state
  unfolding program_calls
  calls_hold cs =
      series_holds program_limits M o (fresh (replicate 32768 0)) (map program_lent cs) (omega (arith, limit_is)) (fresh_holds program_limits o (replicate 32768 0) (omega (arith, limit_is)) (length-replicate {A = ℕ} 32768 0) w)

  short_taken : (st : State) (c : Bytes) → length st.held < 32768 → length c ≤ 32768 → call_refusal program_limits st (program_lent c) ≡ 0
  unfolding call_refusal length_refusal packet_limit program_limits
  short_taken st c h k = rw (le-leb (length c) 32768 k, le-leb (length st.held + length c) 65536 (omega arith))

  -- Fewer than 32,768 bytes are held, so a chunk always finds room.
  pub call_taken : (cs : List Bytes) (c : Bytes) → length c ≤ 32768 → call_refusal program_limits (program_calls M o cs).state (program_lent c) ≡ 0
  call_taken cs c k = short_taken (program_calls M o cs).state c (omega (arith, (calls_hold cs).held_few, limit_is)) k

  -- Whatever the stream: each of its chunks has 1 to 32,768 bytes, and its call, after those of the chunks before it, is not refused.
  pub none_refused : (s : Bytes) (before : List Bytes) (c : Bytes) (behind : List Bytes) → (walk chunk s).found ≡ before ++ (c ∷ behind)
      → (1 ≤ length c) × (length c ≤ 32768) × (call_refusal program_limits (program_calls M o before).state (program_lent c) ≡ 0)
  none_refused s before c behind e =
      let h = chunks_behind before (c ∷ behind) (subst Chunks e (stream_chunks s)) in
      (h.0, h.1, call_taken before c h.1)

  -- ---- one chunk more

  pub calls_one : (cs : List Bytes) (c : Bytes) → length c ≤ 32768
      → program_calls M o (cs ++ (c ∷ [])) ≡ joined (program_calls M o cs) (alone (push program_limits M o (program_calls M o cs).state c))
  unfolding program_calls
  calls_one cs c k =
      ap (series program_limits M o (fresh (replicate 32768 0))) (map-append program_lent cs (c ∷ []))
      ∙ series_one program_limits M o (fresh (replicate 32768 0)) (map program_lent cs) (program_lent c) (call_taken cs c k)
