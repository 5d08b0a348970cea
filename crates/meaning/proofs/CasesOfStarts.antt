-- Small cases of what the calls of a recorder answer, refused and not: 01, "Refusal numbers" and its example 12.
use Prim.Native.Nat.{ℕ}
use mathlib.Core.Path.{◌≡◌, refl, ap}
use mathlib.Core.Bool.{Bool, true, false, cond}
use mathlib.Core.List.{List, [], ◌∷◌}
use lib.ListN.{length, replicate}
use lib.Dec.{eqb}
use Rattle.meaning.specs.Bytes.{Bytes}
use Rattle.meaning.specs.Wishes.{all_off}
use Rattle.meaning.specs.Rules.{dropped}
use Rattle.meaning.specs.Record.{Record, state_of}
use Rattle.meaning.specs.Soundness.{sound, sound_refusal}
use Rattle.meaning.specs.Start.{no_words, fresh, blank, started}
use Rattle.meaning.specs.Push.{length_refusal, push_refusal, called}
use Rattle.meaning.specs.Dropped.{dropped_now}
use Rattle.meaning.specs.Series.{call_refusal}
use Rattle.meaning.specs.declared.Limits.{Limits}
use Rattle.meaning.specs.declared.Counts.{Counts}
use Rattle.meaning.proofs.Examples.{no_captions}

abbrev limits : Limits
limits = record { work = 4096; total = 10; most = 9 }

abbrev zeros : ℕ → List ℕ
zeros n = replicate n 0

abbrev started_record : ℕ → Record
started_record held_count = record {
  limits = limits;
  modes = all_off;
  options = no_captions;
  held_count = held_count;
  plt_seen = false;
  package_count = 0;
  map_count = 0;
  fragment_count = 0;
  leading = 0;
  data_set = no_words;
  packages = zeros 255;
  map_heads = zeros 64;
  fragment_heads = zeros 256;
}

abbrev packet12 : Bytes
packet12 = 0x7F ∷ 0xFF ∷ 0x00 ∷ 0x01 ∷ 0xAA ∷ []

abbrev counted : ℕ → ℕ → ℕ → Counts
counted bytes packets skipped = record { bytes = bytes; accepted = packets; written = packets; rewritten = 0; skipped = skipped; lost = 0 }

pub record Answers : Type 0 where
  -- P is 2,048, so a chunk has at most 2,048 bytes; the lowest number counts
  pub chunk : (length_refusal 4096 0 2048 2048 ≡ 0) × (length_refusal 4096 0 2049 9999 ≡ 5) × (length_refusal 4096 9 2049 0 ≡ 5)
  pub output : (length_refusal 4096 9 10 19 ≡ 0) × (length_refusal 4096 9 10 18 ≡ 6)
  pub sound_or_4 : (sound_refusal (started_record 0) 4096 10 32768 ≡ 0) × (sound_refusal (started_record 0) 4096 10 9 ≡ 4)
  pub push_0 : push_refusal (started_record 3) 4096 10 32768 5 8 ≡ 0
  pub push_4 : push_refusal (started_record 3) 4096 11 32768 9999 0 ≡ 4
  pub push_5 : push_refusal (started_record 3) 4096 10 32768 2049 0 ≡ 5
  pub push_6 : push_refusal (started_record 3) 4096 10 32768 5 7 ≡ 6
  pub call : (call_refusal limits (fresh []) (packet12, 5) ≡ 0) × (call_refusal limits (fresh []) (packet12, 4) ≡ 6)
  pub call_held : (call_refusal limits (record { held = 1 ∷ 2 ∷ []; known = (fresh []).known }) (packet12, 6) ≡ 6)
      × (call_refusal limits (record { held = 1 ∷ 2 ∷ []; known = (fresh []).known }) (packet12, 7) ≡ 0)
  -- all zero, and unsound with any rooms
  pub blank_zero : (blank.held_count ≡ 0) × (blank.plt_seen ≡ false) × (blank.package_count ≡ 0) × (blank.limits.work ≡ 0) × (blank.options.eit ≡ false)
  pub blank_unsound : (sound_refusal blank 0 0 32768 ≡ 4) × (sound_refusal blank 4096 10 32768 ≡ 4)
  pub start : started limits all_off no_captions (zeros 32768) ≡ record { number = 0; out = []; counts = counted 0 0 0; handed = started_record 0 }
  pub no_start : started limits all_off no_captions (zeros 32767) ≡ record { number = 3; out = []; counts = counted 0 0 0; handed = blank }
  -- 01's example 12, by the record
  pub taken : called (started_record 0) (zeros 4096) (zeros 10) (zeros 32768) packet12 5
      ≡ record { number = 0; out = packet12 ∷ []; counts = counted 5 1 0; handed = started_record 0 }
  pub then_held : called (started_record 0) (zeros 4096) (zeros 10) (zeros 32768) (0x00 ∷ []) 1
      ≡ record { number = 0; out = []; counts = counted 0 0 0; handed = started_record 1 }
  -- refused, the record comes back as it was
  pub refused : called (started_record 0) (zeros 4096) (zeros 10) (zeros 32768) packet12 4 ≡ record { number = 6; out = []; counts = counted 0 0 0; handed = started_record 0 }
  pub none_dropped : dropped_now blank [] [] [] ≡ 0

pub answers : Answers
unfolding no_words length_refusal sound_refusal push_refusal call_refusal blank started called dropped_now fresh
answers = record {
  chunk = (refl, refl, refl);
  output = (refl, refl);
  sound_or_4 = (refl, refl);
  push_0 = refl;
  push_4 = refl;
  push_5 = refl;
  push_6 = refl;
  call = (refl, refl);
  call_held = (refl, refl);
  blank_zero = (refl, refl, refl, refl, refl);
  blank_unsound = (refl, refl);
  start = refl;
  no_start = refl;
  taken = refl;
  then_held = refl;
  refused = refl;
  none_dropped = refl;
}

-- of a sound record, what the rules drop in the state that it and the rooms hold
pub dropped_in_state : (r : Record) (work bodies : Bytes) (map_room : List ℕ) → sound r (length work) (length bodies) (length map_room) ≡ true
    → dropped_now r work bodies map_room ≡ dropped r.options (state_of r work bodies map_room).known
unfolding dropped_now sound_refusal
dropped_in_state r work bodies map_room e = ap (λ (b : Bool). cond (eqb (cond b 0 4) 0) (dropped r.options (state_of r work bodies map_room).known) 0) e
