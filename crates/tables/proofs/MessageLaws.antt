-- A part behind its length, whatever the length's width, and a message at the front of a run, as the functions of messages meet them.
-- Rests on the reading laws of meaning.
use Prim.Native.Nat.{ℕ, ◌+◌, ◌-◌, ◌≤◌, ◌<◌}
use mathlib.Core.Path.{◌≡◌, refl, ◌∙◌}
use mathlib.Core.Bool.{Bool, true, false, cond}
use mathlib.Core.Option.{none, some}
use native.Mathlib.Decide.{dec_lt}
use native.Mathlib.Omega.{arith}
use lib.ListN.{length, drop}
use Rattle.meaning.specs.Bytes.{Bytes, be16_at, be32_at}
use Rattle.meaning.specs.Readers.{Out, bind, bytes}
use Rattle.meaning.specs.Messages.{is_long, message_body, message}
use Rattle.meaning.proofs.Reading.{byte_at, byte_none, u16_at, u16_none, bytes_at, bytes_none, counted16_at, counted16_none, counted32_at, counted32_none}
use Rattle.tables.specs.Answers.{FrameIs, MessageIs}
use Rattle.std.specs.Prelude.{Some}
use Rattle.tables.specs.declared.messages.Frame.{Frame}

-- ---- o reads m bytes at a, and the code has m as n

module _ (o : Out Bytes) (s : Bytes) (at a m n : ℕ) (is : n ≡ m) (reads : o ≡ bytes m (drop a s)) where
  pub part_cut : length s - a < n → o ≡ none
  part_cut h = reads ∙ bytes_none s a m (omega arith)

  pub part_at : at < a → a + n ≤ length s → FrameIs o s at (Some (record { start = a; end = a + n }))
  part_at k h =
      let w : a + n - a ≡ m = omega arith in
      (k, omega arith, h, reads ∙ rw (bytes_at s a m (a + n) h (omega arith), w))

-- ---- a length of either width

pub width_some : (long : Bool) → 0 < cond long 4 2
width_some true = omega arith
width_some false = omega arith

-- what is cut
pub frame_none : (s : Bytes) (at : ℕ) (long : Bool) → length s < at + cond long 4 2 → message_body long (drop at s) ≡ none
unfolding message_body
frame_none s at true h = counted32_none s at h
frame_none s at false h = counted16_none s at h

-- and what is not
pub frame_reads : (s : Bytes) (at : ℕ) (long : Bool) → at + cond long 4 2 ≤ length s
    → message_body long (drop at s) ≡ bytes (cond long (be32_at s at) (be16_at s at)) (drop (at + cond long 4 2) s)
unfolding message_body
frame_reads s at true h = counted32_at s at h
frame_reads s at false h = counted16_at s at h

-- ---- a message

module _ (s : Bytes) where
  pub message_short : length s < 3 → message s ≡ none
  unfolding message
  message_short h =
      elim (dec_lt (length s) 2) [
        | yes k ↦ rw (u16_none s 0 (omega arith))
        | no k ↦ rw (u16_at s 0 2 (omega arith) refl, byte_none s 2 (omega arith))
      ]

  -- its number is n, and `long` is the width of its length
  module _ (n : ℕ) (long : Bool) (is : n ≡ be16_at s 0) (width : long ≡ is_long n) (three : 3 ≤ length s) where
    head : message s ≡ bind (message_body long (drop 3 s)) (λ b t. some (record { number = n; body = b }, t))
    unfolding message
    head = rw (u16_at s 0 2 (omega arith) refl, byte_at s 2 3 (omega arith) refl, ← is, ← width)

    pub message_cut : message_body long (drop 3 s) ≡ none → message s ≡ none
    message_cut e = head ∙ rw e

    pub message_at : (b : Frame) → FrameIs (message_body long (drop 3 s)) s 3 (Some b) → MessageIs (message s) s (Some (record { number = n; start = b.start; end = b.end }))
    message_at b f = (f.0, f.1, f.2, head ∙ rw f.3)
