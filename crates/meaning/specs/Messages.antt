-- The messages of a signalling payload: 01, "What is learned".
use Rattle.std.specs.Prelude.{ℕ, ◌/◌, ◌%◌, zero, suc, Bool, cond, true, false, ◌&&◌, ◌||◌, List, [], ◌∷◌, eqb, leb}
use Rattle.std.proofs.Math.Option.{none, some}
use Rattle.meaning.specs.Bytes.{Bytes}
use Rattle.meaning.specs.Readers.{Out, Reader, ◌>>=◌, give, byte, u16, counted16, counted32, many, walk}

-- ---- the first byte of a payload

-- The top two bits: 0 whole, 1 first, 2 middle, 3 last.
unfoldable pub indicator : ℕ → ℕ
indicator b = b / 64 % 4

-- Bit 0: several messages, each behind its length.
unfoldable pub aggregated : ℕ → ℕ
aggregated b = b % 2

-- Bit 1: those lengths have four bytes.
unfoldable pub long_lengths : ℕ → Bool
long_lengths b = eqb (b / 2 % 2) 1

-- ---- a message

pub record Message : Type 0 where
  pub number : ℕ
  pub body : Bytes

-- The numbers whose messages have a length of 32 bits.
unfoldable pub is_long : ℕ → Bool
is_long n = eqb n 0 || eqb n 0x8003 || leb 0xF000 n || (leb 0x7000 n && leb n 0x7FFF)

-- A body behind its length, of 32 bits or of 16.
unfoldable pub message_body : Bool → Reader Bytes
unfolding counted16 counted32
message_body true = counted32
message_body false = counted16

unfoldable pub message : Reader Message
unfolding byte u16 is_long message_body
message = do
  message_id ← u16
  version ← byte
  body ← message_body (is_long message_id)
  give (record { number = message_id; body = body })

-- ---- the messages of a payload

-- What was read, if anything, before the messages found after it.
abbrev pub cons_message : Out Message → List Message → List Message
cons_message none ms = ms
cons_message (some x) ms = x.0 ∷ ms

-- A piece of an aggregate that holds no readable message is stepped over.
unfoldable pub read_each : List Bytes → List Message
unfolding message
read_each [] = []
read_each (f ∷ fs) = cons_message (message f) (read_each fs)

-- One message, or the pieces of an aggregate, each behind its length.
unfoldable pub in_body : ℕ → Bool → Bytes → List Message
unfolding message walk message_body read_each
in_body zero long s = cons_message (message s) []
in_body (suc many) long s = read_each (walk (message_body long) s).found

-- Those of a whole payload: its first byte has the flags, its second is the counter.
unfoldable pub messages : Bytes → List Message
unfolding indicator aggregated long_lengths in_body
messages [] = []
messages (flags ∷ []) = []
messages (flags ∷ counter ∷ s) = cond (eqb (indicator flags) 0) (in_body (aggregated flags) (long_lengths flags) s) []
