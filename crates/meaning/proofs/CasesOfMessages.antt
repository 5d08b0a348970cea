-- Small cases of a payload's first byte and of the messages in it: 01, "What is learned".
use mathlib.Core.Path.{◌≡◌, refl}
use mathlib.Core.Bool.{true, false}
use mathlib.Core.List.{[], ◌∷◌, ◌++◌}
use mathlib.Core.Option.{none, some}
use Rattle.meaning.specs.Bytes.{Bytes}
use Rattle.meaning.specs.Messages.{indicator, aggregated, long_lengths, is_long, message_body, Message, message, read_each, in_body, messages}

pub record Flags : Type 0 where
  -- the top two bits: 0 whole, 1 first, 2 middle, 3 last
  pub whole : indicator 0x3F ≡ 0
  pub first : indicator 0x40 ≡ 1
  pub middle : indicator 0xBF ≡ 2
  pub last : indicator 0xC0 ≡ 3
  -- bit 0 means aggregated, bit 1 four-byte lengths
  pub bit0 : (aggregated 0xFE ≡ 0) × (aggregated 0x01 ≡ 1)
  pub bit1 : (long_lengths 0xFD ≡ false) × (long_lengths 0x02 ≡ true)

pub flags : Flags
unfolding indicator aggregated long_lengths
flags = record { whole = refl; first = refl; middle = refl; last = refl; bit0 = (refl, refl); bit1 = (refl, refl) }

-- ---- lengths of 32 bits for numbers 0, 0x8003, 0x7000 to 0x7FFF and from 0xF000

pub record Long : Type 0 where
  pub zero_and_data : (is_long 0 ≡ true) × (is_long 0x8003 ≡ true)
  pub beside : (is_long 1 ≡ false) × (is_long 0x8002 ≡ false) × (is_long 0x8004 ≡ false)
  pub range : (is_long 0x6FFF ≡ false) × (is_long 0x7000 ≡ true) × (is_long 0x7FFF ≡ true) × (is_long 0x8000 ≡ false)
  pub top : (is_long 0xEFFF ≡ false) × (is_long 0xF000 ≡ true) × (is_long 0xFFFF ≡ true)

pub long : Long
unfolding is_long
long = record { zero_and_data = (refl, refl); beside = (refl, refl, refl); range = (refl, refl, refl, refl); top = (refl, refl, refl) }

-- ---- messages: number, version, length, body

abbrev pa : Bytes
pa = 0x00 ∷ 0x00 ∷ 0x07 ∷ 0x00 ∷ 0x00 ∷ 0x00 ∷ 0x01 ∷ 0xAA ∷ []

abbrev short : Bytes
short = 0x80 ∷ 0x00 ∷ 0x07 ∷ 0x00 ∷ 0x02 ∷ 0xBB ∷ 0xCC ∷ []

abbrev pa_read : Message
pa_read = record { number = 0; body = 0xAA ∷ [] }

abbrev short_read : Message
short_read = record { number = 0x8000; body = 0xBB ∷ 0xCC ∷ [] }

pub record Read : Type 0 where
  pub by_32_bits : message_body true (0 ∷ 0 ∷ 0 ∷ 1 ∷ 7 ∷ 8 ∷ []) ≡ some (7 ∷ [], 8 ∷ [])
  pub by_16_bits : message_body false (0 ∷ 1 ∷ 7 ∷ 8 ∷ []) ≡ some (7 ∷ [], 8 ∷ [])
  pub a-pa : message (pa ++ (9 ∷ [])) ≡ some (pa_read, 9 ∷ [])
  pub a-short : message (short ++ (9 ∷ [])) ≡ some (short_read, 9 ∷ [])
  pub length_past_the_end : message (0x80 ∷ 0x00 ∷ 0x07 ∷ 0x00 ∷ 0x03 ∷ 0xBB ∷ 0xCC ∷ []) ≡ none
  -- what does not read inside its own length is stepped over
  pub stepped_over : read_each (pa ∷ (0x80 ∷ []) ∷ short ∷ []) ≡ pa_read ∷ short_read ∷ []
  -- one message; what follows it is not read
  pub one : messages (0x00 ∷ 0x55 ∷ pa ++ short) ≡ pa_read ∷ []
  -- an aggregate, by lengths of two bytes and of four; a length past the end stops the walk
  pub many : messages (0x01 ∷ 0x55 ∷ 0x00 ∷ 0x08 ∷ pa ++ (0x00 ∷ 0x07 ∷ short)) ≡ pa_read ∷ short_read ∷ []
  pub many_long : messages (0x03 ∷ 0x55 ∷ 0x00 ∷ 0x00 ∷ 0x00 ∷ 0x08 ∷ pa) ≡ pa_read ∷ []
  -- 0x10000, not 1 and then 8
  pub four_bytes_each : messages (0x03 ∷ 0x55 ∷ 0x00 ∷ 0x01 ∷ 0x00 ∷ 0x00 ∷ 0x08 ∷ pa) ≡ []
  pub stopped : messages (0x01 ∷ 0x55 ∷ 0x00 ∷ 0x08 ∷ pa ++ (0x00 ∷ 0x08 ∷ short)) ≡ pa_read ∷ []
  pub body_alone : (in_body 0 false pa ≡ pa_read ∷ []) × (in_body 1 false (0x00 ∷ 0x07 ∷ short) ≡ short_read ∷ [])
  -- a first is no whole payload, and one byte none at all
  pub no_whole : (messages (0x40 ∷ 0x55 ∷ pa) ≡ []) × (messages (0x00 ∷ []) ≡ []) × (messages [] ≡ [])

pub read : Read
unfolding message_body message read_each messages
read = record {
  by_32_bits = refl;
  by_16_bits = refl;
  a-pa = refl;
  a-short = refl;
  length_past_the_end = refl;
  stepped_over = refl;
  one = refl;
  many = refl;
  many_long = refl;
  four_bytes_each = refl;
  stopped = refl;
  body_alone = (refl, refl);
  no_whole = (refl, refl, refl);
}
