-- Small cases of what stands at the front of a run, of a packet's way to its payload, and of the messages in it.
use Prim.Native.Nat.{ℕ}
use mathlib.Core.Path.{◌≡◌, refl}
use mathlib.Core.Bool.{true, false}
use mathlib.Core.List.{[], ◌∷◌, ◌++◌}
use mathlib.Core.Option.{Option, none, some}
use lib.ListN.{replicate}
use Rattle.meaning.specs.Bytes.{Bytes}
use Rattle.meaning.specs.Packets.{size_of, is_type, candidate, followed, step_of, cut, cut_past}
use Rattle.meaning.specs.Mmtp.{by_header_type, compressed, offset_of, extension, MmtpHeader, mmtp_header, Mmtp, mmtp_of, is_signalling}
use Rattle.meaning.specs.declared.Step.TheVariants.{Packet, Skip, Keep}

-- ---- 01, "Finding packets": a packet of five bytes

abbrev five : Bytes
five = 0x7F ∷ 0xFF ∷ 0x00 ∷ 0x01 ∷ 0xAA ∷ []

pub record Starts : Type 0 where
  pub with_its_head : size_of (0x7F ∷ 0x03 ∷ 0x01 ∷ 0x02 ∷ []) ≡ 262
  pub types : (is_type 0x01 ≡ true) × (is_type 0x02 ≡ true) × (is_type 0x03 ≡ true) × (is_type 0xFE ≡ true) × (is_type 0xFF ≡ true)
  pub no_types : (is_type 0x00 ≡ false) × (is_type 0x04 ≡ false) × (is_type 0xFD ≡ false)
  pub at_the_limit : (candidate 5 five ≡ true) × (candidate 4 five ≡ false)
  pub other_front : (candidate 5 (0x7E ∷ 0xFF ∷ 0x00 ∷ 0x01 ∷ []) ≡ false) × (candidate 5 (0x7F ∷ 0x04 ∷ 0x00 ∷ 0x01 ∷ []) ≡ false)
  pub next_start : (followed (five ++ (0x7F ∷ [])) ≡ true) × (followed (five ++ (0x00 ∷ [])) ≡ false)
  pub run_ends : (followed five ≡ true) × (followed (0x7F ∷ 0xFF ∷ 0x00 ∷ 0x01 ∷ []) ≡ true)
  pub three_bytes_lem : step_of 100 (0x00 ∷ 0x01 ∷ 0x02 ∷ []) ≡ Keep
  pub no_start : step_of 100 (0x00 ∷ 0x01 ∷ 0x02 ∷ 0x03 ∷ []) ≡ Skip
  pub a-packet : step_of 100 five ≡ Packet 5
  pub its_end_past_the_run : step_of 100 (0x7F ∷ 0xFF ∷ 0x00 ∷ 0x02 ∷ 0xAA ∷ []) ≡ Keep
  pub a-run : cut 100 (0x00 ∷ five ++ (0x7F ∷ 0xFF ∷ 0x00 ∷ 0x02 ∷ 0xBB ∷ []))
      ≡ record { packets = five ∷ []; skipped = 1; held = 0x7F ∷ 0xFF ∷ 0x00 ∷ 0x02 ∷ 0xBB ∷ [] }
  pub two_packets : cut 100 (five ++ (0x7F ∷ 0x01 ∷ 0x00 ∷ 0x00 ∷ [])) ≡ record { packets = five ∷ (0x7F ∷ 0x01 ∷ 0x00 ∷ 0x00 ∷ []) ∷ []; skipped = 0; held = [] }
  pub past_two : cut_past 100 2 (0x00 ∷ 0x00 ∷ five) ≡ record { packets = five ∷ []; skipped = 0; held = [] }

pub starts : Starts
unfolding size_of is_type candidate followed step_of cut
starts = record {
  with_its_head = refl;
  types = (refl, refl, refl, refl, refl);
  no_types = (refl, refl, refl);
  at_the_limit = (refl, refl);
  other_front = (refl, refl);
  next_start = (refl, refl);
  run_ends = (refl, refl);
  three_bytes_lem = refl;
  no_start = refl;
  a-packet = refl;
  its_end_past_the_run = refl;
  a-run = refl;
  two_packets = refl;
  past_two = refl;
}

-- ---- 01, "From packet to payload": offsets in the TLV payload

-- an IP header of n bytes whose first is b, the source port, the destination port
abbrev ip : ℕ → ℕ → ℕ → Bytes
ip b n port = b ∷ replicate n 0 ++ (0x00 ∷ port ∷ [])

pub record Places : Type 0 where
  pub full_header : (by_header_type 0x20 ≡ some (23, false)) × (by_header_type 0x60 ≡ some (45, false))
  pub no_header : (by_header_type 0x21 ≡ some (3, true)) × (by_header_type 0x61 ≡ some (3, true))
  pub other_header : by_header_type 0x22 ≡ none
  pub header_type_is_there : (compressed (0x00 ∷ 0x00 ∷ 0x61 ∷ []) ≡ some (3, true)) × (compressed (0x00 ∷ 0x61 ∷ []) ≡ none)
  pub by_type : offset_of 0x03 (0x00 ∷ 0x00 ∷ 0x20 ∷ []) ≡ some (23, false)
  pub v4 : offset_of 0x01 (ip 0x45 21 122) ≡ some (28, false)
  pub v4_clock : offset_of 0x01 (ip 0x45 21 123) ≡ none
  pub v4_port_cut : offset_of 0x01 (ip 0x46 21 122) ≡ none
  pub v6 : offset_of 0x02 (ip 0x60 41 122) ≡ some (48, false)
  pub v6_clock : offset_of 0x02 (ip 0x60 41 123) ≡ none
  pub control : offset_of 0xFE (0x00 ∷ 0x00 ∷ 0x61 ∷ []) ≡ none

pub places : Places
unfolding by_header_type compressed offset_of
places = record {
  full_header = (refl, refl);
  no_header = (refl, refl);
  other_header = refl;
  header_type_is_there = (refl, refl);
  by_type = refl;
  v4 = refl;
  v4_clock = refl;
  v4_port_cut = refl;
  v6 = refl;
  v6_clock = refl;
  control = refl;
}

-- ---- the MMTP head: identifier 0x8123, payload type 2, timestamp and sequence number

abbrev head : ℕ → Bytes
head flags = flags ∷ 0x42 ∷ 0x81 ∷ 0x23 ∷ 1 ∷ 2 ∷ 3 ∷ 4 ∷ 5 ∷ 6 ∷ 7 ∷ 8 ∷ []

abbrev told : MmtpHeader
told = record { identifier = 0x8123; payload_type = 2 }

-- a counter, and an extension of type 0x0909 with two bytes
abbrev counter : Bytes
counter = 1 ∷ 1 ∷ 1 ∷ 1 ∷ []

abbrev extra : Bytes
extra = 9 ∷ 9 ∷ 0 ∷ 2 ∷ 5 ∷ 5 ∷ []

abbrev packet : ℕ → Bytes → Bytes
packet header s = 0x7F ∷ 0x03 ∷ 0x00 ∷ 0x00 ∷ 0x00 ∷ 0x00 ∷ header ∷ s

abbrev read : Bytes → Option Mmtp
read payload = some (record { identifier = 0x8123; payload_type = 2; rewritable = true; payload = payload })

pub record Heads : Type 0 where
  pub twelve_bytes : mmtp_header (head 0x00 ++ (7 ∷ [])) ≡ some (told, 7 ∷ [])
  pub with_counter : mmtp_header (head 0x20 ++ (counter ++ (7 ∷ []))) ≡ some (told, 7 ∷ [])
  pub with_extension : mmtp_header (head 0x02 ++ (extra ++ (7 ∷ []))) ≡ some (told, 7 ∷ [])
  pub with_both : mmtp_header (head 0x22 ++ (counter ++ (extra ++ (7 ∷ [])))) ≡ some (told, 7 ∷ [])
  pub counter_cut : mmtp_header (head 0x20 ++ (1 ∷ 1 ∷ 1 ∷ [])) ≡ none
  pub extension_alone : extension (extra ++ (7 ∷ [])) ≡ some (5 ∷ 5 ∷ [], 7 ∷ [])
  pub whole : mmtp_of (packet 0x61 (head 0x00 ++ (7 ∷ 8 ∷ []))) ≡ read (7 ∷ 8 ∷ [])
  -- a head that ends at the last byte is read; one byte less passes
  pub no_payload : mmtp_of (packet 0x21 (head 0x00)) ≡ read []
  pub head_cut : mmtp_of (packet 0x21 (0x00 ∷ 0x42 ∷ 0x81 ∷ 0x23 ∷ 1 ∷ 2 ∷ 3 ∷ 4 ∷ 5 ∷ 6 ∷ 7 ∷ [])) ≡ none
  pub fixed : mmtp_of (packet 0x20 (replicate 20 0 ++ head 0x00)) ≡ some (record { identifier = 0x8123; payload_type = 2; rewritable = false; payload = [] })
  pub offset_not_there : mmtp_of (packet 0x60 (head 0x00)) ≡ none
  pub three_bytes_lem : mmtp_of (0x7F ∷ 0x03 ∷ 0x00 ∷ []) ≡ none
  pub signalling : is_signalling (record { identifier = 0; payload_type = 2; rewritable = true; payload = [] }) ≡ true
  pub others : is_signalling (record { identifier = 2; payload_type = 0; rewritable = true; payload = [] }) ≡ false

pub heads : Heads
unfolding mmtp_header extension mmtp_of
heads = record {
  twelve_bytes = refl;
  with_counter = refl;
  with_extension = refl;
  with_both = refl;
  counter_cut = refl;
  extension_alone = refl;
  whole = refl;
  no_payload = refl;
  head_cut = refl;
  fixed = refl;
  offset_not_there = refl;
  three_bytes_lem = refl;
  signalling = refl;
  others = refl;
}
