-- Small cases of plain IP: the internet checksum, which packets may be rewritten, and what becomes of their lengths and checksums. The sums
-- were worked out apart. 02 [2]; RFC 1071, 791, 8200, 768.
use Prim.Native.Nat.{ℕ}
use mathlib.Core.Path.{◌≡◌, refl}
use mathlib.Core.Bool.{true, false}
use mathlib.Core.List.{[], ◌∷◌, ◌++◌}
use mathlib.Core.Option.{none, some}
use lib.ListN.{take, drop, set}
use Rattle.meaning.specs.Bytes.{Bytes, with16}
use Rattle.meaning.specs.Checksums.{ones_sum, checksum, all_ones, non_zero, plus}
use Rattle.meaning.specs.Ip.{plain_ip, pseudo4, pseudo6, afresh}
use Rattle.meaning.specs.Wishes.{all_off}
use Rattle.meaning.specs.Narrow.{narrow_packet}
use Rattle.meaning.specs.declared.Modes.{Modes}
use Rattle.meaning.proofs.Examples.{plt_with, one_service, service}
use Rattle.meaning.proofs.CasesOfNarrowing.{alone_in}

-- ---- sums

pub record Sums : Type 0 where
  -- RFC 1071, 3: the sum of its example
  pub rfc_1071 : ones_sum (0x00 ∷ 0x01 ∷ 0xF2 ∷ 0x03 ∷ 0xF4 ∷ 0xF5 ∷ 0xF6 ∷ 0xF7 ∷ []) ≡ 0xDDF2
  pub none_at_all : ones_sum [] ≡ 0
  -- an odd last byte is an upper one
  pub odd : ones_sum (0x00 ∷ 0x01 ∷ 0xF2 ∷ []) ≡ 0xF201
  pub carried : (plus 0xFFFF 0x0001 ≡ 0x0001) × (plus 0xFFFF 0xFFFF ≡ 0xFFFF) × (plus 0x8000 0x7FFF ≡ 0xFFFF)
  -- an IPv4 header whose checksum is B861
  pub of_header : checksum (0x45 ∷ 0x00 ∷ 0x00 ∷ 0x73 ∷ 0x00 ∷ 0x00 ∷ 0x40 ∷ 0x00 ∷ 0x40 ∷ 0x11 ∷ 0x00 ∷ 0x00 ∷ 0xC0 ∷ 0xA8 ∷ 0x00 ∷ 0x01 ∷ 0xC0 ∷ 0xA8 ∷ 0x00 ∷ 0xC7 ∷ []) ≡ 0xB861
  pub other_form : (non_zero 0 ≡ 0xFFFF) × (non_zero 1 ≡ 1) × (non_zero 0xFFFF ≡ 0xFFFF)

pub sums : Sums
unfolding ones_sum checksum non_zero plus
sums = record { rfc_1071 = refl; none_at_all = refl; odd = refl; carried = (refl, refl, refl); of_header = refl; other_form = (refl, refl, refl) }

-- ---- packets: the MMTP header of signalling on identifier 0, behind UDP

abbrev mmtp : Bytes → Bytes
mmtp y = 0x40 ∷ 0x02 ∷ 0x00 ∷ 0x00 ∷ 0x00 ∷ 0x00 ∷ 0x00 ∷ 0x00 ∷ 0x00 ∷ 0x00 ∷ 0x00 ∷ 0x01 ∷ y

-- IPv4 from 192.0.2.1 to 239.1.2.3, don't-fragment set: the lower byte of its length, its checksum, the lower byte of UDP's length and UDP's
-- checksum are arguments
abbrev v4 : ℕ → ℕ → ℕ → ℕ → ℕ → ℕ → Bytes → Bytes
v4 n c d l e f y =
    0x45 ∷ 0x00 ∷ 0x00 ∷ n ∷ 0x1C ∷ 0x46 ∷ 0x40 ∷ 0x00 ∷ 0x40 ∷ 0x11 ∷ c ∷ d ∷ 0xC0 ∷ 0x00 ∷ 0x02 ∷ 0x01 ∷ 0xEF ∷ 0x01 ∷ 0x02 ∷ 0x03
    ∷ 0xC0 ∷ 0x00 ∷ 0x07 ∷ 0x5B ∷ 0x00 ∷ l ∷ e ∷ f ∷ mmtp y

-- IPv6 from 2001:db8::1 to ff0e::101: the lower byte of both lengths, and UDP's checksum
abbrev v6 : ℕ → ℕ → ℕ → Bytes → Bytes
v6 n e f y =
    0x60 ∷ 0x00 ∷ 0x00 ∷ 0x00 ∷ 0x00 ∷ n ∷ 0x11 ∷ 0x20
    ∷ 0x20 ∷ 0x01 ∷ 0x0D ∷ 0xB8 ∷ 0x00 ∷ 0x00 ∷ 0x00 ∷ 0x00 ∷ 0x00 ∷ 0x00 ∷ 0x00 ∷ 0x00 ∷ 0x00 ∷ 0x00 ∷ 0x00 ∷ 0x01
    ∷ 0xFF ∷ 0x0E ∷ 0x00 ∷ 0x00 ∷ 0x00 ∷ 0x00 ∷ 0x00 ∷ 0x00 ∷ 0x00 ∷ 0x00 ∷ 0x00 ∷ 0x00 ∷ 0x00 ∷ 0x00 ∷ 0x01 ∷ 0x01
    ∷ 0xC0 ∷ 0x00 ∷ 0x07 ∷ 0x5B ∷ 0x00 ∷ n ∷ e ∷ f ∷ mmtp y

abbrev five : Bytes
five = 0x00 ∷ 0x01 ∷ 0xAA ∷ 0xBB ∷ 0xCC ∷ []

abbrev right4 : Bytes
right4 = v4 0x2D 0x6B 0x74 0x19 0xCE 0x99 five

abbrev right6 : Bytes
right6 = v6 0x19 0x53 0xD6 five

-- an IPv4 header of 24 bytes: four of options behind the addresses
abbrev longer : Bytes
longer = 0x46 ∷ 0x00 ∷ 0x00 ∷ 0x31 ∷ take 16 (drop 4 right4) ++ (0x94 ∷ 0x04 ∷ 0x00 ∷ 0x00 ∷ drop 20 right4)

pub record Qualifying : Type 0 where
  pub both : (plain_ip 0x01 right4 ≡ true) × (plain_ip 0x02 right6 ≡ true)
  pub with_options : plain_ip 0x01 longer ≡ true
  -- by its type, and each in its own version
  pub other_type : (plain_ip 0x03 right4 ≡ false) × (plain_ip 0x02 right4 ≡ false) × (plain_ip 0x01 right6 ≡ false) × (plain_ip 0xFE right6 ≡ false)
  pub other_version : (plain_ip 0x01 (set right4 0 0x55) ≡ false) × (plain_ip 0x02 (set right6 0 0x40) ≡ false)
  pub short_header : plain_ip 0x01 (set right4 0 0x44) ≡ false
  pub short_of_udp : (plain_ip 0x01 (with16 2 27 (take 27 right4)) ≡ false) × (plain_ip 0x02 (with16 4 7 (take 47 right6)) ≡ false) × (plain_ip 0x01 [] ≡ false)
  -- more-fragments and each end of the offset; not the two bits above
  pub fragment : (plain_ip 0x01 (with16 6 0x2000 right4) ≡ false) × (plain_ip 0x01 (with16 6 0x0001 right4) ≡ false) × (plain_ip 0x01 (with16 6 0x1000 right4) ≡ false)
  pub unread_flags : (plain_ip 0x01 (with16 6 0xC000 right4) ≡ true) × (plain_ip 0x01 (with16 6 0x0000 right4) ≡ true)
  pub other_protocol : (plain_ip 0x01 (set right4 9 6) ≡ false) × (plain_ip 0x02 (set right6 6 0) ≡ false)
  pub other_length : (plain_ip 0x01 (with16 2 44 right4) ≡ false) × (plain_ip 0x02 (with16 4 26 right6) ≡ false)
  pub other_udp_length : (plain_ip 0x01 (with16 24 24 right4) ≡ false) × (plain_ip 0x02 (with16 44 26 right6) ≡ false)
  pub padding : (plain_ip 0x01 (right4 ++ (0x00 ∷ [])) ≡ false) × (plain_ip 0x02 (right6 ++ (0x00 ∷ [])) ≡ false)

pub qualifying : Qualifying
unfolding plain_ip with16
qualifying = record {
  both = (refl, refl);
  with_options = refl;
  other_type = (refl, refl, refl, refl);
  other_version = (refl, refl);
  short_header = refl;
  short_of_udp = (refl, refl, refl);
  fragment = (refl, refl, refl);
  unread_flags = (refl, refl);
  other_protocol = (refl, refl);
  other_length = (refl, refl);
  other_udp_length = (refl, refl);
  padding = (refl, refl);
}

-- ---- lengths and checksums

pub record Afresh : Type 0 where
  -- what is right stays, what is wrong comes right
  pub right : (afresh 0x01 right4 ≡ right4) × (afresh 0x02 right6 ≡ right6)
  pub wrong : (afresh 0x01 (v4 0x00 0x12 0x34 0x00 0x56 0x78 five) ≡ right4) × (afresh 0x02 (v6 0x00 0x12 0x34 five) ≡ right6)
  -- no UDP checksum: none in IPv4, worked out in IPv6
  pub no_checksum : (afresh 0x01 (v4 0x00 0x12 0x34 0x00 0x00 0x00 five) ≡ v4 0x2D 0x6B 0x74 0x19 0x00 0x00 five) × (afresh 0x02 (v6 0x00 0x00 0x00 five) ≡ right6)
  -- a checksum of 0 goes out as FFFF
  pub none_as_ones : afresh 0x01 (v4 0x00 0x12 0x34 0x00 0x56 0x78 (0x45 ∷ 0x5D ∷ [])) ≡ v4 0x2A 0x6B 0x77 0x16 0xFF 0xFF (0x45 ∷ 0x5D ∷ [])
  -- compressed IP has neither
  pub compressed : afresh 0x03 (v4 0x00 0x12 0x34 0x00 0x56 0x78 five) ≡ v4 0x00 0x12 0x34 0x00 0x56 0x78 five
  -- what a receiver finds
  pub header_right : ones_sum (take 20 right4) ≡ all_ones
  pub udp_right : (ones_sum (pseudo4 20 right4 ++ drop 20 right4) ≡ all_ones) × (ones_sum (pseudo6 right6 ++ drop 40 right6) ≡ all_ones)

pub afresh_cases : Afresh
unfolding afresh ones_sum pseudo4 pseudo6
afresh_cases = record {
  right = (refl, refl);
  wrong = (refl, refl);
  no_checksum = (refl, refl);
  none_as_ones = refl;
  compressed = refl;
  header_right = refl;
  udp_right = (refl, refl);
}

-- ---- narrowing: the PLT of 01's example 7 in plain IP

abbrev plain_on : Modes
plain_on = record { plain_ip = true }

abbrev two : Bytes
two = alone_in 0x13 (plt_with 0x01)

abbrev one : Bytes
one = alone_in 0x0D (one_service 0x01)

-- of a packet's first four bytes only the type is read
abbrev tlv : ℕ → ℕ → Bytes → Bytes
tlv type n s = 0x7E ∷ type ∷ 0x00 ∷ n ∷ s

pub record Narrowing : Type 0 where
  pub in_4 : narrow_packet plain_on (service 0x0401) (tlv 0x01 0x00 (v4 0x44 0x6B 0x5D 0x30 0x9E 0x34 two)) ≡ some (tlv 0x01 0x3E (v4 0x3E 0x6B 0x63 0x2A 0xAA 0x38 one))
  pub in_6 : narrow_packet plain_on (service 0x0401) (tlv 0x02 0x00 (v6 0x30 0x23 0x71 two)) ≡ some (tlv 0x02 0x52 (v6 0x2A 0x2F 0x75 one))
  -- rewritten to the same bytes: wrong checksums come right
  pub the_same : narrow_packet plain_on (service 0x0401) (tlv 0x01 0x3E (v4 0x3E 0x00 0x00 0x2A 0x12 0x34 one)) ≡ some (tlv 0x01 0x3E (v4 0x3E 0x6B 0x63 0x2A 0xAA 0x38 one))
  -- nothing to cut: checksums are not read
  pub nothing_to_cut : narrow_packet plain_on (service 0x0402) (tlv 0x01 0x44 (v4 0x44 0x00 0x00 0x30 0x12 0x34 two)) ≡ none
  pub fragment : narrow_packet plain_on (service 0x0401) (tlv 0x01 0x44 (with16 6 0x2000 (v4 0x44 0x6B 0x5D 0x30 0x9E 0x34 two))) ≡ none
  -- port 123 is the clock
  pub clock : narrow_packet plain_on (service 0x0401) (tlv 0x01 0x44 (with16 22 123 (v4 0x44 0x6B 0x5D 0x30 0x9E 0x34 two))) ≡ none
  pub mode_off : (narrow_packet all_off (service 0x0401) (tlv 0x01 0x44 (v4 0x44 0x6B 0x5D 0x30 0x9E 0x34 two)) ≡ none)
      × (narrow_packet all_off (service 0x0401) (tlv 0x02 0x58 (v6 0x30 0x23 0x71 two)) ≡ none)

pub narrowing : Narrowing
unfolding narrow_packet with16
narrowing = record { in_4 = refl; in_6 = refl; the_same = refl; nothing_to_cut = refl; fragment = refl; clock = refl; mode_off = (refl, refl) }
