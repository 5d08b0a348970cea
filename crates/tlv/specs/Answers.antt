-- What the functions answer, in the terms of the definitions: each answer is determined by what the definition reads.
use Rattle.std.specs.Prelude.{ℕ, ◌+◌, ◌%◌, ◌≤◌, ◌≡◌, cond, length, drop, get_or, ltb, Some, None}
use Rattle.std.specs.Prelude as code
use Rattle.std.proofs.Math.Option.{Option, none, some}
use Rattle.meaning.specs.Bytes.{Bytes, be16_at}
use Rattle.meaning.specs.Readers.{Out}
use Rattle.meaning.specs.Mmtp as meant
use Rattle.tlv.specs.declared.Offset.{Offset}
use Rattle.tlv.specs.declared.Header.{Header}
use Rattle.tlv.specs.declared.Mmtp.{Mmtp}

-- An offset, as the code has it.
abbrev pub as_offset : meant.Offset → code.Option Offset
as_offset none = None
as_offset (some x) = Some (record { at = x.0; rewritable = x.1 })

-- A header that ends at an offset, of twelve bytes at least.
unfoldable pub header_to : Bytes → ℕ → code.Option Header
unfolding be16_at
header_to s n = cond (ltb (length s) n) None (Some (record { start = n; identifier = be16_at s 2; payload_type = get_or s 1 0 % 64 }))

-- A header whose extension is at an offset.
unfoldable pub extended_to : Bytes → ℕ → code.Option Header
unfolding header_to
extended_to s at = cond (ltb (length s) (at + 4)) None (header_to s (at + 4 + be16_at s (at + 2)))

-- The header that is read, and the payload as the rest of the bytes.
abbrev pub HeaderIs : Out meant.MmtpHeader → Bytes → code.Option Header → Type 0
HeaderIs o s None = o ≡ none
HeaderIs o s (Some h) =
    (12 ≤ h.start) × (h.start ≤ length s) × (o ≡ some (record { identifier = h.identifier; payload_type = h.payload_type }, drop h.start s))

-- r is the rest of s behind n bytes or more: s from `start` on.
pub record Behind (n : ℕ) (s r : Bytes) : Type 0 where
  pub start : ℕ
  pub least : n ≤ start
  pub within : start ≤ length s
  pub rest_is : r ≡ drop start s

-- The part that is handed back: what the definition leaves, which is the rest of s behind n bytes or more, or the empty end of s.
abbrev pub PartIs : Option Bytes → ℕ → Bytes → Bytes → Type 0
PartIs none n s r = Behind (length s) s r
PartIs (some y) n s r = (r ≡ y) × Behind n s r

-- Where the MMTP of a packet starts.
abbrev pub PlacedIs : Bytes → code.Option Offset → Type 0
PlacedIs p None = meant.mmtp_of p ≡ none
PlacedIs p (Some o) = (4 ≤ o.at) × (o.at ≤ length p) × (meant.mmtp_of p ≡ meant.mmtp_from o.rewritable (meant.mmtp_header (drop o.at p)))

-- The MMTP that is read of a packet; its payload is the rest of the packet.
abbrev pub MmtpIs : Option meant.Mmtp → Bytes → code.Option Mmtp → Type 0
MmtpIs o p None = o ≡ none
MmtpIs o p (Some m) =
    (y : Bytes) × Behind 16 p y × (o ≡ some (record { identifier = m.identifier; payload_type = m.payload_type; rewritable = m.rewritable; payload = y }))
