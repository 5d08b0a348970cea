-- From a packet to its MMTP payload: 01, "From packet to payload"; the MMTP header as ISO/IEC 23008-1 has it.
use Rattle.std.specs.Prelude.{ℕ, ◌+◌, ◌*◌, ◌/◌, ◌%◌, Bool, cond, true, false, get_or, length, drop, eqb, leb}
use Rattle.std.proofs.Math.Option.{Option, none, some}
use Rattle.meaning.specs.Bytes.{Bytes, be16_at}
use Rattle.meaning.specs.Readers.{Out, Reader, ◌>>=◌, give, u8, u16, u32, bytes, counted16, announced}

-- ---- where the MMTP stands in the TLV payload, and whether the packet may be rewritten; none where it passes unread

abbrev pub Offset : Type 0
Offset = Option (ℕ × Bool)

-- Compressed IP, by the type of its header.
unfoldable pub by_header_type : ℕ → Offset
by_header_type k =
    cond (eqb k 0x21) (some (3, true))
    (cond (eqb k 0x61) (some (3, true))
    (cond (eqb k 0x20) (some (23, false))
    (cond (eqb k 0x60) (some (45, false)) none)))

unfoldable pub compressed : Bytes → Offset
unfolding by_header_type
compressed s = cond (leb 3 (length s)) (by_header_type (get_or s 2 0)) none

-- UDP behind an IP header of so many bytes; port 123 is the clock.
unfoldable pub udp : ℕ → Bytes → Offset
unfolding be16_at
udp header s =
    cond (leb (header + 4) (length s))
    (cond (eqb (be16_at s (header + 2)) 123) none (some (header + 8, false)))
    none

-- By the packet's type.
unfoldable pub offset_of : ℕ → Bytes → Offset
unfolding compressed udp
offset_of type s =
    cond (eqb type 0x03) (compressed s)
    (cond (eqb type 0x01) (udp (get_or s 0 0 % 16 * 4) s)
    (cond (eqb type 0x02) (udp 40 s) none))

-- ---- the MMTP header

pub record MmtpHeader : Type 0 where
  pub identifier : ℕ
  pub payload_type : ℕ

-- The header extension: its type, then its bytes behind a 16-bit length.
unfoldable pub extension : Reader Bytes
unfolding u16 counted16
extension = do
  type ← u16
  counted16

unfoldable pub mmtp_header : Reader MmtpHeader
unfolding u8 u16 u32 bytes announced extension
mmtp_header = do
  flags ← u8
  type ← u8
  packet_id ← u16
  timestamp ← u32
  sequence_number ← u32
  packet_counter ← announced (flags / 32 % 2) (bytes 4)
  header_extension ← announced (flags / 2 % 2) extension
  give (record { identifier = packet_id; payload_type = type % 64 })

-- ---- both together: what is read of a packet, or none where it passes unread

pub record Mmtp : Type 0 where
  pub identifier : ℕ
  pub payload_type : ℕ
  pub rewritable : Bool
  pub payload : Bytes

abbrev pub mmtp_from : Bool → Out MmtpHeader → Option Mmtp
mmtp_from w none = none
mmtp_from w (some (h, payload)) = some (record { identifier = h.identifier; payload_type = h.payload_type; rewritable = w; payload = payload })

abbrev pub mmtp_at : Offset → Bytes → Option Mmtp
mmtp_at none s = none
mmtp_at (some (at, w)) s = cond (leb at (length s)) (mmtp_from w (mmtp_header (drop at s))) none

unfoldable pub mmtp_of : Bytes → Option Mmtp
unfolding offset_of mmtp_header
mmtp_of p = cond (leb 4 (length p)) (mmtp_at (offset_of (get_or p 1 0) (drop 4 p)) (drop 4 p)) none

-- Payload type 2 is signalling.
abbrev pub is_signalling : Mmtp → Bool
is_signalling m = eqb m.payload_type 2
