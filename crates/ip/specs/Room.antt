-- What is asked of a TLV payload before its lengths and checksums are worked out.
use Rattle.std.specs.Prelude.{ℕ, ◌+◌, ◌≤◌, ◌≡◌, length}
use Rattle.meaning.specs.Bytes.{Bytes}
use Rattle.meaning.specs.Ip.{header_length}

-- Headers that are whole, and lengths that their fields hold.
abbrev pub Room4 : Bytes → Type 0
Room4 s = (20 ≤ header_length s) × (header_length s + 8 ≤ length s) × (length s ≤ 65535)

abbrev pub Room6 : Bytes → Type 0
Room6 s = (48 ≤ length s) × (length s ≤ 65575)

abbrev pub Room : ℕ → Bytes → Type 0
Room type s = (type ≡ 0x01 → Room4 s) × (type ≡ 0x02 → Room6 s)
