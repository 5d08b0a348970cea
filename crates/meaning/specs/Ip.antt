-- Plain IP packets: which TLV payloads may be rewritten, and their lengths and checksums worked out afresh. 02 [2]; RFC 791, 8200, 768.
use Rattle.std.specs.Prelude.{ℕ, ◌+◌, ◌-◌, ◌*◌, ◌/◌, ◌%◌, Bool, false, cond, ◌&&◌, [], ◌∷◌, ◌++◌, length, take, drop, get_or, leb, eqb}
use Rattle.meaning.specs.Bytes.{Bytes, be16_at, put16, put32, with16}
use Rattle.meaning.specs.Checksums.{checksum, non_zero}

-- ---- the headers: what is read of each, by its offset

-- The upper four bits of both.
abbrev pub version : Bytes → ℕ
version s = get_or s 0 0 / 16

-- IPv4:  0 version, header length in words of 32 bits | 2 total length | 6 flags, fragment offset | 9 protocol | 10 checksum | 12 addresses

abbrev pub header_length : Bytes → ℕ
header_length s = get_or s 0 0 % 16 * 4

abbrev pub total_length : Bytes → ℕ
total_length s = be16_at s 2

-- More-fragments and the offset. The two bits above, reserved and don't-fragment, are not read.
abbrev pub fragmented : Bytes → ℕ
fragmented s = be16_at s 6 % 0x4000

abbrev pub protocol : Bytes → ℕ
protocol s = get_or s 9 0

abbrev pub addresses4 : Bytes → Bytes
addresses4 s = take 8 (drop 12 s)

-- IPv6, 40 bytes:  0 version | 4 payload length | 6 next header | 8 addresses

abbrev pub payload_length : Bytes → ℕ
payload_length s = be16_at s 4

abbrev pub next_header : Bytes → ℕ
next_header s = get_or s 6 0

abbrev pub addresses6 : Bytes → Bytes
addresses6 s = take 32 (drop 8 s)

-- UDP, behind an IP header of h bytes:  0 ports | 4 length | 6 checksum

abbrev pub udp_length : ℕ → Bytes → ℕ
udp_length h s = be16_at s (h + 4)

abbrev pub udp_checksum : ℕ → Bytes → ℕ
udp_checksum h s = be16_at s (h + 6)

-- ---- which may be rewritten: all of the TLV payload is one UDP datagram behind its IP header

unfoldable pub is_udp : ℕ → Bytes → Bool
unfolding be16_at
is_udp h s = leb (h + 8) (length s) && eqb (udp_length h s) (length s - h)

unfoldable pub plain4 : Bytes → Bool
unfolding be16_at is_udp
plain4 s =
    eqb (version s) 4 && (leb 20 (header_length s) && (eqb (total_length s) (length s) && (eqb (fragmented s) 0 && (eqb (protocol s) 17
    && is_udp (header_length s) s))))

unfoldable pub plain6 : Bytes → Bool
unfolding be16_at is_udp
plain6 s = eqb (version s) 6 && (eqb (payload_length s) (length s - 40) && (eqb (next_header s) 17 && is_udp 40 s))

-- By the packet's type.
unfoldable pub plain_ip : ℕ → Bytes → Bool
unfolding plain4 plain6
plain_ip type s = cond (eqb type 0x01) (plain4 s) (cond (eqb type 0x02) (plain6 s) false)

-- ---- lengths and checksums worked out afresh, each checksum with its own field 0

-- An IPv4 header of h bytes.
unfoldable pub header_afresh : ℕ → Bytes → Bytes
unfolding with16 checksum
header_afresh h s =
    let t = with16 10 0 (with16 2 (length s) s) in
    with16 10 (checksum (take h t)) t

-- The pseudo headers, which UDP's checksum covers too: addresses, protocol 17, UDP's length.
unfoldable pub pseudo4 : ℕ → Bytes → Bytes
unfolding put16
pseudo4 h s = addresses4 s ++ (0 ∷ 17 ∷ put16 (length s - h))

unfoldable pub pseudo6 : Bytes → Bytes
unfolding put32
pseudo6 s = addresses6 s ++ (put32 (length s - 40) ++ (0 ∷ 0 ∷ 0 ∷ 17 ∷ []))

unfoldable pub udp_length_afresh : ℕ → Bytes → Bytes
unfolding with16
udp_length_afresh h s = with16 (h + 4) (length s - h) s

unfoldable pub udp_afresh : Bytes → ℕ → Bytes → Bytes
unfolding udp_length_afresh with16 checksum non_zero
udp_afresh pseudo h s =
    let t = with16 (h + 6) 0 (udp_length_afresh h s) in
    with16 (h + 6) (non_zero (checksum (pseudo ++ drop h t))) t

-- In IPv4 a UDP checksum of zero stays zero.
unfoldable pub afresh4 : Bytes → Bytes
unfolding be16_at header_afresh pseudo4 udp_length_afresh udp_afresh
afresh4 s =
    let h = header_length s in
    let t = header_afresh h s in
    cond (eqb (udp_checksum h s) 0) (udp_length_afresh h t) (udp_afresh (pseudo4 h t) h t)

unfoldable pub afresh6 : Bytes → Bytes
unfolding with16 pseudo6 udp_afresh
afresh6 s =
    let t = with16 4 (length s - 40) s in
    udp_afresh (pseudo6 t) 40 t

-- By the packet's type; compressed IP has neither lengths nor checksums.
unfoldable pub afresh : ℕ → Bytes → Bytes
unfolding afresh4 afresh6
afresh type s = cond (eqb type 0x01) (afresh4 s) (cond (eqb type 0x02) (afresh6 s) s)
