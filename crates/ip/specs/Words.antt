-- UDP's checksum by the words of a pseudo header added up beforehand.
use Rattle.std.specs.Prelude.{ℕ, ◌+◌, ◌-◌, Bool, cond, ◌&&◌, drop, eqb}
use Rattle.meaning.specs.Bytes.{Bytes, be16_at, with16}
use Rattle.meaning.specs.Checksums.{non_zero}
use Rattle.meaning.specs.Ip.{udp_checksum, udp_length_afresh}
use Rattle.meaning.proofs.ChecksumLaws.{words, folded}

unfoldable pub udp_by : ℕ → ℕ → Bytes → Bytes
unfolding udp_length_afresh with16 words folded non_zero
udp_by pseudo h s =
    let t = with16 (h + 6) 0 (udp_length_afresh h s) in
    with16 (h + 6) (non_zero (65535 - folded (pseudo + words (drop h t)))) t

-- The same, but a checksum that is optional and zero stays zero.
unfoldable pub udp_or_none : Bool → ℕ → ℕ → Bytes → Bytes
unfolding be16_at udp_length_afresh udp_by
udp_or_none optional pseudo h s = cond (optional && eqb (udp_checksum h s) 0) (udp_length_afresh h s) (udp_by pseudo h s)
