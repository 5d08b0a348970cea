-- The internet checksum: RFC 1071.
use Rattle.std.specs.Prelude.{ℕ, zero, suc, ◌+◌, ◌-◌, ◌/◌, ◌%◌, [], ◌∷◌}
use Rattle.meaning.specs.Bytes.{Bytes, be16}

-- Two numbers of sixteen bits, the carry added at the low end.
unfoldable pub plus : ℕ → ℕ → ℕ
plus a b = (a + b) % 65536 + (a + b) / 65536

-- The sum of the words of sixteen bits; an odd last byte is the upper one of a word.
unfoldable pub ones_sum : Bytes → ℕ
unfolding be16 plus
ones_sum [] = 0
ones_sum (a ∷ []) = be16 a 0
ones_sum (a ∷ b ∷ s) = plus (be16 a b) (ones_sum s)

-- What goes into a checksum's field: each bit of the sum turned, the field itself counted as 0.
unfoldable pub checksum : Bytes → ℕ
unfolding ones_sum
checksum s = 0xFFFF - ones_sum s

-- What a receiver finds over bytes that have a right checksum among them.
abbrev pub all_ones : ℕ
all_ones = 0xFFFF

-- In UDP a field of 0 says that there is no checksum, so that one of 0 is sent in its other form (RFC 768).
unfoldable pub non_zero : ℕ → ℕ
non_zero zero = 0xFFFF
non_zero (suc n) = suc n
