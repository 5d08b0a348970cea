-- Bytes, and the numbers that several of them make: big-endian, the upper byte first.
use Rattle.std.specs.Prelude.{ℕ, ◌+◌, ◌*◌, ◌/◌, ◌%◌, List, [], ◌∷◌, ◌++◌, get_or, set}

abbrev pub Bytes : Type 0
Bytes = List ℕ

-- A number of sixteen bits. The remainder keeps it one of sixteen bits for any two numbers, so that no law needs a bound on a byte.
unfoldable pub be16 : ℕ → ℕ → ℕ
be16 high low = (high * 256 + low) % 65536

-- The numbers of sixteen and of thirty-two bits that stand at an offset of a run of bytes.
unfoldable pub be16_at : Bytes → ℕ → ℕ
unfolding be16
be16_at s at = be16 (get_or s at 0) (get_or s (at + 1) 0)

unfoldable pub be32_at : Bytes → ℕ → ℕ
unfolding be16_at
be32_at s at = be16_at s at * 65536 + be16_at s (at + 2)

-- The bytes of a number of sixteen and of thirty-two bits.
unfoldable pub put16 : ℕ → Bytes
put16 n = n / 256 % 256 ∷ n % 256 ∷ []

unfoldable pub put32 : ℕ → Bytes
unfolding put16
put32 n = put16 (n / 65536) ++ put16 (n % 65536)

-- Bytes with the number n of sixteen bits at an offset.
unfoldable pub with16 : ℕ → ℕ → Bytes → Bytes
with16 at n s = set (set s at (n / 256 % 256)) (at + 1) (n % 256)
