-- A set of packet identifiers: one bit each, in words of 64 bits.
use Rattle.std.specs.Prelude.{ℕ, ◌+◌, ◌*◌, ◌/◌, ◌%◌, zero, suc, ◌-◌, ◌^◌, Bool, cond, List, get_or, set, eqb}
use Rattle.std.specs.Int.Bits.{bit_or}

abbrev pub Words : Type 0
Words = List ℕ

-- Bit k of a word, 0 or 1.
abbrev pub bit_at : ℕ → ℕ → ℕ
bit_at w k = w / 2 ^ k % 2

-- Whether identifier p is in the set.
unfoldable pub in_set : Words → ℕ → Bool
in_set ws p = eqb (bit_at (get_or ws (p / 64) 0) (p % 64)) 1

-- The set with p in it.
unfoldable pub with_id : Words → ℕ → Words
with_id ws p = set ws (p / 64) (bit_or (get_or ws (p / 64) 0) (2 ^ (p % 64)))

-- The set without p.
unfoldable pub without_id : Words → ℕ → Words
without_id ws p = set ws (p / 64) (get_or ws (p / 64) 0 - bit_at (get_or ws (p / 64) 0) (p % 64) * 2 ^ (p % 64))

-- How many numbers below n pass a test.
unfoldable pub how_many : (ℕ → Bool) → ℕ → ℕ
how_many f zero = 0
how_many f (suc n) = cond (f n) 1 0 + how_many f n
