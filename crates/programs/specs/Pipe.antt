-- What can be said of bytes that come from outside: how many lie in the slice that was lent for them.
use Rattle.std.specs.Prelude.{ℕ, Bool, false, eqb, Option, Some, None}

-- The bytes that came; of a read that failed none counts.
abbrev pub came_of : Option ℕ → ℕ
came_of (Some n) = n
came_of None = 0

-- Whether they are as many as the slice has.
abbrev pub is_full : Option ℕ → ℕ → Bool
is_full (Some n) size = eqb n size
is_full None size = false
