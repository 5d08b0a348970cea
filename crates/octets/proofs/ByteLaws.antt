-- Where code meets the definitions. Its bytes are below 256 by their type, which the definitions do not ask; the rest of a slice is cut by
-- its length. Rests on meaning's Reading.
use Prim.Native.Nat.{ℕ, ◌+◌, ◌-◌, ◌<◌}
use mathlib.Core.Path.{◌≡◌}
use mathlib.Core.Option.{some}
use native.Mathlib.Nat.{mod-eq_of_lt}
use native.Mathlib.Omega.{arith}
use lib.ListN.{length, take, drop, get_or, length-drop}
use lib.Seq.{take_all}
use Rattle.meaning.specs.Bytes.{Bytes}
use Rattle.meaning.specs.Readers.{u8}
use Rattle.meaning.proofs.Reading.{u8_some}

-- a byte of the code is its own rest by 256
pub u8_at_lem : (s : Bytes) (at e : ℕ) → at < length s → get_or s at 0 < 256 → e ≡ at + 1 → u8 (drop at s) ≡ some (get_or s at 0, drop e s)
u8_at_lem s at e h b q = rw (u8_some s at e h q, mod-eq_of_lt b)

-- `&b[at..]`
pub rest_of : (b : Bytes) (at : ℕ) → take (length b - at) (drop at b) ≡ drop at b
rest_of b at = take_all (length b - at) (drop at b) (omega (arith, length-drop at b))
