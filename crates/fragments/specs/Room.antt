-- The room alone, by numbers: of `all` bytes of bodies those of the first `leading` fragments, `old`, stand before the free bytes. How they move.
use Rattle.std.specs.Prelude.{ℕ, ◌-◌, ◌≤◌, ◌<◌, ◌≡◌, length, take, drop}
use Rattle.meaning.specs.Bytes.{Bytes}
use Rattle.meaning.specs.Writing.{Wrote}

-- The free bytes moved behind the first `to` fragments, whose bodies have `new` bytes: the block between goes to their other side.
pub record FreeMoved (leading to old new all : ℕ) (bodies bodies' : Bytes) : Type 0 where
  pub same : length bodies' ≡ length bodies
  pub down : leading < to → Wrote (take (new - old) (drop (length bodies - (all - old)) bodies)) bodies old bodies' new
  pub up : to ≤ leading → Wrote (take (old - new) (drop new bodies)) bodies (length bodies - (all - new)) bodies' (length bodies - (all - old))

-- All bodies packed at the front but the one at an index, from `start` to `end`: down goes what stands between it and the free bytes, then
-- what stands behind both.
pub record Packed (index leading start end old all : ℕ) (bodies bodies' : Bytes) : Type 0 where
  pub between : Bytes
  pub same : length bodies' ≡ length bodies
  pub before : index < leading
      → Wrote (take (old - end) (drop end bodies)) bodies start between (old - (end - start))
      × Wrote (take (all - old) (drop (length bodies - (all - old)) bodies)) between (old - (end - start)) bodies' (all - (end - start))
  pub behind : leading ≤ index
      → Wrote (take (start - old) (drop (length bodies - (all - old)) bodies)) bodies old between start
      × Wrote (take (all - end) (drop (length bodies - (all - end)) bodies)) between start bodies' (all - (end - start))
