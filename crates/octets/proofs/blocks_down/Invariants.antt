use Rattle.meaning.specs.Writing.{Wrote}
use lib.ListN.{length, take, drop}
use mathlib.Core.Path.{◌≡◌}
use Prim.Native.Nat.{◌+◌, ◌-◌, ◌%◌, ◌≤◌}
use Rattle.octets.proofs.blocks_down.Given as goal

abbrev pub invariant-loop-i : goal.invariant-loop-i
invariant-loop-i l = (l.i ≤ l.n) × (l.i % 64 ≡ 0) × (length l.lent ≡ length l.initial.lent) × Wrote (take l.i (drop l.from l.initial.lent)) l.initial.lent l.to l.lent (l.to + l.i)

abbrev pub decreases-loop-i : goal.decreases-loop-i
decreases-loop-i l = l.n - l.i
