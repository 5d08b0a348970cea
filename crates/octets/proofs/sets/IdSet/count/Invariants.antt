use Rattle.meaning.specs.Sets.{in_set, how_many}
use mathlib.Core.Path.{◌≡◌}
use Prim.Native.Nat.{◌*◌, ◌≤◌}
use Rattle.octets.proofs.sets.IdSet.count.Given as goal

abbrev pub invariant-loop-i : goal.invariant-loop-i
invariant-loop-i l = (l.n ≡ how_many (in_set l.self.words) (l.i * 64)) × (l.n ≤ 64 * l.i)
