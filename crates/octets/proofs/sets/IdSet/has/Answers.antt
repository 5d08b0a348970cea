use Rattle.meaning.specs.Sets.{in_set}
use Prim.Native.Nat.{ℕ}
use mathlib.Core.Path.{ap}
use lib.Dec.{eqb}
use Rattle.octets.proofs.sets.IdSet.has.Goals as goal

pub returns : goal.returns
unfolding in_set
returns c = ap (λ (b : ℕ). eqb b 1) c.word_bit.ensures
