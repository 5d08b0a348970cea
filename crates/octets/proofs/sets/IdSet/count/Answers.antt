use Rattle.meaning.proofs.SetLaws.{ones_turn}
use Rattle.meaning.specs.Sets.{how_many}
use native.Mathlib.Omega.{arith}
use native.Mathlib.Nat.{mod-eq_of_lt}
use mathlib.Core.Path.{refl}
use Rattle.octets.proofs.sets.IdSet.count.Goals as goal

pub loop-i-init : goal.loop-i-init
unfolding how_many
loop-i-init c = (refl, omega arith)

pub loop-i-preserved : goal.loop-i-preserved
loop-i-preserved c =
    let w = mod-eq_of_lt c.word_ones-n.ensures.2 in
    let n = rw w at (ones_turn c.args.self.now.words c.loop-i.i) in
    (omega arith, omega arith)
