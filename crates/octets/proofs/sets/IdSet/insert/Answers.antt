use Rattle.meaning.proofs.SetLaws.{shl_one}
use Rattle.meaning.specs.Sets.{with_id}
use lib.Bits.{bit_or}
use lib.ListN.{get_or, set}
use native.Mathlib.Omega.{arith}
use mathlib.Core.Path.{ap}
use Prim.Native.Nat.{ℕ, ◌/◌, ◌%◌}
use Rattle.octets.proofs.sets.IdSet.insert.Goals as goal

pub returns : goal.returns
unfolding with_id
returns c =
    let ws = c.args.self.now.words in
    let p = c.args.id in
    ap (λ (n : ℕ). set ws (p / 64) (bit_or (get_or ws (p / 64) 0) n)) (shl_one (p % 64) (omega arith))
