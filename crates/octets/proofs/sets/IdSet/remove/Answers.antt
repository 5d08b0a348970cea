use Rattle.meaning.proofs.SetLaws.{bit_fits, shl_bit}
use Rattle.meaning.specs.Sets.{without_id}
use lib.ListN.{get_or, set}
use native.Mathlib.Omega.{arith}
use mathlib.Core.Path.{ap, ◌∙◌}
use Prim.Native.Nat.{ℕ, ◌-◌, ◌*◌, ◌/◌, ◌%◌, ◌^◌}
use Rattle.octets.proofs.sets.IdSet.remove.Goals as goal

pub overflow_sub-self : goal.overflow_sub-self
overflow_sub-self c =
    let w = get_or c.args.self.now.words (c.args.id / 64) 0 in
    let k = c.args.id % 64 in
    rw (c.word_bit.ensures, shl_bit w k (omega arith)) (bit_fits w k)

pub returns : goal.returns
unfolding without_id
returns c =
    let ws = c.args.self.now.words in
    let p = c.args.id in
    let w = get_or ws (p / 64) 0 in
    let e = ap (λ (b : ℕ). b * 2 ^ (p % 64) % 18446744073709551616) c.word_bit.ensures ∙ shl_bit w (p % 64) (omega arith) in
    ap (λ (n : ℕ). set ws (p / 64) (w - n)) e
