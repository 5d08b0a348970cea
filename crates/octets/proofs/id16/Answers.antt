use Rattle.meaning.specs.Bytes.{be16, be16_at}
use Prim.Native.Nat.{◌+◌}
use native.Mathlib.Nat.{mod-eq_of_lt}
use native.Mathlib.Omega.{arith}
use mathlib.Core.Path.{sym, ◌∙◌}
use Rattle.octets.proofs.id16.Goals as goal

pub returns : goal.returns
unfolding be16_at be16
returns c =
    let k = c.type_inv.s in
    let a = c.args.at in
    c.from_be_bytes.ensures ∙ sym (mod-eq_of_lt (omega (arith, k a, k (a + 1))))
