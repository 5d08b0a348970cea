use Rattle.meaning.proofs.Writes.{wrote_whole}
use lib.ListN.{length, take, drop, replicate, length-take, length-drop}
use native.Mathlib.Omega.{arith}
use mathlib.Core.Path.{◌≡◌, refl, ap, ◌∙◌}
use Prim.Native.Nat.{ℕ, ◌+◌, ◌-◌}
use Rattle.octets.proofs.lifted.Goals as goal

pub returns : goal.returns
returns c =
    let a = c.args in
    let e : a.from + 64 - a.from ≡ 64 = omega arith in
    let z : length (replicate {A = ℕ} 64 0) ≡ 64 = refl in
    let u = c.copy.ensures in
    wrote_whole _ _ _ c.copy.result (omega (arith, u.end, length-take (a.from + 64 - a.from) (drop a.from a.lent.now), length-drop a.from a.lent.now)) u
    ∙ ap (λ (n : ℕ). take n (drop a.from a.lent.now)) e
