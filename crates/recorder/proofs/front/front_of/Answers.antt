use Prim.Native.Nat.{ℕ, ◌-◌}
use mathlib.Core.Path.{◌≡◌, ap, ◌∙◌}
use mathlib.Core.List.{◌++◌}
use native.Mathlib.Omega.{arith}
use lib.ListN.{length, take}
use Rattle.meaning.specs.Packets.{step_of}
use Rattle.meaning.specs.declared.Step.{Step}
use Rattle.recorder.specs.Front.{front_by}
use Rattle.recorder.proofs.front.front_of.Goals as goal

pub returns : goal.returns
returns c =
    let a = c.args in
    let z : a.held_count - 0 ≡ a.held_count = omega arith in
    c.front_by.ensures ∙ ap (λ (s : Step). front_by s a.held_count (length a.chunk.now)) (c.next_across-step.ensures ∙ ap (λ (m : ℕ). step_of a.limit (take m a.work.now ++ a.chunk.now)) z)
