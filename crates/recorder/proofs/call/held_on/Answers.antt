use Prim.Native.Nat.{ℕ, ◌-◌, ◌≤◌}
use mathlib.Core.Path.{◌≡◌, ap, ◌∙◌, subst}
use native.Mathlib.Omega.{arith}
use lib.ListN.{length, take, drop, length-drop}
use lib.Seq.{take_all}
use Rattle.meaning.specs.Bytes.{Bytes}
use Rattle.meaning.specs.Writing.{Wrote}
use Rattle.recorder.specs.Front.{ended_of}
use Rattle.recorder.specs.declared.call.CarriedOut.{CarriedOut}
use Rattle.recorder.proofs.CallLaws.{left_is, left_count}
use Rattle.recorder.proofs.call.held_on.Goals as goal

pub returns : goal.returns
returns c =
    let a = c.args in
    let x = a.x in
    let moved = c.move_down in
    let copied = c.copy-held_count in
    let part : take (length a.rest.now - x.second_at) (drop x.second_at a.rest.now) ≡ drop x.second_at a.rest.now = take_all (length a.rest.now - x.second_at) (drop x.second_at a.rest.now) (omega (arith, length-drop x.second_at a.rest.now)) in
    let w = subst (λ (y : Bytes). Wrote y moved.new.lent (a.n - x.first_at) copied.new.out copied.result) part copied.ensures in
    let fit : a.n ≤ length a.work.now = omega (arith, c.requires.1) in
    let count = left_count a.n x.first_at moved.result copied.result _ a.work.now _ _ c.requires.0 fit moved.ensures w in
    let e = c.ended.ensures ∙ ap (ended_of x.progress) count in
    record {
      ended_is = e;
      held_bytes = ap (λ (m : ℕ). take m copied.new.out) (ap (λ (y : CarriedOut). y.held_count) c.ended.ensures) ∙ left_is a.n x.first_at moved.result copied.result _ a.work.now _ _ c.requires.0 fit moved.ensures w;
    }
