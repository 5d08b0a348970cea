use mathlib.Core.Path.{sym, ◌∙◌}
use native.Mathlib.Omega.{arith}
use borrow.Author.Tests.{not-true, not-false, lt-leb, le-leb}
use Rattle.meaning.specs.Refusals.{answer_number, number_of}
use Rattle.meaning.specs.Push.{length_refusal}
use Rattle.soundness.proofs.PartLaws.{limit_fits, sound_parts}
use Rattle.recorder.proofs.call.call_answer.Goals as goal

pub returns-then-not-parts_sound : goal.returns-then-not-parts_sound
unfolding answer_number number_of
returns-then-not-parts_sound c = rw (sym c.parts_sound.ensures ∙ not-true _ c.if-not-parts_sound.true-raw)

pub overflow_sub-w : goal.overflow_sub-w
overflow_sub-w c = omega (arith, c.packet_limit.ensures, limit_fits c.args.n.work)

pub returns-then-w-packet_limit : goal.returns-then-w-packet_limit
unfolding answer_number number_of length_refusal
returns-then-w-packet_limit c = rw ((sym c.parts_sound.ensures ∙ not-false _ c.if-not-parts_sound.false-raw), lt-leb _ _ (rw c.packet_limit.ensures at c.if-w-packet_limit.true))

pub overflow_add-b : goal.overflow_add-b
overflow_add-b c =
    let few = sound_parts _ _ _ c.args.b.extent _ _ _ _ _ _ (sym c.parts_sound.ensures ∙ not-false _ c.if-not-parts_sound.false-raw) in
    omega (arith, few.held_few, few.work_few, limit_fits c.args.n.work, c.if-w-packet_limit.false, c.packet_limit.ensures)

pub returns-then-n-b : goal.returns-then-n-b
unfolding answer_number number_of length_refusal
returns-then-n-b c = rw ((sym c.parts_sound.ensures ∙ not-false _ c.if-not-parts_sound.false-raw), le-leb _ _ (rw c.packet_limit.ensures at c.if-w-packet_limit.false), lt-leb _ _ c.if-n-b.true)

pub returns : goal.returns
unfolding answer_number length_refusal
returns c = rw ((sym c.parts_sound.ensures ∙ not-false _ c.if-not-parts_sound.false-raw), le-leb _ _ (rw c.packet_limit.ensures at c.if-w-packet_limit.false), le-leb _ _ c.if-n-b.false)
