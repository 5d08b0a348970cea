use Rattle.passing.proofs.StepLaws.{along_begin, along_row, along_gap, along_withheld}
use Rattle.passing.specs.declared.Progress.{Progress}
use mathlib.Core.Path.{refl, ap, ◌∙◌}
use Rattle.passing.proofs.plain_packets.Goals as goal

pub loop-at-init : goal.loop-at-init
loop-at-init c = (along_begin _ _ _ _ _ _ c.requires.0 c.requires.1, refl)

pub returns-in-Keep : goal.returns-in-Keep
returns-in-Keep c = rw c.stretch_to.ensures ((along_row _ _ _ _ c.loop-at.invariant.0 c.row_at-x.result c.copy-bytes.result _ _ c.with_row-s.result c.row_at-x.ensures refl c.copy-bytes.ensures c.copy-bytes.auto.out c.with_row-s.ensures), rw c.in-Keep.is at c.row_at-x.ensures.stop_is)

pub loop-at-preserved-in-More : goal.loop-at-preserved-in-More
loop-at-preserved-in-More c = (along_row _ _ _ _ c.loop-at.invariant.0 c.row_at-x.result c.copy-bytes.result _ _ c.with_row-s.result c.row_at-x.ensures refl c.copy-bytes.ensures c.copy-bytes.auto.out c.with_row-s.ensures, c.copy-bytes.auto.out ∙ c.loop-at.invariant.1)

pub loop-at-preserved-in-Skip : goal.loop-at-preserved-in-Skip
loop-at-preserved-in-Skip c = (along_gap _ _ _ _ (along_row _ _ _ _ c.loop-at.invariant.0 c.row_at-x.result c.copy-bytes.result _ _ c.with_row-s.result c.row_at-x.ensures refl c.copy-bytes.ensures c.copy-bytes.auto.out c.with_row-s.ensures) _ _ c.gap_end-at.ensures c.with_skipped-s.ensures, (c.copy-bytes.auto.out ∙ c.loop-at.invariant.1))

pub loop-at-preserved : goal.loop-at-preserved
loop-at-preserved c =
    let st = rw c.in-Withhold.is at c.row_at-x.ensures.stop_is in
    (along_withheld _ _ _ _ (along_row _ _ _ _ c.loop-at.invariant.0 c.row_at-x.result c.copy-bytes.result _ _ c.with_row-s.result c.row_at-x.ensures refl c.copy-bytes.ensures c.copy-bytes.auto.out c.with_row-s.ensures) _ _ _ (ap (λ (z : Progress). z.ready) c.with_row-s.ensures) st c.with_withheld-s.ensures, (c.copy-bytes.auto.out ∙ c.loop-at.invariant.1))

pub returns-in-Signalling : goal.returns-in-Signalling
returns-in-Signalling c =
    let st = rw c.in-Signalling.is at c.row_at-x.ensures.stop_is in
    rw c.stretch_to-in-Signalling.ensures ((along_row _ _ _ _ c.loop-at.invariant.0 c.row_at-x.result c.copy-bytes.result _ _ c.with_row-s.result c.row_at-x.ensures refl c.copy-bytes.ensures c.copy-bytes.auto.out c.with_row-s.ensures), (st.0, st.1))
