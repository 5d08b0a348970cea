use mathlib.Core.Path.{refl, sym, ◌∙◌}
use borrow.Author.Tests.{not-true, not-false}
use Rattle.narrowing.proofs.PayloadLaws.{no_start, no_pa_stays}
use Rattle.narrowing.proofs.FrameLaws.{four_read}
use Rattle.narrowing.proofs.FoundLaws.{packet_stays, may_not, may_rewritten, framed}
use Rattle.narrowing.proofs.narrow.rewrite.Goals as goal

pub returns-then-not-starts_pa : goal.returns-then-not-starts_pa
returns-then-not-starts_pa c =
    let a = c.args in
    let none_there = no_start a.payload.now (sym c.starts_pa.ensures ∙ not-true _ c.if-not-starts_pa.true-raw) in
    (packet_stays a.modes a.o a.pid a.rewritable a.p.now a.payload.now (no_pa_stays a.o a.pid a.payload.now none_there), refl)

pub may_rewrite-requires : goal.may_rewrite-requires
may_rewrite-requires c = four_read _ _ c.requires.0

pub returns-then-not-may_rewrite : goal.returns-then-not-may_rewrite
returns-then-not-may_rewrite c =
    let a = c.args in
    (may_not a.modes a.o a.pid a.rewritable a.p.now a.payload.now (sym c.may_rewrite.ensures ∙ not-true _ c.if-not-may_rewrite.true-raw), refl)

pub narrowed_to-requires : goal.narrowed_to-requires
narrowed_to-requires c =
    let a = c.args in
    let h = c.requires in
    (framed a.modes a.o a.pid a.rewritable a.p.now a.payload.now (sym c.may_rewrite.ensures ∙ not-false _ c.if-not-may_rewrite.false-raw) h.0, h.1)

pub returns : goal.returns
returns c =
    let a = c.args in
    may_rewritten a.modes a.o a.pid a.rewritable a.p.now a.payload.now (sym c.may_rewrite.ensures ∙ not-false _ c.if-not-may_rewrite.false-raw)
    a.out.now a.to c.narrowed_to.new.out c.narrowed_to.result (c.narrowed_to.ensures a.rewritable)
