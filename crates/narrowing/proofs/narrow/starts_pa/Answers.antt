use mathlib.Core.Path.{sym, ◌∙◌}
use lib.Bits.{and_mask}
use lib.ListN.{get_or}
use native.Mathlib.Omega.{arith}
use Rattle.narrowing.proofs.PayloadLaws.{start_short, first_part, first_whole, first_several, first_single, start_part, start_several, start_other, start_all}
use Rattle.narrowing.proofs.narrow.starts_pa.Goals as goal

pub returns-then-payload-lt4 : goal.returns-then-payload-lt4
returns-then-payload-lt4 c = sym (start_short c.args.payload.now c.if-payload-lt4.true)

pub returns-then-payload-ne0 : goal.returns-then-payload-ne0
returns-then-payload-ne0 c =
    let s = c.args.payload.now in
    sym (start_part s c.if-payload-lt4.false (first_part (get_or s 0 0) (omega (arith, c.type_inv.payload 0)) c.if-payload-ne0.true))

pub returns-then-payload-ne0-2 : goal.returns-then-payload-ne0-2
returns-then-payload-ne0-2 c =
    let s = c.args.payload.now in
    sym (start_several s c.if-payload-lt4.false (first_whole (get_or s 0 0) c.if-payload-ne0.false) (first_several (get_or s 0 0) (λ e. c.if-payload-ne0-2.true (omega (arith, e, and_mask (get_or s 0 0) 1)))))

pub returns-then-id16-ne0 : goal.returns-then-id16-ne0
returns-then-id16-ne0 c =
    let s = c.args.payload.now in
    sym
    (start_other s c.if-payload-lt4.false (first_whole (get_or s 0 0) c.if-payload-ne0.false) (first_single (get_or s 0 0) (omega (arith, c.if-payload-ne0-2.false, and_mask (get_or s 0 0) 1)))
    (λ e. c.if-id16-ne0.true (c.id16.ensures ∙ e)))

pub returns : goal.returns
returns c =
    let s = c.args.payload.now in
    sym
    (start_all s c.if-payload-lt4.false (first_whole (get_or s 0 0) c.if-payload-ne0.false) (first_single (get_or s 0 0) (omega (arith, c.if-payload-ne0-2.false, and_mask (get_or s 0 0) 1)))
    (sym c.id16.ensures ∙ c.if-id16-ne0.false))
