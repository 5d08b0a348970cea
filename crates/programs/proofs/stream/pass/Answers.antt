use native.Mathlib.Omega.{arith}
use Rattle.programs.specs.Stream.{standing_if}
use Rattle.programs.proofs.StreamLaws.{goes_none, goes_read, going}
use mathlib.Core.Path.{sym, ap, ◌∙◌}
use Rattle.programs.proofs.stream.pass.Goals as goal

pub loop-init : goal.loop-init
loop-init c = record {
  not_refused = c.requires;
  long = record { work_long = omega arith; bodies_long = omega arith; map_room_long = omega arith; out_long = omega arith };
  goes = goes_none _ c.args.rooms.now;
}

pub returns-in_err-next : goal.returns-in_err-next
returns-in_err-next c =
    let i = c.loop.invariant in
    let n = c.next.ensures in
    goes_read c.args.rooms.now _ _ i.goes i.not_refused i.long n.long c.fill-came.ensures (omega (arith, c.fill-came.auto.buf)) n.next (ap (λ v. standing_if v c.next.new.x) c.in_err-next.was ∙ sym c.from_residual.ensures)

pub returns-then-not-goes_on : goal.returns-then-not-goes_on
returns-then-not-goes_on c =
    let i = c.loop.invariant in
    let n = c.next.ensures in
    goes_read c.args.rooms.now _ _ i.goes i.not_refused i.long n.long c.fill-came.ensures (omega (arith, c.fill-came.auto.buf)) n.next (ap (λ v. standing_if v c.next.new.x) c.in_ok-next.was)

pub loop-preserved : goal.loop-preserved
loop-preserved c =
    let i = c.loop.invariant in
    let n = c.next.ensures in
    record {
      not_refused = going c.next.new.x c.fill-came.result (sym c.if-not-goes_on.ensures);
      long = n.long;
      goes = goes_read c.args.rooms.now _ _ i.goes i.not_refused i.long n.long c.fill-came.ensures (omega (arith, c.fill-came.auto.buf)) n.next (ap (λ v. standing_if v c.next.new.x) c.in_ok-next.was);
    }

pub returns : goal.returns
returns c = c.loop.invariant.goes
