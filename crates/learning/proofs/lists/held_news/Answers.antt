use borrow.Author.Tests.{eqb-true, eqb-false, eq-eqb, ne_eqb}
use Prim.Native.Nat.{◌+◌, ◌-◌}
use mathlib.Core.Path.{◌≡◌, refl, sym, ◌∙◌}
use mathlib.Core.Bool.{true, false, ◌&&◌}
use native.Mathlib.Omega.{arith}
use lib.Dec.{eqb}
use lib.ListN.{length, get_or}
use Rattle.meaning.specs.Tables.{kind_number}
use Rattle.meaning.proofs.ListLaws.{and_false}
use Rattle.learning.proofs.HeldLaws.{hold_start, hold_cut, hold_all, hold_less, hold_past, hold_more, hold_other, hold_next}
use Rattle.learning.proofs.MapLaws.{front_none, count_none, met_mpt}
use Rattle.learning.proofs.KindLaws.{met_next}
use Rattle.learning.proofs.lists.held_news.Goals.{then-held_id-id-via-then-held_id-id, then-held_id-id-via-else-held_id-id+then-held_kind-kind_number, in-Some+in-len2-up+else-held_id-id+else-held_kind-kind_number, in_default}
use Rattle.learning.proofs.lists.held_news.Goals as goal

pub returns-in_err-front : goal.returns-in_err-front
returns-in_err-front c = rw (c.from_residual.ensures, front_none _ c.in_err-front.ensures)

pub returns-in_err-get : goal.returns-in_err-get
returns-in_err-get c =
    rw (c.from_residual-in_err-get.ensures, count_none _ c.in_ok-front.front c.in_ok-front.ensures c.in_err-get.ensures.lookup.3)

pub loop-init : goal.loop-init
loop-init c =
    let all : c.wide-all.result - 0 ≡ c.wide-all.result = omega arith in
    let w = c.wide-all.ensures in
    let there = c.in_ok-get.ensures.lookup.3 in
    rw all (
      hold_start c.args.b.now c.in_ok-front.front c.in_ok-front.ensures there.0 c.wide-all.result (w.0 ∙ there.1 0) w.1 c.args.list.now c.requires,
      record { met = refl },
    )

pub returns-in_err-asset : goal.returns-in_err-asset
returns-in_err-asset c =
    let l = c.loop in
    rw c.from_residual-in_err-asset.ensures (hold_cut _ _ l.from _ l.rest.now l.invariant.0 (omega arith) c.in_err-asset.ensures)

pub returns-in_default-rest : goal.returns-in_default-rest
returns-in_default-rest c =
    let l = c.loop in
    hold_more _ _ l.from _ l.rest.now l.invariant.0 c.in_ok-asset.asset c.in_ok-asset.ensures (omega arith) _ c.in-Some.is c.in_default-rest.len_below

pub returns-then-held_id-id : goal.returns-then-held_id-id
returns-then-held_id-id c =
    let l = c.loop in
    let xs = l.rest.now in
    let id = c.in-Some.id in
    let kind = kind_number c.in_ok-asset.asset.part in
    let other : (eqb (get_or xs 0 0) id && eqb (get_or xs 1 0) kind) ≡ false =
    elim c.then-held_id-id.branch [
      | then-held_id-id-via-then-held_id-id w ↦ rw (ne_eqb (get_or xs 0 0) id (λ e. w.if-held_id-id.true e))
      | then-held_id-id-via-else-held_id-id+then-held_kind-kind_number w ↦ rw (ne_eqb (get_or xs 1 0) kind (λ e. w.if-held_kind-kind_number.true (e ∙ sym w.kind_number.ensures)), and_false)
    ] in
    hold_other _ _ l.from _ xs l.invariant.0 c.in_ok-asset.asset c.in_ok-asset.ensures (omega arith) _ c.in-Some.is c.in-len2-up.len_at_least other

pub loop-preserved : goal.loop-preserved
loop-preserved c =
    let l = c.loop in
    let one_less : c.wide-all.result - (l.counter + 1) ≡ c.wide-all.result - l.counter - 1 = omega arith in
    let asset = c.in_ok-asset.ensures in
    let kind = kind_number c.in_ok-asset.asset.part in
    let hold = hold_past _ _ l.from _ l.rest.now l.invariant.0 c.in_ok-asset.asset asset (omega arith) in
    rw one_less (
      elim c.match-asset.branch [
        | in-Some+in-len2-up+else-held_id-id+else-held_kind-kind_number w ↦
            let first : eqb (get_or l.rest.now 0 0) w.in-Some.id ≡ true = eq-eqb (get_or l.rest.now 0 0) w.in-Some.id w.if-held_id-id.false in
            let second : eqb (get_or l.rest.now 1 0) kind ≡ true = eq-eqb (get_or l.rest.now 1 0) kind (w.if-held_kind-kind_number.false ∙ w.kind_number.ensures) in
            rw w.rest-is
            (hold_next _ _ l.from _ l.rest.now l.invariant.0 c.in_ok-asset.asset asset (omega arith) w.in-Some.id w.in-Some.is w.in-len2-up.len_at_least (rw (first, second)))
        | in_default w ↦ rw w.rest-is (hold w.in_default.is)
      ],
      rw c.with_kind-news.ensures (met_next _ _ _ _ l.from _ l.news l.invariant.1 c.in_ok-asset.asset (omega arith) asset),
    )

pub returns-then-not-is_empty : goal.returns-then-not-is_empty
returns-then-not-is_empty c =
    let l = c.loop in
    hold_less _ _ l.from _ l.rest.now l.invariant.0 (omega arith) (eqb-false (length l.rest.now) 0 (sym c.if-not-is_empty.ensures))

pub returns : goal.returns
returns c =
    let w = c.wide-all in
    let l = c.loop in
    let there = c.in_ok-get.ensures.lookup.3 in (
      hold_all _ _ l.from _ l.rest.now l.invariant.0 (omega arith) (eqb-true (length l.rest.now) 0 (sym c.if-not-is_empty.ensures)),
      met_mpt _ c.in_ok-front.front c.in_ok-front.ensures there.0 w.result (w.ensures.0 ∙ there.1 0) w.ensures.1 _ l.from _ l.news l.invariant.1 (omega arith),
    )
