use Prim.Native.Nat.{◌+◌}
use mathlib.Core.Path.{◌≡◌, refl, ◌∙◌}
use mathlib.Core.List.{[]}
use native.Mathlib.Omega.{arith}
use lib.ListN.{length}
use Rattle.meaning.specs.Packets.{cut}
use Rattle.meaning.specs.declared.Limits.{Limits}
use Rattle.recorder.proofs.CallLaws.{call_begins, some_begins, call_fits, rest_fits, sofar_skipped}
use Rattle.recorder.proofs.call.in_parts.Goals as goal

pub decided-s-requires : goal.decided-s-requires
decided-s-requires c = let h = c.requires.3 in (h.1, _, h.2.tables_kept)

pub packets-x-requires : goal.packets-x-requires
packets-x-requires c =
    let a = c.args in
    let begun = c.decided-s.ensures a.kept.now.data_set.words c.first_drops-set.ensures in
    (call_fits a.t _ _ a.kept.now _ a.bodies.now _ a.out.now begun c.requires.0 (length a.first.now) (omega (arith, c.requires.1)) (omega (arith, c.requires.2)), some_begins a.t _ _ a.kept.now _ a.bodies.now _ a.out.now begun c.requires.0 c.requires.3)

pub packets-y-requires : goal.packets-y-requires
packets-y-requires c =
    let a = c.args in
    let begun = c.decided-s.ensures a.kept.now.data_set.words c.first_drops-set.ensures in
    let one = c.packets-x in
    let h = c.requires.3 in
    let L : Limits = record { work = 0; total = h.0; most = a.t.most } in
    (rest_fits _ _ (length a.second.now) one.ensures.3 (call_fits a.t _ _ a.kept.now _ a.bodies.now _ a.out.now begun c.requires.0 _ c.requires.1 c.requires.2), (L, h.1, a.e.leading, a.out.now, _, _, refl, one.ensures.0 L h.1 a.e.leading a.out.now [] 0 refl (call_begins a.t _ _ a.kept.now _ a.bodies.now _ a.out.now begun c.requires.0 L h.1 h.2)))

pub shape_of-map_room : goal.shape_of-map_room
shape_of-map_room c = c.packets-y.auto.map_room ∙ c.packets-x.auto.map_room

pub shape_of-bodies : goal.shape_of-bodies
shape_of-bodies c = c.packets-y.auto.bodies ∙ c.packets-x.auto.bodies

pub shape_of-out : goal.shape_of-out
shape_of-out c = c.packets-y.auto.out ∙ c.packets-x.auto.out

pub returns : goal.returns
returns c =
    let a = c.args in
    let begun = c.decided-s.ensures a.kept.now.data_set.words c.first_drops-set.ensures in
    let one = c.packets-x in
    let two = c.packets-y in
    let n = (cut a.t.limit a.first.now).skipped in
    let m = (cut a.t.limit a.second.now).skipped in
    let sum : 0 + n + m ≡ n + m = omega arith in
    record {
      passed = λ L k em h. (_, sofar_skipped sum (two.ensures.0 L k a.e.leading a.out.now _ _ em (one.ensures.0 L k a.e.leading a.out.now [] 0 em (call_begins a.t _ _ a.kept.now _ a.bodies.now _ a.out.now begun c.requires.0 L k h))));
      first_left = one.ensures.1;
      first_inside = one.ensures.2;
      second_left = two.ensures.1;
      second_inside = two.ensures.2;
    }
