use Prim.Native.Nat.{◌+◌}
use mathlib.Core.Path.{refl, ap}
use native.Mathlib.Omega.{arith}
use lib.ListN.{set}
use Rattle.fragments.proofs.FragmentLaws.{lens_turn, lens_less}
use Rattle.fragments.proofs.GrowLaws.{ends_so, free_numbers, lengthened}
use Rattle.fragments.proofs.Held.lengthen.Goals as goal

pub move_free-requires : goal.move_free-requires
move_free-requires c =
    let a = c.args in
    let s = c.requires.1 in
    free_numbers a.fragment_heads.now a.self.count a.place.leading.count (a.place.index + 1) _ _ _ _ s.leading_low (omega arith) (omega arith) s.free_is (ends_so a.self.count a.fragment_heads.now a.place s (omega arith)) s.all_is

pub longer-requires : goal.longer-requires
longer-requires c =
    let a = c.args in
    omega (arith, c.requires.1.all_is, lens_less a.fragment_heads.now (a.place.index + 1) a.self.count (omega arith), lens_turn a.fragment_heads.now a.place.index (omega arith))

pub returns : goal.returns
returns c =
    let a = c.args in
    let pre = c.requires in
    let w = c.copy in record {
      lengthens = lengthened a.place a.body.now a.self.count a.fragment_heads.now a.bodies.now _ _ _ _ pre.0 pre.1 pre.2 pre.3 c.move_free.ensures w.auto.out w.ensures (ap (set a.fragment_heads.now a.place.index) c.longer.ensures);
      value = refl;
    }
