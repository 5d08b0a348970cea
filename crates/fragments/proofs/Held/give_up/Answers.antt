use mathlib.Core.Path.{sym, subst, ◌∙◌}
use native.Mathlib.Omega.{arith}
use Rattle.fragments.specs.Fragments.{Nearest}
use Rattle.fragments.proofs.GrowLaws.{free_numbers, dropped_at}
use Rattle.fragments.proofs.Held.give_up.Goals as goal

pub move_free-requires : goal.move_free-requires
move_free-requires c =
    let a = c.args in
    let from = c.leading_of-leading in
    let to = c.leading_of-to in
    free_numbers a.fragment_heads.now a.self.count from.result.count to.result.count _ _ _ _ (omega (arith, from.ensures.0, c.nearest.ensures.low))
    (grind (arith, from.ensures.0, c.nearest.ensures.low, to.ensures.0, c.beside.ensures.0, c.beside.ensures.1)) c.requires.1.within from.ensures.1 to.ensures.1 c.fragment_bytes-all.ensures

pub returns : goal.returns
returns c =
    let a = c.args in
    let from = c.leading_of-leading in
    let to = c.leading_of-to in
    dropped_at a.index a.self.count a.self.leading a.fragment_heads.now a.bodies.now from.result.count to.result.count _ _ _ _ _ c.requires.0
    (subst (Nearest a.self.count a.self.leading) (sym from.ensures.0) c.nearest.ensures) c.requires.1
    (λ h. to.ensures.0 ∙ c.beside.ensures.0 h) (λ h. to.ensures.0 ∙ c.beside.ensures.1 h) from.ensures.1 to.ensures.1 c.fragment_bytes-all.ensures c.move_free.ensures c.close_slot.ensures
