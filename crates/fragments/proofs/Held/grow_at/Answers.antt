use mathlib.Core.Path.{sym, ◌∙◌}
use Rattle.fragments.proofs.GrowLaws.{grew, discarded}
use Rattle.fragments.proofs.Held.grow_at.Goals as goal

pub returns-then-fits : goal.returns-then-fits
returns-then-fits c =
    let a = c.args in
    let pre = c.requires in
    let l = c.lengthen-end in
    grew a.most a.body.now a.self.count a.self.leading a.fragment_heads.now a.bodies.now a.place pre.2 pre.0 _ _ _ _ pre.1 l.ensures.value c.flags_of-flags.ensures (sym c.fits.ensures ∙ c.if-fits.true) l.ensures.lengthens

pub returns : goal.returns
returns c =
    let a = c.args in
    let pre = c.requires in
    discarded a.most a.body.now a.self.count a.self.leading a.fragment_heads.now a.bodies.now a.place pre.2 pre.0 _ _ _ (sym c.fits.ensures ∙ c.if-fits.false) c.give_up.ensures
