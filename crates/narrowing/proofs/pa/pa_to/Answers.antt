use native.Mathlib.Omega.{arith}
use Rattle.narrowing.proofs.WalkLaws.{body_room, body_wrote}
use borrow.Author.Rules.{rules}
use Rattle.narrowing.proofs.pa.pa_to.Goals as goal

pub heads_to-d-requires : goal.heads_to-d-requires
heads_to-d-requires c = (c.requires.0, c.requires.1, search rules)

pub tables_to-requires : goal.tables_to-requires
tables_to-requires c =
    let a = c.args in
    let h = c.requires in
    let u = c.copy-c in
    let w = c.heads_to-d in (
      h.0.1.within,
      h.1,
      body_room a.s.now a.tables h.0.0 h.0.1 _ _ _ a.to _ _ u.ensures a.o a.pid w.ensures (omega (arith, h.2, u.auto.out, w.auto.out)),
    )

pub returns : goal.returns
returns c =
    let a = c.args in
    λ es h. body_wrote a.s.now a.tables es h _ _ _ a.to _ _ c.copy-c.ensures a.o a.pid (c.heads_to-d.ensures es h) c.tables_to.ensures
