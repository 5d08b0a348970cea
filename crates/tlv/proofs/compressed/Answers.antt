use borrow.Author.Tests.{le-leb, lt-leb}
use lib.ListN.{get_or}
use native.Mathlib.Omega.{arith}
use mathlib.Core.Logic.{inl, inr}
use Rattle.tlv.proofs.Laws.{no_header_type}
use Rattle.meaning.specs.Mmtp.{compressed, by_header_type}
use Rattle.tlv.proofs.compressed.Goals as goal

pub returns-then-s-lt3 : goal.returns-then-s-lt3
unfolding compressed
returns-then-s-lt3 c = rw (lt-leb 3 _ c.if-s-lt3.true)

pub returns-in-33 : goal.returns-in-33
unfolding compressed by_header_type
returns-in-33 c =
    elim c.in-33.is [
      | inl w ↦ rw (le-leb 3 _ c.if-s-lt3.false, w)
      | inr w ↦ rw (le-leb 3 _ c.if-s-lt3.false, w)
    ]

pub returns-in-32 : goal.returns-in-32
unfolding compressed by_header_type
returns-in-32 c = rw (le-leb 3 _ c.if-s-lt3.false, c.in-32.is)

pub returns-in-96 : goal.returns-in-96
unfolding compressed by_header_type
returns-in-96 c = rw (le-leb 3 _ c.if-s-lt3.false, c.in-96.is)

pub returns-in_default : goal.returns-in_default
unfolding compressed
returns-in_default c = rw (le-leb 3 _ c.if-s-lt3.false, no_header_type (get_or c.args.s.now 2 0) (grind arith) (grind arith) (grind arith))
