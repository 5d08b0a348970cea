-- Small laws of tests and of writing that several statements need. Rests on nothing of this crate.
use Prim.Native.Nat.{ℕ}
use mathlib.Core.Path.{◌≡◌, refl, sym, ◌∙◌}
use mathlib.Core.Bool.{Bool, true, false, not}
use mathlib.Core.List.{[], ◌++◌}
use native.Mathlib.Nat.{zero-add}
use lib.ListN.{length, drop}
use lib.Seq.{take_at, drop_at}
use lib.Dec.{leb, ltb}
use borrow.Author.Tests.{leb-true, leb-false, lt-ltb, le-ltb}
use Rattle.meaning.specs.Bytes.{Bytes}
use Rattle.meaning.specs.Writing.{Wrote}
use Rattle.meaning.proofs.Writes.{wrote_none, wrote_one}

-- The tests of 01's table, the other way round.
pub below_is : (a b : ℕ) → ltb a b ≡ not (leb b a)
below_is a b = go (leb b a) refl
  where
    go : (t : Bool) → leb b a ≡ t → ltb a b ≡ not t
    go true e = le-ltb a b (leb-true b a e)
    go false e = lt-ltb a b (leb-false b a e)

-- Nothing was written.
pub unwritten : (d d' : Bytes) (n : ℕ) → Wrote [] d 0 d' n → d' ≡ d
unwritten d d' n w = (wrote_one [] d 0 d' d n 0 w (wrote_none d 0)).0

-- Bytes written over the front of an output.
pub overwritten : (y d : Bytes) (n : ℕ) → n ≡ length y → Wrote y d 0 (y ++ drop n d) n
overwritten y d n e = record { end = e ∙ sym (zero-add (length y)); front = take_at y (drop n d) n (sym e); back = drop_at y (drop n d) n (sym e) }
