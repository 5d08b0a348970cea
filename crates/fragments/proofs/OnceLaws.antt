-- Each byte at most once: of the room after a fragment went, grew or came behind the others. Rests on MoveLaws of `meaning`.
use Prim.Native.Nat.{ℕ, ◌+◌, ◌-◌, ◌≤◌, ◌<◌}
use mathlib.Core.Path.{◌≡◌, refl}
use mathlib.Core.Bool.{Bool, true, false}
use mathlib.Core.Logic.{inl, inr}
use native.Mathlib.Omega.{arith}
use lib.ListN.{length}
use lib.Dec.{ltb}
use borrow.Author.Tests.{ltb-true, ltb-false}
use Rattle.meaning.specs.Bytes.{Bytes}
use Rattle.meaning.specs.Writing.{Wrote}
use Rattle.meaning.specs.Moves.{MovedOnce}
use Rattle.meaning.proofs.MoveLaws.{once_one, once_two, once_three}
use Rattle.fragments.specs.Room.{FreeMoved, Packed}

-- ---- the free bytes moved, and the body behind them or not

module _ (leading to old new all : ℕ) (bodies mid : Bytes) (forth : leading < to → old ≤ new) (back : to ≤ leading → new ≤ old) (low : old ≤ all) (high : new ≤ all)
    (within : all ≤ length bodies) (m : FreeMoved leading to old new all bodies mid) (b : Bytes) where
  pub once_moved : MovedOnce bodies b mid
  once_moved = go (ltb leading to) refl
    where
      go : (x : Bool) → ltb leading to ≡ x → MovedOnce bodies b mid
      go true e =
          let h : leading < to = ltb-true leading to e in
          let l : old ≤ new = forth h in
          once_one bodies b mid (length bodies - (all - old)) (new - old) old new (omega arith) (omega arith) (m.down h)
      go false e =
          let h : to ≤ leading = ltb-false leading to e in
          let l : new ≤ old = back h in
          once_one bodies b mid new (old - new) (length bodies - (all - new)) (length bodies - (all - old)) (omega arith) (omega arith) (m.up h)

  pub once_grown : (bodies' : Bytes) (q : ℕ) → all + length b ≤ length bodies → Wrote b mid new bodies' q → MovedOnce bodies b bodies'
  once_grown bodies' q fit v = go (ltb leading to) refl
    where
      go : (x : Bool) → ltb leading to ≡ x → MovedOnce bodies b bodies'
      go true e =
          let h : leading < to = ltb-true leading to e in
          let l : old ≤ new = forth h in
          once_two bodies b mid (length bodies - (all - old)) (new - old) old new (omega arith) (omega arith) (m.down h) bodies' new q (omega arith) (inl (omega arith)) v
      go false e =
          let h : to ≤ leading = ltb-false leading to e in
          let l : new ≤ old = back h in
          once_two bodies b mid new (old - new) (length bodies - (all - new)) (length bodies - (all - old)) (omega arith) (omega arith) (m.up h) bodies' new q (omega arith)
          (inr (omega arith)) v

-- ---- all packed but one, and the body behind them

below : (total all old start end : ℕ) → old ≤ start → start ≤ end → end ≤ all → all ≤ total → total - (all - old) + (start - old) ≤ total - (all - end)
below total all old start end a b c d = omega arith

pub once_put : (index leading start end old all : ℕ) (bodies mid b bodies' : Bytes) (q : ℕ) → start ≤ end → end ≤ all → old ≤ all → all ≤ length bodies → (index < leading → end ≤ old)
    → (leading ≤ index → old ≤ start) → all - (end - start) + length b ≤ length bodies → Packed index leading start end old all bodies mid → Wrote b mid (all - (end - start)) bodies' q
    → MovedOnce bodies b bodies'
once_put index leading start end old all bodies mid b bodies' q es ee eo within led not_led fit m v = go (ltb index leading) refl
  where
    go : (x : Bool) → ltb index leading ≡ x → MovedOnce bodies b bodies'
    go true e =
        let h : index < leading = ltb-true index leading e in
        let l : end ≤ old = led h in
        let w = m.before h in
        once_three bodies b m.between end (old - end) start (old - (end - start)) (omega arith) (omega arith) w.0 mid bodies' (length bodies - (all - old)) (all - old)
        (old - (end - start)) (all - (end - start)) (all - (end - start)) q (omega arith) (omega arith) (omega arith) (omega arith) fit w.1 v
    go false e =
        let h : leading ≤ index = ltb-false index leading e in
        let l : old ≤ start = not_led h in
        let w = m.behind h in
        once_three bodies b m.between (length bodies - (all - old)) (start - old) old start (omega arith) (omega arith) w.0 mid bodies' (length bodies - (all - end)) (all - end)
        start (all - (end - start)) (all - (end - start)) q (below (length bodies) all old start end l es ee within) (omega arith) (omega arith) (omega arith) fit w.1 v
