-- Writes as moves: what moves each byte at most once, from one write, two or three that have no byte in common. Rests on Writes.
use Prim.Native.Nat.{ℕ, ◌+◌, ◌≤◌, ◌<◌}
use mathlib.Core.Path.{◌≡◌, refl, sym, ap, ◌∙◌}
use mathlib.Core.Bool.{Bool, true, false, cond, ◌&&◌}
use mathlib.Core.Logic.{◌⊎◌, inl, inr}
use mathlib.Core.List.{List, [], ◌∷◌, ◌++◌, append_assoc}
use native.Mathlib.Omega.{arith}
use lib.ListN.{length, take, drop, length-drop}
use lib.Seq.{take-length, take-append-le, drop-append-le, drop-append_seam}
use lib.Dec.{leb, ltb}
use borrow.Author.Tests.{leb-true, ltb-true, lt-leb, le-ltb}
use Rattle.meaning.specs.Bytes.{Bytes}
use Rattle.meaning.specs.Writing.{Wrote}
use Rattle.meaning.specs.Learn.{over}
use Rattle.meaning.specs.Moves.{Move, moved_out, among, taken_by, written_by, AllInside, MovedOnce}
use Rattle.meaning.proofs.Writes.{wrote_is}
use Rattle.meaning.proofs.ListLaws.{and_both}

abbrev move : ℕ → ℕ → ℕ → Move
move a n b = record { from = a; count = n; to = b }

-- ---- blocks that have no byte in common

-- n bytes from a on, and m from b on.
abbrev pub Clear : ℕ → ℕ → ℕ → ℕ → Type 0
Clear a n b m = (a + n ≤ b) ⊎ (b + m ≤ a)

abbrev Apart : Move → Move → Type 0
Apart x y = Clear x.from x.count y.from y.count × Clear x.to x.count y.to y.count

abbrev ApartFrom : Move → List Move → Type 0
ApartFrom x [] = Unit {0}
ApartFrom x (y ∷ ys) = Apart x y × ApartFrom x ys

abbrev AllApart : List Move → Type 0
AllApart [] = Unit {0}
AllApart (x ∷ xs) = ApartFrom x xs × AllApart xs

among_both : (i a n : ℕ) → among i a n ≡ true → (a ≤ i) × (i < a + n)
unfolding among
among_both i a n e = let h = and_both (leb a i) (ltb i (a + n)) e in (leb-true a i h.0, ltb-true i (a + n) h.1)

-- in one of two blocks with no byte in common, so not in the other
among_other : (i a n b m : ℕ) → Clear a n b m → among i a n ≡ true → among i b m ≡ false
unfolding among
among_other i a n b m (inl h) e = let k = among_both i a n e in rw (lt-leb b i (omega (arith, k.0, k.1))) refl
among_other i a n b m (inr h) e = let k = among_both i a n e in rw (le-ltb i (b + m) (omega (arith, k.0, k.1))) (go (leb b i))
  where
    go : (x : Bool) → (x && false) ≡ false
    go true = refl
    go false = refl

module _ (i : ℕ) where
  not_taken : (x : Move) (ms : List Move) → ApartFrom x ms → among i x.from x.count ≡ true → taken_by ms i ≡ 0
  unfolding taken_by
  not_taken x [] a e = refl
  not_taken x (y ∷ ys) a e = rw (among_other i x.from x.count y.from y.count a.0.0 e) (omega (arith, not_taken x ys a.1 e))

  not_written : (x : Move) (ms : List Move) → ApartFrom x ms → among i x.to x.count ≡ true → written_by ms i ≡ 0
  unfolding written_by
  not_written x [] a e = refl
  not_written x (y ∷ ys) a e = rw (among_other i x.to x.count y.to y.count a.0.1 e) (omega (arith, not_written x ys a.1 e))

  one_taken : (ms : List Move) → AllApart ms → taken_by ms i ≤ 1
  unfolding taken_by
  one_taken [] a = omega arith
  one_taken (x ∷ xs) a = go (among i x.from x.count) refl (one_taken xs a.1)
    where
      go : (b : Bool) → among i x.from x.count ≡ b → taken_by xs i ≤ 1 → cond b 1 0 + taken_by xs i ≤ 1
      go true e r = omega (arith, not_taken x xs a.0 e)
      go false e r = omega (arith, r)

  one_written : (ms : List Move) → AllApart ms → written_by ms i ≤ 1
  unfolding written_by
  one_written [] a = omega arith
  one_written (x ∷ xs) a = go (among i x.to x.count) refl (one_written xs a.1)
    where
      go : (b : Bool) → among i x.to x.count ≡ b → written_by xs i ≤ 1 → cond b 1 0 + written_by xs i ≤ 1
      go true e r = omega (arith, not_written x xs a.0 e)
      go false e r = omega (arith, r)

once_of : (room b room' : Bytes) (ms : List Move) → length ms ≤ 3 → AllInside (length room + length b) (length room) ms → AllApart ms
    → room' ≡ moved_out (room ++ b) ms room → MovedOnce room b room'
once_of room b room' ms few inside apart is = record {
  moves = ms;
  is = is;
  few = few;
  inside = inside;
  taken_once = λ i. one_taken i ms apart;
  written_once = λ i. one_written i ms apart;
}

-- ---- writes as moves

-- One move is one write.
step : (s y room mid : Bytes) (from count to r : ℕ) (ms : List Move) → y ≡ take count (drop from s) → Wrote y room to mid r
    → moved_out s ms mid ≡ moved_out s (move from count to ∷ ms) room
unfolding moved_out over
step s y room mid from count to r ms e w =
    ap (moved_out s ms)
    (wrote_is y room mid to r w ∙ append_assoc (take to room) y (drop r room) ∙ ap (λ (k : ℕ). take to room ++ (y ++ drop k room)) w.end
    ∙ ap (λ (z : Bytes). take to room ++ (z ++ drop (to + length z) room)) e)

none_left : (s room : Bytes) → room ≡ moved_out s [] room
unfolding moved_out
none_left s room = refl

-- A block of the room, and the body, as blocks of the two together.
block_in : (room b : Bytes) (from count : ℕ) → from + count ≤ length room → take count (drop from room) ≡ take count (drop from (room ++ b))
block_in room b from count h =
    sym (ap (take count) (drop-append-le from room b (omega arith)) ∙ take-append-le count (drop from room) b (omega (arith, length-drop from room)))

body_in : (room b : Bytes) → b ≡ take (length b) (drop (length room) (room ++ b))
body_in room b = sym (ap (take (length b)) (drop-append_seam room b) ∙ take-length b)

module _ (room b : Bytes) where
  pub once_none : MovedOnce room b room
  once_none = once_of room b room [] (omega arith) tt tt (none_left (room ++ b) room)

  module _ (mid : Bytes) (from count to r : ℕ) (inside : from + count ≤ length room) (place : to + count ≤ length room)
      (w : Wrote (take count (drop from room)) room to mid r) where
    -- a block
    pub once_one : MovedOnce room b mid
    once_one =
        once_of room b mid (move from count to ∷ []) (omega arith) (omega arith, place, tt) (tt, tt)
        (none_left (room ++ b) mid ∙ step (room ++ b) _ room mid from count to r [] (block_in room b from count inside) w)

    -- a block and the body
    pub once_two : (room' : Bytes) (at q : ℕ) → at + length b ≤ length room → Clear to count at (length b) → Wrote b mid at room' q → MovedOnce room b room'
    once_two room' at q fit clear v =
        once_of room b room' (move from count to ∷ move (length room) (length b) at ∷ []) (omega arith)
        (omega arith, place, (omega arith, fit, tt)) (((inl inside, clear), tt), (tt, tt))
        (none_left (room ++ b) room' ∙ step (room ++ b) b mid room' (length room) (length b) at q [] (body_in room b) v
        ∙ step (room ++ b) _ room mid from count to r (move (length room) (length b) at ∷ []) (block_in room b from count inside) w)

    -- two blocks and the body, one place behind the other
    pub once_three : (mid₂ room' : Bytes) (from₂ count₂ to₂ r₂ at q : ℕ) → from + count ≤ from₂ → from₂ + count₂ ≤ length room → to + count ≤ to₂ → to₂ + count₂ ≤ at
        → at + length b ≤ length room → Wrote (take count₂ (drop from₂ room)) mid to₂ mid₂ r₂ → Wrote b mid₂ at room' q → MovedOnce room b room'
    once_three mid₂ room' from₂ count₂ to₂ r₂ at q apart₁ inside₂ apart₂ apart₃ fit v u =
        once_of room b room' (move from count to ∷ move from₂ count₂ to₂ ∷ move (length room) (length b) at ∷ []) (omega arith)
        (omega arith, place, (omega arith, omega arith, (omega arith, fit, tt)))
        (((inl apart₁, inl apart₂), ((inl inside, inl (omega arith)), tt)), (((inl inside₂, inl apart₃), tt), (tt, tt)))
        (none_left (room ++ b) room' ∙ step (room ++ b) b mid₂ room' (length room) (length b) at q [] (body_in room b) u
        ∙ step (room ++ b) _ mid mid₂ from₂ count₂ to₂ r₂ (move (length room) (length b) at ∷ []) (block_in room b from₂ count₂ inside₂) v
        ∙ step (room ++ b) _ room mid from count to r (move from₂ count₂ to₂ ∷ move (length room) (length b) at ∷ []) (block_in room b from count inside) w)
