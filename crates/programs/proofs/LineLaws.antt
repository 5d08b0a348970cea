-- Numbers as text: how long they are, and that a digit stands alone or behind those of a tenth; which line is the last. Rests on what was
-- written (Writes of `meaning`).
use Prim.Native.Nat.{ℕ, zero, suc, ◌+◌, ◌-◌, ◌/◌, ◌%◌, ◌≤◌, ◌<◌}
use Rattle.std.specs.Prelude.{Some, None}
use mathlib.Core.Path.{◌≡◌, refl}
use mathlib.Core.Bool.{Bool, true, false, cond}
use mathlib.Core.List.{[], ◌∷◌, ◌++◌}
use native.Mathlib.Omega.{arith}
use lib.ListN.{length, length-append}
use lib.Dec.{eqb, ltb}
use borrow.Author.Tests.{lt-ltb, le-ltb}
use Rattle.meaning.specs.Bytes.{Bytes}
use Rattle.meaning.specs.Writing.{Wrote}
use Rattle.meaning.specs.Refusals.{answer_number}
use Rattle.meaning.specs.Programs.{digits, item, refused_line, sums_line}
use Rattle.meaning.specs.declared.Counts.{Counts}
use Rattle.meaning.proofs.Writes.{wrote_none, wrote_then}
use Rattle.programs.specs.declared.lines.Ending.{Ending}
use Rattle.programs.specs.declared.lines.Writes.{Writes}
use Rattle.programs.specs.Lines.{last_line}
pub use Rattle.meaning.proofs.Writes.{wrote_within}

pub no_digits : (most n : ℕ) → most ≡ 0 → digits most n ≡ []
unfolding digits
no_digits most n e = rw e

pub digit_alone : (most n : ℕ) → (most ≡ 0 → ⊥) → n < 10 → digits most n ≡ (0x30 + n) ∷ []
unfolding digits
digit_alone zero n p h = absurd (p refl)
digit_alone (suc m) n p h = rw (lt-ltb n 10 h)

pub digit_behind : (most n : ℕ) → (most ≡ 0 → ⊥) → 10 ≤ n → digits most n ≡ digits (most - 1) (n / 10) ++ ((0x30 + n % 10) ∷ [])
unfolding digits
digit_behind zero n p h = absurd (p refl)
digit_behind (suc m) n p h =
    let k : suc m - 1 ≡ m = omega arith in
    rw k (rw (le-ltb n 10 h))

pub digits_long : (most n : ℕ) → length (digits most n) ≤ most
unfolding digits
digits_long zero n = omega arith
digits_long (suc m) n = go (digits m (n / 10)) (digits_long m (n / 10)) (ltb n 10)
  where
    go : (rest : Bytes) → length rest ≤ m → (b : Bool) → length (cond b ((0x30 + n) ∷ []) (rest ++ ((0x30 + n % 10) ∷ []))) ≤ suc m
    go rest h true = omega arith
    go rest h false = omega (arith, length-append rest ((0x30 + n % 10) ∷ []), h)

-- ---- what is written

module _ (most n : ℕ) {d : Bytes} {to : ℕ} where
  pub put_none : most ≡ 0 → Wrote (digits most n) d to d to
  put_none e = rw (no_digits most n e) (wrote_none d to)

  pub put_alone : (most ≡ 0 → ⊥) → n < 10 → {b : ℕ} {d' : Bytes} {r : ℕ} → b ≡ 0x30 + n → Wrote (b ∷ []) d to d' r → Wrote (digits most n) d to d' r
  put_alone p h e w = rw (digit_alone most n p h) (rw e at w)

  pub put_behind : (most ≡ 0 → ⊥) → 10 ≤ n → {b : ℕ} {d' d'' : Bytes} {last r : ℕ} → Wrote (digits (most - 1) (n / 10)) d to d' last → b ≡ 0x30 + n % 10
      → Wrote (b ∷ []) d' last d'' r → Wrote (digits most n) d to d'' r
  put_behind p h u e w = rw (digit_behind most n p h) (wrote_then u (rw e at w))

-- ---- where an item ends

item_long : (word : Bytes) (n : ℕ) → length (item word n) ≤ length word + 21
unfolding item
item_long word n = omega (arith, length-append word (0x20 ∷ digits 20 n), digits_long 20 n)

pub item_ends : (word : Bytes) (n : ℕ) {d d' : Bytes} {to r : ℕ} → Wrote (item word n) d to d' r → r ≤ to + (length word + 21)
item_ends word n w = omega (arith, w.end, item_long word n)

pub next_ends : (word : Bytes) (n : ℕ) {d d' : Bytes} {to r : ℕ} → Wrote (0x20 ∷ item word n) d to d' r → r ≤ to + (length word + 22)
next_ends word n w = omega (arith, w.end, item_long word n)

-- ---- the line of the sums, from its parts

pub sums_put : (c : Counts) (held_count : ℕ) {d d₁ d₂ d₃ d₄ d₅ d₆ d₇ : Bytes} {r₁ r₂ r₃ r₄ r₅ r₆ r₇ : ℕ}
    → Wrote (item (0x70 ∷ 0x61 ∷ 0x63 ∷ 0x6B ∷ 0x65 ∷ 0x74 ∷ 0x73 ∷ []) c.accepted) d 0 d₁ r₁
    → Wrote (0x20 ∷ item (0x77 ∷ 0x72 ∷ 0x69 ∷ 0x74 ∷ 0x74 ∷ 0x65 ∷ 0x6E ∷ []) c.written) d₁ r₁ d₂ r₂
    → Wrote (0x20 ∷ item (0x72 ∷ 0x65 ∷ 0x77 ∷ 0x72 ∷ 0x69 ∷ 0x74 ∷ 0x74 ∷ 0x65 ∷ 0x6E ∷ []) c.rewritten) d₂ r₂ d₃ r₃
    → Wrote (0x20 ∷ item (0x73 ∷ 0x6B ∷ 0x69 ∷ 0x70 ∷ 0x70 ∷ 0x65 ∷ 0x64 ∷ []) c.skipped) d₃ r₃ d₄ r₄
    → Wrote (0x20 ∷ item (0x68 ∷ 0x65 ∷ 0x6C ∷ 0x64 ∷ []) held_count) d₄ r₄ d₅ r₅
    → Wrote (0x20 ∷ item (0x6C ∷ 0x6F ∷ 0x73 ∷ 0x74 ∷ []) c.lost) d₅ r₅ d₆ r₆
    → Wrote (0x0A ∷ []) d₆ r₆ d₇ r₇
    → Wrote (sums_line c held_count) d 0 d₇ r₇
unfolding sums_line
sums_put c held_count p w x k h l n = wrote_then (wrote_then (wrote_then (wrote_then (wrote_then (wrote_then p w) x) k) h) l) n

-- ---- the last line

pub last_failed : (writes : Writes) → last_line None writes ≡ []
unfolding last_line
last_failed writes = refl

module _ (e : Ending) (writes : Writes) where
  pub last_refused : eqb (answer_number e.answer) 0 ≡ false → last_line (Some e) writes ≡ refused_line (answer_number e.answer)
  unfolding last_line
  last_refused a = rw a

  pub last_written : eqb (answer_number e.answer) 0 ≡ true → writes ≡ Writes.Stream → last_line (Some e) writes ≡ []
  unfolding last_line
  last_written a w = rw (a, w)

  pub last_sums : eqb (answer_number e.answer) 0 ≡ true → writes ≡ Writes.Sums → last_line (Some e) writes ≡ sums_line e.sums e.held_count
  unfolding last_line
  last_sums a w = rw (a, w)
