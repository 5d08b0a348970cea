-- Sets of identifiers: what an insertion and a removal change and what not, and the sum of the words' ones is the number of identifiers in the set.
use Prim.Native.Nat.{ℕ, zero, suc, max, ◌+◌, ◌-◌, ◌*◌, ◌/◌, ◌%◌, ◌^◌, ◌≤◌, ◌<◌}
use mathlib.Core.Path.{◌≡◌, refl, sym, ap, ap₂, ◌∙◌}
use mathlib.Core.Bool.{Bool, true, false, cond}
use native.Mathlib.Nat.{add-zero, add-suc, pow-succ', div-div-eq-div-mul, div-one, pow-suc, one-mul, mod-eq_of_lt, mod-lt, div-eq_of_lt, mul-div_cancel, div_self, mul-mod_left, mul_assoc}
use native.Mathlib.Omega.{arith}
use native.Mathlib.Decide.{ℕ_discrete, dec_lt}
use lib.Pow.{pow-lt, pow_pos, pow-add, field, mod-mod-pow, mod-pow-add, split, high, low, shl_exact, shr-shr}
use lib.Arith.{lt-one, digits_mod, lt_of_le-ne}
use lib.Bits.{bit_or, or_shr, or_step, or_zero_r, or_block}
use lib.Count.{ones, ones_in, ones_step}
use lib.Dec.{eqb}
use lib.ListN.{length, get_or, set}
use lib.Seq.{get_or-set_same, get_or-set_other, set-get_or}
use borrow.Author.Tests.{eq-eqb, eqb-true}
use Rattle.meaning.specs.Sets.{Words, bit_at, in_set, with_id, without_id, how_many}

-- ---- one bit of a word

pub shl_one : (k : ℕ) → k < 64 → 1 * 2 ^ k % 18446744073709551616 ≡ 2 ^ k
shl_one k h = rw one-mul (mod-eq_of_lt (pow-lt h))

bit_or_lem : (a b k : ℕ) → bit_at (bit_or a b) k ≡ max (bit_at a k) (bit_at b k)
bit_or_lem a b k = rw (or_shr, or_step) (digits_mod _ (omega arith))

bit_pow_same : (k : ℕ) → bit_at (2 ^ k) k ≡ 1
bit_pow_same k = rw (div_self (pow_pos k))

bit_pow_less : (j k : ℕ) → j < k → bit_at (2 ^ j) k ≡ 0
bit_pow_less j k h = rw (div-eq_of_lt (pow-lt h))

bit_pow_more : (j k : ℕ) → k < j → bit_at (2 ^ j) k ≡ 0
bit_pow_more j k h =
    let e : j ≡ suc (j - suc k) + k = omega arith in
    let p : 2 ^ j ≡ 2 ^ suc (j - suc k) * 2 ^ k = ap (λ (n : ℕ). 2 ^ n) e ∙ pow-add 2 _ k in
    rw (p, mul-div_cancel _ (pow_pos k)) (rw pow-suc (mul-mod_left (2 ^ (j - suc k)) 2))

bit_pow_other : (j k : ℕ) → (j ≡ k → ⊥) → bit_at (2 ^ j) k ≡ 0
bit_pow_other j k h =
    elim (dec_lt j k) [
      | yes l ↦ bit_pow_less j k l
      | no l ↦ bit_pow_more j k (lt_of_le-ne (omega arith) (λ e. h (sym e)))
    ]

-- ---- get after insert

pub insert_same : (ws : Words) (p : ℕ) → p / 64 < length ws → in_set (with_id ws p) p ≡ true
unfolding in_set with_id
insert_same ws p i =
    eq-eqb (bit_at (get_or (set ws (p / 64) (bit_or (get_or ws (p / 64) 0) (2 ^ (p % 64)))) (p / 64) 0) (p % 64)) 1
    (rw (get_or-set_same ws (p / 64) _ 0 i, bit_or_lem, bit_pow_same) (omega arith))

pub insert_other : (ws : Words) (p q : ℕ) → p / 64 < length ws → (p ≡ q → ⊥) → in_set (with_id ws p) q ≡ in_set ws q
unfolding in_set with_id
insert_other ws p q i h =
    elim (ℕ_discrete (q / 64) (p / 64)) [
      | no d ↦ rw (get_or-set_other ws (p / 64) (q / 64) _ 0 d)
      | yes e ↦
          let same : bit_at (bit_or (get_or ws (p / 64) 0) (2 ^ (p % 64))) (q % 64) ≡ bit_at (get_or ws (p / 64) 0) (q % 64) =
          rw (bit_or_lem, bit_pow_other (p % 64) (q % 64) (λ m. h (omega arith))) (omega arith) in
          rw (e, get_or-set_same ws (p / 64) _ 0 i) (ap (λ (b : ℕ). eqb b 1) same)
    ]

-- ---- get after remove

-- bits below m are those of the number's rest by 2^m
bit_rest : (w m k : ℕ) → k < m → bit_at (w % 2 ^ m) k ≡ bit_at w k
bit_rest w m k h =
    let e : m ≡ m - suc k + 1 + k = omega arith in
    ap (λ (n : ℕ). w % 2 ^ n / 2 ^ k % 2) e ∙ ap (λ (x : ℕ). x % 2) (field w (m - suc k + 1) k) ∙ mod-mod-pow (w / 2 ^ k) (m - suc k) 1

-- bits from m on are those of the quotient by 2^m
bit_rise : (w m k : ℕ) → m ≤ k → bit_at w k ≡ bit_at (w / 2 ^ m) (k - m)
bit_rise w m k h =
    let e : m + (k - m) ≡ k = omega arith in
    sym (ap (λ (x : ℕ). x % 2) (shr-shr w m (k - m)) ∙ ap (λ (n : ℕ). w / 2 ^ n % 2) e)

module _ (w k : ℕ) where
  -- a word without its bit k: what is above the bit, and what is below it
  cleared : w - bit_at w k * 2 ^ k ≡ w / 2 ^ (1 + k) * 2 ^ (1 + k) + w % 2 ^ k
  cleared = omega (arith, split w (1 + k), mod-pow-add w 1 k)

  pub bit_fits : bit_at w k * 2 ^ k ≤ w
  bit_fits = omega (arith, split w (1 + k), mod-pow-add w 1 k)

  pub shl_bit : k < 64 → bit_at w k * 2 ^ k % 18446744073709551616 ≡ bit_at w k * 2 ^ k
  shl_bit h = shl_exact 1 k 64 (omega arith) (omega arith)

  twice : w / 2 ^ (1 + k) * 2 ^ (1 + k) ≡ w / 2 ^ (1 + k) * 2 * 2 ^ k
  twice = rw (pow-add 2 1 k, mul_assoc)

  below : w % 2 ^ k < 2 ^ k
  below = mod-lt w (pow_pos k)

  cleared_same : bit_at (w - bit_at w k * 2 ^ k) k ≡ 0
  cleared_same = rw (cleared, twice, high (w / 2 ^ (1 + k) * 2) k below) (mul-mod_left (w / 2 ^ (1 + k)) 2)

  cleared_less : (j : ℕ) → j < k → bit_at (w - bit_at w k * 2 ^ k) j ≡ bit_at w j
  cleared_less j h =
      let e : (w - bit_at w k * 2 ^ k) % 2 ^ k ≡ w % 2 ^ k = rw (cleared, twice) (low (w / 2 ^ (1 + k) * 2) k below) in
      sym (bit_rest _ k j h) ∙ ap (λ (n : ℕ). bit_at n j) e ∙ bit_rest w k j h

  cleared_more : (j : ℕ) → k < j → bit_at (w - bit_at w k * 2 ^ k) j ≡ bit_at w j
  cleared_more j h =
      let l : w % 2 ^ k < 2 ^ (1 + k) = omega (arith, below, pow-lt {i = k} {j = 1 + k} (omega arith)) in
      let e : (w - bit_at w k * 2 ^ k) / 2 ^ (1 + k) ≡ w / 2 ^ (1 + k) = rw cleared (high (w / 2 ^ (1 + k)) (1 + k) l) in
      bit_rise _ (1 + k) j (omega arith) ∙ ap (λ (n : ℕ). bit_at n (j - (1 + k))) e ∙ sym (bit_rise w (1 + k) j (omega arith))

  cleared_other : (j : ℕ) → (k ≡ j → ⊥) → bit_at (w - bit_at w k * 2 ^ k) j ≡ bit_at w j
  cleared_other j h =
      elim (dec_lt j k) [
        | yes l ↦ cleared_less j l
        | no l ↦ cleared_more j (lt_of_le-ne (omega arith) h)
      ]

pub remove_same : (ws : Words) (p : ℕ) → p / 64 < length ws → in_set (without_id ws p) p ≡ false
unfolding in_set without_id
remove_same ws p i =
    let w = get_or ws (p / 64) 0 in
    ap (λ (b : ℕ). eqb (bit_at b (p % 64)) 1) (get_or-set_same ws (p / 64) (w - bit_at w (p % 64) * 2 ^ (p % 64)) 0 i) ∙ ap (λ (b : ℕ). eqb b 1) (cleared_same w (p % 64))

pub remove_other : (ws : Words) (p q : ℕ) → p / 64 < length ws → (p ≡ q → ⊥) → in_set (without_id ws p) q ≡ in_set ws q
unfolding in_set without_id
remove_other ws p q i h =
    let w = get_or ws (p / 64) 0 in
    elim (ℕ_discrete (q / 64) (p / 64)) [
      | no d ↦ rw (get_or-set_other ws (p / 64) (q / 64) _ 0 d)
      | yes e ↦
          rw (e, get_or-set_same ws (p / 64) _ 0 i) (ap (λ (b : ℕ). eqb b 1) (cleared_other w (p % 64) (q % 64) (λ m. h (omega arith))))
    ]

-- ---- an identifier that is in the set

or_one : (a : ℕ) → a % 2 ≡ 1 → bit_or a 1 ≡ a
or_one a h = rw (or_step a 1, or_zero_r (a / 2)) (omega arith)

-- a word with a bit that it has
or_bit : (w k : ℕ) → bit_at w k ≡ 1 → bit_or w (2 ^ k) ≡ w
or_bit w k h =
    let one : 2 ^ k ≡ 1 * 2 ^ k + 0 = omega arith in
    ap₂ bit_or (sym (split w k)) one
    ∙ or_block k (w / 2 ^ k) 1 (w % 2 ^ k) 0 (mod-lt w (pow_pos k)) (pow_pos k)
    ∙ ap₂ (λ (x y : ℕ). x * 2 ^ k + y) (or_one (w / 2 ^ k) h) (or_zero_r (w % 2 ^ k))
    ∙ split w k

-- the words stay as they are, however many there are and however long
pub insert_there : (ws : Words) (p : ℕ) → in_set ws p ≡ true → with_id ws p ≡ ws
unfolding in_set with_id
insert_there ws p h =
    ap (set ws (p / 64)) (or_bit (get_or ws (p / 64) 0) (p % 64) (eqb-true _ _ h)) ∙ set-get_or ws (p / 64) 0

-- ---- counting by a test

-- two tests that agree
pub many_same : (f g : ℕ → Bool) (n : ℕ) → ((k : ℕ) → k < n → f k ≡ g k) → how_many f n ≡ how_many g n
unfolding how_many
many_same f g zero h = refl
many_same f g (suc n) h = ap₂ ◌+◌ (ap (λ (b : Bool). cond b 1 0) (h n (omega arith))) (many_same f g n (λ k l. h k (omega arith)))

-- the first by itself
many_first : (f : ℕ → Bool) (n : ℕ) → how_many f (suc n) ≡ cond (f 0) 1 0 + how_many (λ k. f (suc k)) n
unfolding how_many
many_first f zero = refl
many_first f (suc n) = omega (arith, many_first f n)

many_cat : (f : ℕ → Bool) (m n : ℕ) → how_many f (m + n) ≡ how_many f m + how_many (λ k. f (m + k)) n
unfolding how_many
many_cat f m zero = simp add-zero
many_cat f m (suc n) = rw add-suc (omega (arith, many_cat f m n))

-- ---- a word has as many ones as bits that are one

bit_test : (b : ℕ) → b < 2 → cond (eqb b 1) 1 0 ≡ b
bit_test zero h = refl
bit_test (suc zero) h = refl
bit_test (suc (suc b)) h = absurd (omega arith)

-- a higher bit is a bit of the half
bit_half : (w k : ℕ) → bit_at w (suc k) ≡ bit_at (w / 2) k
bit_half w k = rw (pow-succ', ← div-div-eq-div-mul)

ones_many : (j w : ℕ) → w < 2 ^ j → ones w ≡ how_many (λ k. eqb (bit_at w k) 1) j
unfolding how_many ones ones_in
ones_many zero w h = rw (lt-one h)
ones_many (suc j) w h =
    let l : w / 2 < 2 ^ j = omega (arith, pow-suc 2 j) in
    let ih = ones_many j (w / 2) l in
    let sm = many_same (λ k. eqb (bit_at w (suc k)) 1) (λ k. eqb (bit_at (w / 2) k) 1) j (λ k m. ap (λ (b : ℕ). eqb b 1) (bit_half w k)) in
    let first : cond (eqb (bit_at w 0) 1) 1 0 ≡ w % 2 = bit_test (bit_at w 0) (omega arith) ∙ ap (λ (n : ℕ). n % 2) (div-one w) in
    ones_step w ∙ ap (λ (n : ℕ). w % 2 + n) (ih ∙ sym sm) ∙ sym (many_first (λ k. eqb (bit_at w k) 1) j ∙ ap (λ (n : ℕ). n + how_many (λ k. eqb (bit_at w (suc k)) 1) j) first)

-- ---- and the words as many as identifiers in the set

-- identifier 64 i + k is bit k of word i
in_word : (ws : Words) (i k : ℕ) → k < 64 → in_set ws (i * 64 + k) ≡ eqb (bit_at (get_or ws i 0) k) 1
unfolding in_set
in_word ws i k h =
    let q : (i * 64 + k) / 64 ≡ i = omega arith in
    let r : (i * 64 + k) % 64 ≡ k = omega arith in
    rw (q, r)

-- the identifiers of the words up to word i: those of the words before it, and its ones
pub ones_turn : (ws : Words) (i : ℕ) → how_many (in_set ws) ((i + 1) * 64) ≡ how_many (in_set ws) (i * 64) + ones (get_or ws i 0 % 2 ^ 64)
ones_turn ws i =
    let w = get_or ws i 0 in
    let e : (i + 1) * 64 ≡ i * 64 + 64 = omega arith in
    let same = many_same (λ k. in_set ws (i * 64 + k)) (λ k. eqb (bit_at (w % 2 ^ 64) k) 1) 64 (λ k h. in_word ws i k h ∙ ap (λ (b : ℕ). eqb b 1) (sym (bit_rest w 64 k h))) in
    ap (how_many (in_set ws)) e ∙ many_cat (in_set ws) (i * 64) 64 ∙ ap (λ (n : ℕ). how_many (in_set ws) (i * 64) + n) (same ∙ sym (ones_many 64 (w % 2 ^ 64) (mod-lt w (pow_pos 64))))
