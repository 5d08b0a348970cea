-- The sum by plain addition: the words added up as they are and folded once at the end give the sum of the definition, in any order and in
-- any number of parts of even length. And what a receiver finds over bytes with their checksum.
use Prim.Native.Nat.{ℕ, zero, suc, ◌+◌, ◌-◌, ◌*◌, ◌/◌, ◌%◌, ◌≤◌, ◌<◌}
use mathlib.Core.Path.{◌≡◌, refl, sym, ap, ◌∙◌}
use mathlib.Core.List.{[], ◌∷◌, ◌++◌}
use native.Mathlib.Nat.{mod-eq_of_lt, div-add-mod', add-mul-mod_self_right}
use native.Mathlib.Omega.{arith}
use lib.ListN.{length}
use Rattle.meaning.specs.Bytes.{Bytes, be16, put16}
use Rattle.meaning.specs.Checksums.{plus, ones_sum, non_zero}

-- ---- what is added up: the words as plain numbers, folded once at the end

unfoldable pub words : Bytes → ℕ
unfolding be16
words [] = 0
words (a ∷ []) = be16 a 0
words (a ∷ b ∷ s) = be16 a b + words s

-- The number of sixteen bits that n folds to: its rest by 65535, with 65535 in the place of 0 unless n is 0.
unfoldable pub folded : ℕ → ℕ
folded zero = 0
folded (suc n) = suc (n % 65535)

-- ---- folding

pub folded_le : (n : ℕ) → folded n ≤ 65535
unfolding folded
folded_le zero = omega arith
folded_le (suc n) = omega arith

-- a number of sixteen bits is folded
pub folded_small : (n : ℕ) → n ≤ 65535 → folded n ≡ n
unfolding folded
folded_small zero h = refl
folded_small (suc n) h = ap suc (mod-eq_of_lt (omega arith))

-- 65535 counts for nothing beside anything
pub folded_add : (n k : ℕ) → 0 < n → folded (n + k * 65535) ≡ folded n
unfolding folded
folded_add zero k h = absurd (omega arith)
folded_add (suc n) k h =
    let e : suc n + k * 65535 ≡ suc (n + k * 65535) = omega arith in
    ap folded e ∙ ap suc (add-mul-mod_self_right n k 65535)

-- how often 65535 was left out
pub record Parted (n : ℕ) : Type 0 where
  pub times : ℕ
  pub whole : n ≡ folded n + times * 65535

pub parted : (n : ℕ) → Parted n
unfolding folded
parted zero = record { times = 0; whole = refl }
parted (suc n) = record { times = n / 65535; whole = omega arith }

pub folded_pos : (n : ℕ) → 0 < n → 0 < folded n
unfolding folded
folded_pos zero h = absurd (omega arith)
folded_pos (suc n) h = omega arith

-- folding first makes no difference
pub folded_in : (a b : ℕ) → folded (a + folded b) ≡ folded (a + b)
unfolding folded
folded_in a zero = refl
folded_in a (suc b) =
    let p = parted (suc b) in
    let z : 0 < folded (suc b) = folded_pos (suc b) (omega arith) in
    let e : a + suc b ≡ (a + folded (suc b)) + p.times * 65535 = omega (arith, p.whole) in
    sym (ap folded e ∙ folded_add (a + folded (suc b)) p.times (omega arith))

-- one turn of folding
pub fold_turn : (n : ℕ) → folded (n % 65536 + n / 65536) ≡ folded n
fold_turn zero = refl
fold_turn (suc n) =
    let d : suc n / 65536 * 65536 + suc n % 65536 ≡ suc n = div-add-mod' (suc n) 65536 in
    let e : suc n ≡ (suc n % 65536 + suc n / 65536) + suc n / 65536 * 65535 = omega arith in
    sym (ap folded e ∙ folded_add (suc n % 65536 + suc n / 65536) (suc n / 65536) (omega arith))

-- two turns are enough for thirty-two bits
pub fold_twice : (n m : ℕ) → n < 4294967296 → m ≡ n % 65536 + n / 65536 → m % 65536 + m / 65536 ≡ folded n
fold_twice n m h e =
    let l : m % 65536 + m / 65536 ≤ 65535 = omega arith in
    sym (folded_small (m % 65536 + m / 65536) l) ∙ fold_turn m ∙ ap folded e ∙ fold_turn n

-- ---- the sum

pub plus_folded : (a b : ℕ) → a ≤ 65535 → b ≤ 65535 → plus a b ≡ folded (a + b)
unfolding plus
plus_folded a b ha hb =
    let l : (a + b) % 65536 + (a + b) / 65536 ≤ 65535 = omega arith in
    sym (folded_small _ l) ∙ fold_turn (a + b)

pub be16_le : (a b : ℕ) → be16 a b ≤ 65535
unfolding be16
be16_le a b = omega arith

-- The folded sum of the words is the sum.
pub sum_is : (s : Bytes) → ones_sum s ≡ folded (words s)
unfolding ones_sum words
sum_is [] = sym (folded_small 0 (omega arith))
sum_is (a ∷ []) = sym (folded_small (be16 a 0) (be16_le a 0))
sum_is (a ∷ b ∷ s) =
    ap (plus (be16 a b)) (sum_is s) ∙ plus_folded (be16 a b) (folded (words s)) (be16_le a b) (folded_le (words s)) ∙ folded_in (be16 a b) (words s)

-- Each word is of sixteen bits.
pub words_le : (s : Bytes) → words s * 2 ≤ 65535 * (length s + 1)
unfolding words
words_le [] = omega arith
words_le (a ∷ []) = omega (arith, be16_le a 0)
words_le (a ∷ b ∷ s) = omega (arith, be16_le a b, words_le s)

-- Part by part, the first of even length.
pub words_append : (n : ℕ) (s t : Bytes) → length s ≡ n * 2 → words (s ++ t) ≡ words s + words t
unfolding words
words_append zero [] t e = omega arith
words_append zero (a ∷ s) t e = absurd (omega arith)
words_append (suc n) [] t e = absurd (omega arith)
words_append (suc n) (a ∷ []) t e = absurd (omega arith)
words_append (suc n) (a ∷ b ∷ s) t e = omega (arith, words_append n s t (omega arith))

-- the two bytes of a number, and what follows them
pub words_put : (n : ℕ) (s : Bytes) → n ≤ 65535 → words (put16 n ++ s) ≡ n + words s
unfolding words put16 be16
words_put n s h =
    let q : n / 256 % 256 ≡ n / 256 = mod-eq_of_lt (omega arith) in
    let v : n / 256 % 256 * 256 + n % 256 ≡ n = omega arith in
    let w : (n / 256 % 256 * 256 + n % 256) % 65536 ≡ n = ap (λ (z : ℕ). z % 65536) v ∙ mod-eq_of_lt (omega arith) in
    ap (λ (z : ℕ). z + words s) w

-- ---- what a receiver finds: the sum with the checksum in its field is all ones

pub all_ones_lem : (x : ℕ) → folded (x + (65535 - folded x)) ≡ 65535
all_ones_lem x =
    let p = parted x in
    let e : x + (65535 - folded x) ≡ 65535 + p.times * 65535 = omega (arith, p.whole, folded_le x) in
    ap folded e ∙ folded_add 65535 p.times (omega arith) ∙ folded_small 65535 (omega arith)

-- also where 0 went out as FFFF
pub all_ones_udp : (x : ℕ) → folded (x + non_zero (65535 - folded x)) ≡ 65535
unfolding non_zero
all_ones_udp x = go (65535 - folded x) refl
  where
    go : (c : ℕ) → 65535 - folded x ≡ c → folded (x + non_zero c) ≡ 65535
    go zero e =
        let p = parted x in
        let g : x + 65535 ≡ 65535 + suc p.times * 65535 = omega (arith, p.whole, folded_le x) in
        ap folded g ∙ folded_add 65535 (suc p.times) (omega arith) ∙ folded_small 65535 (omega arith)
    go (suc c) e = ap (λ (z : ℕ). folded (x + z)) (sym e) ∙ all_ones_lem x
