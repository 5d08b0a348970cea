-- A number of sixteen bits at its offset among bytes: its parts, what is read there and elsewhere, one number over another and beside another.
use Prim.Native.Nat.{ℕ, ◌+◌, ◌-◌, ◌*◌, ◌/◌, ◌%◌, ◌≤◌}
use mathlib.Core.Path.{◌≡◌, sym, ap, ap₂, ◌∙◌}
use mathlib.Core.Logic.{◌≢◌}
use mathlib.Core.List.{◌++◌, append_assoc}
use native.Mathlib.Nat.{add_assoc, mod-eq_of_lt}
use native.Mathlib.Numerals.{add-one}
use native.Mathlib.Omega.{arith}
use lib.ListN.{length, take, drop, get_or, set, length-set}
use lib.Seq.{sets-eq, set-set, set_comm, take-set-le, take-set-lt, drop-set-lt, drop-set-add, set-append_left, length-take-le, get_or-set_same, get_or-set_other}
use Rattle.meaning.specs.Bytes.{Bytes, be16, be16_at, put16, with16}
use Rattle.meaning.proofs.ChecksumLaws.{words}
use Rattle.meaning.proofs.ChecksumLaws.{words_append, words_put}

-- with the offset as an argument, for the section below
drop_of : (n : ℕ) (s : Bytes) (a from : ℕ) → drop from (with16 (from + a) n s) ≡ with16 a n (drop from s)
unfolding with16
drop_of n s a from =
    ap (λ (i : ℕ). drop from (set (set s (from + a) (n / 256 % 256)) i (n % 256))) (add_assoc from a 1) ∙ drop-set-add from (set s (from + a) (n / 256 % 256)) (a + 1) (n % 256)
    ∙ ap (λ (x : Bytes). set x (a + 1) (n % 256)) (drop-set-add from s a (n / 256 % 256))

take_of : (n : ℕ) (s : Bytes) (a k : ℕ) → k ≤ a → take k (with16 a n s) ≡ take k s
unfolding with16
take_of n s a k h = take-set-le k (set s a (n / 256 % 256)) (a + 1) (n % 256) (omega arith) ∙ take-set-le k s a (n / 256 % 256) h

module _ (at n : ℕ) (s : Bytes) where
  pub with16_length : length (with16 at n s) ≡ length s
  unfolding with16
  with16_length = simp length-set

  -- before it, itself, behind it
  pub with16_parts : at + 2 ≤ length s → with16 at n s ≡ take at s ++ (put16 n ++ drop (at + 2) s)
  unfolding with16 put16
  with16_parts h = ap (λ (k : ℕ). set (set s at (n / 256 % 256)) k (n % 256)) (add-one at) ∙ sets-eq (put16 n) s at h ∙ append_assoc (take at s) (put16 n) (drop (at + 2) s)

  -- what is read of it
  pub read_same : at + 2 ≤ length s → n ≤ 65535 → be16_at (with16 at n s) at ≡ n
  unfolding with16 be16_at be16
  read_same h k =
      let a : get_or (with16 at n s) at 0 ≡ n / 256 % 256 =
      get_or-set_other (set s at (n / 256 % 256)) (at + 1) at (n % 256) 0 (λ e. omega arith) ∙ get_or-set_same s at (n / 256 % 256) 0 (omega arith) in
      let b : get_or (with16 at n s) (at + 1) 0 ≡ n % 256 = get_or-set_same (set s at (n / 256 % 256)) (at + 1) (n % 256) 0 (omega (arith, length-set s at (n / 256 % 256))) in
      let v : n / 256 % 256 * 256 + n % 256 ≡ n = omega arith in
      ap₂ (λ (x y : ℕ). (x * 256 + y) % 65536) a b ∙ ap (λ (z : ℕ). z % 65536) v ∙ mod-eq_of_lt (omega arith)

  pub byte_other : (j : ℕ) → j ≢ at → j ≢ at + 1 → get_or (with16 at n s) j 0 ≡ get_or s j 0
  unfolding with16
  byte_other j p q = get_or-set_other (set s at (n / 256 % 256)) (at + 1) j (n % 256) 0 q ∙ get_or-set_other s at j (n / 256 % 256) 0 p

  pub read_before : (j : ℕ) → j + 2 ≤ at → be16_at (with16 at n s) j ≡ be16_at s j
  unfolding be16_at
  read_before j h = ap₂ be16 (byte_other j (λ e. omega arith) (λ e. omega arith)) (byte_other (j + 1) (λ e. omega arith) (λ e. omega arith))

  pub read_behind : (j : ℕ) → at + 2 ≤ j → be16_at (with16 at n s) j ≡ be16_at s j
  unfolding be16_at
  read_behind j h = ap₂ be16 (byte_other j (λ e. omega arith) (λ e. omega arith)) (byte_other (j + 1) (λ e. omega arith) (λ e. omega arith))

  -- in a part
  pub take_before : (k : ℕ) → k ≤ at → take k (with16 at n s) ≡ take k s
  take_before k h = take_of n s at k h

  pub take_with : (k : ℕ) → at + 2 ≤ k → take k (with16 at n s) ≡ with16 at n (take k s)
  unfolding with16
  take_with k h =
      take-set-lt k (set s at (n / 256 % 256)) (at + 1) (n % 256) (omega arith)
      ∙ ap (λ (x : Bytes). set x (at + 1) (n % 256)) (take-set-lt k s at (n / 256 % 256) (omega arith))

  pub drop_behind : (k : ℕ) → at + 2 ≤ k → drop k (with16 at n s) ≡ drop k s
  unfolding with16
  drop_behind k h = drop-set-lt k (set s at (n / 256 % 256)) (at + 1) (n % 256) (omega arith) ∙ drop-set-lt k s at (n / 256 % 256) (omega arith)

  pub drop_with : (k : ℕ) → drop k (with16 (k + at) n s) ≡ with16 at n (drop k s)
  drop_with k = drop_of n s at k

  pub append_with : (t : Bytes) → at + 2 ≤ length s → with16 at n (s ++ t) ≡ with16 at n s ++ t
  unfolding with16
  append_with t h =
      ap (λ (x : Bytes). set x (at + 1) (n % 256)) (set-append_left s t at (n / 256 % 256) (omega arith))
      ∙ set-append_left (set s at (n / 256 % 256)) t (at + 1) (n % 256) (omega (arith, length-set s at (n / 256 % 256)))

  pub part_before : (from k : ℕ) → from + k ≤ at → take k (drop from (with16 at n s)) ≡ take k (drop from s)
  part_before from k h = go (at - from) (omega arith)
    where
      go : (a : ℕ) → at ≡ from + a → take k (drop from (with16 at n s)) ≡ take k (drop from s)
      go a e =
          ap (λ (i : ℕ). take k (drop from (with16 i n s))) e ∙ ap (take k) (drop_of n s a from) ∙ take_of n (drop from s) a k (omega arith)

  -- one over another, and two beside each other
  pub over : (m : ℕ) → with16 at n (with16 at m s) ≡ with16 at n s
  unfolding with16
  over m =
      let a : ℕ = n / 256 % 256 in
      let b : ℕ = m / 256 % 256 in
      ap (λ (x : Bytes). set x (at + 1) (n % 256)) (set_comm (set s at b) (at + 1) at (m % 256) a (λ e. omega arith) ∙ ap (λ (x : Bytes). set x (at + 1) (m % 256)) (set-set s at b a))
      ∙ set-set (set s at a) (at + 1) (m % 256) (n % 256)

  pub beside : (to m : ℕ) → at + 2 ≤ to → with16 at n (with16 to m s) ≡ with16 to m (with16 at n s)
  unfolding with16
  beside to m h =
      let a : ℕ = n / 256 % 256 in
      let b : ℕ = m / 256 % 256 in
      ap (λ (x : Bytes). set x (at + 1) (n % 256))
      (set_comm (set s to b) (to + 1) at (m % 256) a (λ e. omega arith) ∙ ap (λ (x : Bytes). set x (to + 1) (m % 256)) (set_comm s to at b a (λ e. omega arith)))
      ∙ set_comm (set (set s at a) to b) (to + 1) (at + 1) (m % 256) (n % 256) (λ e. omega arith)
      ∙ ap (λ (x : Bytes). set x (to + 1) (m % 256)) (set_comm (set s at a) to (at + 1) b (n % 256) (λ e. omega arith))

-- The words of bytes with a number at an even offset: those with 0 there, and the number.
pub words_with : (k n : ℕ) (s : Bytes) → k * 2 + 2 ≤ length s → n ≤ 65535 → words (with16 (k * 2) n (with16 (k * 2) 0 s)) ≡ words (with16 (k * 2) 0 s) + n
words_with k n s h l = by n l ∙ swap (words (take (k * 2) s)) n (words (drop (k * 2 + 2) s)) ∙ sym (ap (λ (z : ℕ). z + n) (plain 0 (omega arith)))
  where
    plain : (n : ℕ) → n ≤ 65535 → words (with16 (k * 2) n s) ≡ words (take (k * 2) s) + (n + words (drop (k * 2 + 2) s))
    plain n l =
        ap words (with16_parts (k * 2) n s h) ∙ words_append k (take (k * 2) s) (put16 n ++ drop (k * 2 + 2) s) (length-take-le (k * 2) s (omega arith))
        ∙ ap (λ (z : ℕ). words (take (k * 2) s) + z) (words_put n (drop (k * 2 + 2) s) l)

    by : (n : ℕ) → n ≤ 65535 → words (with16 (k * 2) n (with16 (k * 2) 0 s)) ≡ words (take (k * 2) s) + (n + words (drop (k * 2 + 2) s))
    by n l = ap words (over (k * 2) n s 0) ∙ plain n l

    swap : (a n b : ℕ) → a + (n + b) ≡ (a + (0 + b)) + n
    swap a n b = omega arith
