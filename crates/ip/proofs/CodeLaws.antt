-- Where the code meets the definitions: the turns of the loop, a field that is written, and what is worked out in a part of an output.
use Prim.Native.Nat.{ℕ, zero, suc, ◌+◌, ◌-◌, ◌*◌, ◌/◌, ◌%◌, ◌≤◌, ◌<◌}
use mathlib.Core.Path.{◌≡◌, refl, sym, ap, ap₂, subst, ◌∙◌}
use mathlib.Core.Bool.{Bool, true, false, cond, ◌&&◌}
use mathlib.Core.List.{[], ◌∷◌, ◌++◌, append_assoc}
use native.Mathlib.Nat.{add-zero, sub-zero, div-eq_of_lt, mod-eq_of_lt}
use native.Mathlib.Omega.{arith}
use lib.ListN.{length, take, drop, get_or, length-drop, take-append-drop}
use lib.Seq.{drop-cons, drop-drop, drop-length, length-take-le}
use lib.Dec.{eqb}
use borrow.Author.Tests.{ne_eqb}
use Rattle.meaning.specs.Bytes.{Bytes, be16, be16_at, put16, put32, with16}
use Rattle.meaning.specs.Writing.{Wrote}
use Rattle.meaning.proofs.Writes.{wrote_is, is_wrote}
use Rattle.octets.proofs.ByteLaws.{rest_of}
use Rattle.meaning.specs.Checksums.{ones_sum, checksum, non_zero}
use Rattle.meaning.proofs.ChecksumLaws.{words, folded, sum_is, words_append, words_put}
use Rattle.meaning.proofs.FieldLaws.{with16_parts, with16_length, read_behind}
use Rattle.meaning.proofs.ReceiverLaws.{header_length_lem, pseudo4_length, pseudo6_length}
use Rattle.ip.specs.Words.{udp_by, udp_or_none}
use Rattle.meaning.proofs.AfreshLaws.{afresh_length}
use Rattle.meaning.specs.Ip.{header_length, pseudo4, pseudo6, addresses4, addresses6, udp_length_afresh, header_afresh, udp_afresh, udp_checksum, afresh4, afresh6, afresh, plain4, plain6, plain_ip}

-- ---- the loop

byte_pair : (a b : ℕ) → a < 256 → b < 256 → be16 a b ≡ a * 256 + b
unfolding be16
byte_pair a b h k = mod-eq_of_lt (omega arith)

pub words_two : (s : Bytes) (i : ℕ) → i + 1 < length s → get_or s i 0 < 256 → get_or s (i + 1) 0 < 256
    → words (drop i s) ≡ (get_or s i 0 * 256 + get_or s (i + 1) 0) + words (drop (i + 2) s)
unfolding words
words_two s i h x y =
    let e : suc i ≡ i + 1 = omega arith in
    let f : suc (i + 1) ≡ i + 2 = omega arith in
    ap words
    (drop-cons s i 0 (omega arith) ∙ ap (λ (n : ℕ). get_or s i 0 ∷ drop n s) e ∙ ap (λ (t : Bytes). get_or s i 0 ∷ t) (drop-cons s (i + 1) 0 h)
    ∙ ap (λ (n : ℕ). get_or s i 0 ∷ get_or s (i + 1) 0 ∷ drop n s) f)
    ∙ ap (λ (n : ℕ). n + words (drop (i + 2) s)) (byte_pair (get_or s i 0) (get_or s (i + 1) 0) x y)

pub words_one : (s : Bytes) (i : ℕ) → i < length s → length s ≤ i + 1 → get_or s i 0 < 256 → words (drop i s) ≡ get_or s i 0 * 256
unfolding words
words_one s i h k x =
    let e : suc i ≡ length s = omega arith in
    ap words (drop-cons s i 0 h ∙ ap (λ (t : Bytes). get_or s i 0 ∷ t) (ap (λ (n : ℕ). drop n s) e ∙ drop-length s))
    ∙ byte_pair (get_or s i 0) 0 x (omega arith) ∙ add-zero (get_or s i 0 * 256)

pub words_none : (s : Bytes) (i : ℕ) → i ≡ length s → words (drop i s) ≡ 0
unfolding words
words_none s i e = ap words (ap (λ (n : ℕ). drop n s) e ∙ drop-length s)

-- ---- a field

pub wrote_16 : (s t : Bytes) (at n r : ℕ) → at + 2 ≤ length s → Wrote (put16 n) s at t r → t ≡ with16 at n s
unfolding put16
wrote_16 s t at n r h w =
    wrote_is (put16 n) s t at r w ∙ ap (λ (k : ℕ). (take at s ++ put16 n) ++ drop k s) w.end ∙ append_assoc (take at s) (put16 n) (drop (at + 2) s)
    ∙ sym (with16_parts at n s h)

-- ---- the checksum of UDP by the words of its pseudo header

pub udp_by_lem : (p : Bytes) (k h : ℕ) (s : Bytes) → length p ≡ k * 2 → udp_afresh p h s ≡ udp_by (words p) h s
unfolding udp_afresh udp_by checksum
udp_by_lem p k h s e =
    let t : Bytes = with16 (h + 6) 0 (udp_length_afresh h s) in
    ap (λ (z : ℕ). with16 (h + 6) (non_zero (65535 - z)) t)
    (sum_is (p ++ drop h t) ∙ ap folded (words_append k p (drop h t) e))

pub pseudo4_words : (h : ℕ) (s : Bytes) → 20 ≤ length s → length s ≤ 65535 → words (pseudo4 h s) ≡ words (addresses4 s) + (17 + (length s - h))
unfolding pseudo4 words
pseudo4_words h s l m =
    let n : ℕ = length s - h in
    let a : length (addresses4 s) ≡ 4 * 2 = length-take-le 8 (drop 12 s) (omega (arith, length-drop 12 s)) in
    words_append 4 (addresses4 s) (0 ∷ 17 ∷ put16 n) a ∙ ap (λ (z : ℕ). words (addresses4 s) + (17 + z)) (words_alone n (omega arith))
  where
    words_alone : (n : ℕ) → n ≤ 65535 → words (put16 n) ≡ n
    words_alone n k = words_put n [] k ∙ add-zero n

pub non_zero_lem : (n : ℕ) → (n ≡ 0 → ⊥) → non_zero n ≡ n
unfolding non_zero
non_zero_lem zero h = absurd (h refl)
non_zero_lem (suc n) h = refl

-- ---- the steps of the code, one equation each

pub header_steps : (h x : ℕ) (s t u v : Bytes) → t ≡ with16 2 (length s) s → u ≡ with16 10 0 t → x ≡ ones_sum (take (h - 0) u) → v ≡ with16 10 (65535 - x) u → v ≡ header_afresh h s
unfolding header_afresh checksum
header_steps h x s t u v e f g i = cc (sub-zero h)

pub udp_steps : (h p w x c : ℕ) (s t u v : Bytes) → t ≡ udp_length_afresh h s → u ≡ with16 (h + 6) 0 t → w ≡ words (take (length u - h) (drop h u)) → x ≡ folded (p + w)
    → c ≡ non_zero (65535 - x) → v ≡ with16 (h + 6) c u → v ≡ udp_by p h s
unfolding udp_by
udp_steps h p w x c s t u v e f g i j k = cc (rest_of u h)

-- either way of the code, by what was asked
pub asked_so : (a b r : Bool) (p h : ℕ) (s t : Bytes) → r ≡ (b && eqb (udp_checksum h s) 0) → r ≡ a → t ≡ cond a (udp_length_afresh h s) (udp_by p h s) → t ≡ udp_or_none b p h s
unfolding udp_or_none
asked_so a b r p h s t e f g = g ∙ ap (λ (x : Bool). cond x (udp_length_afresh h s) (udp_by p h s)) (sym f ∙ e)

pseudo6_words : (s : Bytes) → 40 ≤ length s → length s ≤ 65575 → words (pseudo6 s) ≡ words (addresses6 s) + (17 + (length s - 40))
unfolding pseudo6 put32 words
pseudo6_words s l m =
    let n : ℕ = length s - 40 in
    let a : length (addresses6 s) ≡ 16 * 2 = length-take-le 32 (drop 8 s) (omega (arith, length-drop 8 s)) in
    let q : n / 65536 ≡ 0 = div-eq_of_lt (omega arith) in
    let r : n % 65536 ≡ n = mod-eq_of_lt (omega arith) in
    let e : words (put32 n ++ (0 ∷ 0 ∷ 0 ∷ 17 ∷ [])) ≡ 17 + n =
    ap words (append_assoc (put16 (n / 65536)) (put16 (n % 65536)) (0 ∷ 0 ∷ 0 ∷ 17 ∷ [])) ∙ words_put (n / 65536) (put16 (n % 65536) ++ (0 ∷ 0 ∷ 0 ∷ 17 ∷ [])) (omega arith)
    ∙ ap₂ (λ (x y : ℕ). x + y) q (words_put (n % 65536) (0 ∷ 0 ∷ 0 ∷ 17 ∷ []) (omega arith) ∙ ap (λ (x : ℕ). x + 17) r) ∙ swap n in
    words_append 16 (addresses6 s) (put32 n ++ (0 ∷ 0 ∷ 0 ∷ 17 ∷ [])) a ∙ ap (λ (z : ℕ). words (addresses6 s) + z) e
  where
    swap : (n : ℕ) → 0 + (n + 17) ≡ 17 + n
    swap n = omega arith

-- working out the header leaves what stands behind it
header_behind : (h j : ℕ) (s : Bytes) → 12 ≤ j → be16_at (header_afresh h s) j ≡ be16_at s j
unfolding header_afresh
header_behind h j s l =
    let t : Bytes = with16 2 (length s) s in
    let u : Bytes = with16 10 0 t in
    read_behind 10 (checksum (take h u)) u j l ∙ read_behind 10 0 t j l ∙ read_behind 2 (length s) s j (omega arith)

pub steps_4 : (h p : ℕ) (s t u : Bytes) → h ≡ header_length s → t ≡ header_afresh h s → 20 ≤ h → h + 8 ≤ length s → length s ≤ 65535
    → p ≡ words (take 8 (drop 12 t)) + (17 + (length t - h)) → u ≡ udp_or_none true p h t → u ≡ afresh4 s
unfolding afresh4 udp_or_none
steps_4 h p s t u e g l r m q i =
    let n : length t ≡ length s = ap length g ∙ header_length_lem h s in
    let c : udp_checksum h t ≡ udp_checksum h s = ap (λ (x : Bytes). udp_checksum h x) g ∙ header_behind h (h + 6) s (omega arith) in
    let w : udp_afresh (pseudo4 h t) h t ≡ udp_by p h t =
    udp_by_lem (pseudo4 h t) 6 h t (pseudo4_length h t (omega arith)) ∙ ap (λ (x : ℕ). udp_by x h t) (pseudo4_words h t (omega arith) (omega arith) ∙ sym q) in
    i ∙ ap₂ (λ (k : ℕ) (x : Bytes). cond (eqb k 0) (udp_length_afresh h t) x) c (sym w)
    ∙ ap (λ (x : Bytes). cond (eqb (udp_checksum h s) 0) (udp_length_afresh h x) (udp_afresh (pseudo4 h x) h x)) g ∙ ap (λ (k : ℕ). by k) e
  where
    by : ℕ → Bytes
    by k = cond (eqb (udp_checksum k s) 0) (udp_length_afresh k (header_afresh k s)) (udp_afresh (pseudo4 k (header_afresh k s)) k (header_afresh k s))

pub steps_6 : (p : ℕ) (s t u : Bytes) → t ≡ with16 4 (length s - 40) s → 48 ≤ length s → length s ≤ 65575
    → p ≡ words (take 32 (drop 8 t)) + (17 + (length t - 40)) → u ≡ udp_or_none false p 40 t → u ≡ afresh6 s
unfolding afresh6 udp_or_none
steps_6 p s t u g l m q i =
    let n : length t ≡ length s = ap length g ∙ with16_length 4 (length s - 40) s in
    let w : udp_afresh (pseudo6 t) 40 t ≡ udp_by p 40 t =
    udp_by_lem (pseudo6 t) 20 40 t (pseudo6_length t (omega arith)) ∙ ap (λ (x : ℕ). udp_by x 40 t) (pseudo6_words t (omega arith) (omega arith) ∙ sym q) in
    i ∙ sym w ∙ ap (λ (x : Bytes). udp_afresh (pseudo6 x) 40 x) g

-- ---- in a part of a lent output: t is what became of that part

module _ (type at end : ℕ) (d : Bytes) (l : at ≤ end) (m : end ≤ length d) where
  abbrev part : Bytes
  part = take (end - at) (drop at d)

  behind : drop (end - at) (drop at d) ≡ drop end d
  behind = let n : at + (end - at) ≡ end = omega arith in drop-drop (end - at) at d ∙ ap (λ (i : ℕ). drop i d) n

  part_is : (t : Bytes) → t ≡ afresh type part → Wrote (afresh type part) d at (take at d ++ (t ++ drop (end - at) (drop at d))) end
  part_is t e =
      let n : length part ≡ end - at = length-take-le (end - at) (drop at d) (omega (arith, length-drop at d)) in
      is_wrote (afresh type part) d _ at end (omega arith) (omega (arith, afresh_length type part))
      (ap₂ (λ (x y : Bytes). take at d ++ (x ++ y)) e behind ∙ sym (append_assoc (take at d) (afresh type part) (drop end d)))

  pub part_4 : (t : Bytes) → type ≡ 0x01 → t ≡ afresh4 part → Wrote (afresh type part) d at (take at d ++ (t ++ drop (end - at) (drop at d))) end
  unfolding afresh
  part_4 t e f = part_is t (f ∙ ap (λ (k : ℕ). afresh k part) (sym e))

  pub part_6 : (t : Bytes) → type ≡ 0x02 → t ≡ afresh6 part → Wrote (afresh type part) d at (take at d ++ (t ++ drop (end - at) (drop at d))) end
  unfolding afresh
  part_6 t e f = part_is t (f ∙ ap (λ (k : ℕ). afresh k part) (sym e))

  -- the output stays
  pub part_other : (type ≡ 0x01 → ⊥) → (type ≡ 0x02 → ⊥) → Wrote (afresh type part) d at d end
  unfolding afresh
  part_other n₁ n₂ =
      let e : part ≡ afresh type part = rw (ne_eqb type 0x01 n₁, ne_eqb type 0x02 n₂) in
      let w : take at d ++ (part ++ drop (end - at) (drop at d)) ≡ d =
      ap (λ (z : Bytes). take at d ++ z) (take-append-drop (end - at) (drop at d)) ∙ take-append-drop at d in
      subst (λ (x : Bytes). Wrote (afresh type part) d at x end) w (part_is part e)

-- ---- by the packet's type

module _ (type : ℕ) (s : Bytes) where
  pub plain_4 : type ≡ 0x01 → plain_ip type s ≡ plain4 s
  unfolding plain_ip
  plain_4 e = ap (λ (k : ℕ). plain_ip k s) e

  pub plain_6 : type ≡ 0x02 → plain_ip type s ≡ plain6 s
  unfolding plain_ip
  plain_6 e = ap (λ (k : ℕ). plain_ip k s) e

  pub plain_other : (type ≡ 0x01 → ⊥) → (type ≡ 0x02 → ⊥) → plain_ip type s ≡ false
  unfolding plain_ip
  plain_other n₁ n₂ = rw (ne_eqb type 0x01 n₁, ne_eqb type 0x02 n₂)
