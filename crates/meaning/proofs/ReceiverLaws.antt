-- What a receiver finds: over a header with its checksum, and over a pseudo header and UDP with its checksum, the sum
-- is all ones. Rests on ChecksumLaws and FieldLaws.
use Prim.Native.Nat.{ℕ, zero, suc, ◌+◌, ◌-◌, ◌*◌, ◌≤◌}
use mathlib.Core.Path.{◌≡◌, refl, ap, ap₂, ◌∙◌}
use mathlib.Core.Bool.{Bool, true, false, cond}
use mathlib.Core.List.{[], ◌∷◌, ◌++◌}
use native.Mathlib.Omega.{arith}
use lib.ListN.{length, take, drop, length-append, length-drop}
use lib.Seq.{length-take-le}
use lib.Dec.{eqb}
use borrow.Author.Tests.{ne_eqb}
use Rattle.meaning.specs.Bytes.{Bytes, put16, put32, with16}
use Rattle.meaning.specs.Checksums.{ones_sum, checksum, non_zero, all_ones}
use Rattle.meaning.proofs.ChecksumLaws.{words, folded}
use Rattle.meaning.specs.Ip.{header_length, udp_checksum, addresses4, addresses6, header_afresh, pseudo4, pseudo6, udp_length_afresh, udp_afresh, afresh4, afresh6}
use Rattle.meaning.proofs.ChecksumLaws.{sum_is, words_append, all_ones_lem, all_ones_udp}
use Rattle.meaning.proofs.FieldLaws.{with16_length, words_with, take_with, drop_with, part_before}

-- ---- lengths

pub header_length_lem : (h : ℕ) (s : Bytes) → length (header_afresh h s) ≡ length s
unfolding header_afresh
header_length_lem h s =
    let t : Bytes = with16 2 (length s) s in
    let e : length t ≡ length s = with16_length 2 (length s) s in
    let f : length (with16 10 0 t) ≡ length s = with16_length 10 0 t ∙ e in
    with16_length 10 (checksum (take h (with16 10 0 t))) (with16 10 0 t) ∙ f

pub pseudo4_length : (h : ℕ) (s : Bytes) → 20 ≤ length s → length (pseudo4 h s) ≡ 6 * 2
unfolding pseudo4 put16
pseudo4_length h s l =
    omega (arith, length-append (addresses4 s) (0 ∷ 17 ∷ put16 (length s - h)), length-take-le 8 (drop 12 s) (omega (arith, length-drop 12 s)))

pub pseudo6_length : (s : Bytes) → 40 ≤ length s → length (pseudo6 s) ≡ 20 * 2
unfolding pseudo6 put32 put16
pseudo6_length s l =
    omega (arith, length-append (addresses6 s) (put32 (length s - 40) ++ (0 ∷ 0 ∷ 0 ∷ 17 ∷ [])), length-take-le 32 (drop 8 s) (omega (arith, length-drop 8 s)))

-- bytes behind a part of even length, with a number at an even offset
sum_with : (j k c : ℕ) (p x : Bytes) → length p ≡ j * 2 → k * 2 + 2 ≤ length x → c ≤ 65535
    → ones_sum (p ++ with16 (k * 2) c (with16 (k * 2) 0 x)) ≡ folded (words (p ++ with16 (k * 2) 0 x) + c)
sum_with j k c p x e h l =
    let z : Bytes = with16 (k * 2) 0 x in
    let a : words (p ++ with16 (k * 2) c z) ≡ words p + words (with16 (k * 2) c z) = words_append j p (with16 (k * 2) c z) e in
    let b : words (p ++ z) ≡ words p + words z = words_append j p z e in
    sum_is (p ++ with16 (k * 2) c z) ∙ ap folded (omega (arith, a, b, words_with k c x h l))

pub non_zero_le : (n : ℕ) → n ≤ 65535 → non_zero n ≤ 65535
unfolding non_zero
non_zero_le zero h = omega arith
non_zero_le (suc n) h = h

-- ---- the IPv4 header

pub header_verified : (h : ℕ) (s : Bytes) → 12 ≤ h → h ≤ length s → ones_sum (take h (header_afresh h s)) ≡ all_ones
unfolding header_afresh checksum
header_verified h s l m =
    let t : Bytes = with16 2 (length s) s in
    let z : Bytes = with16 10 0 t in
    let x : Bytes = take h t in
    let n : length x ≡ h = length-take-le h t (omega (arith, with16_length 2 (length s) s)) in
    let w : take h z ≡ with16 10 0 x = take_with 10 0 t h l in
    let c : ℕ = 65535 - ones_sum (take h z) in
    let e : c ≡ 65535 - folded (words (with16 10 0 x)) = ap (λ (y : Bytes). 65535 - ones_sum y) w ∙ ap (λ (v : ℕ). 65535 - v) (sum_is (with16 10 0 x)) in
    ap ones_sum (take_with 10 c z h l ∙ ap (with16 10 c) w) ∙ sum_with 0 5 c [] x refl (omega arith) (omega arith)
    ∙ ap (λ (v : ℕ). folded (words (with16 10 0 x) + v)) e ∙ all_ones_lem (words (with16 10 0 x))

-- ---- UDP behind h bytes

pub udp_length_lem : (h : ℕ) (s : Bytes) → length (udp_length_afresh h s) ≡ length s
unfolding udp_length_afresh
udp_length_lem h s = with16_length (h + 4) (length s - h) s

pub udp_whole_length : (p : Bytes) (h : ℕ) (s : Bytes) → length (udp_afresh p h s) ≡ length s
unfolding udp_afresh
udp_whole_length p h s =
    let t : Bytes = with16 (h + 6) 0 (udp_length_afresh h s) in
    with16_length (h + 6) (non_zero (checksum (p ++ drop h t))) t ∙ with16_length (h + 6) 0 (udp_length_afresh h s) ∙ udp_length_lem h s

-- what stands before it
pub udp_before : (p : Bytes) (h from k : ℕ) (s : Bytes) → from + k ≤ h → take k (drop from (udp_afresh p h s)) ≡ take k (drop from s)
unfolding udp_afresh udp_length_afresh
udp_before p h from k s l =
    let u : Bytes = with16 (h + 4) (length s - h) s in
    let t : Bytes = with16 (h + 6) 0 u in
    part_before (h + 6) (non_zero (checksum (p ++ drop h t))) t from k (omega arith) ∙ part_before (h + 6) 0 u from k (omega arith)
    ∙ part_before (h + 4) (length s - h) s from k (omega arith)

pub udp_length_before : (h from k : ℕ) (s : Bytes) → from + k ≤ h → take k (drop from (udp_length_afresh h s)) ≡ take k (drop from s)
unfolding udp_length_afresh
udp_length_before h from k s l = part_before (h + 4) (length s - h) s from k (omega arith)

pub udp_verified : (j h : ℕ) (p s : Bytes) → length p ≡ j * 2 → h + 8 ≤ length s → ones_sum (p ++ drop h (udp_afresh p h s)) ≡ all_ones
unfolding udp_afresh checksum
udp_verified j h p s e m =
    let t : Bytes = udp_length_afresh h s in
    let z : Bytes = with16 (h + 6) 0 t in
    let x : Bytes = drop h t in
    let w : drop h z ≡ with16 6 0 x = drop_with 6 0 t h in
    let k : ℕ = 65535 - ones_sum (p ++ drop h z) in
    let c : ℕ = non_zero k in
    let f : k ≡ 65535 - folded (words (p ++ with16 6 0 x)) = ap (λ (y : Bytes). 65535 - ones_sum (p ++ y)) w ∙ ap (λ (v : ℕ). 65535 - v) (sum_is (p ++ with16 6 0 x)) in
    let n : 8 ≤ length x = omega (arith, length-drop h t, udp_length_lem h s) in
    ap (λ (y : Bytes). ones_sum (p ++ y)) (drop_with 6 c z h ∙ ap (with16 6 c) w) ∙ sum_with j 3 c p x e (omega arith) (non_zero_le k (omega arith))
    ∙ ap (λ (v : ℕ). folded (words (p ++ with16 6 0 x) + non_zero v)) f ∙ all_ones_udp (words (p ++ with16 6 0 x))

-- ---- the whole packets

pub pseudo4_of : (h : ℕ) (s t : Bytes) → length t ≡ length s → take 8 (drop 12 t) ≡ take 8 (drop 12 s) → pseudo4 h t ≡ pseudo4 h s
unfolding pseudo4
pseudo4_of h s t e f = ap₂ (λ (a : Bytes) (n : ℕ). a ++ (0 ∷ 17 ∷ put16 (n - h))) f e

pub pseudo6_of : (s t : Bytes) → length t ≡ length s → take 32 (drop 8 t) ≡ take 32 (drop 8 s) → pseudo6 t ≡ pseudo6 s
unfolding pseudo6
pseudo6_of s t e f = ap₂ (λ (a : Bytes) (n : ℕ). a ++ (put32 (n - 40) ++ (0 ∷ 0 ∷ 0 ∷ 17 ∷ []))) f e

module _ (s : Bytes) (l : 20 ≤ header_length s) (m : header_length s + 8 ≤ length s) where
  pub verified_header : ones_sum (take (header_length s) (afresh4 s)) ≡ all_ones
  unfolding afresh4
  verified_header = go (eqb (udp_checksum (header_length s) s) 0)
    where
      h : ℕ
      h = header_length s

      t : Bytes
      t = header_afresh h s

      go : (b : Bool) → ones_sum (take h (cond b (udp_length_afresh h t) (udp_afresh (pseudo4 h t) h t))) ≡ all_ones
      go true = ap ones_sum (udp_length_before h 0 h t (omega arith)) ∙ header_verified h s (omega arith) (omega arith)
      go false = ap ones_sum (udp_before (pseudo4 h t) h 0 h t (omega arith)) ∙ header_verified h s (omega arith) (omega arith)

  pub verified4 : (udp_checksum (header_length s) s ≡ 0 → ⊥) → ones_sum (pseudo4 (header_length s) (afresh4 s) ++ drop (header_length s) (afresh4 s)) ≡ all_ones
  unfolding afresh4
  verified4 n =
      let h : ℕ = header_length s in
      let t : Bytes = header_afresh h s in
      let u : Bytes = udp_afresh (pseudo4 h t) h t in
      let e : length t ≡ length s = header_length_lem h s in
      let p : pseudo4 h u ≡ pseudo4 h t = pseudo4_of h t u (udp_whole_length (pseudo4 h t) h t) (udp_before (pseudo4 h t) h 12 8 t (omega arith)) in
      rw (ne_eqb (udp_checksum h s) 0 n)
      (ap (λ (x : Bytes). ones_sum (x ++ drop h u)) p ∙ udp_verified 6 h (pseudo4 h t) t (pseudo4_length h t (omega arith)) (omega arith))

pub verified6 : (s : Bytes) → 48 ≤ length s → ones_sum (pseudo6 (afresh6 s) ++ drop 40 (afresh6 s)) ≡ all_ones
unfolding afresh6
verified6 s l =
    let t : Bytes = with16 4 (length s - 40) s in
    let u : Bytes = udp_afresh (pseudo6 t) 40 t in
    let e : length t ≡ length s = with16_length 4 (length s - 40) s in
    let p : pseudo6 u ≡ pseudo6 t = pseudo6_of t u (udp_whole_length (pseudo6 t) 40 t) (udp_before (pseudo6 t) 40 8 32 t (omega arith)) in
    ap (λ (x : Bytes). ones_sum (x ++ drop 40 u)) p ∙ udp_verified 20 40 (pseudo6 t) t (pseudo6_length t (omega arith)) (omega arith)
