-- Working lengths and checksums out afresh a second time: what is set depends on nothing that is set, so that with another payload behind
-- the same headers the result is that of doing it once. And what is worked out afresh may be rewritten again.
use Prim.Native.Nat.{ℕ, zero, suc, ◌+◌, ◌-◌, ◌*◌, ◌/◌, ◌%◌, ◌≤◌, ◌<◌}
use mathlib.Core.Path.{◌≡◌, refl, sym, ap, ap₂, subst, ◌∙◌}
use mathlib.Core.Logic.{◌≢◌}
use mathlib.Core.Bool.{Bool, true, false, cond}
use mathlib.Core.List.{◌++◌}
use native.Mathlib.Omega.{arith}
use lib.ListN.{length, take, drop, get_or, length-append, get_or-append}
use lib.Seq.{length-take-le, get_or-take}
use lib.Dec.{eqb}
use borrow.Author.Tests.{eq-eqb, ne_eqb, eqb-true}
use Rattle.meaning.specs.Bytes.{Bytes, be16, be16_at, with16}
use Rattle.meaning.specs.Checksums.{checksum, non_zero}
use Rattle.meaning.specs.Ip.{version, header_length, fragmented, protocol, next_header, udp_checksum, is_udp, plain4, plain6, header_afresh, pseudo4, pseudo6, udp_length_afresh, udp_afresh, afresh4, afresh6, afresh}
use Rattle.meaning.proofs.FieldLaws.{with16_length, read_same, read_before, read_behind, byte_other, take_with, take_before, part_before, drop_behind, append_with, over, beside}
use Rattle.meaning.proofs.ReceiverLaws.{header_length_lem, udp_length_lem, udp_whole_length, pseudo4_of, pseudo6_of, non_zero_le}
use Rattle.meaning.proofs.IpTests.{is_plain4, is_plain6, udp_is}

-- ---- what each step makes of a field that is already there

module _ (h m : ℕ) (s : Bytes) where
  header_2 : header_afresh h (with16 2 m s) ≡ header_afresh h s
  unfolding header_afresh
  header_2 =
      ap (λ (t : Bytes). with16 10 (checksum (take h (with16 10 0 t))) (with16 10 0 t))
      (ap (λ (n : ℕ). with16 2 n (with16 2 m s)) (with16_length 2 m s) ∙ over 2 (length s) s m)

  header_10 : header_afresh h (with16 10 m s) ≡ header_afresh h s
  unfolding header_afresh
  header_10 =
      ap (λ (t : Bytes). with16 10 (checksum (take h t)) t)
      (ap (λ (n : ℕ). with16 10 0 (with16 2 n (with16 10 m s))) (with16_length 10 m s) ∙ ap (with16 10 0) (beside 2 (length s) s 10 m (omega arith))
      ∙ over 10 0 (with16 2 (length s) s) m)

  -- what stands behind the header stays
  header_behind : (at : ℕ) → 12 ≤ h → h ≤ at → header_afresh h (with16 at m s) ≡ with16 at m (header_afresh h s)
  unfolding header_afresh
  header_behind at l k =
      let t : Bytes = with16 2 (length s) s in
      let z : Bytes = with16 10 0 t in
      let e : with16 10 0 (with16 2 (length (with16 at m s)) (with16 at m s)) ≡ with16 at m z =
      ap (λ (n : ℕ). with16 10 0 (with16 2 n (with16 at m s))) (with16_length at m s) ∙ ap (with16 10 0) (beside 2 (length s) s at m (omega arith))
      ∙ beside 10 0 t at m (omega arith) in
      ap (λ (x : Bytes). with16 10 (checksum (take h x)) x) e ∙ ap (λ (x : Bytes). with16 10 (checksum x) (with16 at m z)) (take_before at m z h k)
      ∙ beside 10 (checksum (take h z)) z at m (omega arith)

  length_4 : udp_length_afresh h (with16 (h + 4) m s) ≡ udp_length_afresh h s
  unfolding udp_length_afresh
  length_4 = ap (λ (n : ℕ). with16 (h + 4) (n - h) (with16 (h + 4) m s)) (with16_length (h + 4) m s) ∙ over (h + 4) (length s - h) s m

  length_6 : udp_length_afresh h (with16 (h + 6) m s) ≡ with16 (h + 6) m (udp_length_afresh h s)
  unfolding udp_length_afresh
  length_6 =
      ap (λ (n : ℕ). with16 (h + 4) (n - h) (with16 (h + 6) m s)) (with16_length (h + 6) m s) ∙ beside (h + 4) (length s - h) s (h + 6) m (omega arith)

  udp_4 : (p : Bytes) → udp_afresh p h (with16 (h + 4) m s) ≡ udp_afresh p h s
  unfolding udp_afresh
  udp_4 p = ap (λ (x : Bytes). with16 (h + 6) (non_zero (checksum (p ++ drop h (with16 (h + 6) 0 x)))) (with16 (h + 6) 0 x)) length_4

  udp_6 : (p : Bytes) → udp_afresh p h (with16 (h + 6) m s) ≡ udp_afresh p h s
  unfolding udp_afresh
  udp_6 p =
      ap (λ (x : Bytes). with16 (h + 6) (non_zero (checksum (p ++ drop h x))) x) (ap (with16 (h + 6) 0) length_6 ∙ over (h + 6) 0 (udp_length_afresh h s) m)

pseudo4_behind : (h at m : ℕ) (s : Bytes) → 20 ≤ at → pseudo4 h (with16 at m s) ≡ pseudo4 h s
pseudo4_behind h at m s l = pseudo4_of h s (with16 at m s) (with16_length at m s) (part_before at m s 12 8 l)

pseudo6_behind : (at m : ℕ) (s : Bytes) → 40 ≤ at → pseudo6 (with16 at m s) ≡ pseudo6 s
pseudo6_behind at m s l = pseudo6_of s (with16 at m s) (with16_length at m s) (part_before at m s 8 32 l)

pseudo6_4 : (m : ℕ) (s : Bytes) → pseudo6 (with16 4 m s) ≡ pseudo6 s
pseudo6_4 m s = pseudo6_of s (with16 4 m s) (with16_length 4 m s) (ap (take 32) (drop_behind 4 m s 8 (omega arith)))

-- ---- IPv4 with the length of its header given, and whether the UDP checksum is zero

unfoldable pub by4 : Bool → ℕ → Bytes → Bytes
by4 b h s = cond b (udp_length_afresh h (header_afresh h s)) (udp_afresh (pseudo4 h (header_afresh h s)) h (header_afresh h s))

pub afresh_by : (b : Bool) (h : ℕ) (s : Bytes) → header_length s ≡ h → eqb (udp_checksum h s) 0 ≡ b → afresh4 s ≡ by4 b h s
unfolding afresh4 by4
afresh_by b h s e f =
    ap (λ (k : ℕ). cond (eqb (udp_checksum k s) 0) (udp_length_afresh k (header_afresh k s)) (udp_afresh (pseudo4 k (header_afresh k s)) k (header_afresh k s))) e
    ∙ ap (λ (x : Bool). cond x (udp_length_afresh h (header_afresh h s)) (udp_afresh (pseudo4 h (header_afresh h s)) h (header_afresh h s))) f

module _ (h : ℕ) (l : 20 ≤ h) where
  by_2 : (b : Bool) (m : ℕ) (s : Bytes) → by4 b h (with16 2 m s) ≡ by4 b h s
  unfolding by4
  by_2 b m s = ap (λ (t : Bytes). cond b (udp_length_afresh h t) (udp_afresh (pseudo4 h t) h t)) (header_2 h m s)

  by_10 : (b : Bool) (m : ℕ) (s : Bytes) → by4 b h (with16 10 m s) ≡ by4 b h s
  unfolding by4
  by_10 b m s = ap (λ (t : Bytes). cond b (udp_length_afresh h t) (udp_afresh (pseudo4 h t) h t)) (header_10 h m s)

  by_4 : (b : Bool) (m : ℕ) (s : Bytes) → by4 b h (with16 (h + 4) m s) ≡ by4 b h s
  unfolding by4
  by_4 true m s = ap (udp_length_afresh h) (header_behind h m s (h + 4) (omega arith) (omega arith)) ∙ length_4 h m (header_afresh h s)
  by_4 false m s =
      let t : Bytes = header_afresh h s in
      ap (λ (x : Bytes). udp_afresh (pseudo4 h x) h x) (header_behind h m s (h + 4) (omega arith) (omega arith))
      ∙ ap (λ (p : Bytes). udp_afresh p h (with16 (h + 4) m t)) (pseudo4_behind h (h + 4) m t (omega arith)) ∙ udp_4 h m t (pseudo4 h t)

  by_6 : (m : ℕ) (s : Bytes) → by4 false h (with16 (h + 6) m s) ≡ by4 false h s
  unfolding by4
  by_6 m s =
      let t : Bytes = header_afresh h s in
      ap (λ (x : Bytes). udp_afresh (pseudo4 h x) h x) (header_behind h m s (h + 6) (omega arith) (omega arith))
      ∙ ap (λ (p : Bytes). udp_afresh p h (with16 (h + 6) m t)) (pseudo4_behind h (h + 6) m t (omega arith)) ∙ udp_6 h m t (pseudo4 h t)

-- ---- bytes in which numbers of sixteen bits were set, each at one of some offsets

pub data Refit (P : ℕ → Type 0) (s : Bytes) : Bytes → Type 0 where
  same : Refit P s s
  field : {t : Bytes} (a m : ℕ) → P a → Refit P s t → Refit P s (with16 a m t)

module _ {P : ℕ → Type 0} where
  -- what no such number changes
  pub keeps : {A : Type 0} (f : Bytes → A) → ((a m : ℕ) (t : Bytes) → P a → f (with16 a m t) ≡ f t) → {s t : Bytes} → Refit P s t → f t ≡ f s
  keeps f g same = refl
  keeps f g (field {t} a m p r) = g a m t p ∙ keeps f g r

  pub refit_length : {s t : Bytes} → Refit P s t → length t ≡ length s
  refit_length r = keeps length (λ a m t p. with16_length a m t) r

  -- with other bytes behind all those offsets
  pub refit_front : (k : ℕ) (z : Bytes) → ((a : ℕ) → P a → a + 2 ≤ k) → {s t : Bytes} → k ≤ length s → Refit P s t → Refit P (take k s ++ z) (take k t ++ z)
  refit_front k z g l same = same
  refit_front k z g {s} l (field {t} a m p r) =
      let n : length t ≡ length s = refit_length r in
      let e : length (take k t) ≡ k = length-take-le k t (omega arith) in
      let i : a + 2 ≤ k = g a p in
      subst (Refit P (take k s ++ z)) (append_with a m (take k t) z (omega arith) ∙ ap (λ (x : Bytes). x ++ z) (sym (take_with a m t k i)))
      (field a m p (refit_front k z g l r))

  -- each step sets numbers at its own offsets
  header_refit : (h : ℕ) {s t : Bytes} → P 2 → P 10 → Refit P s t → Refit P s (header_afresh h t)
  unfolding header_afresh
  header_refit h {s} {t} p q r =
      let z : Bytes = with16 10 0 (with16 2 (length t) t) in
      field 10 (checksum (take h z)) q (field 10 0 q (field 2 (length t) p r))

  length_refit : (h : ℕ) {s t : Bytes} → P (h + 4) → Refit P s t → Refit P s (udp_length_afresh h t)
  unfolding udp_length_afresh
  length_refit h {s} {t} p r = field (h + 4) (length t - h) p r

  udp_refit : (q : Bytes) (h : ℕ) {s t : Bytes} → P (h + 4) → P (h + 6) → Refit P s t → Refit P s (udp_afresh q h t)
  unfolding udp_afresh
  udp_refit q h {s} {t} p p' r =
      let z : Bytes = with16 (h + 6) 0 (udp_length_afresh h t) in
      field (h + 6) (non_zero (checksum (q ++ drop h z))) p' (field (h + 6) 0 p' (length_refit h p r))

checksum_le : (s : Bytes) → checksum s ≤ 65535
unfolding checksum
checksum_le s = omega arith

-- ---- the fields that are set, in IPv4 and in IPv6

pub data Field4 (b : Bool) (h a : ℕ) : Type 0 where
  total : a ≡ 2 → Field4 b h a
  header : a ≡ 10 → Field4 b h a
  datagram : a ≡ h + 4 → Field4 b h a
  covered : b ≡ false → a ≡ h + 6 → Field4 b h a

pub data Field6 (a : ℕ) : Type 0 where
  payload : a ≡ 4 → Field6 a
  datagram : a ≡ 44 → Field6 a
  covered : a ≡ 46 → Field6 a

pub by_refit : (b : Bool) (h : ℕ) (s : Bytes) → Refit (Field4 b h) s (by4 b h s)
unfolding by4
by_refit true h s = length_refit h (datagram refl) (header_refit h (total refl) (header refl) same)
by_refit false h s =
    udp_refit (pseudo4 h (header_afresh h s)) h (datagram refl) (covered refl refl) (header_refit h (total refl) (header refl) same)

by_kept : (b : Bool) (h : ℕ) → 20 ≤ h → (a m : ℕ) (t : Bytes) → Field4 b h a → by4 b h (with16 a m t) ≡ by4 b h t
by_kept b h l a m t (total e) = ap (λ (i : ℕ). by4 b h (with16 i m t)) e ∙ by_2 h l b m t
by_kept b h l a m t (header e) = ap (λ (i : ℕ). by4 b h (with16 i m t)) e ∙ by_10 h l b m t
by_kept b h l a m t (datagram e) = ap (λ (i : ℕ). by4 b h (with16 i m t)) e ∙ by_4 h l b m t
by_kept b h l a m t (covered f e) =
    ap (λ (i : ℕ). by4 b h (with16 i m t)) e ∙ ap (λ (x : Bool). by4 x h (with16 (h + 6) m t)) f ∙ by_6 h l m t ∙ ap (λ (x : Bool). by4 x h t) (sym f)

pub six_refit : (s : Bytes) → Refit Field6 s (afresh6 s)
unfolding afresh6
six_refit s =
    udp_refit (pseudo6 (with16 4 (length s - 40) s)) 40 (datagram refl) (covered refl) (field 4 (length s - 40) (payload refl) same)

six_kept : (a m : ℕ) (t : Bytes) → Field6 a → afresh6 (with16 a m t) ≡ afresh6 t
unfolding afresh6
six_kept a m t (payload e) =
    ap (λ (i : ℕ). afresh6 (with16 i m t)) e
    ∙ ap (λ (x : Bytes). udp_afresh (pseudo6 x) 40 x) (ap (λ (n : ℕ). with16 4 (n - 40) (with16 4 m t)) (with16_length 4 m t) ∙ over 4 (length t - 40) t m)
six_kept a m t (datagram e) =
    let u : Bytes = with16 4 (length t - 40) t in
    ap (λ (i : ℕ). afresh6 (with16 i m t)) e
    ∙ ap (λ (x : Bytes). udp_afresh (pseudo6 x) 40 x)
    (ap (λ (n : ℕ). with16 4 (n - 40) (with16 44 m t)) (with16_length 44 m t) ∙ beside 4 (length t - 40) t 44 m (omega arith))
    ∙ ap (λ (p : Bytes). udp_afresh p 40 (with16 44 m u)) (pseudo6_behind 44 m u (omega arith)) ∙ udp_4 40 m u (pseudo6 u)
six_kept a m t (covered e) =
    let u : Bytes = with16 4 (length t - 40) t in
    ap (λ (i : ℕ). afresh6 (with16 i m t)) e
    ∙ ap (λ (x : Bytes). udp_afresh (pseudo6 x) 40 x)
    (ap (λ (n : ℕ). with16 4 (n - 40) (with16 46 m t)) (with16_length 46 m t) ∙ beside 4 (length t - 40) t 46 m (omega arith))
    ∙ ap (λ (p : Bytes). udp_afresh p 40 (with16 46 m u)) (pseudo6_behind 46 m u (omega arith)) ∙ udp_6 40 m u (pseudo6 u)

-- ---- afresh again: k bytes of what was worked out afresh, with anything behind them

pub again6 : (s : Bytes) (k : ℕ) (z : Bytes) → 48 ≤ k → k ≤ length s → afresh6 (take k (afresh6 s) ++ z) ≡ afresh6 (take k s ++ z)
again6 s k z l m = keeps afresh6 six_kept (refit_front k z within m (six_refit s))
  where
    within : (a : ℕ) → Field6 a → a + 2 ≤ k
    within a (payload e) = omega arith
    within a (datagram e) = omega arith
    within a (covered e) = omega arith

-- a byte of none of them
pub by_byte : (b : Bool) (h : ℕ) (s : Bytes) (j : ℕ) → 20 ≤ h → j < h + 4 → j ≢ 2 → j ≢ 3 → j ≢ 10 → j ≢ 11 → {t : Bytes} → Refit (Field4 b h) s t → get_or t j 0 ≡ get_or s j 0
by_byte b h s j l k n₁ n₂ n₃ n₄ r = keeps (λ (x : Bytes). get_or x j 0) go r
  where
    go : (a m : ℕ) (t : Bytes) → Field4 b h a → get_or (with16 a m t) j 0 ≡ get_or t j 0
    go a m t (total e) = byte_other a m t j (λ q. n₁ (q ∙ e)) (λ q. n₂ (q ∙ ap (λ (i : ℕ). i + 1) e))
    go a m t (header e) = byte_other a m t j (λ q. n₃ (q ∙ e)) (λ q. n₄ (q ∙ ap (λ (i : ℕ). i + 1) e))
    go a m t (datagram e) = byte_other a m t j (λ q. omega arith) (λ q. omega arith)
    go a m t (covered f e) = byte_other a m t j (λ q. omega arith) (λ q. omega arith)

pub six_byte : (s : Bytes) (j : ℕ) → j < 44 → j ≢ 4 → j ≢ 5 → {t : Bytes} → Refit Field6 s t → get_or t j 0 ≡ get_or s j 0
six_byte s j k n₁ n₂ r = keeps (λ (x : Bytes). get_or x j 0) go r
  where
    go : (a m : ℕ) (t : Bytes) → Field6 a → get_or (with16 a m t) j 0 ≡ get_or t j 0
    go a m t (payload e) = byte_other a m t j (λ q. n₁ (q ∙ e)) (λ q. n₂ (q ∙ ap (λ (i : ℕ). i + 1) e))
    go a m t (datagram e) = byte_other a m t j (λ q. omega arith) (λ q. omega arith)
    go a m t (covered e) = byte_other a m t j (λ q. omega arith) (λ q. omega arith)

-- the UDP checksum, where it is one of them, is not zero afterwards; else it stays
non_zero_pos : (n : ℕ) → non_zero n ≡ 0 → ⊥
unfolding non_zero
non_zero_pos zero e = omega arith
non_zero_pos (suc n) e = omega arith

pub by_checksum : (b : Bool) (h : ℕ) (s : Bytes) → 20 ≤ h → h + 8 ≤ length s → eqb (udp_checksum h s) 0 ≡ b → eqb (udp_checksum h (by4 b h s)) 0 ≡ b
unfolding by4 udp_afresh
by_checksum true h s l m e =
    eq-eqb _ 0 (keeps (λ (x : Bytes). be16_at x (h + 6)) go (by_refit true h s) ∙ eqb-true _ 0 e)
  where
    go : (a m : ℕ) (t : Bytes) → Field4 true h a → be16_at (with16 a m t) (h + 6) ≡ be16_at t (h + 6)
    go a m t (total e) = read_behind a m t (h + 6) (omega arith)
    go a m t (header e) = read_behind a m t (h + 6) (omega arith)
    go a m t (datagram e) = read_behind a m t (h + 6) (omega arith)
    go a m t (covered f e) = let z : ◌≡◌ {A = ℕ} 0 1 = cc in absurd (omega arith)
by_checksum false h s l m e =
    let t : Bytes = header_afresh h s in
    let z : Bytes = with16 (h + 6) 0 (udp_length_afresh h t) in
    let k : ℕ = checksum (pseudo4 h t ++ drop h z) in
    let n : length z ≡ length s = with16_length (h + 6) 0 (udp_length_afresh h t) ∙ udp_length_lem h t ∙ header_length_lem h s in
    ne_eqb _ 0 (λ q. non_zero_pos k (sym (read_same (h + 6) (non_zero k) z (omega arith) (non_zero_le k (checksum_le (pseudo4 h t ++ drop h z)))) ∙ q))

pub afresh_length : (type : ℕ) (s : Bytes) → length (afresh type s) ≡ length s
unfolding afresh
afresh_length type s = go (eqb type 0x01) (eqb type 0x02)
  where
    four : length (afresh4 s) ≡ length s
    four =
        let b : Bool = eqb (udp_checksum (header_length s) s) 0 in
        ap length (afresh_by b (header_length s) s refl refl) ∙ refit_length (by_refit b (header_length s) s)

    go : (a b : Bool) → length (cond a (afresh4 s) (cond b (afresh6 s) s)) ≡ length s
    go true b = four
    go false true = refit_length (six_refit s)
    go false false = refl

-- ---- k bytes with anything behind them

module _ (k : ℕ) (s z : Bytes) (m : k ≤ length s) where
  pub front_length : length (take k s ++ z) ≡ k + length z
  front_length = omega (arith, length-append (take k s) z, length-take-le k s m)

  pub front_byte : (j : ℕ) → j < k → get_or (take k s ++ z) j 0 ≡ get_or s j 0
  front_byte j l = get_or-append (take k s) z 0 j (omega (arith, length-take-le k s m)) ∙ get_or-take k s j 0 l

  pub front_read : (j : ℕ) → j + 2 ≤ k → be16_at (take k s ++ z) j ≡ be16_at s j
  unfolding be16_at
  front_read j l = ap₂ be16 (front_byte j (omega arith)) (front_byte (j + 1) (omega arith))

pub again4 : (s : Bytes) (k : ℕ) (z : Bytes) → 20 ≤ header_length s → header_length s + 8 ≤ k → k ≤ length s → afresh4 (take k (afresh4 s) ++ z) ≡ afresh4 (take k s ++ z)
again4 s k z l i m =
    ap (λ (u : Bytes). afresh4 (take k u ++ z)) (afresh_by b h s refl refl)
    ∙ afresh_by b h (take k u ++ z) header_same (ap (λ (c : ℕ). eqb c 0) (front_read k u z mu (h + 6) (omega arith)) ∙ by_checksum b h s l (omega arith) refl)
    ∙ keeps (by4 b h) (by_kept b h l) (refit_front k z within m r)
    ∙ sym (afresh_by b h (take k s ++ z) (ap (λ (c : ℕ). c % 16 * 4) (front_byte k s z m 0 (omega arith))) (ap (λ (c : ℕ). eqb c 0) (front_read k s z m (h + 6) (omega arith))))
  where
    h : ℕ
    h = header_length s

    b : Bool
    b = eqb (udp_checksum h s) 0

    u : Bytes
    u = by4 b h s

    r : Refit (Field4 b h) s u
    r = by_refit b h s

    mu : k ≤ length u
    mu = omega (arith, refit_length r)

    header_same : header_length (take k u ++ z) ≡ h
    header_same =
        ap (λ (c : ℕ). c % 16 * 4)
        (front_byte k u z mu 0 (omega arith) ∙ by_byte b h s 0 l (omega arith) (λ e. omega arith) (λ e. omega arith) (λ e. omega arith) (λ e. omega arith) r)

    within : (a : ℕ) → Field4 b h a → a + 2 ≤ k
    within a (total e) = omega arith
    within a (header e) = omega arith
    within a (datagram e) = omega arith
    within a (covered f e) = omega arith

-- ---- what was worked out afresh may be rewritten again

module _ (h : ℕ) (s : Bytes) where
  length_read : (j : ℕ) → j + 2 ≤ h + 4 → be16_at (udp_length_afresh h s) j ≡ be16_at s j
  unfolding udp_length_afresh
  length_read j l = read_before (h + 4) (length s - h) s j l

  udp_read : (p : Bytes) (j : ℕ) → j + 2 ≤ h + 6 → be16_at (udp_afresh p h s) j ≡ be16_at (udp_length_afresh h s) j
  unfolding udp_afresh
  udp_read p j l =
      let t : Bytes = with16 (h + 6) 0 (udp_length_afresh h s) in
      read_before (h + 6) (non_zero (checksum (p ++ drop h t))) t j l ∙ read_before (h + 6) 0 (udp_length_afresh h s) j l

  length_there : h + 8 ≤ length s → length s - h ≤ 65535 → be16_at (udp_length_afresh h s) (h + 4) ≡ length s - h
  unfolding udp_length_afresh
  length_there l m = read_same (h + 4) (length s - h) s (omega arith) m

  total_there : 12 ≤ length s → length s ≤ 65535 → be16_at (header_afresh h s) 2 ≡ length s
  unfolding header_afresh
  total_there l m =
      let t : Bytes = with16 2 (length s) s in
      let z : Bytes = with16 10 0 t in
      read_before 10 (checksum (take h z)) z 2 (omega arith) ∙ read_before 10 0 t 2 (omega arith) ∙ read_same 2 (length s) s (omega arith) m

pub plain_again6 : (s : Bytes) → version s ≡ 6 → next_header s ≡ 17 → 48 ≤ length s → length s ≤ 65575 → plain6 (afresh6 s) ≡ true
unfolding afresh6
plain_again6 s v n l m =
    is_plain6 u (ap (λ (c : ℕ). c / 16) (byte 0 (omega arith) (λ e. omega arith) (λ e. omega arith)) ∙ v)
    (udp_read 40 t (pseudo6 t) 4 (omega arith) ∙ length_read 40 t 4 (omega arith) ∙ read_same 4 (length s - 40) s (omega arith) (omega arith) ∙ ap (λ (i : ℕ). i - 40) (sym lu))
    (byte 6 (omega arith) (λ e. omega arith) (λ e. omega arith) ∙ n)
    ∙ udp_is 40 u (omega (arith, lu))
    ∙ eq-eqb _ _ (udp_read 40 t (pseudo6 t) 44 (omega arith) ∙ length_there 40 t (omega (arith, lt)) (omega (arith, lt)) ∙ ap (λ (i : ℕ). i - 40) (lt ∙ sym lu))
  where
    t : Bytes
    t = with16 4 (length s - 40) s

    u : Bytes
    u = udp_afresh (pseudo6 t) 40 t

    lt : length t ≡ length s
    lt = with16_length 4 (length s - 40) s

    lu : length u ≡ length s
    lu = udp_whole_length (pseudo6 t) 40 t ∙ lt

    byte : (j : ℕ) → j < 44 → j ≢ 4 → j ≢ 5 → get_or u j 0 ≡ get_or s j 0
    byte j k a b = six_byte s j k a b (six_refit s)

pub plain_again4 : (s : Bytes) → version s ≡ 4 → 20 ≤ header_length s → fragmented s ≡ 0 → protocol s ≡ 17 → header_length s + 8 ≤ length s → length s ≤ 65535
    → plain4 (afresh4 s) ≡ true
unfolding by4 be16_at
plain_again4 s v l f p i m = ap plain4 (afresh_by b h s refl refl) ∙ go b
  where
    h : ℕ
    h = header_length s

    b : Bool
    b = eqb (udp_checksum h s) 0

    t : Bytes
    t = header_afresh h s

    lt : length t ≡ length s
    lt = header_length_lem h s

    byte : (z : Bool) (j : ℕ) → j < h + 4 → j ≢ 2 → j ≢ 3 → j ≢ 10 → j ≢ 11 → get_or (by4 z h s) j 0 ≡ get_or s j 0
    byte z j k n₁ n₂ n₃ n₄ = by_byte z h s j l k n₁ n₂ n₃ n₄ (by_refit z h s)

    tests : (z : Bool) → length (by4 z h s) ≡ length s → be16_at (by4 z h s) 2 ≡ length s → be16_at (by4 z h s) (h + 4) ≡ length s - h → plain4 (by4 z h s) ≡ true
    tests z lu e₂ e₄ =
        let u : Bytes = by4 z h s in
        let hu : header_length u ≡ h = ap (λ (c : ℕ). c % 16 * 4) (byte z 0 (omega arith) (λ e. omega arith) (λ e. omega arith) (λ e. omega arith) (λ e. omega arith)) in
        is_plain4 u
        (ap (λ (c : ℕ). c / 16) (byte z 0 (omega arith) (λ e. omega arith) (λ e. omega arith) (λ e. omega arith) (λ e. omega arith)) ∙ v)
        (omega arith)
        (e₂ ∙ sym lu)
        (ap₂ (λ (x y : ℕ). be16 x y % 0x4000) (byte z 6 (omega arith) (λ e. omega arith) (λ e. omega arith) (λ e. omega arith) (λ e. omega arith))
        (byte z 7 (omega arith) (λ e. omega arith) (λ e. omega arith) (λ e. omega arith) (λ e. omega arith)) ∙ f)
        (byte z 9 (omega arith) (λ e. omega arith) (λ e. omega arith) (λ e. omega arith) (λ e. omega arith) ∙ p)
        ∙ ap (λ (k : ℕ). is_udp k u) hu ∙ udp_is h u (omega arith) ∙ eq-eqb _ _ (e₄ ∙ ap (λ (n : ℕ). n - h) (sym lu))

    go : (z : Bool) → plain4 (by4 z h s) ≡ true
    go true =
        tests true (udp_length_lem h t ∙ lt) (length_read h t 2 (omega arith) ∙ total_there h s (omega arith) m)
        (length_there h t (omega (arith, lt)) (omega (arith, lt)) ∙ ap (λ (n : ℕ). n - h) lt)
    go false =
        let q : Bytes = pseudo4 h t in
        tests false (udp_whole_length q h t ∙ lt) (udp_read h t q 2 (omega arith) ∙ length_read h t 2 (omega arith) ∙ total_there h s (omega arith) m)
        (udp_read h t q (h + 4) (omega arith) ∙ length_there h t (omega (arith, lt)) (omega (arith, lt)) ∙ ap (λ (n : ℕ). n - h) lt)
