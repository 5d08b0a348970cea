-- The tests of the headers: one rule for each answer of the code.
use Prim.Native.Nat.{ℕ, ◌+◌, ◌-◌, ◌≤◌, ◌<◌}
use mathlib.Core.Path.{◌≡◌, refl}
use mathlib.Core.Bool.{Bool, true, false}
use native.Mathlib.Omega.{arith}
use lib.ListN.{length}
use lib.Dec.{leb, eqb}
use borrow.Author.Tests.{le-leb, lt-leb, leb-true, leb-false, eq-eqb, ne_eqb}
use Rattle.meaning.specs.Bytes.{Bytes}
use Rattle.meaning.specs.Ip.{version, header_length, total_length, fragmented, protocol, payload_length, next_header, udp_length, is_udp, plain4, plain6}
use Rattle.meaning.proofs.ListLaws.{and_false}

-- ---- UDP

module _ (h : ℕ) (s : Bytes) where
  pub udp_short : length s < h + 8 → is_udp h s ≡ false
  unfolding is_udp
  udp_short l = rw (lt-leb (h + 8) (length s) l)

  pub udp_is : h + 8 ≤ length s → is_udp h s ≡ eqb (udp_length h s) (length s - h)
  unfolding is_udp
  udp_is l = rw (le-leb (h + 8) (length s) l)

-- ---- IPv4

module _ (s : Bytes) where
  pub small_header : header_length s < 20 → plain4 s ≡ false
  unfolding plain4
  small_header l = simp (lt-leb 20 (header_length s) l, and_false)

  not_whole4 : is_udp (header_length s) s ≡ false → plain4 s ≡ false
  unfolding plain4
  not_whole4 e = simp (e, and_false)

  pub short4 : length s < 20 → plain4 s ≡ false
  short4 l = go (leb 20 (header_length s)) refl
    where
      go : (a : Bool) → leb 20 (header_length s) ≡ a → plain4 s ≡ false
      go false e = small_header (leb-false 20 (header_length s) e)
      go true e =
          let g : 20 ≤ header_length s = leb-true 20 (header_length s) e in
          not_whole4 (udp_short (header_length s) s (omega arith))

  pub other_version4 : (version s ≡ 4 → ⊥) → plain4 s ≡ false
  unfolding plain4
  other_version4 n = simp (ne_eqb (version s) 4 n, and_false)

  pub other_length4 : (total_length s ≡ length s → ⊥) → plain4 s ≡ false
  unfolding plain4
  other_length4 n = simp (ne_eqb (total_length s) (length s) n, and_false)

  pub fragment : (fragmented s ≡ 0 → ⊥) → plain4 s ≡ false
  unfolding plain4
  fragment n = simp (ne_eqb (fragmented s) 0 n, and_false)

  pub other_protocol : (protocol s ≡ 17 → ⊥) → plain4 s ≡ false
  unfolding plain4
  other_protocol n = simp (ne_eqb (protocol s) 17 n, and_false)

  pub is_plain4 : version s ≡ 4 → 20 ≤ header_length s → total_length s ≡ length s → fragmented s ≡ 0 → protocol s ≡ 17
      → plain4 s ≡ is_udp (header_length s) s
  unfolding plain4
  is_plain4 v h l f p =
      rw (eq-eqb (version s) 4 v, le-leb 20 (header_length s) h, eq-eqb (total_length s) (length s) l, eq-eqb (fragmented s) 0 f, eq-eqb (protocol s) 17 p)

  -- ---- IPv6

  pub short6 : length s < 40 → plain6 s ≡ false
  unfolding plain6
  short6 l = simp (udp_short 40 s (omega arith), and_false)

  pub other_version6 : (version s ≡ 6 → ⊥) → plain6 s ≡ false
  unfolding plain6
  other_version6 n = simp (ne_eqb (version s) 6 n, and_false)

  pub other_length6 : (payload_length s ≡ length s - 40 → ⊥) → plain6 s ≡ false
  unfolding plain6
  other_length6 n = simp (ne_eqb (payload_length s) (length s - 40) n, and_false)

  pub other_next : (next_header s ≡ 17 → ⊥) → plain6 s ≡ false
  unfolding plain6
  other_next n = simp (ne_eqb (next_header s) 17 n, and_false)

  pub is_plain6 : version s ≡ 6 → payload_length s ≡ length s - 40 → next_header s ≡ 17 → plain6 s ≡ is_udp 40 s
  unfolding plain6
  is_plain6 v l n = rw (eq-eqb (version s) 6 v, eq-eqb (payload_length s) (length s - 40) l, eq-eqb (next_header s) 17 n)
