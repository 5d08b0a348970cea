-- The readers at an offset of a run, as code meets them: each law takes the offset past what is read as a number of its own, e, with
-- its equation. Rests on specs/Readers.
use Prim.Native.Nat.{ℕ, zero, suc, ◌+◌, ◌-◌, ◌%◌, ◌≤◌, ◌<◌}
use mathlib.Core.Path.{◌≡◌, refl}
use mathlib.Core.List.{List, [], ◌∷◌, ◌++◌, append_assoc}
use mathlib.Core.Option.{none, some}
use native.Mathlib.Nat.{not-suc-le-zero}
use native.Mathlib.Numerals.{add-one, sub-one}
use native.Mathlib.Decide.{dec_lt}
use native.Mathlib.Omega.{arith}
use lib.ListN.{length, take, drop, get_or, length-drop, drop_of_length-le}
use lib.Seq.{drop-cons, drop-drop}
use borrow.Author.Tests.{le-leb, lt-leb}
use Rattle.meaning.specs.Bytes.{Bytes, be16_at, be32_at}
use Rattle.meaning.specs.Readers.{Out, Reader, bind, byte, u8, u16, u32, bytes, counted8, counted16, counted32, many}

-- an offset out of what is left after it
pub past : (s : Bytes) (e : ℕ) → e ≤ length s → length s - length (drop e s) ≡ e
past s e h = omega (arith, length-drop e s)

module _ (s : Bytes) (at : ℕ) where
  pub byte_none : length s ≤ at → byte (drop at s) ≡ none
  unfolding byte
  byte_none h = rw (drop_of_length-le s h)

  pub byte_at : (e : ℕ) → at < length s → e ≡ at + 1 → byte (drop at s) ≡ some (get_or s at 0, drop e s)
  unfolding byte
  byte_at e h q = rw (q, add-one, drop-cons s at 0)

  pub u8_none : length s ≤ at → u8 (drop at s) ≡ none
  unfolding u8
  u8_none h = rw (byte_none h)

  pub u8_some : (e : ℕ) → at < length s → e ≡ at + 1 → u8 (drop at s) ≡ some (get_or s at 0 % 256, drop e s)
  unfolding u8
  u8_some e h q = rw (byte_at e h q)

  pub bytes_at : (n e : ℕ) → e ≤ length s → e ≡ at + n → bytes n (drop at s) ≡ some (take n (drop at s), drop e s)
  unfolding bytes
  bytes_at n e h q =
      let k : n ≤ length (drop at s) = omega (arith, length-drop at s) in
      rw (q, le-leb _ _ k, drop-drop)

  pub bytes_none : (n : ℕ) → length s - at < n → bytes n (drop at s) ≡ none
  unfolding bytes
  bytes_none n h =
      let k : length (drop at s) < n = omega (arith, length-drop at s) in
      rw (lt-leb _ _ k)

module _ (s : Bytes) (at : ℕ) where
  pub u16_at : (e : ℕ) → e ≤ length s → e ≡ at + 2 → u16 (drop at s) ≡ some (be16_at s at, drop e s)
  unfolding u16 be16_at
  u16_at e h q = rw (byte_at s at (at + 1) (omega arith) refl, byte_at s (at + 1) e (omega arith) (omega arith))

  pub u16_none : length s < at + 2 → u16 (drop at s) ≡ none
  unfolding u16
  u16_none h =
      elim (dec_lt at (length s)) [
        | yes k ↦ rw (byte_at s at (at + 1) k refl, byte_none s (at + 1) (omega arith))
        | no k ↦ rw (byte_none s at (omega arith))
      ]

module _ (s : Bytes) (at : ℕ) where
  pub u32_at : (e : ℕ) → e ≤ length s → e ≡ at + 4 → u32 (drop at s) ≡ some (be32_at s at, drop e s)
  unfolding u32 be32_at
  u32_at e h q = rw (u16_at s at (at + 2) (omega arith) refl, u16_at s (at + 2) e (omega arith) (omega arith))

  pub u32_none : length s < at + 4 → u32 (drop at s) ≡ none
  unfolding u32
  u32_none h =
      elim (dec_lt (length s) (at + 2)) [
        | yes k ↦ rw (u16_none s at k)
        | no k ↦ rw (u16_at s at (at + 2) (omega arith) refl, u16_none s (at + 2) (omega arith))
      ]

  -- a length of 8, 16 or 32 bits, and as many bytes
  pub counted8_none : length s ≤ at → counted8 (drop at s) ≡ none
  unfolding counted8
  counted8_none h = rw (u8_none s at h)

  pub counted8_at : at < length s → counted8 (drop at s) ≡ bytes (get_or s at 0 % 256) (drop (at + 1) s)
  unfolding counted8
  counted8_at h = rw (u8_some s at (at + 1) h refl)

  pub counted16_none : length s < at + 2 → counted16 (drop at s) ≡ none
  unfolding counted16
  counted16_none h = rw (u16_none s at h)

  pub counted16_at : at + 2 ≤ length s → counted16 (drop at s) ≡ bytes (be16_at s at) (drop (at + 2) s)
  unfolding counted16
  counted16_at h = rw (u16_at s at (at + 2) h refl)

  pub counted32_none : length s < at + 4 → counted32 (drop at s) ≡ none
  unfolding counted32
  counted32_none h = rw (u32_none h)

  pub counted32_at : at + 4 ≤ length s → counted32 (drop at s) ≡ bytes (be32_at s at) (drop (at + 4) s)
  unfolding counted32
  counted32_at h = rw (u32_at (at + 4) h refl)

-- ---- repetition, counted down

module _ {A : Type 0} (p : Reader A) (s : Bytes) where
  pub many_none : (n : ℕ) → 0 < n → p s ≡ none → many n p s ≡ none
  unfolding many
  many_none zero h e = absurd (not-suc-le-zero h)
  many_none (suc n) h e = rw e

  pub many_next : (n : ℕ) (a : A) (r : Bytes) → 0 < n → p s ≡ some (a, r) → many n p s ≡ bind (many (n - 1) p r) (λ as' t. some (a ∷ as', t))
  unfolding many
  many_next zero a r h e = absurd (not-suc-le-zero h)
  many_next (suc n) a r h e = rw (e, sub-one)

module _ {A : Type 0} where
  -- `pre` before what is read next
  abbrev pub behind : List A → Out (List A) → Out (List A)
  behind pre o = bind o (λ as' r. some (pre ++ as', r))

  -- nothing before it
  pub behind_nothing : (o : Out (List A)) → o ≡ behind [] o
  behind_nothing none = refl
  behind_nothing (some x) = refl

  -- one more before it
  pub behind_one : (pre : List A) (a : A) (o : Out (List A)) → behind pre (bind o (λ as' r. some (a ∷ as', r))) ≡ behind (pre ++ a ∷ []) o
  behind_one pre a none = refl
  behind_one pre a (some x) = rw (append_assoc pre (a ∷ []) x.0)
