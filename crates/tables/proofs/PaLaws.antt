-- The head of a PA body and a table at an offset, as pa_tables and table_at meet them: one law for each return. Rests on the reading
-- laws of meaning.
use Prim.Native.Nat.{ℕ, zero, suc, ◌+◌, ◌-◌, ◌*◌, ◌%◌, ◌≤◌, ◌<◌}
use mathlib.Core.Path.{◌≡◌, refl, ◌∙◌}
use mathlib.Core.List.{List, [], ◌∷◌}
use mathlib.Core.Option.{none, some}
use native.Mathlib.Nat.{mod-eq_of_lt}
use native.Mathlib.Decide.{dec_lt}
use native.Mathlib.Omega.{arith}
use lib.ListN.{length, take, drop, get_or, length-drop}
use Rattle.meaning.specs.Bytes.{Bytes, be16_at}
use Rattle.meaning.specs.Readers.{bind, bytes, many}
use Rattle.meaning.specs.Tables.{table, pa_head}
use Rattle.meaning.proofs.Reading.{byte_at, byte_none, bytes_at, bytes_none, counted16_at, counted16_none}
use Rattle.tables.specs.Answers.{TableIs, PaHeadIs}
use Rattle.std.specs.Prelude.{Some}
use Rattle.tables.specs.declared.pa.Table.TheVariants.{To, Cut, Done}

-- ---- n blocks of four bytes

module _ (s : Bytes) where
  pub fours_at : (n at e : ℕ) → e ≡ at + n * 4 → e ≤ length s → (es : List Bytes) × (many n (bytes 4) (drop at s) ≡ some (es, drop e s))
  unfolding many
  fours_at zero at e q h = let z : e ≡ at = omega arith in ([], rw z)
  fours_at (suc n) at e q h =
      let r = fours_at n (at + 4) e (omega arith) h in
      (take 4 (drop at s) ∷ r.0, rw (bytes_at s at 4 (at + 4) (omega arith) refl, r.1))

  pub fours_none : (n at : ℕ) → at ≤ length s → length s < at + n * 4 → many n (bytes 4) (drop at s) ≡ none
  unfolding many
  fours_none zero at k h = absurd (omega arith)
  fours_none (suc n) at k h =
      elim (dec_lt (length s) (at + 4)) [
        | yes l ↦ rw (bytes_none s at 4 (omega arith))
        | no l ↦ rw (bytes_at s at 4 (at + 4) (omega arith) refl, fours_none n (at + 4) (omega arith) (omega arith))
      ]

  -- ---- the head of a PA body

  pub pa_empty : length s ≡ 0 → pa_head s ≡ none
  unfolding pa_head
  pa_empty h = rw (byte_none s 0 (omega arith))

  module _ (n : ℕ) (is : n ≡ get_or s 0 0) (small : n < 256) (one : 0 < length s) where
    low : get_or s 0 0 % 256 ≡ n
    low = rw (← is) (mod-eq_of_lt small)

    pub pa_cut : length s < 1 + n * 4 → pa_head s ≡ none
    unfolding pa_head
    pa_cut h = rw (byte_at s 0 1 one refl, low, fours_none n 1 one h)

    pub pa_at : 1 + n * 4 ≤ length s → PaHeadIs (pa_head s) s (Some (1 + n * 4))
    unfolding pa_head
    pa_at h = let r = fours_at n 1 (1 + n * 4) refl h in (omega arith, h, (r.0, rw (byte_at s 0 1 one refl, low, r.1)))

-- ---- a table

module _ (s : Bytes) (at : ℕ) where
  pub table_done : length s < at + 4 → TableIs (table (drop at s)) s at Done
  unfolding table
  table_done h = (
    elim (dec_lt at (length s)) [
      | no k ↦ rw (byte_none s at (omega arith))
      | yes k ↦ elim (dec_lt (at + 1) (length s)) [
        | no l ↦ rw (byte_at s at (at + 1) k refl, byte_none s (at + 1) (omega arith))
        | yes l ↦ rw (byte_at s at (at + 1) k refl, byte_at s (at + 1) (at + 2) l (omega arith), counted16_none s (at + 2) (omega arith))
      ]
    ],
    omega (arith, length-drop at s),
  )

  module _ (n : ℕ) (is : n ≡ be16_at s (at + 2)) (four : at + 4 ≤ length s) where
    head : table (drop at s) ≡ bind (bytes n (drop (at + 4) s)) (λ b t. some (record { number = get_or s at 0; version = get_or s (at + 1) 0; body = b }, t))
    unfolding table
    head =
        let k : at + 2 + 2 ≡ at + 4 = omega arith in
        rw (byte_at s at (at + 1) (omega arith) refl, byte_at s (at + 1) (at + 2) (omega arith) (omega arith), counted16_at s (at + 2) (omega arith), is, k)

    pub table_cut : length s - 4 - at < n → TableIs (table (drop at s)) s at Cut
    table_cut h = (head ∙ rw (bytes_none s (at + 4) n (omega arith)), omega (arith, length-drop at s))

    pub table_to : n ≤ length s - 4 - at → TableIs (table (drop at s)) s at (To (at + 4 + n))
    table_to h =
        let k : at + 4 + n - at - 4 ≡ n = omega arith in
        (omega arith, omega arith, head ∙ rw (bytes_at s (at + 4) n (at + 4 + n) (omega arith) refl, k))
