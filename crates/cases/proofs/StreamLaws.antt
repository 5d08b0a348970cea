-- Lengths of a stream's calls that fit, and what its head asks for.
use Prim.Native.Nat.{ℕ, ◌+◌, ◌*◌, ◌≤◌, ◌<◌}
use mathlib.Core.Path.{◌≡◌}
use mathlib.Core.Bool.{true}
use native.Mathlib.Decide.{dec_lt}
use native.Mathlib.Omega.{arith}
use lib.Dec.{leb}
use lib.ListN.{get_or}
use borrow.Author.Tests.{leb-true}
use Rattle.meaning.proofs.ListLaws.{and_both}
use Rattle.meaning.specs.Bytes.{Bytes, be16_at, be32_at}
use Rattle.meaning.specs.Programs.{options_of}
use Rattle.meaning.specs.declared.Options.{Options}
use Rattle.meaning.specs.declared.Modes.{Modes}
use Rattle.cases.specs.declared.streams.Asked.{Asked}
use Rattle.cases.specs.Answers.{modes_of}
use Rattle.cases.specs.Streams.{asked_at, head_fits, Fits, LengthsFit}

module _ {s : Bytes} {most : ℕ} where
  pub fit_none : LengthsFit s 0 most
  fit_none = record { each = λ i h. absurd (omega arith) }

  pub fit_next : {n : ℕ} → LengthsFit s n most → be32_at s (4 * n) ≤ most → LengthsFit s (n + 1) most
  fit_next {n} f h = record { each = go }
    where
      go : (i : ℕ) → i < n + 1 → be32_at s (4 * i) ≤ most
      go i l =
          elim (dec_lt i n) [
            | yes k ↦ f.each i k
            | no k ↦ let z : i ≡ n = omega arith in rw z h
          ]

  -- All that are asked for are among those that were looked at.
  pub fit_all : {i n : ℕ} → n ≤ i → LengthsFit s i most → LengthsFit s n most
  fit_all {i} {n} h f = record { each = λ j l. f.each j (omega arith) }

  -- A length that was read.
  pub fit_one : {n i len : ℕ} → LengthsFit s n most → i < n → len ≡ be32_at s (4 * i) → len ≤ most
  fit_one {n} {i} {len} f h e = rw e (f.each i h)

  pub not_fit : {n i len : ℕ} → i < n → len ≡ be32_at s (4 * i) → most < len → LengthsFit s n most → ⊥
  not_fit {n} {i} {len} h e l f = let z : len ≤ most = fit_one f h e in omega arith

pub asked_is : (s : Bytes) (at modes : ℕ) {o : Options} {M : Modes} {p work total most map_room out calls : ℕ} → p ≡ be16_at s at → o ≡ options_of (get_or s 0 0) p → M ≡ modes_of modes → work ≡ be32_at s (at + 2)
    → total ≡ be32_at s (at + 6) → most ≡ be32_at s (at + 10) → map_room ≡ be32_at s (at + 14)
    → ◌≡◌ {A = Asked} (record { options = o; modes = M; work = work; total = total; most = most; map_room = map_room; out = out; calls = calls }) (asked_at s at modes out calls)
unfolding asked_at
asked_is s at modes i o k w t m n = rw (o, i, k, w, t, m, n)

pub fits_rooms : {h : Asked} → head_fits h 131200 1048576 33000 262400 ≡ true → Fits h
unfolding head_fits
fits_rooms {h} e =
    let d = and_both _ (leb h.calls 1024) e in
    let c = and_both _ (leb h.out 262400) d.0 in
    let b = and_both _ (leb h.map_room 33000) c.0 in
    let a = and_both (leb h.work 131200) (leb h.total 1048576) b.0 in
    record {
      work_fits = leb-true _ _ a.0;
      total_fits = leb-true _ _ a.1;
      map_room_fits = leb-true _ _ b.1;
      out_fits = leb-true _ _ c.1;
      calls_fit = leb-true _ _ d.1;
    }
