-- Bytes that are one table and nothing more: how they read, and that the bytes of a table at an offset of a PA body are such. Rests on
-- Framed of `meaning`, PaLaws and WalkLaws of `tables`.
use Prim.Native.Nat.{ℕ, ◌+◌, ◌-◌, ◌≤◌}
use mathlib.Core.Path.{◌≡◌, refl, ap}
use mathlib.Core.Bool.{Bool, true, false, cond}
use mathlib.Core.List.{[], ◌∷◌}
use mathlib.Core.Option.{none, some, none-ne-some, some-injective}
use native.Mathlib.Omega.{arith}
use lib.ListN.{length, take, drop, get_or, length-drop, drop_of_length-le}
use lib.Dec.{leb}
use borrow.Author.Tests.{leb-true}
use Rattle.meaning.specs.Bytes.{Bytes, be16, be16_at}
use Rattle.meaning.specs.Readers.{Out, give, byte, u16, bytes, counted16}
use Rattle.meaning.specs.Tables.{Table, table}
use Rattle.meaning.proofs.Framed.{before}
use Rattle.tables.specs.Answers.{TableIs}
use Rattle.tables.specs.declared.pa.Table as code
use Rattle.tables.proofs.PaLaws.{table_to}
use Rattle.tables.proofs.WalkLaws.{table_at, part_table}
use Rattle.narrowing.specs.Tables.{body_of, Exact}

pub exact_table : (t : Bytes) → Exact t
    → table t ≡ some (record { number = get_or t 0 0; version = get_or t 1 0; body = body_of t }, [])
exact_table t x =
    let k : 4 + be16_at t 2 ≡ length t = x.length_is in
    let d : drop (length t) t ≡ [] = drop_of_length-le t {i = length t} (omega arith) in
    let z : length t - 0 - 4 ≡ length t - 4 = omega arith in
    rw (k, d, z) at (table_to t 0 (be16_at t 2) refl x.four (omega (arith, k))).2

-- all bytes
bytes_all : (n : ℕ) (s b : Bytes) → bytes n s ≡ some (b, []) → n ≡ length s
unfolding bytes
bytes_all n s b e = go (leb n (length s)) refl e
  where
    go : (a : Bool) → leb n (length s) ≡ a → cond {A = Out Bytes} a (some (take n s, drop n s)) none ≡ some (b, []) → n ≡ length s
    go false ea q = absurd (none-ne-some _ q)
    go true ea q =
        let l : n ≤ length s = leb-true _ _ ea in
        let r : length (drop n s) ≡ 0 = ap (λ x. length x.1) (some-injective _ _ q) in
        omega (arith, length-drop n s)

pub exact_of : (y : Bytes) (u : Table) → table y ≡ some (u, []) → Exact y
unfolding table byte counted16 u16 be16_at
exact_of [] u e = absurd (none-ne-some _ e)
exact_of (a ∷ []) u e = absurd (none-ne-some _ e)
exact_of (a ∷ v ∷ []) u e = absurd (none-ne-some _ e)
exact_of (a ∷ v ∷ h ∷ []) u e = absurd (none-ne-some _ e)
exact_of (a ∷ v ∷ h ∷ l ∷ s) u e =
    let b = before (bytes (be16 h l) s) (λ body. give (record { number = a; version = v; body = body })) u [] e in
    let r : b.rest ≡ [] = ap (λ x. x.1) (some-injective _ _ b.then_was) in
    let n = bytes_all (be16 h l) s b.first (rw r at b.was) in
    record { four = omega arith; length_is = omega (arith, n) }

-- the bytes of the table at `at` of s
pub part_exact : (s : Bytes) (at e : ℕ) → TableIs (table (drop at s)) s at (code.Table.To e) → Exact (take (e - at) (drop at s))
part_exact s at e h = exact_of _ (table_at s at e) (part_table s at e h)
