-- The table at an offset of a PA body: how it reads by itself, and that the walk over the tables goes on behind it or stops there. Rests on
-- Framed of `meaning`.
use Prim.Native.Nat.{ℕ, ◌+◌, ◌-◌}
use mathlib.Core.Path.{◌≡◌, refl, ap}
use mathlib.Core.Logic.{inl, inr}
use mathlib.Core.List.{[], ◌∷◌}
use mathlib.Core.Option.{none, some}
use native.Mathlib.Omega.{arith}
use lib.ListN.{length, take, drop, get_or, length-drop}
use denote.Enum.Declared.{tag_of}
use types.Run.{OneOf}
use Rattle.meaning.specs.Bytes.{Bytes}
use Rattle.meaning.specs.Readers.{byte, raw, next, walk}
use Rattle.meaning.specs.Tables.{Table, table}
use Rattle.meaning.proofs.Local.{table_local, raw_local}
use Rattle.meaning.proofs.Framed.{raw_framed, walk_none, walk_some}
use Rattle.meaning.proofs.PaLaws.{table_of}
use Rattle.tables.specs.Answers.{TableIs}
use Rattle.tables.specs.declared.pa.Table as code
use Rattle.tables.specs.contracts.pa.Table.{the_type}

raw_nil : raw table [] ≡ none
unfolding raw table byte
raw_nil = refl

-- the table from `at` to e
abbrev pub table_at : Bytes → ℕ → ℕ → Table
table_at s at e = record { number = get_or s at 0; version = get_or s (at + 1) 0; body = take (e - at - 4) (drop (at + 4) s) }

module _ (s : Bytes) (at e : ℕ) (h : TableIs (table (drop at s)) s at (code.Table.To e)) where
  pub raw_at : raw table (drop at s) ≡ some ((table_at s at e, take (e - at) (drop at s)), drop e s)
  unfolding raw
  raw_at =
      let k : length (drop at s) - length (drop e s) ≡ e - at = omega (arith, length-drop at s, length-drop e s, h.0, h.1) in
      rw (h.2, k)

  pub part_table : table (take (e - at) (drop at s)) ≡ some (table_at s at e, [])
  part_table = table_of (table_at s at e, take (e - at) (drop at s)) (raw_framed table_local (drop at s) _ (drop e s) raw_at).1

  pub walk_next : walk (raw table) (drop at s) ≡ next (table_at s at e, take (e - at) (drop at s)) (walk (raw table) (drop e s))
  walk_next = walk_some (raw_local table_local) raw_nil (drop at s) _ (drop e s) raw_at

-- no table there
pub no_table : (s : Bytes) (at : ℕ) (r : code.Table) → OneOf (1 ∷ 2 ∷ []) (tag_of the_type r) → TableIs (table (drop at s)) s at r
    → table (drop at s) ≡ none
no_table s at (code.Table.To e) (inl k) h = absurd (omega arith)
no_table s at (code.Table.To e) (inr k) h = absurd (omega arith)
no_table s at code.Table.Cut k h = h.0
no_table s at code.Table.Done k h = h.0

pub walk_stops : (s : Bytes) (at : ℕ) → table (drop at s) ≡ none → (walk (raw table) (drop at s)).found ≡ []
unfolding raw
walk_stops s at e = ap (λ w. w.found) (walk_none (raw table) (drop at s) (rw e))
