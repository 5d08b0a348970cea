-- What the functions on a table and on the tables of a PA body answer.
use Rattle.std.specs.Prelude.{ℕ, ◌+◌, ◌-◌, ◌≤◌, ◌≡◌, Bool, true, false, ◌&&◌, length, take, drop, get_or, ltb}
use mathlib.Core.List.{List, ◌++◌, map, flatten}
use Rattle.std.proofs.Math.Option
use Rattle.std.proofs.Math.Option.{Option, none, some}
use Rattle.meaning.specs.Bytes.{Bytes, be16_at}
use Rattle.meaning.specs.Lists.{any}
use Rattle.meaning.specs.Readers.{Walk, walk, raw}
use Rattle.meaning.specs.Tables.{Table, table, pa_head}
use Rattle.meaning.specs.Narrow.{mpt_without, new_body, new_table, table_from, table_after, table_changes}
use Rattle.meaning.specs.declared.Options.{Options}
use Rattle.narrowing.specs.Bodies.{MptLess, PltBounds, one_entry}
use Rattle.narrowing.specs.declared.table.BodyChange.{BodyChange}
use Rattle.narrowing.specs.declared.pa.TableChange.{TableChange}
use Rattle.tables.specs.Answers.{TableIs}
use Rattle.tables.specs.declared.pa.Table.TheVariants.{To}

-- n is what narrowing makes of the body b.
abbrev pub ChangeIs : Option Bytes → Options → Bytes → BodyChange → Type 0
ChangeIs n o b (BodyChange.Mpt less) = (n ≡ mpt_without o b) × MptLess o b less
ChangeIs n o b (BodyChange.Plt one) = PltBounds b one × (n ≡ some (one_entry b one))
ChangeIs n o b BodyChange.Same = n ≡ none

-- The body of the table from `at` to e.
abbrev pub body_at : Bytes → ℕ → ℕ → Bytes
body_at s at e = take (e - (at + 4)) (drop (at + 4) s)

-- The change is what narrowing makes of it.
abbrev pub ChangeAt : Options → ℕ → Bytes → ℕ → ℕ → BodyChange → Type 0
ChangeAt o p s at e change = ChangeIs (new_body o p (get_or s at 0) (body_at s at e)) o (body_at s at e) change

-- The body of a table alone, and that the change is what narrowing makes of it.
abbrev pub body_of : Bytes → Bytes
body_of t = take (length t - 4) (drop 4 t)

abbrev pub TableChangeIs : Options → ℕ → Bytes → BodyChange → Type 0
TableChangeIs o p t change = ChangeIs (new_body o p (get_or t 0 0) (body_of t)) o (body_of t) change

-- What is known of the table at an offset, if there is one, is what narrowing makes of it.
abbrev pub KnownIs : Options → ℕ → Bytes → TableChange → Type 0
KnownIs o p s known = (e : ℕ) → TableIs (table (drop known.at s)) s known.at (To e) → ChangeAt o p s known.at e known.change

abbrev pub is_change : BodyChange → Bool
is_change (BodyChange.Mpt less) = true
is_change (BodyChange.Plt one) = true
is_change BodyChange.Same = false

-- t is one table and nothing more.
pub record Exact (t : Bytes) : Type 0 where
  pub four : 4 ≤ length t
  pub length_is : 4 + be16_at t 2 ≡ length t

-- A table as narrowing leaves it.
unfoldable pub after_table : Options → ℕ → Bytes → Bytes
unfolding table new_table
after_table o p t = Option.get_or (table_from o p (table t)) t

-- The tables at the front of r.
abbrev pub tables_in : Bytes → Walk (Table × Bytes)
tables_in r = walk (raw table) r

-- Whether narrowing changes the tables of r.
unfoldable pub tables_change : Options → ℕ → Bytes → Bool
unfolding any
tables_change o p r = ltb (length (tables_in r).left) 4 && any (table_changes o p) (tables_in r).found

-- Whether narrowing changes the tables of s from `tables` on, and where it does, what it makes of one of them.
pub record PaChangeIs (o : Options) (p : ℕ) (s : Bytes) (tables : ℕ) (known : TableChange) : Type 0 where
  pub changes_is : is_change known.change ≡ tables_change o p (drop tables s)
  pub known_is : is_change known.change ≡ true → KnownIs o p s known

-- Each as narrowing leaves it.
abbrev pub tables_after : Options → ℕ → Bytes → List Bytes
tables_after o p r = map (table_after o p) (tables_in r).found

-- Those, and what is left behind them.
unfoldable pub tables_bytes : Options → ℕ → Bytes → Bytes
unfolding flatten
tables_bytes o p r = flatten (tables_after o p r) ++ (tables_in r).left

-- es are the head's entries, which stand between the first byte of s and its tables.
pub record HeadEntries (s : Bytes) (tables : ℕ) (es : List Bytes) : Type 0 where
  pub entries_read : pa_head s ≡ some (record { count = get_or s 0 0; entries = es }, drop tables s)
  pub one : 1 ≤ tables
  pub within : tables ≤ length s
