-- The lengths of an answer's parts, and what each case kind changes.
use Rattle.std.specs.Prelude.{Some, None, Ok, Err}
use Prim.Native.Nat.{ℕ, ◌+◌, ◌≤◌}
use mathlib.Core.Path.{◌≡◌, refl}
use mathlib.Core.List.{List}
use mathlib.Core.Option.{Option}
use lib.ListN.{length, get_or}
use borrow.Author.Tests.{eq-eqb, ne_eqb}
use Rattle.meaning.specs.Bytes.{Bytes, be16_at, be32_at, put16, put32}
use Rattle.meaning.specs.Narrow.{Change, change_table, change_payload, change_packet}
use Rattle.meaning.specs.Refusals.{Narrowing, narrowing_length}
use Rattle.meaning.specs.Programs.{options_of}
use Rattle.meaning.specs.declared.Options.{Options}
use Rattle.meaning.specs.declared.Modes.{Modes}
use Rattle.narrowing.specs.Answers.{NarrowedAs}
use Rattle.programs.proofs.LineLaws.{wrote_within}
use Rattle.cases.specs.declared.Head.{Head}
use Rattle.cases.specs.Answers.{three_bytes, row_bytes, front_bytes, change_as, modes_of, head_at}

pub three_long : (a b c : ℕ) → length (three_bytes a b c) ≡ 12
unfolding three_bytes put32 put16
three_long a b c = refl

pub twelve : (row : List ℕ) → length (row_bytes row) ≡ 12
unfolding row_bytes
twelve row = three_long (get_or row 0 0) (get_or row 1 0) (get_or row 2 0)

pub six : (n : Narrowing) → length (front_bytes n) ≡ 6
unfolding front_bytes put32 put16
six n = refl

pub head_is : (s : Bytes) (at modes : ℕ) {o : Options} {M : Modes} {p id out input : ℕ} → p ≡ be16_at s at → o ≡ options_of (get_or s 0 0) p → M ≡ modes_of modes → id ≡ be16_at s (at + 2) → out ≡ be32_at s (at + 4)
    → input ≡ be32_at s (at + 8) → ◌≡◌ {A = Head} (record { options = o; modes = M; id = id; out = out; input = input }) (head_at s at modes)
unfolding head_at
head_is s at modes i o m d x n = rw (o, i, m, d, x, n)

pub told_within : (x : ℕ) (n : Option Change) (d d' : Bytes) (r : Narrowing) (s w : List ℕ) → NarrowedAs x n d d' r s w → narrowing_length r ≤ length d'
told_within x n d d' r s w h = wrote_within h.written
