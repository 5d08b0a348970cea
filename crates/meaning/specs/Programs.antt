-- What the two programs write for what they read: 01, the paragraph after the examples.
use Rattle.std.specs.Prelude.{ℕ, ◌+◌, ◌/◌, ◌%◌, zero, suc, ◌≤◌, Bool, cond, true, ◌||◌, not, length, take, drop, get_or, replicate, eqb, ltb}
use mathlib.Core.List.{List, [], ◌∷◌, ◌++◌, map, flatten}
use Rattle.std.proofs.Math.Option.{none, some}
use Rattle.meaning.specs.Bytes.{Bytes, be16_at}
use Rattle.meaning.specs.Readers.{Reader, walk}
use Rattle.meaning.specs.Wishes.{wants_assets, all_off}
use Rattle.meaning.specs.Start.{fresh}
use Rattle.meaning.specs.Series.{Lent, Series, series}
use Rattle.meaning.specs.declared.Service.{Service}
use Rattle.meaning.specs.declared.Service.TheVariants.{Every, Only}
use Rattle.meaning.specs.declared.Options.{Options}
use Rattle.meaning.specs.declared.Modes.{Modes}
use Rattle.meaning.specs.declared.Limits.{Limits}
use Rattle.meaning.specs.declared.Counts.{Counts}

-- ---- the input: a flag byte, a service in two bytes, the stream

abbrev pub is_one : ℕ → Bool
is_one b = eqb b 1

abbrev pub service_if : ℕ → ℕ → Service
service_if zero s = Every
service_if (suc f) s = Only s

-- Bits 0 to 3: caption, carousel, EIT, service named; bit 4 turns other assets off. 02 [1].
unfoldable pub options_of : ℕ → ℕ → Options
options_of flags s = record {
  service = service_if (flags / 8 % 2) s;
  caption = is_one (flags % 2);
  carousel = is_one (flags / 2 % 2);
  eit = is_one (flags / 4 % 2);
  other = not (is_one (flags / 16 % 2));
}

unfoldable pub input_refused : Bytes → Bool
input_refused [] = true
input_refused (flags ∷ s) = ltb (length s) 2 || ltb 31 flags

unfoldable pub input_options : Bytes → Options
unfolding options_of be16_at
input_options s = options_of (get_or s 0 0) (be16_at s 1)

-- The number of its refusal, 0 for none: a head that cannot be read, or wishes that no start takes. 02 [1].
unfoldable pub input_refusal : Bytes → ℕ
unfolding input_refused input_options wants_assets
input_refusal s = cond (input_refused s) 8 (cond (wants_assets (input_options s)) 0 9)

-- Chunks of 32,768 bytes; the end of the input ends the last one.
unfoldable pub chunk : Reader Bytes
chunk [] = none
chunk (b ∷ s) = some (take 32768 (b ∷ s), drop 32768 (b ∷ s))

unfoldable pub program_limits : Limits
program_limits = record { work = 65536; total = 65536; most = 65536 }

-- ---- all chunks in turn

-- A chunk, lent with an output of 65,536 bytes.
abbrev pub program_lent : Bytes → Lent
program_lent c = (c, 65536)

-- The calls of a program: a start with a map room of zeros, then chunk after chunk.
unfoldable pub program_calls : Modes → Options → List Bytes → Series
unfolding series program_limits fresh
program_calls M o cs = series program_limits M o (fresh (replicate 32768 0)) (map program_lent cs)

-- What a program can read: each chunk has 1 to 32,768 bytes.
abbrev pub Chunks : List Bytes → Type 0
Chunks [] = Unit {0}
Chunks (c ∷ cs) = (1 ≤ length c) × (length c ≤ 32768) × Chunks cs

-- The stream begins behind the service; no flag turns a mode on. What this says of an input that is refused is never written.
unfoldable pub sums_of : Bytes → Series
unfolding program_calls input_options walk chunk
sums_of s = program_calls all_off (input_options s) (walk chunk (drop 3 s)).found

-- ---- text

-- A number in decimal digits, at most twenty of them.
unfoldable pub digits : ℕ → ℕ → Bytes
digits zero n = []
digits (suc most) n = let rest = digits most (n / 10) in cond (ltb n 10) ((0x30 + n) ∷ []) (rest ++ ((0x30 + n % 10) ∷ []))

-- A word, a space and a number.
unfoldable pub item : Bytes → ℕ → Bytes
unfolding digits
item word n = word ++ (0x20 ∷ digits 20 n)

-- `refused 8` and a newline.
unfoldable pub refused_line : ℕ → Bytes
unfolding item
refused_line n = item (0x72 ∷ 0x65 ∷ 0x66 ∷ 0x75 ∷ 0x73 ∷ 0x65 ∷ 0x64 ∷ []) n ++ (0x0A ∷ [])

-- `packets 0 written 0 rewritten 0 skipped 3 held 3 lost 0` and a newline: the counts, and how many bytes are held.
unfoldable pub sums_line : Counts → ℕ → Bytes
unfolding item
sums_line c held_count =
    item (0x70 ∷ 0x61 ∷ 0x63 ∷ 0x6B ∷ 0x65 ∷ 0x74 ∷ 0x73 ∷ []) c.accepted
    ++ (0x20 ∷ item (0x77 ∷ 0x72 ∷ 0x69 ∷ 0x74 ∷ 0x74 ∷ 0x65 ∷ 0x6E ∷ []) c.written)
    ++ (0x20 ∷ item (0x72 ∷ 0x65 ∷ 0x77 ∷ 0x72 ∷ 0x69 ∷ 0x74 ∷ 0x74 ∷ 0x65 ∷ 0x6E ∷ []) c.rewritten)
    ++ (0x20 ∷ item (0x73 ∷ 0x6B ∷ 0x69 ∷ 0x70 ∷ 0x70 ∷ 0x65 ∷ 0x64 ∷ []) c.skipped)
    ++ (0x20 ∷ item (0x68 ∷ 0x65 ∷ 0x6C ∷ 0x64 ∷ []) held_count)
    ++ (0x20 ∷ item (0x6C ∷ 0x6F ∷ 0x73 ∷ 0x74 ∷ []) c.lost)
    ++ (0x0A ∷ [])

-- ---- the programs

-- The filtered stream; bytes held at the end are not written.
unfoldable pub filter_writes : Bytes → Bytes
unfolding input_refusal refused_line sums_of flatten
filter_writes s = cond (eqb (input_refusal s) 0) (flatten (sums_of s).out) (refused_line (input_refusal s))

unfoldable pub sums_writes : Bytes → Bytes
unfolding input_refusal refused_line sums_line sums_of
sums_writes s = cond (eqb (input_refusal s) 0) (sums_line (sums_of s).counts (length (sums_of s).state.held)) (refused_line (input_refusal s))
