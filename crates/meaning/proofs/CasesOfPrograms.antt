-- Small cases of the two programs: 01, the paragraph after the examples. The stream's answers are those of the original.
use Prim.Native.Nat.{ℕ}
use mathlib.Core.Path.{◌≡◌, refl}
use mathlib.Core.Bool.{Bool, true, false}
use mathlib.Core.List.{[], ◌∷◌, ◌++◌, flatten}
use mathlib.Core.Option.{none, some}
use lib.ListN.{take, drop, replicate}
use Rattle.meaning.specs.Bytes.{Bytes}
use Rattle.meaning.specs.Series.{Series}
use Rattle.meaning.specs.Wishes.{wants_assets, all_off}
use Rattle.meaning.specs.Programs.{options_of, input_refused, input_options, input_refusal, chunk, program_limits, program_lent, program_calls, digits, item, refused_line, sums_line, filter_writes, sums_writes}
use Rattle.meaning.specs.declared.Service.TheVariants.{Every, Only}
use Rattle.meaning.specs.declared.Options.{Options}
use Rattle.meaning.specs.declared.Counts.{Counts}
use Rattle.meaning.proofs.Examples.{M, M₁, no_captions}
use Rattle.meaning.proofs.CasesOfCalls.{video, captions, signal, plt, narrowed, stream}

-- ---- the input

abbrev wishes : Bool → Bool → Bool → Options
wishes caption carousel eit = record { service = Every; caption = caption; carousel = carousel; eit = eit; other = true }

pub record Input : Type 0 where
  pub bit0 : options_of 0x01 7 ≡ wishes true false false
  pub bit1 : options_of 0x02 7 ≡ wishes false true false
  pub bit2 : options_of 0x04 7 ≡ wishes false false true
  pub bit3 : options_of 0x08 7 ≡ record { service = Only 7; caption = false; carousel = false; eit = false; other = true }
  pub under_three : (input_refused [] ≡ true) × (input_refused (0 ∷ 0 ∷ []) ≡ true) × (input_refused (0 ∷ 0 ∷ 0 ∷ []) ≡ false)
  pub bit4 : options_of 0x11 7 ≡ record { service = Every; caption = true; carousel = false; eit = false; other = false }
  pub above_bit_4 : (input_refused (0x1F ∷ 0 ∷ 0 ∷ []) ≡ false) × (input_refused (0x20 ∷ 0 ∷ 0 ∷ []) ≡ true)
  pub numbers : (input_refusal (0x11 ∷ 0 ∷ 0 ∷ []) ≡ 0) × (input_refusal (0x10 ∷ 0 ∷ 0 ∷ []) ≡ 9) × (input_refusal (0x20 ∷ 0 ∷ 0 ∷ []) ≡ 8)
  -- what cannot be read has no wishes
  pub unread_first : (input_refusal (0x30 ∷ 0 ∷ 0 ∷ []) ≡ 8) × (input_refusal (0x10 ∷ 0 ∷ []) ≡ 8)
  pub in_chunks : chunk (replicate 32769 7) ≡ some (replicate 32768 7, 7 ∷ [])
  pub last_chunk : (chunk (7 ∷ []) ≡ some (7 ∷ [], [])) × (chunk [] ≡ none)
  pub asked : input_options (0x0E ∷ 4 ∷ 1 ∷ 9 ∷ []) ≡ record { service = Only 0x0401; caption = false; carousel = true; eit = true; other = true }
  pub limits : program_limits ≡ record { work = 65536; total = 65536; most = 65536 }
  pub lent : program_lent (7 ∷ []) ≡ (7 ∷ [], 65536)

pub input : Input
unfolding options_of input_refused input_options input_refusal wants_assets chunk program_limits
input = record {
  bit0 = refl;
  bit1 = refl;
  bit2 = refl;
  bit3 = refl;
  under_three = (refl, refl, refl);
  bit4 = refl;
  above_bit_4 = (refl, refl);
  numbers = (refl, refl, refl);
  unread_first = (refl, refl);
  in_chunks = refl;
  last_chunk = (refl, refl);
  asked = refl;
  limits = refl;
  lent = refl;
}

-- ---- text

abbrev six : ℕ → ℕ → ℕ → ℕ → ℕ → Counts
six packets written rewritten skipped lost = record { bytes = 0; accepted = packets; written = written; rewritten = rewritten; skipped = skipped; lost = lost }

-- `packets A written B rewritten C skipped D held E lost F` and a newline, each one digit
abbrev line : ℕ → ℕ → ℕ → ℕ → ℕ → ℕ → Bytes
line a b c d e f =
    0x70 ∷ 0x61 ∷ 0x63 ∷ 0x6B ∷ 0x65 ∷ 0x74 ∷ 0x73 ∷ 0x20 ∷ a ∷ 0x20 ∷ 0x77 ∷ 0x72 ∷ 0x69 ∷ 0x74 ∷ 0x74 ∷ 0x65 ∷ 0x6E ∷ 0x20 ∷ b
    ∷ 0x20 ∷ 0x72 ∷ 0x65 ∷ 0x77 ∷ 0x72 ∷ 0x69 ∷ 0x74 ∷ 0x74 ∷ 0x65 ∷ 0x6E ∷ 0x20 ∷ c ∷ 0x20 ∷ 0x73 ∷ 0x6B ∷ 0x69 ∷ 0x70 ∷ 0x70 ∷ 0x65 ∷ 0x64 ∷ 0x20 ∷ d
    ∷ 0x20 ∷ 0x68 ∷ 0x65 ∷ 0x6C ∷ 0x64 ∷ 0x20 ∷ e ∷ 0x20 ∷ 0x6C ∷ 0x6F ∷ 0x73 ∷ 0x74 ∷ 0x20 ∷ f ∷ 0x0A ∷ []

-- `refused 8` and a newline
abbrev refused8 : Bytes
refused8 = 0x72 ∷ 0x65 ∷ 0x66 ∷ 0x75 ∷ 0x73 ∷ 0x65 ∷ 0x64 ∷ 0x20 ∷ 0x38 ∷ 0x0A ∷ []

pub record Text : Type 0 where
  pub one_digit : (digits 20 0 ≡ 0x30 ∷ []) × (digits 20 9 ≡ 0x39 ∷ [])
  pub more_digits : (digits 20 10 ≡ 0x31 ∷ 0x30 ∷ []) × (digits 20 907 ≡ 0x39 ∷ 0x30 ∷ 0x37 ∷ [])
  -- 2^64 - 1 has twenty
  pub twenty : digits 20 18446744073709551615
      ≡ 0x31 ∷ 0x38 ∷ 0x34 ∷ 0x34 ∷ 0x36 ∷ 0x37 ∷ 0x34 ∷ 0x34 ∷ 0x30 ∷ 0x37 ∷ 0x33 ∷ 0x37 ∷ 0x30 ∷ 0x39 ∷ 0x35 ∷ 0x35 ∷ 0x31 ∷ 0x36 ∷ 0x31 ∷ 0x35 ∷ []
  pub a_word : item (0x61 ∷ []) 18446744073709551615 ≡ 0x61 ∷ 0x20 ∷ digits 20 18446744073709551615
  pub refusal : refused_line 8 ≡ refused8
  pub sums : sums_line (six 1 2 3 4 6) 5 ≡ line 0x31 0x32 0x33 0x34 0x35 0x36

pub text : Text
unfolding digits item refused_line sums_line
text = record { one_digit = (refl, refl); more_digits = (refl, refl); twenty = refl; a_word = refl; refusal = refl; sums = refl }

-- ---- the stream of CasesOfCalls: in one piece and in two, with service 0401 named, and with one that the PLT does not have

abbrev all_of_it : Bytes
all_of_it = plt ++ (narrowed ++ video)

-- two services, and captions that only the second one's list names
abbrev two_lists : Bytes
two_lists = signal 0x2A 0 0x12 (0x80 ∷ 1 ∷ 0 ∷ 0x0D ∷ 2 ∷ 2 ∷ 4 ∷ 1 ∷ 0 ∷ 0 ∷ 6 ∷ 2 ∷ 4 ∷ 2 ∷ 0 ∷ 0 ∷ 7 ∷ []) ++ narrowed

abbrev in_two : Series
in_two = program_calls all_off no_captions (take 70 stream ∷ drop 70 stream ∷ [])

pub record Written : Type 0 where
  pub pieces : (flatten in_two.out ≡ all_of_it) × (in_two.counts ≡ record { bytes = 118; accepted = 5; written = 3; rewritten = 1; skipped = 0; lost = 0 })
  pub held_at_the_end : in_two.state.held ≡ 0x7F ∷ []
  pub no_captions_lem : filter_writes (0x06 ∷ 0 ∷ 0 ∷ stream) ≡ all_of_it
  pub ours : filter_writes (0x0E ∷ 4 ∷ 1 ∷ stream) ≡ all_of_it
  pub not_there : filter_writes (0x0E ∷ 4 ∷ 2 ∷ stream) ≡ plt
  pub second_list : filter_writes (0x06 ∷ 0 ∷ 0 ∷ two_lists ++ (signal 0x48 7 0x30 M ++ captions)) ≡ two_lists ++ signal 0x36 7 0x1E M₁
  pub copied : filter_writes (0x07 ∷ 0 ∷ 0 ∷ 0x55 ∷ []) ≡ 0x55 ∷ []
  pub filter_refused : filter_writes (0x20 ∷ 0 ∷ 0 ∷ stream) ≡ refused8
  pub summed : sums_writes (0x06 ∷ 0 ∷ 0 ∷ stream) ≡ line 0x35 0x33 0x31 0x30 0x31 0x30
  pub ours_summed : sums_writes (0x0E ∷ 4 ∷ 1 ∷ stream) ≡ line 0x35 0x33 0x32 0x30 0x31 0x30
  pub sums_refused : sums_writes (0 ∷ 0 ∷ []) ≡ refused8

pub written : Written
unfolding program_calls flatten filter_writes sums_writes
written = record {
  pieces = (refl, refl);
  held_at_the_end = refl;
  no_captions_lem = refl;
  ours = refl;
  not_there = refl;
  second_list = refl;
  copied = refl;
  filter_refused = refl;
  summed = refl;
  ours_summed = refl;
  sums_refused = refl;
}
