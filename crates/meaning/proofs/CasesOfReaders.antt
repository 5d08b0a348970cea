-- Small cases of what all other definitions stand on: numbers of several bytes, lists, sets, readers, and writing into a slice.
use Prim.Native.Nat.{ℕ}
use mathlib.Core.Path.{◌≡◌, refl}
use mathlib.Core.Bool.{Bool, true, false}
use mathlib.Core.List.{List, [], ◌∷◌}
use mathlib.Core.Option.{none, some}
use lib.Dec.{leb}
use Rattle.meaning.specs.Bytes.{Bytes, be16, be16_at, be32_at, put16, put32}
use Rattle.meaning.specs.Writing.{Wrote}
use Rattle.meaning.specs.Sets.{Words, in_set, with_id, without_id, how_many}
use Rattle.meaning.specs.Lists.{keep, all, any, count, sum}
use Rattle.meaning.specs.Readers.{Reader, ◌>>=◌, give, byte, u8, u16, u32, bytes, counted8, counted16, counted32, announced, many, raw, walk, walk_past}

abbrev three : Bytes
three = 7 ∷ 8 ∷ 9 ∷ []

-- ---- big-endian

pub record Numbers : Type 0 where
  pub high_first : be16 0x12 0x34 ≡ 0x1234
  pub sixteen_bits : be16 0x112 0x34 ≡ 0x1234
  pub at_one : be16_at (0xAA ∷ 0x12 ∷ 0x34 ∷ []) 1 ≡ 0x1234
  pub four_at_one : be32_at (0xAA ∷ 0x12 ∷ 0x34 ∷ 0x56 ∷ 0x78 ∷ []) 1 ≡ 0x12345678
  pub put_two : put16 0x1234 ≡ 0x12 ∷ 0x34 ∷ []
  pub put_four : put32 0x12345678 ≡ 0x12 ∷ 0x34 ∷ 0x56 ∷ 0x78 ∷ []

pub numbers : Numbers
unfolding be32_at put32
numbers = record { high_first = refl; sixteen_bits = refl; at_one = refl; four_at_one = refl; put_two = refl; put_four = refl }

-- ---- lists, with the test "at most 8" on 9, 8, 7, 9

abbrev low : ℕ → Bool
low n = leb n 8

abbrev mixed : List ℕ
mixed = 9 ∷ 8 ∷ 7 ∷ 9 ∷ []

pub record Tests : Type 0 where
  pub in_order : keep low mixed ≡ 8 ∷ 7 ∷ []
  pub not_all : all low (7 ∷ 9 ∷ []) ≡ false
  pub all_pass : all low (7 ∷ 8 ∷ []) ≡ true
  pub of_none : (all low [] ≡ true) × (any low [] ≡ false)
  pub one_passes : any low mixed ≡ true
  pub none_passes : any low (9 ∷ []) ≡ false
  pub two_pass : count low mixed ≡ 2
  pub of_three : sum three ≡ 24

pub tests : Tests
unfolding keep all any count sum
tests = record {
  in_order = refl;
  not_all = refl;
  all_pass = refl;
  of_none = (refl, refl);
  one_passes = refl;
  none_passes = refl;
  two_pass = refl;
  of_three = refl;
}

-- ---- a set of two words, with 2 and 65 in it

abbrev words : Words
words = 4 ∷ 2 ∷ []

pub record InWords : Type 0 where
  pub has : (in_set words 2 ≡ true) × (in_set words 65 ≡ true)
  pub has_not : (in_set words 1 ≡ false) × (in_set words 3 ≡ false) × (in_set words 66 ≡ false)
  pub put_in : with_id words 64 ≡ 4 ∷ 3 ∷ []
  pub is_in_lem : with_id words 65 ≡ words
  pub taken_out : without_id (4 ∷ 3 ∷ []) 64 ≡ words
  pub is_out : without_id words 64 ≡ words
  -- 2, 3 and 4; 0 and 1
  pub below_five : (how_many (leb 2) 5 ≡ 3) × (how_many (λ n. leb n 1) 5 ≡ 2)

pub in_words : InWords
unfolding in_set with_id without_id how_many
in_words = record {
  has = (refl, refl);
  has_not = (refl, refl, refl);
  put_in = refl;
  is_in_lem = refl;
  taken_out = refl;
  is_out = refl;
  below_five = (refl, refl);
}

-- ---- fields

abbrev pair : Reader (ℕ × ℕ)
pair = do
  a ← byte
  b ← byte
  give (a, b)

pub record Fields : Type 0 where
  pub one_byte : byte three ≡ some (7, 8 ∷ 9 ∷ [])
  pub no_byte : byte [] ≡ none
  pub one_by_one : pair three ≡ some ((7, 8), 9 ∷ [])
  pub eight_bits : (u8 (0xFF ∷ 8 ∷ []) ≡ some (0xFF, 8 ∷ [])) × (u8 (0x101 ∷ []) ≡ some (1, []))
  pub two_bytes : u16 three ≡ some (0x0708, 9 ∷ [])
  pub four_bytes : u32 (0x12 ∷ 0x34 ∷ 0x56 ∷ 0x78 ∷ three) ≡ some (0x12345678, three)
  pub cut_short : (u16 (7 ∷ []) ≡ none) × (u32 three ≡ none)
  pub next_two : bytes 2 three ≡ some (7 ∷ 8 ∷ [], 9 ∷ [])
  pub all_three : bytes 3 three ≡ some (three, [])
  pub a-fourth : bytes 4 three ≡ none
  pub by_one_byte : counted8 (2 ∷ three) ≡ some (7 ∷ 8 ∷ [], 9 ∷ [])
  pub by_two_bytes : counted16 (0 ∷ 2 ∷ three) ≡ some (7 ∷ 8 ∷ [], 9 ∷ [])
  pub by_four_bytes : counted32 (0 ∷ 0 ∷ 0 ∷ 2 ∷ three) ≡ some (7 ∷ 8 ∷ [], 9 ∷ [])
  pub too_long : (counted8 (4 ∷ three) ≡ none) × (counted16 (1 ∷ 2 ∷ three) ≡ none) × (counted32 (1 ∷ 0 ∷ 0 ∷ 2 ∷ three) ≡ none)
  pub flag_off : announced 0 (bytes 2) three ≡ some ([], three)
  pub flag_on : announced 1 (bytes 2) three ≡ some (7 ∷ 8 ∷ [], 9 ∷ [])

pub fields : Fields
unfolding byte u8 u16 u32 counted8 counted16 counted32 announced
fields = record {
  one_byte = refl;
  no_byte = refl;
  one_by_one = refl;
  eight_bits = (refl, refl);
  two_bytes = refl;
  four_bytes = refl;
  cut_short = (refl, refl);
  next_two = refl;
  all_three = refl;
  a-fourth = refl;
  by_one_byte = refl;
  by_two_bytes = refl;
  by_four_bytes = refl;
  too_long = (refl, refl, refl);
  flag_off = refl;
  flag_on = refl;
}

-- ---- repetition

pub record Again : Type 0 where
  pub twice : many 2 byte three ≡ some (7 ∷ 8 ∷ [], 9 ∷ [])
  pub never : many 0 byte three ≡ some ([], three)
  pub once_too_many : many 4 byte three ≡ none
  pub with_its_bytes : raw u16 three ≡ some ((0x0708, 7 ∷ 8 ∷ []), 9 ∷ [])
  -- two numbers, and a byte that is none
  pub to_the_end : walk u16 (1 ∷ 2 ∷ three) ≡ record { found = 0x0102 ∷ 0x0708 ∷ []; left = 9 ∷ [] }
  pub nothing_left : walk u16 (7 ∷ 8 ∷ []) ≡ record { found = 0x0708 ∷ []; left = [] }
  pub past_one : walk_past u16 1 three ≡ record { found = 0x0809 ∷ []; left = [] }

pub again : Again
unfolding many byte raw u16 walk
again = record { twice = refl; never = refl; once_too_many = refl; with_its_bytes = refl; to_the_end = refl; nothing_left = refl; past_one = refl }

-- ---- 8 and 9 written at 1 of 1, 2, 3, 4

pub written : Wrote (8 ∷ 9 ∷ []) (1 ∷ 2 ∷ 3 ∷ 4 ∷ []) 1 (1 ∷ 8 ∷ 9 ∷ 4 ∷ []) 3
written = record { end = refl; front = refl; back = refl }
