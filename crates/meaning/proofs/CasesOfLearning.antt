-- Small cases of what is learned: the map room, lists, packages, tables and messages. 01, "What is learned" and "Rooms and their ends".
use Prim.Native.Nat.{ℕ, zero, suc, ◌+◌}
use mathlib.Core.Path.{◌≡◌, refl}
use mathlib.Core.Bool.{Bool, true, false}
use mathlib.Core.List.{List, [], ◌∷◌, ◌++◌}
use mathlib.Core.Option.{none, some}
use lib.ListN.{replicate, drop}
use Rattle.meaning.specs.Bytes.{Bytes}
use Rattle.meaning.specs.Sets.{Words}
use Rattle.meaning.specs.Messages.{Message}
use Rattle.meaning.specs.Tables.{Table, kind_number, kind_of}
use Rattle.meaning.specs.Learn.{Fragment, Known, Learnt, assets_in, asset_numbers, lists, over, place_for, listed, learn_mpt, insert_package, learn_plt, learn_table, learn_tables, learn_message, learn_messages}
use Rattle.meaning.specs.declared.Part.TheVariants.{Caption, Carousel, Other}
use Rattle.meaning.proofs.Examples.{M, M₁, plt_with}

-- ---- the map room: place i is its numbers 512 i to 512 i + 511, an asset an identifier and a kind, 0 caption, 1 carousel, else other

pub record Room : Type 0 where
  pub numbers : (kind_number Caption ≡ 0) × (kind_number Carousel ≡ 1) × (kind_number Other ≡ 2)
  pub kinds : (kind_of 0 ≡ Caption) × (kind_of 1 ≡ Carousel) × (kind_of 2 ≡ Other) × (kind_of 65535 ≡ Other)
  pub two_assets : assets_in 2 (7 ∷ 1 ∷ 8 ∷ 0 ∷ 9 ∷ 2 ∷ []) ≡ (7, Carousel) ∷ (8, Caption) ∷ []
  pub room_ends : (assets_in 2 (7 ∷ 1 ∷ []) ≡ (7, Carousel) ∷ []) × (assets_in 2 (7 ∷ 1 ∷ 8 ∷ []) ≡ (7, Carousel) ∷ [])
  pub as_numbers : asset_numbers ((7, Carousel) ∷ (8, Caption) ∷ []) ≡ 7 ∷ 1 ∷ 8 ∷ 0 ∷ []
  pub written_over : over (1 ∷ 2 ∷ 3 ∷ 4 ∷ []) 1 (8 ∷ 9 ∷ []) ≡ 1 ∷ 8 ∷ 9 ∷ 4 ∷ []
  pub where_it_stands : place_for 6 ((5, 0) ∷ (6, 0) ∷ (7, 0) ∷ []) ≡ 1
  pub first_free : place_for 8 ((5, 0) ∷ (6, 0) ∷ (7, 0) ∷ []) ≡ 3
  -- one with no identifier is not listed
  pub one_left_out : listed (record { part = Other; carrier = some 7; bytes_of = [] } ∷ record { part = Caption; carrier = none; bytes_of = [] }
      ∷ record { part = Carousel; carrier = some 8; bytes_of = [] } ∷ []) ≡ (7, Other) ∷ (8, Carousel) ∷ []

pub room_cases : Room
unfolding kind_number kind_of assets_in asset_numbers over place_for listed
room_cases = record {
  numbers = (refl, refl, refl);
  kinds = (refl, refl, refl, refl);
  two_assets = refl;
  room_ends = (refl, refl);
  as_numbers = refl;
  written_over = refl;
  where_it_stands = refl;
  first_free = refl;
  one_left_out = refl;
}

-- ---- something of each: service 9, a list of one carousel for identifier 5, the data set 2 and 65, a fragment of 7

abbrev pub some_fragment : List Fragment
some_fragment = record { identifier = 7; flags = 1; body = 1 ∷ 2 ∷ [] } ∷ []

abbrev pub knowing : Bool → List (ℕ × ℕ) → List (ℕ × ℕ) → List ℕ → Words → Known
knowing seen packages maps map_room words = record { plt_seen = seen; packages = packages; map_heads = maps; map_room = map_room; data_set = words; fragments = some_fragment }

abbrev pub was : Known
was = knowing false ((9, 5) ∷ []) ((5, 1) ∷ []) (0x77 ∷ 1 ∷ replicate 1022 0) (4 ∷ 2 ∷ [])

-- M's list: hvc1 on F100, captions on F130
abbrev pub in_second : Known
in_second = knowing false ((9, 5) ∷ []) ((5, 1) ∷ (6, 2) ∷ []) (0x77 ∷ 1 ∷ replicate 510 0 ++ (0xF100 ∷ 2 ∷ 0xF130 ∷ 0 ∷ replicate 508 0)) (4 ∷ 2 ∷ [])

abbrev in_first : Known
in_first = knowing false ((9, 5) ∷ []) ((5, 2) ∷ []) (0xF100 ∷ 2 ∷ 0xF130 ∷ 0 ∷ replicate 1020 0) (4 ∷ 2 ∷ [])

abbrev with_plt : Known
with_plt = knowing true ((0x0400, 0xF000) ∷ (0x0401, 0xF001) ∷ []) ((5, 1) ∷ []) (0x77 ∷ 1 ∷ replicate 1022 0) (4 ∷ 2 ∷ [])

abbrev nothing : Known → Learnt
nothing k = record { known = k; lost = 0 }

abbrev numbered : ℕ → Bytes → Table
numbered n t = record { number = n; version = 0; body = drop 4 t }

-- 64 lists
abbrev up : ℕ → ℕ → List (ℕ × ℕ)
up zero p = []
up (suc n) p = (p, 0) ∷ up n (p + 1)

abbrev full : Known
full = knowing false [] (up 64 0x1000) [] []

pub record Tables : Type 0 where
  pub both_lists : lists in_second ≡ (5, (0x77, Carousel) ∷ []) ∷ (6, (0xF100, Other) ∷ (0xF130, Caption) ∷ []) ∷ []
  pub second_place : learn_mpt 6 (drop 4 M) was ≡ nothing in_second
  pub own_place : learn_mpt 5 (drop 4 M) was ≡ nothing in_first
  pub not_read : learn_mpt 6 (0 ∷ 0 ∷ []) was ≡ nothing was
  pub no_place : learn_mpt 6 (drop 4 M) full ≡ record { known = full; lost = 1 }
  pub put_between : insert_package 4 0x40 ((3, 0x30) ∷ (5, 0x50) ∷ []) ≡ (3, 0x30) ∷ (4, 0x40) ∷ (5, 0x50) ∷ []
  pub put_instead : insert_package 5 0x40 ((3, 0x30) ∷ (5, 0x50) ∷ []) ≡ (3, 0x30) ∷ (5, 0x40) ∷ []
  pub new_plt : learn_plt (drop 4 (plt_with 0x01)) was ≡ with_plt
  -- a name of three bytes, and a location of type 5: neither names a package
  pub names_nothing : (learn_plt (0x02 ∷ 0x03 ∷ 4 ∷ 1 ∷ 1 ∷ 0 ∷ 0xF0 ∷ 0x01 ∷ 0x02 ∷ 4 ∷ 1 ∷ 5 ∷ 0 ∷ []) was).packages ≡ []
  pub plt_not_read : learn_plt (0x02 ∷ []) was ≡ was

pub table_cases : Tables
unfolding lists learn_mpt insert_package learn_plt
table_cases = record {
  both_lists = refl;
  second_place = refl;
  own_place = refl;
  not_read = refl;
  no_place = refl;
  put_between = refl;
  put_instead = refl;
  new_plt = refl;
  names_nothing = refl;
  plt_not_read = refl;
}

-- ---- messages: 0 is a PA message, 0x8003 puts its identifier into the data set

abbrev pa : Bytes → Message
pa tables = record { number = 0; body = 0 ∷ tables }

abbrev pub data_of : ℕ → Message
data_of n = record { number = n; body = [] }

pub record Messages : Type 0 where
  pub plt_on_zero : learn_table 0 (numbered 0x80 (plt_with 0x01)) was ≡ nothing with_plt
  pub plt_on_one : learn_table 1 (numbered 0x80 (plt_with 0x01)) was ≡ nothing was
  pub an_mpt : (learn_table 6 (numbered 0x11 M) was ≡ nothing in_second) × (learn_table 6 (numbered 0x21 M) was ≡ nothing was)
  -- in order: the later list of an identifier takes the place of the earlier
  pub in_order : learn_tables 6 ((numbered 0x20 M₁, []) ∷ (numbered 0x20 M, []) ∷ []) was ≡ nothing in_second
  pub two_lost : learn_tables 6 ((numbered 0x20 M, []) ∷ (numbered 0x11 M₁, []) ∷ []) full ≡ record { known = full; lost = 2 }
  pub of_pa : learn_message 6 (pa (M₁ ++ M)) was ≡ nothing in_second
  pub no_tables : learn_message 6 (record { number = 0; body = [] }) was ≡ nothing was
  pub into_the_set : (learn_message 6 (data_of 0x8003) was).known ≡ knowing false ((9, 5) ∷ []) ((5, 1) ∷ []) (0x77 ∷ 1 ∷ replicate 1022 0) (68 ∷ 2 ∷ [])
  pub other_message : learn_message 6 (record { number = 0x8002; body = 0 ∷ M }) was ≡ nothing was
  pub one_by_one : learn_messages 6 (data_of 0x8002 ∷ pa M₁ ∷ pa M ∷ []) was ≡ nothing in_second
  pub each_lost : learn_messages 6 (pa M₁ ∷ pa M ∷ []) full ≡ record { known = full; lost = 2 }

pub message_cases : Messages
unfolding learn_table learn_tables learn_message learn_messages
message_cases = record {
  plt_on_zero = refl;
  plt_on_one = refl;
  an_mpt = (refl, refl);
  in_order = refl;
  two_lost = refl;
  of_pa = refl;
  no_tables = refl;
  into_the_set = refl;
  other_message = refl;
  one_by_one = refl;
  each_lost = refl;
}
