-- Small cases of a PA message's tables and of what stands in them: 01, "What is learned".
use mathlib.Core.Path.{◌≡◌, refl}
use mathlib.Core.Bool.{true, false}
use mathlib.Core.List.{[], ◌∷◌, ◌++◌}
use mathlib.Core.Option.{none, some}
use lib.ListN.{replicate}
use Rattle.meaning.specs.Bytes.{Bytes}
use Rattle.meaning.specs.Tables.{location, first_of, clock_relation, asset, same_bytes, part_of, Entry, entry, mpt_front, mpt, package_fields, package_entry, plt, service_of, Table, table, is_mpt, is_plt, pa_head, pa}
use Rattle.meaning.specs.declared.Part.TheVariants.{Caption, Carousel, Other}
use Rattle.meaning.proofs.Examples.{hvc1, stpp, E}

abbrev nine : Bytes
nine = 9 ∷ []

abbrev pub aapp : Bytes
aapp = 0x61 ∷ 0x61 ∷ 0x70 ∷ 0x70 ∷ []

-- ---- sizes by type 0 to 5: 3, 13, 37, 7, 37, 2 + n, the type's byte included; others refuse

pub record Locations : Type 0 where
  pub type0 : location (0 ∷ 0xF1 ∷ 0x30 ∷ nine) ≡ some (some 0xF130, nine)
  pub type1 : (location (1 ∷ replicate 12 0 ++ nine) ≡ some (none, nine)) × (location (1 ∷ replicate 11 0) ≡ none)
  pub type2 : (location (2 ∷ replicate 36 0 ++ nine) ≡ some (none, nine)) × (location (2 ∷ replicate 35 0) ≡ none)
  pub type3 : (location (3 ∷ replicate 6 0 ++ nine) ≡ some (none, nine)) × (location (3 ∷ replicate 5 0) ≡ none)
  pub type4 : (location (4 ∷ replicate 36 0 ++ nine) ≡ some (none, nine)) × (location (4 ∷ replicate 35 0) ≡ none)
  pub type5 : (location (5 ∷ 2 ∷ 7 ∷ 7 ∷ nine) ≡ some (none, nine)) × (location (5 ∷ 2 ∷ 7 ∷ []) ≡ none)
  pub type6 : location (6 ∷ replicate 40 0) ≡ none
  pub first_there_is : first_of (none ∷ some 7 ∷ some 8 ∷ []) ≡ some 7
  pub none_there : first_of (none ∷ none ∷ []) ≡ none

pub locations : Locations
unfolding location first_of
locations = record {
  type0 = refl;
  type1 = (refl, refl);
  type2 = (refl, refl);
  type3 = (refl, refl);
  type4 = (refl, refl);
  type5 = (refl, refl);
  type6 = refl;
  first_there_is = refl;
  none_there = refl;
}

-- ---- an asset, plain and with all that can be announced: a clock relation with its time scale, two locations, two bytes of descriptors

abbrev relation : Bytes
relation = 5 ∷ 1 ∷ 1 ∷ 2 ∷ 3 ∷ 4 ∷ []

abbrev rich : Bytes
rich = 0 ∷ 1 ∷ 2 ∷ 3 ∷ 4 ∷ 2 ∷ 7 ∷ 7 ∷ aapp ++ (0x01 ∷ relation ++ (2 ∷ 3 ∷ replicate 6 0 ++ (0 ∷ 0xF2 ∷ 0x01 ∷ 0 ∷ 2 ∷ 8 ∷ 8 ∷ [])))

abbrev plain : Entry
plain = record { part = Caption; carrier = some 0xF130; bytes_of = E 0x22 stpp 0xF1 0x30 }

pub record Assets : Type 0 where
  pub no_time_scale : clock_relation (5 ∷ 0 ∷ nine) ≡ some ([], nine)
  pub time_scale : clock_relation (relation ++ nine) ≡ some (1 ∷ 2 ∷ 3 ∷ 4 ∷ [], nine)
  pub no_relation : asset (E 0x11 hvc1 0xF1 0x00 ++ nine) ≡ some (record { asset_type = hvc1; carrier = some 0xF100 }, nine)
  pub all_announced : asset (rich ++ nine) ≡ some (record { asset_type = aapp; carrier = some 0xF201 }, nine)
  pub same : (same_bytes stpp stpp ≡ true) × (same_bytes stpp (0x73 ∷ 0x74 ∷ 0x70 ∷ 0x71 ∷ []) ≡ false)
  pub one_longer : (same_bytes stpp (stpp ++ nine) ≡ false) × (same_bytes (stpp ++ nine) stpp ≡ false)
  pub kinds : (part_of stpp ≡ Caption) × (part_of aapp ≡ Carousel) × (part_of hvc1 ≡ Other)
  pub an_entry : entry (E 0x22 stpp 0xF1 0x30 ++ nine) ≡ some (plain, nine)
  pub a_rich_entry : entry (rich ++ nine) ≡ some (record { part = Carousel; carrier = some 0xF201; bytes_of = rich }, nine)

pub assets : Assets
unfolding clock_relation asset same_bytes part_of entry
assets = record {
  no_time_scale = refl;
  time_scale = refl;
  no_relation = refl;
  all_announced = refl;
  same = (refl, refl);
  one_longer = (refl, refl);
  kinds = (refl, refl, refl);
  an_entry = refl;
  a_rich_entry = refl;
}

-- ---- bodies of an MPT and a PLT

-- a byte, the name 04 00, one byte of descriptors
abbrev front : Bytes
front = 0 ∷ 2 ∷ 4 ∷ 0 ∷ 0 ∷ 1 ∷ 0xDD ∷ []

abbrev pack : Bytes
pack = 2 ∷ 4 ∷ 1 ∷ 0 ∷ 0xF0 ∷ 0x01 ∷ []

pub record Bodies : Type 0 where
  pub descriptors : mpt_front (front ++ nine) ≡ some (0xDD ∷ [], nine)
  pub one_entry : mpt (front ++ (1 ∷ E 0x22 stpp 0xF1 0x30 ++ nine)) ≡ some (record { front = front; entries = plain ∷ [] }, nine)
  pub one_missing : mpt (front ++ (2 ∷ E 0x22 stpp 0xF1 0x30)) ≡ none
  pub name_and_carrier : package_fields (pack ++ nine) ≡ some ((4 ∷ 1 ∷ [], some 0xF001), nine)
  pub a-package : package_entry (pack ++ nine) ≡ some (record { name = 4 ∷ 1 ∷ []; carrier = some 0xF001; bytes_of = pack }, nine)
  pub one_package : plt (1 ∷ pack ++ nine) ≡ some (record { name = 4 ∷ 1 ∷ []; carrier = some 0xF001; bytes_of = pack } ∷ [], nine)
  pub two_counted : plt (2 ∷ pack) ≡ none
  pub two_bytes : service_of (4 ∷ 1 ∷ []) ≡ some 0x0401
  pub other_names : (service_of [] ≡ none) × (service_of (4 ∷ []) ≡ none) × (service_of (4 ∷ 1 ∷ 0 ∷ []) ≡ none)

pub body_cases : Bodies
unfolding mpt_front mpt package_fields package_entry plt service_of
body_cases = record {
  descriptors = refl;
  one_entry = refl;
  one_missing = refl;
  name_and_carrier = refl;
  a-package = refl;
  one_package = refl;
  two_counted = refl;
  two_bytes = refl;
  other_names = (refl, refl, refl);
}

-- ---- tables by their own heads

abbrev t1 : Table
t1 = record { number = 0x20; version = 5; body = 7 ∷ [] }

abbrev t1_bytes : Bytes
t1_bytes = 0x20 ∷ 5 ∷ 0 ∷ 1 ∷ 7 ∷ []

-- one head entry with another length, two tables, two bytes more
abbrev pa_body : Bytes
pa_body = 1 ∷ 0x20 ∷ 5 ∷ 0 ∷ 9 ∷ t1_bytes ++ (t1_bytes ++ (8 ∷ 8 ∷ []))

pub record Heads : Type 0 where
  pub a-table : table (t1_bytes ++ nine) ≡ some (t1, nine)
  pub cut_table : table (0x20 ∷ 5 ∷ 0 ∷ 2 ∷ 7 ∷ []) ≡ none
  pub mpts : (is_mpt 0x10 ≡ false) × (is_mpt 0x11 ≡ true) × (is_mpt 0x20 ≡ true) × (is_mpt 0x21 ≡ false)
  pub plts : (is_plt 0x80 ≡ true) × (is_plt 0x7F ≡ false) × (is_plt 0x81 ≡ false)
  pub two_entries : pa_head (2 ∷ 1 ∷ 2 ∷ 3 ∷ 4 ∷ 5 ∷ 6 ∷ 7 ∷ 8 ∷ nine) ≡ some (record { count = 2; entries = (1 ∷ 2 ∷ 3 ∷ 4 ∷ []) ∷ (5 ∷ 6 ∷ 7 ∷ 8 ∷ []) ∷ [] }, nine)
  pub cut_entry : pa (2 ∷ 1 ∷ 2 ∷ 3 ∷ 4 ∷ 5 ∷ 6 ∷ 7 ∷ []) ≡ none
  pub cut_count : pa [] ≡ none
  pub by_own_heads : pa pa_body
      ≡ some (record { count = 1; entries = (0x20 ∷ 5 ∷ 0 ∷ 9 ∷ []) ∷ [] }, record { found = (t1, t1_bytes) ∷ (t1, t1_bytes) ∷ []; left = 8 ∷ 8 ∷ [] })

pub heads : Heads
unfolding table is_mpt is_plt pa_head pa
heads = record {
  a-table = refl;
  cut_table = refl;
  mpts = (refl, refl, refl, refl);
  plts = (refl, refl, refl);
  two_entries = refl;
  cut_entry = refl;
  cut_count = refl;
  by_own_heads = refl;
}
