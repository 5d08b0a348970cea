-- Small cases of recounting, their values worked out by hand. packet12 is that of 01's example 12.
use Prim.Native.Nat.{ℕ}
use mathlib.Core.Path.{◌≡◌, refl}
use mathlib.Core.List.Memᴰ
use mathlib.Core.List.{List, [], ◌∷◌, ◌++◌}
use mathlib.Core.Option.{none, some}
use lib.ListN.{length, drop}
use Rattle.meaning.specs.Bytes.{Bytes}
use Rattle.meaning.specs.Lists.{keep}
use Rattle.meaning.specs.Packets.{size_of}
use Rattle.meaning.specs.Tables.{Entry, Mpt, Package, service_of, Table}
use Rattle.meaning.specs.Narrow.{is_service}
use Rattle.meaning.specs.Recount.{packet, packets_of, Sized, u8_at, mpt_in, only, plt_in, last_alone, only_for, mpts_in, kinds_in, pa_in, mpts_of}
use Rattle.meaning.specs.declared.Part.TheVariants.{Caption, Carousel, Other}
use Rattle.meaning.specs.declared.Service.TheVariants.{Every, Only}
use Rattle.meaning.proofs.Examples.{hvc1, stpp, E, mWith, M, M₁, plt_with, no_captions, packet12}
use Rattle.meaning.proofs.CasesOfTables.{aapp}
use Rattle.meaning.proofs.CasesOfNarrowing.{front, more, three, at0, at5, packages, payload, narrowed, alone_in}

-- ---- packets one after the other

-- a packet of four bytes, and one that is cut
abbrev four : Bytes
four = 0x7F ∷ 0x01 ∷ 0x00 ∷ 0x00 ∷ []

abbrev cut_one : Bytes
cut_one = 0x7F ∷ 0xFF ∷ 0x00 ∷ 0x02 ∷ 0xBB ∷ []

pub record Packets : Type 0 where
  pub one : packet (packet12 ++ four) ≡ some (packet12, four)
  pub a_head_alone : packet four ≡ some (four, [])
  pub too_short : (packet cut_one ≡ none) × (packet (0x7F ∷ 0x01 ∷ 0x00 ∷ []) ≡ none) × (packet [] ≡ none)
  pub all_in_order : packets_of (packet12 ++ (four ++ (packet12 ++ cut_one))) ≡ packet12 ∷ four ∷ packet12 ∷ []
  pub none_of_none : packets_of [] ≡ []
  pub sized : Sized (packet12 ∷ [])

pub packet_cases : Packets
unfolding packet packets_of size_of
packet_cases = record {
  one = refl;
  a_head_alone = refl;
  too_short = (refl, refl, refl);
  all_in_order = refl;
  none_of_none = refl;
  sized = λ p m. five p (Memᴰ.eq_of_singleton m);
}
  where
    five : (p : Bytes) → p ≡ packet12 → size_of p ≡ length p
    five p e = rw e

-- ---- entries and packages

abbrev video : Entry
video = record { part = Other; carrier = some 0xF100; bytes_of = E 0x11 hvc1 0xF1 0x00 }

abbrev caption : Entry
caption = record { part = Caption; carrier = some 0xF130; bytes_of = E 0x22 stpp 0xF1 0x30 }

abbrev carousel : Entry
carousel = record { part = Carousel; carrier = some 0xF140; bytes_of = E 0x33 aapp 0xF1 0x40 }

abbrev with_entries : List Entry → Mpt
with_entries es = record { front = front; entries = es }

abbrev numbered : ℕ → Bytes → Table
numbered n b = record { number = n; version = 5; body = b }

-- those of `packages`: service 0401 at a location of type 0 and at one of type 5, then 0402
abbrev first : Package
first = record { name = 4 ∷ 1 ∷ []; carrier = some 0xF001; bytes_of = at0 }

abbrev second : Package
second = record { name = 4 ∷ 1 ∷ []; carrier = none; bytes_of = at5 }

abbrev third : Package
third = record { name = 4 ∷ 2 ∷ []; carrier = some 0xF002; bytes_of = 2 ∷ 4 ∷ 2 ∷ 0 ∷ 0xF0 ∷ 0x02 ∷ [] }

pub record Entries : Type 0 where
  pub at_an_offset : (u8_at (7 ∷ 8 ∷ 9 ∷ []) 1 ≡ 8) × (u8_at (7 ∷ 258 ∷ 9 ∷ []) 1 ≡ 2)
  pub of_an_mpt : mpt_in (numbered 0x11 three) ≡ some (with_entries (video ∷ caption ∷ carousel ∷ []), more)
  pub of_no_mpt : (mpt_in (numbered 0x21 three) ≡ none) × (mpt_in (numbered 0x80 three) ≡ none)
  pub unreadable : mpt_in (numbered 0x20 (drop 4 (mWith 3 hvc1 stpp))) ≡ none
  pub wanted_stay : only no_captions (with_entries (video ∷ caption ∷ carousel ∷ []), more) ≡ (with_entries (video ∷ carousel ∷ []), more)
  pub of_a_plt : plt_in 0 (numbered 0x80 packages) ≡ some (first ∷ second ∷ third ∷ [], more)
  pub of_no_plt : (plt_in 1 (numbered 0x80 packages) ≡ none) × (plt_in 0 (numbered 0x81 packages) ≡ none)
  pub the_last : last_alone (first ∷ second ∷ []) (first ∷ second ∷ third ∷ []) ≡ second ∷ []
  pub one : last_alone (third ∷ []) [] ≡ third ∷ []
  pub all_of_them : last_alone [] (first ∷ second ∷ []) ≡ first ∷ second ∷ []
  pub of_a_service : only_for (Only 0x0401) (first ∷ second ∷ third ∷ [], more) ≡ (second ∷ [], more)
  pub of_no_such : only_for (Only 0x0403) (first ∷ second ∷ third ∷ [], more) ≡ (first ∷ second ∷ third ∷ [], more)
  pub of_each : only_for Every (first ∷ second ∷ third ∷ [], more) ≡ (first ∷ second ∷ third ∷ [], more)

pub entry_cases : Entries
unfolding u8_at mpt_in keep plt_in last_alone is_service service_of
entry_cases = record {
  at_an_offset = (refl, refl);
  of_an_mpt = refl;
  of_no_mpt = (refl, refl);
  unreadable = refl;
  wanted_stay = refl;
  of_a_plt = refl;
  of_no_plt = (refl, refl);
  the_last = refl;
  one = refl;
  all_of_them = refl;
  of_a_service = refl;
  of_no_such = refl;
  of_each = refl;
}

-- ---- messages: M and M₁ are readable MPTs in `payload`, and behind them stand one that does not read and one that is none

abbrev m : Mpt × Bytes
m = (with_entries (video ∷ caption ∷ []), [])

abbrev m₁ : Mpt × Bytes
m₁ = (with_entries (video ∷ []), [])

pub record Messages : Type 0 where
  pub of_tables : mpts_in ((numbered 0x20 (drop 4 M), M) ∷ (numbered 0x21 (drop 4 M), M) ∷ (numbered 0x20 (drop 4 M₁), M₁) ∷ []) ≡ m ∷ m₁ ∷ []
  pub kinds : kinds_in (m ∷ m₁ ∷ []) ≡ Other ∷ Caption ∷ Other ∷ []
  pub in_a_message : pa_in (alone_in 0x13 (plt_with 0x01))
      ≡ some (record { count = 0; entries = [] }, record { found = (record { number = 0x80; version = 0x01; body = drop 4 (plt_with 0x01) }, plt_with 0x01) ∷ []; left = [] })
  pub no_message : pa_in (0x01 ∷ drop 1 (alone_in 0x13 (plt_with 0x01))) ≡ none
  pub as_it_came : mpts_of payload ≡ m ∷ m₁ ∷ []
  pub as_it_went : mpts_of narrowed ≡ m₁ ∷ m₁ ∷ []
  pub of_none : mpts_of [] ≡ []

pub message_cases : Messages
unfolding mpts_in kinds_in pa_in mpts_of
message_cases = record {
  of_tables = refl;
  kinds = refl;
  in_a_message = refl;
  no_message = refl;
  as_it_came = refl;
  as_it_went = refl;
  of_none = refl;
}
