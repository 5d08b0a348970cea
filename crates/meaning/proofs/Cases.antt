-- Small cases of the rules that are easy to get wrong, each by computing the definitions: what drops and what keeps, what is lost, and
-- which lengths are believed.
use Prim.Native.Nat.{ℕ, zero, suc, ◌+◌}
use mathlib.Core.Path.{◌≡◌, refl}
use mathlib.Core.Bool.{Bool, true, false}
use mathlib.Core.List.{List, [], ◌∷◌, ◌++◌}
use mathlib.Core.Option.{some}
use lib.ListN.{replicate}
use Rattle.meaning.specs.Bytes.{Bytes}
use Rattle.meaning.specs.Sets.{with_id}
use Rattle.meaning.specs.Narrow.{narrow_payload}
use Rattle.meaning.specs.Learn.{Fragment, Known, learn_plt, observe, lists}
use Rattle.meaning.specs.Rules.{drops, ready}
use Rattle.meaning.specs.Start.{no_words}
use Rattle.meaning.specs.Tally.{tally_refusal, tallied}
use Rattle.meaning.specs.declared.Limits.{Limits}
use Rattle.meaning.specs.declared.Service.TheVariants.{Every, Only}
use Rattle.meaning.specs.declared.Options.{Options}
use Rattle.meaning.specs.declared.Counts.{Counts}
use Rattle.meaning.proofs.Examples.{hvc1, stpp, E}

-- ---- two services, 1 and 2, with MPTs on 0x100 and 0x200; both list 0x300, and service 1 lists captions on 0x301

abbrev spare : ℕ → List ℕ
spare n = replicate n 0

abbrev map_room : List ℕ
map_room = 0x300 ∷ 2 ∷ 0x301 ∷ 0 ∷ spare 508 ++ (0x300 ∷ 2 ∷ 0x302 ∷ 2 ∷ spare 32252)

abbrev known : Known
known = record {
  plt_seen = true;
  packages = (1, 0x100) ∷ (2, 0x200) ∷ [];
  map_heads = (0x100, 2) ∷ (0x200, 2) ∷ [];
  map_room = map_room;
  data_set = with_id no_words 0x400;
  fragments = [];
}

abbrev only : ℕ → Bool → Bool → Bool → Options
only s caption carousel eit = record { service = Only s; caption = caption; carousel = carousel; eit = eit; other = true }

pub record Rules : Type 0 where
  -- an asset that both services list stays: kept beats dropped
  pub shared_stays : drops (only 1 true true true) known 0x300 ≡ false
  -- another service's asset and MPT go
  pub others_go : drops (only 1 true true true) known 0x302 ≡ true
  pub other_table_goes : drops (only 1 true true true) known 0x200 ≡ true
  -- our own caption goes where captions are not wanted
  pub caption_goes : drops (only 1 false true true) known 0x301 ≡ true
  pub caption_stays : drops (only 1 true true true) known 0x301 ≡ false
  -- a data-carousel identifier goes where carousels are not wanted
  pub data_goes : drops (only 1 true false true) known 0x400 ≡ true
  pub data_stays : drops (only 1 true true true) known 0x400 ≡ false
  -- EIT off drops 0x8000; what nobody names stays
  pub eit_goes : drops (only 1 true true false) known 0x8000 ≡ true
  pub unnamed_stays : drops (only 1 false false true) known 0x8000 ≡ false
  -- a service that the PLT does not have is not ready
  pub ready_ours : ready (Only 1) known ≡ true
  pub ready_none : ready (Only 3) known ≡ false

pub rules : Rules
unfolding drops ready lists no_words with_id
rules = record {
  shared_stays = refl;
  others_go = refl;
  other_table_goes = refl;
  caption_goes = refl;
  caption_stays = refl;
  data_goes = refl;
  data_stays = refl;
  eit_goes = refl;
  unnamed_stays = refl;
  ready_ours = refl;
  ready_none = refl;
}

-- ---- 0x8000 as a wanted asset of ours: EIT off drops it all the same

abbrev with_eit : Known
with_eit = record {
  plt_seen = true;
  packages = (1, 0x100) ∷ [];
  map_heads = (0x100, 1) ∷ [];
  map_room = 0x8000 ∷ 2 ∷ spare 32766;
  data_set = no_words;
  fragments = [];
}

pub eit_beats_kept : (drops (only 1 true true false) with_eit 0x8000 ≡ true) × (drops (only 1 true true true) with_eit 0x8000 ≡ false)
unfolding drops lists no_words
eit_beats_kept = (refl, refl)

-- ---- a PA message with one MPT, whose head entry tells another length than the table has

abbrev mpt1 : Bytes
mpt1 = 0x20 ∷ 0x05 ∷ 0x00 ∷ 0x2B ∷ 0x00 ∷ 0x02 ∷ 0x04 ∷ 0x00 ∷ 0x00 ∷ 0x00 ∷ 0x02 ∷ (E 0x11 hvc1 0xF1 0x00 ++ E 0x22 stpp 0xF1 0x30)

-- flags and counter, message 0 of 52 bytes, one head entry with the length 9, the table
abbrev payload : Bytes
payload = 0x00 ∷ 0x00 ∷ 0x00 ∷ 0x00 ∷ 0x07 ∷ 0x00 ∷ 0x00 ∷ 0x00 ∷ 0x34 ∷ 0x01 ∷ 0x20 ∷ 0x05 ∷ 0x00 ∷ 0x09 ∷ mpt1

abbrev no_captions : Options
no_captions = record { service = Every; caption = false; carousel = true; eit = true; other = true }

-- the tables are walked by their own heads, and the entry takes the new length
pub own_heads : narrow_payload no_captions 0x100 payload
    ≡ some (0x00 ∷ 0x00 ∷ 0x00 ∷ 0x00 ∷ 0x07 ∷ 0x00 ∷ 0x00 ∷ 0x00 ∷ 0x22 ∷ 0x01 ∷ 0x20 ∷ 0x05 ∷ 0x00 ∷ 0x19
    ∷ 0x20 ∷ 0x05 ∷ 0x00 ∷ 0x19 ∷ 0x00 ∷ 0x02 ∷ 0x04 ∷ 0x00 ∷ 0x00 ∷ 0x00 ∷ 0x01 ∷ E 0x11 hvc1 0xF1 0x00)
unfolding narrow_payload
own_heads = refl

-- ---- 64 lists are held: a 65th identifier's MPT is lost, a held one's is not

abbrev count_up : ℕ → ℕ → List (ℕ × ℕ)
count_up zero p = []
count_up (suc n) p = (p, 0) ∷ count_up n (p + 1)

abbrev full : Known
full = record {
  plt_seen = false;
  packages = [];
  map_heads = count_up 64 0x1000;
  map_room = spare 32768;
  data_set = no_words;
  fragments = [];
}

abbrev limits : Limits
limits = record { work = 65536; total = 65536; most = 65536 }

pub lost_counts : (observe limits 0x100 payload full ≡ record { known = full; lost = 1 }) × ((observe limits 0x103F payload full).lost ≡ 0)
unfolding observe no_words
lost_counts = (refl, refl)

-- ---- fragments: T = 10, and identifier 7 holds six bytes

abbrev six : Bytes
six = 1 ∷ 2 ∷ 3 ∷ 4 ∷ 5 ∷ 6 ∷ []

abbrev part_of : ℕ → Bytes → Fragment
part_of p b = record { identifier = p; flags = 0; body = b }

abbrev holding : List Fragment → Known
holding fs = record { plt_seen = false; packages = []; map_heads = []; map_room = spare 32768; data_set = no_words; fragments = fs }

abbrev small : Limits
small = record { work = 65536; total = 10; most = 8 }

abbrev first : Bytes → Bytes
first b = 0x40 ∷ 0x00 ∷ b

abbrev middle : Bytes → Bytes
middle b = 0x80 ∷ 0x00 ∷ b

pub record Joining : Type 0 where
  -- five more do not fit beside the six, four do
  pub total_met : (observe small 8 (first (1 ∷ 2 ∷ 3 ∷ 4 ∷ [])) (holding (part_of 7 six ∷ []))).known ≡ holding (part_of 7 six ∷ part_of 8 (1 ∷ 2 ∷ 3 ∷ 4 ∷ []) ∷ [])
  pub total_passed : (observe small 8 (first (1 ∷ 2 ∷ 3 ∷ 4 ∷ 5 ∷ [])) (holding (part_of 7 six ∷ []))).known ≡ holding (part_of 7 six ∷ [])
  -- a new first replaces its identifier's old one
  pub first_again : (observe small 7 (first (9 ∷ [])) (holding (part_of 7 six ∷ []))).known ≡ holding (part_of 7 (9 ∷ []) ∷ [])
  -- M is met by eight bytes and passed by nine, which discards the fragment
  pub most_met : (observe small 7 (middle (7 ∷ 8 ∷ [])) (holding (part_of 7 six ∷ []))).known ≡ holding (part_of 7 (six ++ (7 ∷ 8 ∷ [])) ∷ [])
  pub most_passed : (observe small 7 (middle (7 ∷ 8 ∷ 9 ∷ [])) (holding (part_of 7 six ∷ []))).known ≡ holding []
  -- a middle without a first is ignored
  pub no_first : (observe small 8 (middle (7 ∷ [])) (holding (part_of 7 six ∷ []))).known ≡ holding (part_of 7 six ∷ [])

pub joining : Joining
unfolding observe no_words
joining = record {
  total_met = refl;
  total_passed = refl;
  first_again = refl;
  most_met = refl;
  most_passed = refl;
  no_first = refl;
}

-- ---- a PLT in any order, with a service twice: services rise, and the last of a service counts

pub services_rise : (learn_plt
    (0x03 ∷ 0x02 ∷ 0x04 ∷ 0x01 ∷ 0x00 ∷ 0xF0 ∷ 0x01 ∷ 0x02 ∷ 0x04 ∷ 0x00 ∷ 0x00 ∷ 0xF0 ∷ 0x00 ∷ 0x02 ∷ 0x04 ∷ 0x01 ∷ 0x00 ∷ 0xF0 ∷ 0x02 ∷ [])
    (holding [])).packages ≡ (0x0400, 0xF000) ∷ (0x0401, 0xF002) ∷ []
unfolding learn_plt
services_rise = refl

-- ---- the day tally: each count by itself may reach 2^64 - 1; where one would pass it, none is added

abbrev counted : ℕ → ℕ → ℕ → ℕ → ℕ → ℕ → Counts
counted b a w r s l = record { bytes = b; accepted = a; written = w; rewritten = r; skipped = s; lost = l }

-- all six one short of full
abbrev day : Counts
day = counted 18446744073709551614 18446744073709551614 18446744073709551614 18446744073709551614 18446744073709551614 18446744073709551614

abbrev ones : Counts
ones = counted 1 1 1 1 1 1

abbrev Full : Counts → Type 0
Full c = (tally_refusal day c ≡ 7) × (tallied day c ≡ day)

pub record Tallying : Type 0 where
  pub added : tallied (counted 1 2 3 4 5 6) (counted 10 20 30 40 50 60) ≡ counted 11 22 33 44 55 66
  pub full_met : tallied day ones ≡ counted 18446744073709551615 18446744073709551615 18446744073709551615 18446744073709551615 18446744073709551615 18446744073709551615
  pub full_taken : tally_refusal day ones ≡ 0
  pub bytes_full : Full (counted 2 0 0 0 0 0)
  pub accepted_full : Full (counted 0 2 0 0 0 0)
  pub written_full : Full (counted 0 0 2 0 0 0)
  pub rewritten_full : Full (counted 0 0 0 2 0 0)
  pub skipped_full : Full (counted 1 1 1 1 2 1)
  pub lost_full : Full (counted 0 0 0 0 0 2)

pub tallying : Tallying
unfolding tallied tally_refusal
tallying = record {
  added = refl;
  full_met = refl;
  full_taken = refl;
  bytes_full = (refl, refl);
  accepted_full = (refl, refl);
  written_full = (refl, refl);
  rewritten_full = (refl, refl);
  skipped_full = (refl, refl);
  lost_full = (refl, refl);
}
