-- 02 [1], "A recording of captions and tables", by cases like 01's examples: tables, what is kept and dropped, copy-all, starts, records,
-- and a stream. Each holds by computing the definitions.
use Prim.Native.Nat.{ℕ}
use mathlib.Core.Path.{◌≡◌, refl}
use mathlib.Core.Bool.{Bool, true, false}
use mathlib.Core.List.{List, [], ◌∷◌, ◌++◌}
use mathlib.Core.Option.{Option, none, some}
use lib.ListN.{replicate}
use Rattle.meaning.specs.Bytes.{Bytes}
use Rattle.meaning.specs.Wishes.{wanted, wants_assets, captions_only, copies_all, all_off}
use Rattle.meaning.specs.Narrow.{Change, change_table}
use Rattle.meaning.specs.Learn.{Known}
use Rattle.meaning.specs.Rules.{drops}
use Rattle.meaning.specs.Start.{blank, start_refusal, started}
use Rattle.meaning.specs.Programs.{filter_writes, sums_writes}
use Rattle.meaning.specs.declared.Part.TheVariants.{Caption, Carousel, Other}
use Rattle.meaning.specs.declared.Service.TheVariants.{Every, Only}
use Rattle.meaning.specs.declared.Options.{Options}
use Rattle.meaning.proofs.Examples.{hvc1, stpp, E, M, M₁, M₆}
use Rattle.meaning.proofs.CasesOfTables.{aapp}
use Rattle.meaning.proofs.CasesOfCalls.{video, captions, signal, plt, narrowed, stream}

-- the four wishes in their order: caption, carousel, EIT, other
abbrev wishes : Bool → Bool → Bool → Bool → Options
wishes caption carousel eit other = record { service = Every; caption = caption; carousel = carousel; eit = eit; other = other }

-- ---- tables: M, and a clip with captions, a carousel, and other assets on both sides of them

abbrev becomes : Bytes → List ℕ → List ℕ → Option Change
becomes out stays goes = some (record { out = out; stays = stays; goes = goes })

-- M without its first entry
abbrev M₂ : Bytes
M₂ = 0x20 ∷ 0x05 ∷ 0x00 ∷ 0x19 ∷ 0x00 ∷ 0x02 ∷ 0x04 ∷ 0x00 ∷ 0x00 ∷ 0x00 ∷ 0x01 ∷ E 0x22 stpp 0xF1 0x30

-- an asset of no kind that is known
abbrev zzzz : Bytes
zzzz = 0x7A ∷ 0x7A ∷ 0x7A ∷ 0x7A ∷ []

abbrev clip_with : ℕ → ℕ → Bytes → Bytes
clip_with size count entries = 0x20 ∷ 0x05 ∷ 0x00 ∷ size ∷ 0x00 ∷ 0x02 ∷ 0x04 ∷ 0x00 ∷ 0x00 ∷ 0x00 ∷ count ∷ entries

abbrev clip : Bytes
clip = clip_with 0x4F 4 (E 0x11 hvc1 0xF1 0x00 ++ (E 0x22 stpp 0xF1 0x30 ++ (E 0x33 aapp 0xF1 0x40 ++ E 0x44 zzzz 0xF1 0x50)))

pub record Tables : Type 0 where
  -- each kind by its wish
  pub kinds : (wanted (wishes true false false false) Caption ≡ true) × (wanted (wishes false true false false) Carousel ≡ true) × (wanted (wishes false false false true) Other ≡ true)
  pub other_off : (wanted (wishes true true true false) Other ≡ false) × (wanted (wishes true true true false) Caption ≡ true) × (wanted (wishes true true true false) Carousel ≡ true)
  -- M with only other assets off and captions on keeps the stpp entry alone; with captions off too it is emptied; with all on it stays
  pub captions_alone : change_table (wishes true true true false) M ≡ becomes M₂ (1 ∷ 0 ∷ 0 ∷ []) (0 ∷ 0 ∷ 1 ∷ [])
  pub emptied : change_table (wishes false true true false) M ≡ becomes M₆ (0 ∷ 0 ∷ 0 ∷ []) (1 ∷ 0 ∷ 1 ∷ [])
  pub other_alone : change_table (wishes false true true true) M ≡ becomes M₁ (0 ∷ 0 ∷ 1 ∷ []) (1 ∷ 0 ∷ 0 ∷ [])
  pub stays : change_table (wishes true true true true) M ≡ none
  -- the clip by the captions-only profile, with carousels beside captions, with other assets alone, with carousels alone, and with nothing
  pub profile : change_table (captions_only Every) clip ≡ becomes (clip_with 0x19 1 (E 0x22 stpp 0xF1 0x30)) (1 ∷ 0 ∷ 0 ∷ []) (0 ∷ 1 ∷ 2 ∷ [])
  pub two_kinds : change_table (wishes true true false false) clip
      ≡ becomes (clip_with 0x2B 2 (E 0x22 stpp 0xF1 0x30 ++ E 0x33 aapp 0xF1 0x40)) (1 ∷ 1 ∷ 0 ∷ []) (0 ∷ 0 ∷ 2 ∷ [])
  pub pictures : change_table (wishes false false false true) clip
      ≡ becomes (clip_with 0x2B 2 (E 0x11 hvc1 0xF1 0x00 ++ E 0x44 zzzz 0xF1 0x50)) (0 ∷ 0 ∷ 2 ∷ []) (1 ∷ 1 ∷ 0 ∷ [])
  pub carousel_alone : change_table (wishes false true false false) clip ≡ becomes (clip_with 0x19 1 (E 0x33 aapp 0xF1 0x40)) (0 ∷ 1 ∷ 0 ∷ []) (1 ∷ 0 ∷ 2 ∷ [])
  pub nothing : change_table (wishes false false false false) clip ≡ becomes (clip_with 0x07 0 []) (0 ∷ 0 ∷ 0 ∷ []) (1 ∷ 1 ∷ 2 ∷ [])

pub tables : Tables
unfolding change_table captions_only
tables = record {
  kinds = (refl, refl, refl);
  other_off = (refl, refl, refl);
  captions_alone = refl;
  emptied = refl;
  other_alone = refl;
  stays = refl;
  profile = refl;
  two_kinds = refl;
  pictures = refl;
  carousel_alone = refl;
  nothing = refl;
}

-- ---- what is dropped: service 1 on 5, with captions on 0x77, video on 0x78, and both on 0x79

abbrev known : Known
known = record {
  plt_seen = true;
  packages = (1, 5) ∷ [];
  map_heads = (5, 4) ∷ [];
  map_room = 0x77 ∷ 0 ∷ 0x78 ∷ 2 ∷ 0x79 ∷ 2 ∷ 0x79 ∷ 0 ∷ [];
  data_set = replicate 4 0;
  fragments = [];
}

pub record Choosing : Type 0 where
  pub pictures_dropped : (drops (captions_only Every) known 0x78 ≡ true) × (drops (captions_only (Only 1)) known 0x78 ≡ true)
  pub captions_kept : (drops (captions_only Every) known 0x77 ≡ false) × (drops (captions_only (Only 2)) known 0x77 ≡ true)
  -- on a shared identifier one wanted asset keeps it
  pub shared : (drops (captions_only Every) known 0x79 ≡ false) × (drops (wishes false true true true) known 0x79 ≡ false) × (drops (wishes false true true false) known 0x79 ≡ true)
  -- what no list names passes, and the MPT's own identifier
  pub unlisted : (drops (captions_only Every) known 0x7A ≡ false) × (drops (captions_only Every) known 5 ≡ false)
  pub eit : drops (captions_only Every) known 0x8000 ≡ true
  -- all four wishes, and no service
  pub copy_all : (copies_all (wishes true true true true) ≡ true) × (copies_all (wishes true true true false) ≡ false)

pub choosing : Choosing
unfolding drops captions_only copies_all
choosing = record {
  pictures_dropped = (refl, refl);
  captions_kept = (refl, refl);
  shared = (refl, refl, refl);
  unlisted = (refl, refl);
  eit = refl;
  copy_all = (refl, refl);
}

-- ---- starts: 9 where captions and other assets are both off, whatever else is wanted; after 1, 2 and 3

pub record Starts : Type 0 where
  pub neither : (wants_assets (wishes false true true false) ≡ false) × (wants_assets (wishes true false false false) ≡ true) × (wants_assets (wishes false false false true) ≡ true)
  pub refused : start_refusal 4096 1 1 32768 (wishes false true true false) ≡ 9
  pub taken : (start_refusal 4096 1 1 32768 (captions_only Every) ≡ 0) × (start_refusal 4096 1 1 32768 (wishes false false false true) ≡ 0)
  pub lower_first : (start_refusal 4096 1 1 32767 (wishes false true true false) ≡ 3) × (start_refusal 4096 0 1 32768 (wishes false true true false) ≡ 2) × (start_refusal 4095 1 1 32768 (wishes false true true false) ≡ 1)
  pub handed_blank : (started (record { work = 4096; total = 1; most = 1 }) all_off (wishes false true true false) (replicate 32768 0)).handed ≡ blank

pub starts : Starts
unfolding start_refusal started wants_assets captions_only
starts = record {
  neither = (refl, refl, refl);
  refused = refl;
  taken = (refl, refl);
  lower_first = (refl, refl, refl);
  handed_blank = refl;
}

-- ---- the stream of CasesOfCalls, captions and tables alone: of each service, of ours, and of one that the PLT does not have

abbrev listed : Bytes
listed = signal 0x36 6 0x1E M₂

-- `refused 9` and a newline
abbrev refused9 : Bytes
refused9 = 0x72 ∷ 0x65 ∷ 0x66 ∷ 0x75 ∷ 0x73 ∷ 0x65 ∷ 0x64 ∷ 0x20 ∷ 0x39 ∷ 0x0A ∷ []

pub record Streams : Type 0 where
  pub each : filter_writes (0x11 ∷ 0 ∷ 0 ∷ stream) ≡ plt ++ (listed ++ captions)
  pub ours : filter_writes (0x19 ∷ 4 ∷ 1 ∷ stream) ≡ plt ++ (listed ++ captions)
  pub not_there : filter_writes (0x19 ∷ 4 ∷ 2 ∷ stream) ≡ plt
  -- with the wish on, as before
  pub on : filter_writes (0x06 ∷ 0 ∷ 0 ∷ stream) ≡ plt ++ (narrowed ++ video)
  pub not_copied : filter_writes (0x17 ∷ 0 ∷ 0 ∷ 0x55 ∷ []) ≡ []
  pub refused : (filter_writes (0x10 ∷ 0 ∷ 0 ∷ stream) ≡ refused9) × (sums_writes (0x1E ∷ 0 ∷ 0 ∷ stream) ≡ refused9)

pub streams : Streams
unfolding filter_writes sums_writes
streams = record {
  each = refl;
  ours = refl;
  not_there = refl;
  on = refl;
  not_copied = refl;
  refused = (refl, refl);
}
