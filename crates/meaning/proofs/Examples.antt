-- 01's starred examples, 1 to 12, together as one list; each holds by computing the definitions. And the sums example.
use Prim.Native.Nat.{ℕ, ◌≤◌}
use mathlib.Core.Path.{◌≡◌, refl, sym, subst}
use mathlib.Core.Logic.{inl, inr}
use mathlib.Core.Bool.{true, false}
use mathlib.Core.List.Memᴰ
use mathlib.Core.List.{List, [], ◌∷◌, ◌++◌, Memᴰ}
use mathlib.Core.Option.{Option, none, some}
use native.Mathlib.Omega.{arith}
use lib.ListN.{length, replicate}
use Rattle.meaning.specs.Bytes.{Bytes}
use Rattle.meaning.specs.Wishes.{all_off}
use Rattle.meaning.specs.Narrow.{Change, change_table, none_of_each}
use Rattle.meaning.specs.Record.{State}
use Rattle.meaning.specs.Start.{fresh}
use Rattle.meaning.specs.Push.{push}
use Rattle.meaning.specs.Programs.{sums_writes}
use Rattle.meaning.specs.declared.Limits.{Limits}
use Rattle.meaning.specs.declared.Service.TheVariants.{Every, Only}
use Rattle.meaning.specs.declared.Options.{Options}
use Rattle.meaning.specs.declared.Counts.{Counts}

-- ---- 01's names

abbrev pub hvc1 : Bytes
hvc1 = 0x68 ∷ 0x76 ∷ 0x63 ∷ 0x31 ∷ []

abbrev pub stpp : Bytes
stpp = 0x73 ∷ 0x74 ∷ 0x70 ∷ 0x70 ∷ []

abbrev pub E : ℕ → Bytes → ℕ → ℕ → Bytes
E id kind high low = 0x00 ∷ 0x00 ∷ 0x00 ∷ 0x00 ∷ 0x00 ∷ 0x01 ∷ id ∷ kind ++ (0x00 ∷ 0x01 ∷ 0x00 ∷ high ∷ low ∷ 0x00 ∷ 0x00 ∷ [])

-- M with its count and both kinds open
abbrev pub mWith : ℕ → Bytes → Bytes → Bytes
mWith count first second =
    0x20 ∷ 0x05 ∷ 0x00 ∷ 0x2B ∷ 0x00 ∷ 0x02 ∷ 0x04 ∷ 0x00 ∷ 0x00 ∷ 0x00 ∷ count ∷ (E 0x11 first 0xF1 0x00 ++ E 0x22 second 0xF1 0x30)

abbrev pub M : Bytes
M = mWith 2 hvc1 stpp

abbrev pub M₁ : Bytes
M₁ = 0x20 ∷ 0x05 ∷ 0x00 ∷ 0x19 ∷ 0x00 ∷ 0x02 ∷ 0x04 ∷ 0x00 ∷ 0x00 ∷ 0x00 ∷ 0x01 ∷ E 0x11 hvc1 0xF1 0x00

-- M with the type of its last location 06
abbrev pub M₅ : Bytes
M₅ =
    0x20 ∷ 0x05 ∷ 0x00 ∷ 0x2B ∷ 0x00 ∷ 0x02 ∷ 0x04 ∷ 0x00 ∷ 0x00 ∷ 0x00 ∷ 0x02
    ∷ (E 0x11 hvc1 0xF1 0x00 ++ (0x00 ∷ 0x00 ∷ 0x00 ∷ 0x00 ∷ 0x00 ∷ 0x01 ∷ 0x22 ∷ stpp ++ (0x00 ∷ 0x01 ∷ 0x06 ∷ 0xF1 ∷ 0x30 ∷ 0x00 ∷ 0x00 ∷ [])))

abbrev pub M₆ : Bytes
M₆ = 0x20 ∷ 0x05 ∷ 0x00 ∷ 0x07 ∷ 0x00 ∷ 0x02 ∷ 0x04 ∷ 0x00 ∷ 0x00 ∷ 0x00 ∷ 0x00 ∷ []

-- the PLT of 7 with its second name open
abbrev pub plt_with : ℕ → Bytes
plt_with low =
    0x80 ∷ 0x01 ∷ 0x00 ∷ 0x0E ∷ 0x02 ∷ 0x02 ∷ 0x04 ∷ 0x00 ∷ 0x00 ∷ 0xF0 ∷ 0x00 ∷ 0x02 ∷ 0x04 ∷ low ∷ 0x00 ∷ 0xF0 ∷ 0x01 ∷ 0x00 ∷ []

abbrev pub one_service : ℕ → Bytes
one_service low = 0x80 ∷ 0x01 ∷ 0x00 ∷ 0x08 ∷ 0x01 ∷ 0x02 ∷ 0x04 ∷ low ∷ 0x00 ∷ 0xF0 ∷ 0x01 ∷ 0x00 ∷ []

abbrev pub no_captions : Options
no_captions = record { service = Every; caption = false; carousel = true; eit = true; other = true }

abbrev pub no_carousels : Options
no_carousels = record { service = Every; caption = true; carousel = false; eit = true; other = true }

abbrev pub service : ℕ → Options
service n = record { service = Only n; caption = true; carousel = true; eit = true; other = true }

abbrev limits : Limits
limits = record { work = 131078; total = 65536; most = 65536 }

abbrev start : State
start = fresh (replicate 32768 0)

abbrev counts : ℕ → ℕ → ℕ → Counts
counts bytes packets skipped = record { bytes = bytes; accepted = packets; written = packets; rewritten = 0; skipped = skipped; lost = 0 }

abbrev holding : Bytes → State
holding s = record { held = s; known = start.known }

abbrev pub packet12 : Bytes
packet12 = 0x7F ∷ 0xFF ∷ 0x00 ∷ 0x01 ∷ 0xAA ∷ []

-- ---- the list

-- A table, what is wanted, and what narrowing changes.
pub record Example : Type 0 where
  pub options : Options
  pub table : Bytes
  pub change : Option Change

abbrev becomes : Bytes → List ℕ → List ℕ → Option Change
becomes y stays goes = some (record { out = y; stays = stays; goes = goes })

-- 1 to 10, in 01's order.
abbrev pub starred_tables : List Example
starred_tables =
    record { options = no_captions; table = M; change = becomes M₁ (0 ∷ 0 ∷ 1 ∷ []) (1 ∷ 0 ∷ 0 ∷ []) }
    ∷ record { options = no_captions; table = M₁; change = none }
    ∷ record { options = no_carousels; table = M; change = none }
    ∷ record { options = no_captions; table = mWith 3 hvc1 stpp; change = none }
    ∷ record { options = no_captions; table = M₅; change = none }
    ∷ record { options = no_captions; table = mWith 2 stpp stpp; change = becomes M₆ none_of_each (2 ∷ 0 ∷ 0 ∷ []) }
    ∷ record { options = service 0x0401; table = plt_with 0x01; change = becomes (one_service 0x01) none_of_each none_of_each }
    ∷ record { options = service 0x0401; table = one_service 0x01; change = becomes (one_service 0x01) none_of_each none_of_each }
    ∷ record { options = service 0x0402; table = plt_with 0x01; change = none }
    ∷ record { options = service 0x0400; table = plt_with 0x00; change = becomes (one_service 0x00) none_of_each none_of_each }
    ∷ []

-- The definition changes it so, and it is within the limit for narrowing.
abbrev pub Computes : Example → Type 0
Computes e = (change_table e.options e.table ≡ e.change) × (length e.table ≤ 65539)

abbrev AllCompute : List Example → Type 0
AllCompute [] = Unit {0}
AllCompute (e ∷ es) = Computes e × AllCompute es

pub record Starred : Type 0 where
  pub tables : AllCompute starred_tables
  pub ex11 : push limits all_off no_captions start (packet12 ++ (0x00 ∷ []))
      ≡ record { out = []; counts = counts 0 0 3; state = holding (0x01 ∷ 0xAA ∷ 0x00 ∷ []) }
  pub ex12 : push limits all_off no_captions start packet12 ≡ record { out = packet12 ∷ []; counts = counts 5 1 0; state = holding [] }
  pub ex12_next : push limits all_off no_captions (holding []) (0x00 ∷ []) ≡ record { out = []; counts = counts 0 0 0; state = holding (0x00 ∷ []) }

pub starred : Starred
unfolding change_table push fresh
starred = record {
  tables = ((refl, omega arith), ((refl, omega arith), ((refl, omega arith), ((refl, omega arith), ((refl, omega arith), ((refl, omega arith), ((refl, omega arith), ((refl, omega arith), ((refl, omega arith), ((refl, omega arith), tt))))))))));
  ex11 = refl;
  ex12 = refl;
  ex12_next = refl;
}

-- Each of the list.
each_of : (es : List Example) → AllCompute es → (e : Example) → Memᴰ e es → Computes e
each_of [] h e m = absurd (Memᴰ.not-nil m)
each_of (x ∷ es) h e m = elim (Memᴰ.cases_cons m) [ inl q ↦ subst Computes (sym q) h.0 | inr i ↦ each_of es h.1 e i ]

pub starred_each : (e : Example) → Memᴰ e starred_tables → Computes e
starred_each = each_of starred_tables starred.tables

-- 00 00 00 and example 11: `packets 0 written 0 rewritten 0 skipped 3 held 3 lost 0`
pub sums_example : sums_writes (0x00 ∷ 0x00 ∷ 0x00 ∷ packet12 ++ (0x00 ∷ []))
    ≡ 0x70 ∷ 0x61 ∷ 0x63 ∷ 0x6B ∷ 0x65 ∷ 0x74 ∷ 0x73 ∷ 0x20 ∷ 0x30 ∷ 0x20
    ∷ 0x77 ∷ 0x72 ∷ 0x69 ∷ 0x74 ∷ 0x74 ∷ 0x65 ∷ 0x6E ∷ 0x20 ∷ 0x30 ∷ 0x20
    ∷ 0x72 ∷ 0x65 ∷ 0x77 ∷ 0x72 ∷ 0x69 ∷ 0x74 ∷ 0x74 ∷ 0x65 ∷ 0x6E ∷ 0x20 ∷ 0x30 ∷ 0x20
    ∷ 0x73 ∷ 0x6B ∷ 0x69 ∷ 0x70 ∷ 0x70 ∷ 0x65 ∷ 0x64 ∷ 0x20 ∷ 0x33 ∷ 0x20
    ∷ 0x68 ∷ 0x65 ∷ 0x6C ∷ 0x64 ∷ 0x20 ∷ 0x33 ∷ 0x20
    ∷ 0x6C ∷ 0x6F ∷ 0x73 ∷ 0x74 ∷ 0x20 ∷ 0x30 ∷ 0x0A ∷ []
unfolding sums_writes
sums_example = refl
