-- Bytes that start no packet, told at once: a gap, where one ends, and what is looked for in blocks of bytes.
use Rattle.std.specs.Prelude.{ℕ, ◌+◌, ◌-◌, ◌≤◌, ◌<◌, ◌≡◌, Bool, true, false, ◌&&◌, ◌||◌, length, drop, get_or, eqb, leb, ltb}
use Rattle.meaning.specs.Bytes.{Bytes}
use Rattle.meaning.specs.Packets.{step_of, Cut, cut}
use Rattle.meaning.specs.declared.Step.TheVariants.{Skip}

abbrev pub skip_many : ℕ → Cut → Cut
skip_many n c = record { packets = c.packets; skipped = n + c.skipped; held = c.held }

-- From an offset to another all is skipped.
pub record Gap (P : ℕ) (run : Bytes) (at to : ℕ) : Type 0 where
  pub forth : at ≤ to
  pub inside : to ≤ length run
  pub skips : cut P (drop at run) ≡ skip_many (to - at) (cut P (drop to run))

-- From an offset to the first at which nothing is skipped.
pub record GapTo (P : ℕ) (run : Bytes) (at r : ℕ) : Type 0 where
  pub forth : at ≤ r
  pub inside : r ≤ length run
  pub skips : cut P (drop at run) ≡ skip_many (r - at) (cut P (drop r run))
  pub ends : step_of P (drop r run) ≡ Skip → ⊥

-- ---- what is looked for in blocks

abbrev pub is_mark : Bytes → ℕ → Bool
is_mark run k = eqb (get_or run k 0) 0x7F

-- A type, or 0.
abbrev pub near_type : ℕ → Bool
near_type t = ltb t 4 || leb 0xFE t

abbrev pub may_start : Bytes → ℕ → Bool
may_start run k = is_mark run k && near_type (get_or run (k + 1) 0)

-- Whether none of i offsets from `at` on passes a test.
abbrev pub LookedAt : (ℕ → Bool) → ℕ → ℕ → Bool → Type 0
LookedAt f at i true = (k : ℕ) → at ≤ k → k < at + i → f k ≡ false
LookedAt f at i false = (k : ℕ) × (at ≤ k) × (k < at + i) × (f k ≡ true)

-- From `at` on, up to r, each byte has a header's four bytes and starts no packet.
pub record NoStart (run : Bytes) (at r : ℕ) : Type 0 where
  pub forth : at ≤ r
  pub inside : r ≤ length run
  pub room : at < r → r + 3 ≤ length run
  pub none : (k : ℕ) → at ≤ k → k < r → may_start run k ≡ false
