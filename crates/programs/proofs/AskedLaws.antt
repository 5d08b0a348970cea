-- The options that flags and service ask for, and what a head asks for.
use Prim.Native.Nat.{ℕ, ◌/◌, ◌%◌, ◌≤◌, ◌<◌}
use mathlib.Core.Path.{◌≡◌, refl, sym, ap, ◌∙◌}
use mathlib.Core.Bool.{Bool, true, false, cond, not}
use mathlib.Core.List.{[], ◌∷◌}
use native.Mathlib.Omega.{arith}
use lib.ListN.{length, get_or}
use lib.Dec.{ltb}
use borrow.Author.Tests.{lt-ltb, le-ltb}
use Rattle.meaning.specs.Bytes.{Bytes, be16_at}
use Rattle.meaning.specs.Wishes.{wants_assets}
use Rattle.meaning.specs.Refusals.{number_of}
use Rattle.meaning.specs.Programs.{is_one, service_if, options_of, input_refused, input_options, input_refusal}
use Rattle.meaning.specs.declared.Options.{Options}
use Rattle.meaning.specs.declared.Refusal.{Refusal}
use Rattle.meaning.specs.declared.Refusal.TheVariants.{Input, Wishes}
use Rattle.meaning.specs.declared.Service.{Service}
use Rattle.meaning.specs.declared.Service.TheVariants.{Every, Only}
use Rattle.meaning.proofs.ListLaws.{or_true}
use Rattle.std.specs.Prelude.{Ok, Err}
use Rattle.programs.specs.Asked.{asked_of}

pub service_named : (f s : ℕ) → f ≡ 1 → Only s ≡ service_if f s
service_named f s e = rw e

pub service_every : (f s : ℕ) → f < 2 → (f ≡ 1 → ⊥) → Every ≡ service_if f s
service_every f s h n = let z : f ≡ 0 = omega (arith, n) in rw z

abbrev with_service : ℕ → Service → Options
with_service flags x = record { service = x; caption = is_one (flags % 2); carousel = is_one (flags / 2 % 2); eit = is_one (flags / 4 % 2); other = not (is_one (flags / 16 % 2)) }

pub options_with : (flags s : ℕ) (x : Service) → x ≡ service_if (flags / 8 % 2) s → with_service flags x ≡ options_of flags s
unfolding options_of
options_with flags s x e = ap (with_service flags) e

-- ---- a head

refused_short : (s : Bytes) → length s < 3 → input_refused s ≡ true
unfolding input_refused
refused_short [] h = refl
refused_short (a ∷ s) h = rw (lt-ltb (length s) 2 (omega arith))

refused_flags : (s : Bytes) → 31 < get_or s 0 0 → input_refused s ≡ true
unfolding input_refused
refused_flags [] h = refl
refused_flags (a ∷ s) h = rw (lt-ltb 31 a h) (or_true (ltb (length s) 2))

not_refused : (s : Bytes) → 3 ≤ length s → get_or s 0 0 ≤ 31 → input_refused s ≡ false
unfolding input_refused
not_refused [] h k = absurd (omega arith)
not_refused (a ∷ s) h k = rw (le-ltb (length s) 2 (omega arith), le-ltb 31 a k)

module _ (s : Bytes) where
  asked_nothing : input_refused s ≡ true → Err Input ≡ asked_of s
  unfolding asked_of
  asked_nothing e = rw e

  pub asked_short : length s < 3 → Err Input ≡ asked_of s
  asked_short h = asked_nothing (refused_short s h)

  pub asked_flags : 31 < get_or s 0 0 → Err Input ≡ asked_of s
  asked_flags h = asked_nothing (refused_flags s h)

  -- By the options that are read from a head.
  module _ (h : 3 ≤ length s) (k : get_or s 0 0 ≤ 31) {o : Options} {p : ℕ} (e : p ≡ be16_at s 1) (f : o ≡ options_of (get_or s 0 0) p) where
    read_options : o ≡ input_options s
    unfolding input_options
    read_options = rw (f, e)

    pub asked_neither : wants_assets o ≡ false → Err Wishes ≡ asked_of s
    unfolding asked_of
    asked_neither w = rw (not_refused s h k, ap wants_assets (sym read_options) ∙ w)

    pub asked_for : wants_assets o ≡ true → Ok o ≡ asked_of s
    unfolding asked_of
    asked_for w = rw (not_refused s h k, ap wants_assets (sym read_options) ∙ w, read_options)

  -- What is told of the input.
  pub refusal_asked : {r : Refusal} → asked_of s ≡ Err r → input_refusal s ≡ number_of r
  unfolding asked_of input_refusal number_of
  refusal_asked {r} e = go (input_refused s) (wants_assets (input_options s)) e
    where
      go : (b w : Bool) → cond b (Err Input) (cond w (Ok (input_options s)) (Err Wishes)) ≡ Err r → cond b 8 (cond w 0 9) ≡ number_of r
      go true w q = let z : Input ≡ r = cc in ap number_of z
      go false true q = let z : ◌≡◌ {A = ℕ} 0 1 = cc in absurd (omega arith)
      go false false q = let z : Wishes ≡ r = cc in ap number_of z

  pub options_asked : {o : Options} → asked_of s ≡ Ok o → (input_refusal s ≡ 0) × (o ≡ input_options s) × (wants_assets o ≡ true)
  unfolding asked_of input_refusal
  options_asked {o} e = go (input_refused s) (wants_assets (input_options s)) refl e
    where
      go : (b w : Bool) → wants_assets (input_options s) ≡ w → cond b (Err Input) (cond w (Ok (input_options s)) (Err Wishes)) ≡ Ok o
          → ◌≡◌ {A = ℕ} (cond b 8 (cond w 0 9)) 0 × (o ≡ input_options s) × (wants_assets o ≡ true)
      go true w k q = let z : ◌≡◌ {A = ℕ} 0 1 = cc in absurd (omega arith)
      go false true k q = let z : o ≡ input_options s = cc in (refl, z, ap wants_assets z ∙ k)
      go false false k q = let z : ◌≡◌ {A = ℕ} 0 1 = cc in absurd (omega arith)
