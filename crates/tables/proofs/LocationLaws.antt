-- General locations at an offset, as `locations` reads them: one by its type, and the loop over several, whose invariant is `Sofar`.
-- Rests on the readers at an offset, Reading of `meaning`.
use Prim.Native.Nat.{ℕ, zero, suc, ◌+◌, ◌-◌, ◌≤◌, ◌<◌}
use mathlib.Core.Path.{◌≡◌, refl, ◌∙◌}
use mathlib.Core.Logic.{◌⊎◌, inl, inr}
use mathlib.Core.List.{List, [], ◌∷◌, ◌++◌, append-nil}
use mathlib.Core.Option.{Option, none, some}
use lib.ListN.{length, drop, get_or}
use Rattle.meaning.specs.Bytes.{Bytes, be16_at}
use Rattle.meaning.specs.Readers.{Out, bind, give, bytes, many}
use Rattle.meaning.specs.Tables.{location_body, location, first_of}
use Rattle.meaning.proofs.Reading.{u8_none, u16_at, u16_none, many_none, many_next, behind, behind_nothing, behind_one}
use Rattle.octets.proofs.ByteLaws.{u8_at_lem}
use Rattle.tables.specs.Answers.{Ends, in_code, LocationIs, LocationsAre, elsewhere_of}
use Rattle.std.specs.Prelude.{Some, None}
use Rattle.std.specs.Prelude as code
use Rattle.std.specs.Option.{option_or}
use Rattle.tables.specs.declared.locations.Located.{Located}

-- ---- one location

module _ (s : Bytes) (at : ℕ) where
  -- of type 0, behind its type
  pub here_none : length s < at + 2 → location_body 0 (drop at s) ≡ none
  unfolding location_body
  here_none h = rw (u16_none s at h)

  pub here_at : (p : ℕ) → p ≡ be16_at s at → at + 2 ≤ length s → LocationIs (location_body 0 (drop at s)) s (Some (record { end = at + 2; carrier = Some p }))
  unfolding location_body
  here_at p e h = (h, (some p, rw (u16_at s at (at + 2) h refl, e), refl))

  -- by its type
  pub location_none : length s ≤ at → location (drop at s) ≡ none
  unfolding location
  location_none h = rw (u8_none s at h)

  -- behind its type, a byte of the code
  pub location_type : at < length s → get_or s at 0 < 256 → location (drop at s) ≡ location_body (get_or s at 0) (drop (at + 1) s)
  unfolding location
  location_type h b = rw (u8_at_lem s at (at + 1) h b refl)

-- what is passed over has no identifier
pub passed : (o : Out Bytes) (s : Bytes) (r : code.Option ℕ) → Ends o s r → LocationIs (bind o (λ _. give none)) s (elsewhere_of r)
passed o s (Some e) h = (h.0, (none, rw h.1.1, refl))
passed o s None h = rw h

-- types 2 and 4 are laid out alike
pub two_or_four : (t : ℕ) (s : Bytes) → (t ≡ 2) ⊎ (t ≡ 4) → location_body t s ≡ bind (bytes 36 s) (λ _. give none)
unfolding location_body
two_or_four t s (inl e) = rw e
two_or_four t s (inr e) = rw e

-- no other type is known
pub no_location : (t : ℕ) (s : Bytes) → (t ≡ 0 → ⊥) → (t ≡ 1 → ⊥) → ((t ≡ 2) ⊎ (t ≡ 4) → ⊥) → (t ≡ 3 → ⊥) → (t ≡ 5 → ⊥) → location_body t s ≡ none
unfolding location_body
no_location zero s a b c d e = absurd (a refl)
no_location (suc zero) s a b c d e = absurd (b refl)
no_location (suc (suc zero)) s a b c d e = absurd (c (inl refl))
no_location (suc (suc (suc zero))) s a b c d e = absurd (d refl)
no_location (suc (suc (suc (suc zero)))) s a b c d e = absurd (c (inr refl))
no_location (suc (suc (suc (suc (suc zero))))) s a b c d e = absurd (e refl)
no_location (suc (suc (suc (suc (suc (suc t)))))) s a b c d e = refl

-- ---- several

-- the first of some and one more
first_more : (pre : List (Option ℕ)) (a : Option ℕ) → in_code (first_of (pre ++ a ∷ [])) ≡ option_or (in_code (first_of pre)) (in_code a)
unfolding first_of
first_more [] none = refl
first_more [] (some p) = refl
first_more (none ∷ pre) a = first_more pre a
first_more (some p ∷ pre) a = refl

-- Of `count` locations at `at`, `pre` were read, up to `to`, and `left` are left.
pub record Sofar (s : Bytes) (at count to left : ℕ) (found : code.Option ℕ) : Type 0 where
  pub pre : List (Option ℕ)
  pub reads : many count location (drop at s) ≡ behind pre (many left location (drop to s))
  pub first : found ≡ in_code (first_of pre)
  pub in_s : to ≤ length s

module _ (s : Bytes) (at count : ℕ) where
  -- none read yet
  pub start : at ≤ length s → Sofar s at count at count None
  unfolding first_of
  start h = record { pre = []; reads = behind_nothing (many count location (drop at s)); first = refl; in_s = h }

  module _ (to left : ℕ) (found : code.Option ℕ) (i : Sofar s at count to left found) where
    -- one more is read
    pub turn : (one : Located) → 0 < left → LocationIs (location (drop to s)) s (Some one) → Sofar s at count one.end (left - 1) (option_or found one.carrier)
    turn one h l =
        record {
          pre = i.pre ++ l.1.0 ∷ [];
          reads = i.reads ∙ rw (many_next location (drop to s) left l.1.0 (drop one.end s) h l.1.1) (behind_one i.pre l.1.0 (many (left - 1) location (drop one.end s)));
          first = rw (first_more i.pre l.1.0, i.first, l.1.2);
          in_s = l.0;
        }

    -- one that cannot be read
    pub broken : 0 < left → location (drop to s) ≡ none → many count location (drop at s) ≡ none
    broken h l = i.reads ∙ rw (many_none location (drop to s) left h l)

    -- none left
    pub all_read : left ≡ 0 → LocationsAre (many count location (drop at s)) s (Some (record { end = to; carrier = found }))
    unfolding many
    all_read z = (i.in_s, (i.pre, i.reads ∙ rw (z, append-nil i.pre), i.first))
