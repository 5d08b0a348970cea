-- A name of two bytes, and a package at an offset, as name_at and package_at meet them. Rests on the reading laws and on locality.
use Prim.Native.Nat.{ℕ, ◌+◌, ◌-◌, ◌%◌, ◌≤◌, ◌<◌}
use mathlib.Core.Path.{◌≡◌, refl, sym, ap, ◌∙◌}
use mathlib.Core.List.{[], ◌∷◌}
use mathlib.Core.Option.{none, some, none-ne-some, some-injective}
use native.Mathlib.Numerals.{add-one}
use native.Mathlib.Decide.{dec_lt}
use native.Mathlib.Omega.{arith}
use lib.ListN.{length, take, drop, get_or, length-drop}
use lib.Seq.{drop-cons, length-take-le}
use Rattle.meaning.specs.Bytes.{Bytes, be16_at}
use Rattle.meaning.specs.Readers.{bytes, counted8}
use Rattle.meaning.specs.Tables.{service_of, location, package_entry}
use Rattle.meaning.proofs.Reading.{byte_at, bytes_at, bytes_none, counted8_none}
use Rattle.meaning.proofs.Local.{location_local}
use Rattle.meaning.proofs.Framed.{progress}
use Rattle.tables.specs.Answers.{Ends, in_code, LocationIs, PackageIs}
use Rattle.std.specs.Prelude.{Some, None}
use Rattle.std.specs.Prelude as code
use Rattle.tables.specs.declared.locations.Located.{Located}

-- ---- names

other_length : (l : Bytes) → (length l ≡ 2 → ⊥) → service_of l ≡ none
unfolding service_of
other_length [] h = refl
other_length (a ∷ []) h = refl
other_length (a ∷ b ∷ []) h = absurd (h refl)
other_length (a ∷ b ∷ c ∷ l) h = refl

module _ (s : Bytes) (at end : ℕ) (some_in : at < end) (in_s : end ≤ length s) where
  pub name_other : (end ≡ at + 3 → ⊥) → None ≡ in_code (service_of (take (end - at - 1) (drop (at + 1) s)))
  name_other h =
      let k : end - at - 1 ≤ length (drop (at + 1) s) = omega (arith, length-drop (at + 1) s) in
      rw (other_length (take (end - at - 1) (drop (at + 1) s)) (λ e. h (omega (arith, length-take-le (end - at - 1) (drop (at + 1) s) k))))

  pub name_two : (n : ℕ) → n ≡ be16_at s (at + 1) → end ≡ at + 3 → Some n ≡ in_code (service_of (take (end - at - 1) (drop (at + 1) s)))
  unfolding service_of be16_at
  name_two n is h =
      let k : end - at - 1 ≡ 2 = omega arith in
      let next : (i j : ℕ) → j ≡ i + 1 → i < length s → drop i s ≡ get_or s i 0 ∷ drop j s = λ i j e l. rw (e, add-one) (drop-cons s i 0 l) in
      rw (k, is, next (at + 1) (at + 1 + 1) refl (omega arith), next (at + 1 + 1) (at + 3) (omega arith) (omega arith))

-- ---- packages

module _ (s : Bytes) (at : ℕ) where
  pub package_nameless : counted8 (drop at s) ≡ none → package_entry (drop at s) ≡ none
  unfolding package_entry
  package_nameless e = rw e

  counted : at < length s → counted8 (drop at s) ≡ bytes (get_or s at 0 % 256) (drop (at + 1) s)
  unfolding counted8
  counted h = rw (byte_at s at (at + 1) h refl)

  -- the name is the bytes from behind its length to `name_end`
  module _ (name_end : ℕ) (n : Bytes) (in_s : name_end ≤ length s) where
    abbrev Named-to : Type 0
    Named-to = (at < name_end) × (n ≡ take (name_end - at - 1) (drop (at + 1) s))

    named_go : (m : ℕ) → at < length s → bytes m (drop (at + 1) s) ≡ some (n, drop name_end s) → Named-to
    named_go m k e =
        elim (dec_lt (length s) (at + 1 + m)) [
          | yes l ↦ absurd (none-ne-some _ (sym (bytes_none s (at + 1) m (omega arith)) ∙ e))
          | no l ↦
              let q = some-injective _ _ (sym (bytes_at s (at + 1) m (at + 1 + m) (omega arith) refl) ∙ e) in
              let p : name_end ≡ at + 1 + m = omega (arith, ap (λ z. length z.1) q, length-drop (at + 1 + m) s, length-drop name_end s) in
              let w : name_end - at - 1 ≡ m = omega arith in
              (omega arith, rw w (sym (ap (λ z. z.0) q)))
        ]

    named : counted8 (drop at s) ≡ some (n, drop name_end s) → Named-to
    named e =
        elim (dec_lt at (length s)) [
          | yes k ↦ named_go _ k (sym (counted k) ∙ e)
          | no k ↦ absurd (none-ne-some _ (sym (counted8_none s at (omega arith)) ∙ e))
        ]

  module _ (name_end : ℕ) (name_ends : Ends (counted8 (drop at s)) s (Some name_end)) where
    pub name_in : (at < name_end) × (name_end ≤ length s)
    name_in = ((named name_end name_ends.1.0 name_ends.0 name_ends.1.1).0, name_ends.0)

    pub package_placeless : location (drop name_end s) ≡ none → package_entry (drop at s) ≡ none
    unfolding package_entry
    package_placeless e = rw (name_ends.1.1, e)

    pub package_at : (l : Located) (name : code.Option ℕ) → LocationIs (location (drop name_end s)) s (Some l)
        → name ≡ in_code (service_of (take (name_end - at - 1) (drop (at + 1) s)))
        → PackageIs s at (Some (record { end = l.end; name = name; carrier = l.carrier }))
    unfolding package_entry location
    package_at l name f is =
        let w = named name_end name_ends.1.0 name_ends.0 name_ends.1.1 in
        let p = progress location_local refl (drop name_end s) f.1.0 (drop l.end s) f.1.1 in
        let k : at < l.end = omega (arith, w.0, p, f.0, length-drop name_end s, length-drop l.end s) in
        let size : length (drop at s) - length (drop l.end s) ≡ l.end - at = omega (arith, f.0, length-drop at s, length-drop l.end s) in
        (f.0, k, (name_ends.1.0, f.1.0, rw (name_ends.1.1, f.1.1, size), rw w.1 is, f.1.2))
