-- When a record is sound: 01, "Refusal numbers". First as it is asked of a record, then in parts, as a state that is known holds to it; that
-- learning keeps the parts is a law (proofs/SoundnessKept.antt).
use Rattle.std.specs.Prelude.{ℕ, ◌≤◌, ◌<◌, ◌≡◌, Bool, cond, true, ◌&&◌, ◌||◌, not, List, [], ◌∷◌, map, length, take, eqb, leb, ltb}
use Rattle.meaning.specs.Lists.{all, any, sum}
use Rattle.meaning.specs.Wishes.{wants_assets, copies_all}
use Rattle.meaning.specs.Rooms.{packet_limit, good_work_room, good_fragment_room, good_map_room}
use Rattle.meaning.specs.Learn.{Fragment, Known, fragment_bytes}
use Rattle.meaning.specs.Record.{Record, pair_of, fragment_identifier, fragment_length}
use Rattle.meaning.specs.declared.Options.{Options}
use Rattle.meaning.specs.declared.Limits.{Limits}

-- ---- asked of a record

-- Each above the one before.
unfoldable pub rising : List ℕ → Bool
rising [] = true
rising (a ∷ []) = true
rising (a ∷ b ∷ ns) = ltb a b && rising (b ∷ ns)

-- None twice.
unfoldable pub distinct : List ℕ → Bool
unfolding any
distinct [] = true
distinct (a ∷ ns) = not (any (eqb a) ns) && distinct ns

-- The lengths of the lent rooms are the start's, and all limits are in range.
unfoldable pub sound_rooms : Limits → ℕ → ℕ → ℕ → Bool
unfolding good_work_room good_fragment_room good_map_room
sound_rooms L W T n =
    eqb L.work W && eqb L.total T && good_map_room n && good_work_room W && good_fragment_room T L.most

-- At most P - 1 bytes are held, none in copy-all.
unfoldable pub sound_held : Limits → Options → ℕ → Bool
unfolding packet_limit copies_all
sound_held L o n = ltb n (packet_limit L.work) && (not (copies_all o) || eqb n 0)

unfoldable pub sound_packages : ℕ → List ℕ → Bool
unfolding rising pair_of
sound_packages n ps = leb n 255 && rising (map (λ x. (pair_of x).0) (take n ps))

unfoldable pub sound_maps : ℕ → List ℕ → Bool
unfolding all distinct pair_of
sound_maps n ms = leb n 64 && all (λ x. leb (pair_of x).1 255) (take n ms) && distinct (map (λ x. (pair_of x).0) (take n ms))

unfoldable pub sound_fragments : ℕ → ℕ → List ℕ → Bool
unfolding distinct sum fragment_identifier fragment_length
sound_fragments T n fs = leb n 256 && distinct (map fragment_identifier (take n fs)) && leb (sum (map fragment_length (take n fs))) T

-- The record with the lengths of the lent work, fragment and map room.
unfoldable pub sound : Record → ℕ → ℕ → ℕ → Bool
unfolding sound_rooms wants_assets sound_held sound_packages sound_maps sound_fragments
sound r W T n =
    sound_rooms r.limits W T n
    && wants_assets r.options
    && sound_held r.limits r.options r.held_count
    && sound_packages r.package_count r.packages
    && sound_maps r.map_count r.map_heads
    && sound_fragments T r.fragment_count r.fragment_heads

-- An unsound record is refused by every call.
unfoldable pub sound_refusal : Record → ℕ → ℕ → ℕ → ℕ
unfolding sound
sound_refusal r W T map_length = cond (sound r W T map_length) 0 4

-- ---- in parts, of what is known: services rise, no map or fragment identifier comes twice, counts and lengths stay within their limits, the
-- map room has all its numbers

-- The first of each pair: services of packages, identifiers of maps.
abbrev pub firsts : List (ℕ × ℕ) → List ℕ
firsts ps = map (λ x. x.0) ps

abbrev pub identifiers : List Fragment → List ℕ
identifiers fs = map (λ f. f.identifier) fs

-- Each pair's second below a bound.
abbrev pub SecondsBelow : ℕ → List (ℕ × ℕ) → Type 0
SecondsBelow n [] = Unit {0}
SecondsBelow n (x ∷ xs) = (x.1 < n) × SecondsBelow n xs

abbrev pub SmallFlags : List Fragment → Type 0
SmallFlags [] = Unit {0}
SmallFlags (f ∷ fs) = (f.flags < 256) × SmallFlags fs

pub record HoldsPackages (ps : List (ℕ × ℕ)) : Type 0 where
  pub few : length ps ≤ 255
  pub rise : rising (firsts ps) ≡ true
  pub small : SecondsBelow 65536 ps

pub record HoldsMaps (ms : List (ℕ × ℕ)) : Type 0 where
  pub few : length ms ≤ 64
  pub once : distinct (firsts ms) ≡ true
  pub small : SecondsBelow 256 ms

pub record HoldsFragments (T : ℕ) (fs : List Fragment) : Type 0 where
  pub few : length fs ≤ 256
  pub once : distinct (identifiers fs) ≡ true
  pub flags : SmallFlags fs
  pub within : fragment_bytes fs ≤ T

pub record Holds (T : ℕ) (k : Known) : Type 0 where
  pub packages_hold : HoldsPackages k.packages
  pub maps_hold : HoldsMaps k.map_heads
  pub fragments_hold : HoldsFragments T k.fragments
  pub map_room_all : length k.map_room ≡ 32768
