-- The definition's `sound`, of a record taken apart: its limits, its options, how much is held and known, and its arrays.
use Rattle.std.specs.Prelude.{ℕ, Bool, ◌&&◌, List}
use Rattle.meaning.specs.Wishes.{wants_assets}
use Rattle.meaning.specs.Record.{pair_of}
use Rattle.meaning.specs.Soundness.{sound_rooms, sound_held, sound_packages, sound_maps, sound_fragments}
use Rattle.meaning.specs.declared.Limits.{Limits}
use Rattle.meaning.specs.declared.Options.{Options}
use Rattle.learning.specs.declared.Extent.{Extent}

abbrev pub limits_of : ℕ → ℕ → ℕ → Limits
limits_of work total most = record { work = work; total = total; most = most }

abbrev pub parts_sound : Limits → Options → ℕ → Extent → List ℕ → List ℕ → List ℕ → ℕ → ℕ → ℕ → Bool
parts_sound L o held_count e packages map_heads fragment_heads w t m =
    sound_rooms L w t m && wants_assets o && sound_held L o held_count && sound_packages e.package_count packages && sound_maps e.map_count map_heads && sound_fragments t e.fragment_count fragment_heads

-- The upper half of a pair in one number.
abbrev pub upper : ℕ → ℕ
upper x = (pair_of x).0
