-- Small cases of the relations that laws speak of: fewer wishes, thinned lists, and what a sound state holds to, at its limits.
use Prim.Native.Nat.{ℕ, ◌+◌}
use mathlib.Core.Path.{◌≡◌, refl}
use mathlib.Core.Bool.{true, false}
use mathlib.Core.List.Sublistᴰ
use mathlib.Core.List.{List, [], ◌∷◌}
use native.Mathlib.Omega.{arith}
use lib.ListN.{length, drop, replicate, length-replicate}
use Rattle.meaning.specs.Learn.{Fragment, Known, fragment_bytes}
use Rattle.meaning.specs.Soundness.{rising, distinct, HoldsPackages, HoldsMaps, HoldsFragments, Holds}
use Rattle.meaning.specs.Less.{Fewer, Thinned}
use Rattle.meaning.specs.declared.Service.TheVariants.{Only}
use Rattle.meaning.specs.declared.Options.{Options}
use Rattle.meaning.proofs.ListLaws.{clash}

abbrev wanting_one : Options
wanting_one = record { service = Only 1; caption = false; carousel = true; eit = false; other = true }

abbrev wanting_two : Options
wanting_two = record { service = Only 1; caption = true; carousel = true; eit = false; other = true }

-- the second wants captions too
pub captions_too : Fewer wanting_one wanting_two
captions_too = record { service_same = refl; caption_too = λ e. refl; carousel_too = λ e. refl; eit_too = λ e. e; other_too = λ e. e }

-- the second of two, without its first byte
pub one_of_two : Thinned (drop 1) ((8 ∷ []) ∷ []) ((9 ∷ []) ∷ (7 ∷ 8 ∷ []) ∷ [])
one_of_two = record { from = (7 ∷ 8 ∷ []) ∷ []; some_of = Sublistᴰ.cons (Sublistᴰ.cons-cons refl Sublistᴰ.slnil); changed = refl }

-- ---- identifiers and counts as large as they may be

abbrev piece : Fragment
piece = record { identifier = 7; flags = 255; body = 1 ∷ 2 ∷ [] }

abbrev known : Known
known = record { plt_seen = true; packages = (1, 65535) ∷ (2, 9) ∷ []; map_heads = (0x700, 9) ∷ (5, 255) ∷ []; map_room = replicate 32768 0; data_set = []; fragments = piece ∷ [] }

pub held_at_limits : Holds 2 known
unfolding rising distinct fragment_bytes
held_at_limits = record {
  packages_hold = record { few = omega arith; rise = refl; small = (omega arith, (omega arith, tt)) };
  maps_hold = record { few = omega arith; once = refl; small = (omega arith, (omega arith, tt)) };
  fragments_hold = record { few = omega arith; once = refl; flags = (omega arith, tt); within = omega arith };
  map_room_all = length-replicate {A = ℕ} 32768 0;
}

-- ---- one more is too many

pub record TooMany : Type 0 where
  pub packages : (ps : List (ℕ × ℕ)) → length ps ≡ 256 → HoldsPackages ps → ⊥
  pub package_identifier : HoldsPackages ((1, 65536) ∷ []) → ⊥
  pub maps : (ms : List (ℕ × ℕ)) → length ms ≡ 65 → HoldsMaps ms → ⊥
  pub assets_of_a_map : HoldsMaps ((5, 256) ∷ []) → ⊥
  pub fragments : (T : ℕ) (fs : List Fragment) → length fs ≡ 257 → HoldsFragments T fs → ⊥
  pub fragment_bytes_lem : (T : ℕ) (fs : List Fragment) → fragment_bytes fs ≡ T + 1 → HoldsFragments T fs → ⊥
  pub fragment_flags_lem : HoldsFragments 9 (record { identifier = 7; flags = 256; body = [] } ∷ []) → ⊥
  -- the first wants EIT, the second does not
  pub wishes : Fewer (record { service = Only 1; caption = true; carousel = true; eit = true; other = true }) (record { service = Only 1; caption = true; carousel = true; eit = false; other = true }) → ⊥

pub too_many : TooMany
too_many = record {
  packages = λ ps e h. omega (arith, e, h.few);
  package_identifier = λ h. omega (arith, h.small.0);
  maps = λ ms e h. omega (arith, e, h.few);
  assets_of_a_map = λ h. omega (arith, h.small.0);
  fragments = λ T fs e h. omega (arith, e, h.few);
  fragment_bytes_lem = λ T fs e h. omega (arith, e, h.within);
  fragment_flags_lem = λ h. omega (arith, h.flags.0);
  wishes = λ h. clash (cc (h.eit_too refl));
}
