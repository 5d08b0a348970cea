-- How the code holds what is known of tables and messages: pairs in arrays whose unused slots are zero; how it holds fragments says the
-- crate `fragments`. A record here says that arrays hold a state; a promise says what state they hold afterwards.
use Rattle.std.specs.Prelude.{ℕ, ◌≤◌, ◌≡◌, List, map, length, take}
use Rattle.meaning.specs.Learn.{Known}
use Rattle.meaning.specs.Record.{slots, pack_pair, pair_of}
use Rattle.meaning.specs.Soundness.{HoldsPackages, HoldsMaps}
use Rattle.learning.specs.declared.Extent.{Extent}

-- The pairs in the first n slots.
abbrev pub pairs_in : ℕ → List ℕ → List (ℕ × ℕ)
pairs_in n xs = map pair_of (take n xs)

-- Pairs in an array of N slots, of which n are used.
pub record Pairs (N : ℕ) (ps : List (ℕ × ℕ)) (n : ℕ) (xs : List ℕ) : Type 0 where
  pub count : n ≡ length ps
  pub few : length ps ≤ N
  pub are : xs ≡ slots N (map pack_pair ps)
  pub back : map pair_of (map pack_pair ps) ≡ ps

pub record KeptPackages (ps : List (ℕ × ℕ)) (n : ℕ) (xs : List ℕ) : Type 0 where
  pub pairs : Pairs 255 ps n xs
  pub hold : HoldsPackages ps

pub record KeptMaps (ms : List (ℕ × ℕ)) (n : ℕ) (xs : List ℕ) : Type 0 where
  pub pairs : Pairs 64 ms n xs
  pub hold : HoldsMaps ms

-- What is known of tables and messages: all but the fragments.
pub record Keeps (k : Known) (e : Extent) (data_set packages map_heads map_room : List ℕ) : Type 0 where
  pub seen : e.seen ≡ k.plt_seen
  pub packages_kept : KeptPackages k.packages e.package_count packages
  pub maps_kept : KeptMaps k.map_heads e.map_count map_heads
  pub data_set_is : data_set ≡ k.data_set
  pub data_set_all : length data_set ≡ 1024
  pub map_room_is : map_room ≡ k.map_room
  pub map_room_all : length map_room ≡ 32768
