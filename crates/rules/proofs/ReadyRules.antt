-- Whether a list is held for a package, by the place of its head. Rests on the definitions of rules and on PackageRules.
use Prim.Native.Nat.{ℕ, ◌≤◌}
use mathlib.Core.Path.{◌≡◌}
use mathlib.Core.List.{List}
use native.Mathlib.Omega.{arith}
use native.Mathlib.Decide.{dec_lt}
use lib.ListN.{length}
use borrow.Author.Tests.{lt-ltb, le-ltb}
use Rattle.meaning.specs.Lists.{is_some}
use Rattle.meaning.specs.Learn.{place_for}
use Rattle.meaning.specs.Rules.{list_of}
use Rattle.learning.specs.Kept.{pairs_in}
use Rattle.rules.specs.Changes.{lists_at, has_list}
use Rattle.rules.proofs.PackageRules.{list_found, list_none}

-- a list is held where its place is one of the heads'
pub has_list_lem : (n : ℕ) (map_heads map_room : List ℕ) (x : ℕ × ℕ) → n ≤ length map_heads → has_list n map_heads x ≡ is_some (list_of x.1 (lists_at n map_heads map_room))
has_list_lem n map_heads map_room x l =
    elim (dec_lt (place_for x.1 (pairs_in n map_heads)) n) [
      | yes h ↦ rw (list_found x.1 n map_heads map_room l h, lt-ltb (place_for x.1 (pairs_in n map_heads)) n h)
      | no h ↦
          let k : n ≤ place_for x.1 (pairs_in n map_heads) = omega arith in
          rw (list_none x.1 n map_heads map_room k, le-ltb (place_for x.1 (pairs_in n map_heads)) n k)
    ]
