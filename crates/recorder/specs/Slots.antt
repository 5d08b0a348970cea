-- An array whose first n numbers are used: the same with all others zero. Of what a record keeps, each array by its count.
use Rattle.std.specs.Prelude.{ℕ, ◌-◌, List, ◌++◌, length, take, replicate}
use Rattle.learning.specs.declared.Extent.{Extent}
use Rattle.learning.specs.declared.Kept.{Kept}

-- For every n: past the end nothing is left to clear.
abbrev pub cleared : ℕ → List ℕ → List ℕ
cleared n xs = take n xs ++ replicate (length xs - n) 0

abbrev pub cleared_in : Extent → Kept → Kept
cleared_in e kept = record {
  data_set = kept.data_set;
  packages = cleared e.package_count kept.packages;
  map_heads = cleared e.map_count kept.map_heads;
  fragment_heads = cleared e.fragment_count kept.fragment_heads;
}
