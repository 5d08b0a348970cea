-- The definition's record of the struct; the struct taken apart as a call begins, and put together again after it.
use Rattle.std.specs.Prelude.{false, List, ℕ, replicate}
use Rattle.meaning.specs.Record.{Record}
use Rattle.meaning.specs.declared.Limits.{Limits}
use Rattle.meaning.specs.declared.Options.{Options}
use Rattle.meaning.specs.declared.Modes.{Modes}
use Rattle.learning.specs.News.{no_news}
use Rattle.learning.specs.declared.Extent.{Extent}
use Rattle.learning.specs.declared.Kept.{Kept}
use Rattle.recorder.specs.declared.Filter.{Filter}
use Rattle.recorder.specs.declared.call.Begun.{Begun}
use Rattle.recorder.specs.declared.call.CarriedOut.{CarriedOut}

unfoldable pub record_in : Filter → Record
record_in f = record {
  limits = f.limits;
  modes = f.modes;
  options = f.options;
  held_count = f.held_count;
  plt_seen = f.seen;
  package_count = f.package_count;
  map_count = f.map_count;
  fragment_count = f.fragment_count;
  leading = f.leading;
  data_set = f.kept.data_set.words;
  packages = f.kept.packages;
  map_heads = f.kept.map_heads;
  fragment_heads = f.kept.fragment_heads;
}

-- A record that holds and knows nothing.
abbrev pub fresh_record : Limits → Modes → Options → Record
fresh_record L M o = record {
  limits = L;
  modes = M;
  options = o;
  held_count = 0;
  plt_seen = false;
  package_count = 0;
  map_count = 0;
  fragment_count = 0;
  leading = 0;
  data_set = replicate 1024 0;
  packages = replicate 255 0;
  map_heads = replicate 64 0;
  fragment_heads = replicate 256 0;
}

-- ---- the struct taken apart

-- How much is known as a call begins.
abbrev pub extent_of : Filter → Extent
extent_of f = record { seen = f.seen; package_count = f.package_count; map_count = f.map_count; fragment_count = f.fragment_count; leading = f.leading; lost = 0; news = no_news }

abbrev pub begun_of : Filter → Begun
begun_of f = record { limits = f.limits; modes = f.modes; options = f.options; held_count = f.held_count; extent = extent_of f }

-- The record after a call: its limits and options stay.
abbrev pub handed_of : Begun → CarriedOut → Kept → Filter
handed_of b x kept = record {
  limits = b.limits;
  modes = b.modes;
  options = b.options;
  held_count = x.held_count;
  seen = x.extent.seen;
  package_count = x.extent.package_count;
  map_count = x.extent.map_count;
  fragment_count = x.extent.fragment_count;
  leading = x.extent.leading;
  kept = kept;
}
