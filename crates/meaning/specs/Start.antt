-- A start: nothing is held and nothing known. 01, "Rooms and their ends", "Refusal numbers".
use Rattle.std.specs.Prelude.{ℕ, cond, false, List, [], length, replicate, eqb}
use Rattle.meaning.specs.Sets.{Words}
use Rattle.meaning.specs.Wishes.{wants_assets, all_off}
use Rattle.meaning.specs.Rooms.{good_work_room, good_fragment_room, good_map_room}
use Rattle.meaning.specs.Record.{State, Record, record_of}
use Rattle.meaning.specs.Calls.{counts_of, Called}
use Rattle.meaning.specs.declared.Service.TheVariants.{Every}
use Rattle.meaning.specs.declared.Options.{Options}
use Rattle.meaning.specs.declared.Modes.{Modes}
use Rattle.meaning.specs.declared.Limits.{Limits}

unfoldable pub no_words : Words
no_words = replicate 1024 0

unfoldable pub fresh : List ℕ → State
unfolding no_words
fresh map_room = record {
  held = [];
  known = record { plt_seen = false; packages = []; map_heads = []; map_room = map_room; data_set = no_words; fragments = [] };
}

-- Of a start: W, T, M, the length of the map room, and the wishes.
unfoldable pub start_refusal : ℕ → ℕ → ℕ → ℕ → Options → ℕ
unfolding good_work_room good_fragment_room good_map_room wants_assets
start_refusal W T M n o = cond (good_work_room W) (cond (good_fragment_room T M) (cond (good_map_room n) (cond (wants_assets o) 0 9) 3) 2) 1

-- All zero: what a refused start hands back. It is unsound, so it can be used for nothing.
unfoldable pub blank : Record
unfolding no_words
blank = record {
  limits = record { work = 0; total = 0; most = 0 };
  modes = all_off;
  options = record { service = Every; caption = false; carousel = false; eit = false; other = false };
  held_count = 0;
  plt_seen = false;
  package_count = 0;
  map_count = 0;
  fragment_count = 0;
  leading = 0;
  data_set = no_words;
  packages = replicate 255 0;
  map_heads = replicate 64 0;
  fragment_heads = replicate 256 0;
}

-- A start reads the lengths of the rooms.
unfoldable pub started : Limits → Modes → Options → List ℕ → Called
unfolding start_refusal record_of fresh blank
started L M o map_room =
    let x = start_refusal L.work L.total L.most (length map_room) o in
    record { number = x; out = []; counts = counts_of 0; handed = cond (eqb x 0) (record_of L M o 0 (fresh map_room)) blank }
