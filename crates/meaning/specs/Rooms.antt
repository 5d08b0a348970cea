-- The lent rooms: their ranges, and the packet limit. 01, "Rooms and their ends".
use Rattle.std.specs.Prelude.{ℕ, ◌/◌, min, Bool, ◌&&◌, eqb, leb}

-- The packet limit P of a work room of W bytes.
unfoldable pub packet_limit : ℕ → ℕ
packet_limit W = min 65539 (W / 2)

unfoldable pub good_work_room : ℕ → Bool
good_work_room W = leb 4096 W && leb W 131078

unfoldable pub good_fragment_room : ℕ → ℕ → Bool
good_fragment_room T M = leb 1 T && leb T 16777216 && leb 1 M && leb M T

unfoldable pub good_map_room : ℕ → Bool
good_map_room n = eqb n 32768
