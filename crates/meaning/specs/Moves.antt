-- Each byte at most once (02, [3]): for one incoming body the fragment room changes by at most three moves of blocks, all out of what was
-- there before, the room followed by the body. Of those bytes none is moved twice, and no byte of the room is written twice.
use Rattle.std.specs.Prelude.{ℕ, ◌+◌, ◌≤◌, ◌≡◌, Bool, cond, ◌&&◌, List, [], ◌∷◌, ◌++◌, length, take, drop, leb, ltb}
use Rattle.meaning.specs.Bytes.{Bytes}
use Rattle.meaning.specs.Learn.{over}

-- So many bytes, from an offset to an offset.
pub record Move : Type 0 where
  pub from : ℕ
  pub count : ℕ
  pub to : ℕ

-- The room after moves out of s.
unfoldable pub moved_out : Bytes → List Move → Bytes → Bytes
unfolding over
moved_out s [] room = room
moved_out s (m ∷ ms) room = moved_out s ms (over room m.to (take m.count (drop m.from s)))

-- Whether i is one of n offsets from a on.
unfoldable pub among : ℕ → ℕ → ℕ → Bool
among i a n = leb a i && ltb i (a + n)

-- How many of the moves take byte i of their source, and how many write byte i of the room.
unfoldable pub taken_by : List Move → ℕ → ℕ
unfolding among
taken_by [] i = 0
taken_by (m ∷ ms) i = cond (among i m.from m.count) 1 0 + taken_by ms i

unfoldable pub written_by : List Move → ℕ → ℕ
unfolding among
written_by [] i = 0
written_by (m ∷ ms) i = cond (among i m.to m.count) 1 0 + written_by ms i

-- Each move lies inside a source of m bytes and inside a room of n.
abbrev pub AllInside : ℕ → ℕ → List Move → Type 0
AllInside m n [] = Unit {0}
AllInside m n (x ∷ xs) = (x.from + x.count ≤ m) × (x.to + x.count ≤ n) × AllInside m n xs

-- What became of a room for one incoming body.
pub record MovedOnce (room body room' : Bytes) : Type 0 where
  pub moves : List Move
  pub is : room' ≡ moved_out (room ++ body) moves room
  pub few : length moves ≤ 3
  pub inside : AllInside (length room + length body) (length room) moves
  pub taken_once : (i : ℕ) → taken_by moves i ≤ 1
  pub written_once : (i : ℕ) → written_by moves i ≤ 1
