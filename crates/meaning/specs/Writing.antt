-- What it is to write into a lent slice: the bytes before, the bytes written and the bytes after, all fixed.
use Rattle.std.specs.Prelude.{ℕ, ◌+◌, ◌≡◌, ◌++◌, length, take, drop}
use Rattle.meaning.specs.Bytes.{Bytes}

-- y was written at `to` of d, which is d' now; `past` is the offset after it.
pub record Wrote (y d : Bytes) (to : ℕ) (d' : Bytes) (past : ℕ) : Type 0 where
  pub end : past ≡ to + length y
  pub front : take past d' ≡ take to d ++ y
  pub back : drop past d' ≡ drop past d
