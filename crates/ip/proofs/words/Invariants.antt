use Prim.Native.Nat.{◌+◌, ◌*◌}
use mathlib.Core.Path.{◌≡◌}
use lib.ListN.{drop}
use Rattle.meaning.proofs.ChecksumLaws.{words}
use Rattle.ip.proofs.words.Given as goal

abbrev pub invariant-loop-i : goal.invariant-loop-i
invariant-loop-i l = (l.upper * 256 + l.lower) + words (drop (l.i * 2) l.s) ≡ words l.s
