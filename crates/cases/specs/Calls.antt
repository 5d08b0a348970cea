-- What is read of an operation, and the answer to a question: docs/ARCHITECTURE.md, "Format of cases and answers".
use Rattle.std.specs.Prelude.{ℕ, ◌≤◌, ◌≡◌, [], ◌∷◌, ◌++◌, Option, Some, IfSome}
use Rattle.meaning.specs.Bytes.{Bytes, be32_at, put32}
use Rattle.cases.specs.declared.calls.Lengths.{Lengths}
use Rattle.cases.specs.declared.calls.Next.{Next}

-- The length of the output, then that of the chunk.
unfoldable pub lengths_of : Bytes → Lengths
lengths_of s = record { out = be32_at s 0; chunk = be32_at s 4 }

-- A push fits the output and the room for chunks.
abbrev pub NextFits : Next → Type 0
NextFits (Next.Push l) = (l.out ≤ 262400) × (l.chunk ≤ 131200)
NextFits Next.Dropped = Unit {0}

-- By an operation's number, where it could be read: a push that fits, or a question, which is read with its number.
pub record ReadAs (number : ℕ) (next : Option Next) : Type 0 where
  pub fits : IfSome next NextFits
  pub question : number ≡ 1 → next ≡ Some Next.Dropped

-- The refusal's number, and how many identifiers are dropped.
unfoldable pub dropped_bytes : ℕ → ℕ → Bytes
dropped_bytes number count = (number ∷ []) ++ put32 count
