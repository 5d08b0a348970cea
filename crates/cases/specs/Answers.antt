-- The bytes of an answer's head, and what a case asks for: docs/ARCHITECTURE.md, "Format of cases and answers".
use Rattle.std.specs.Prelude.{ℕ, ◌+◌, ◌%◌, cond, List, [], ◌∷◌, ◌++◌, eqb, get_or, Result, Ok, Err, Some, None}
use Rattle.std.proofs.Math.Option.{Option}
use Rattle.meaning.specs.Bytes.{Bytes, be16_at, be32_at, put32}
use Rattle.meaning.specs.Narrow.{Change, change_table, change_payload, change_packet}
use Rattle.meaning.specs.Refusals.{Narrowing, narrowing_number, narrowing_changed, narrowing_length}
use Rattle.meaning.specs.Programs.{is_one, options_of}
use Rattle.meaning.specs.declared.Options.{Options}
use Rattle.meaning.specs.declared.Modes.{Modes}
use Rattle.cases.specs.declared.Head.{Head}
use Rattle.cases.specs.declared.Given.{Given}
use Rattle.cases.specs.declared.CaseKind.{CaseKind}

unfoldable pub changed_flag : Narrowing → ℕ
unfolding narrowing_changed
changed_flag n = cond (narrowing_changed n) 1 0

unfoldable pub three_bytes : ℕ → ℕ → ℕ → Bytes
three_bytes a b c = put32 a ++ (put32 b ++ put32 c)

-- Three counts.
unfoldable pub row_bytes : List ℕ → Bytes
unfolding three_bytes
row_bytes row = three_bytes (get_or row 0 0) (get_or row 1 0) (get_or row 2 0)

unfoldable pub front_bytes : Narrowing → Bytes
front_bytes n = (narrowing_number n ∷ []) ++ ((changed_flag n ∷ []) ++ put32 (narrowing_length n))

unfoldable pub head_bytes : Narrowing → List ℕ → List ℕ → Bytes
head_bytes n stayed went = front_bytes n ++ (row_bytes stayed ++ row_bytes went)

-- The case kind of a number, or the number where there is none.
unfoldable pub kind_of : ℕ → Result CaseKind ℕ
kind_of n =
    cond (eqb n 0) (Ok CaseKind.Stream)
    (cond (eqb n 1) (Ok (CaseKind.Narrowing Given.Table))
    (cond (eqb n 2) (Ok (CaseKind.Narrowing Given.Payload))
    (cond (eqb n 3) (Ok (CaseKind.Narrowing Given.Packet))
    (cond (eqb n 4) (Ok CaseKind.Calls)
    (cond (eqb n 7) (Ok (CaseKind.WithModes Given.Table))
    (cond (eqb n 8) (Ok (CaseKind.WithModes Given.Payload))
    (cond (eqb n 9) (Ok (CaseKind.WithModes Given.Packet))
    (Err n))))))))

-- What a narrowing of a table, a payload or a packet changes; the identifier is read for a payload alone.
abbrev pub change_as : Given → Modes → Options → ℕ → Bytes → Option Change
change_as Given.Table M o id input = change_table o input
change_as Given.Payload M o id input = change_payload o id input
change_as Given.Packet M o id input = change_packet M o input

-- The modes of a byte: bit 0 plain IP.
unfoldable pub modes_of : ℕ → Modes
modes_of bits = record { plain_ip = is_one (bits % 2) }

-- The head of a narrowing: flags or wishes first; from an offset on service, identifier, and the lengths of output and input.
unfoldable pub head_at : Bytes → ℕ → ℕ → Head
unfolding modes_of
head_at s at modes = record { options = options_of (get_or s 0 0) (be16_at s at); modes = modes_of modes; id = be16_at s (at + 2); out = be32_at s (at + 4); input = be32_at s (at + 8) }
