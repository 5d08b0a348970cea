-- Narrowing: tables, payloads and packets with what is not wanted left out. 01, "Narrowing".
use Rattle.std.specs.Prelude.{ℕ, ◌-◌, Bool, cond, true, false, ◌&&◌, ◌||◌, not, length, take, drop, get_or, eqb, leb, ltb}
use mathlib.Core.List.{List, [], ◌∷◌, ◌++◌, map, flatten}
use Rattle.std.proofs.Math.Option
use Rattle.std.proofs.Math.Option.{Option, none, some}
use Rattle.meaning.specs.Bytes.{Bytes, put16, put32}
use Rattle.meaning.specs.Lists.{keep, all, any, count, is_some}
use Rattle.meaning.specs.Readers.{Out, Walk}
use Rattle.meaning.specs.Mmtp.{Mmtp, mmtp_of, is_signalling}
use Rattle.meaning.specs.Ip.{plain_ip, afresh}
use Rattle.meaning.specs.Messages.{indicator, aggregated, Message, message}
use Rattle.meaning.specs.Tables.{Entry, Mpt, mpt, Package, plt, service_of, Table, table, is_mpt, is_plt, PaHead, pa}
use Rattle.meaning.specs.Wishes.{wanted, wanted_entry}
use Rattle.meaning.specs.declared.Part.{Part}
use Rattle.meaning.specs.declared.Part.TheVariants.{Caption, Carousel, Other}
use Rattle.meaning.specs.declared.Service.{Service}
use Rattle.meaning.specs.declared.Service.TheVariants.{Every, Only}
use Rattle.meaning.specs.declared.Options.{Options}
use Rattle.meaning.specs.declared.Modes.{Modes}

-- ---- an MPT without what is not wanted: the rest stays in order, the count follows

unfoldable pub mpt_body : Bytes → List Entry → Bytes → Bytes
unfolding flatten
mpt_body front es more = front ++ length es ∷ (flatten (map (λ e. e.bytes_of) es) ++ more)

abbrev pub mpt_keeping : Options → Out Mpt → Option Bytes
mpt_keeping o none = none
mpt_keeping o (some (m, more)) =
    cond (all (wanted_entry o) m.entries) none
    (some (mpt_body m.front (keep (wanted_entry o) m.entries) more))

-- The new body, or none where it stays.
unfoldable pub mpt_without : Options → Bytes → Option Bytes
unfolding mpt all keep mpt_body
mpt_without o b = mpt_keeping o (mpt b)

-- ---- a PLT of one service: its last entry stays, at whatever location (learning takes type 0 alone)

unfoldable pub is_service : ℕ → Option ℕ → Bool
is_service s none = false
is_service s (some n) = eqb n s

unfoldable pub last_of : ℕ → List Package → Option Bytes → Option Bytes
unfolding is_service service_of
last_of s [] o = o
last_of s (p ∷ ps) o = last_of s ps (cond (is_service s (service_of p.name)) (some p.bytes_of) o)

abbrev pub plt_keeping : ℕ → Out (List Package) → Option Bytes
plt_keeping s none = none
plt_keeping s (some (ps, more)) = Option.map (λ e. 1 ∷ (e ++ more)) (last_of s ps none)

unfoldable pub plt_only : ℕ → Bytes → Option Bytes
unfolding plt last_of
plt_only s b = plt_keeping s (plt b)

abbrev pub plt_for : Service → Bytes → Option Bytes
plt_for Every b = none
plt_for (Only s) b = plt_only s b

-- ---- a table on a packet identifier: the length follows

-- The new body of a table with this number, or none where it stays.
unfoldable pub new_body : Options → ℕ → ℕ → Bytes → Option Bytes
unfolding is_mpt is_plt mpt_without plt_only
new_body o p number b =
    cond (is_mpt number) (mpt_without o b)
    (cond (is_plt number && eqb p 0) (plt_for o.service b) none)

unfoldable pub table_bytes : Table → Bytes → Bytes
unfolding put16
table_bytes t b = t.number ∷ t.version ∷ put16 (length b) ++ b

-- The new bytes of a table, or none where it stays.
unfoldable pub new_table : Options → ℕ → Table → Option Bytes
unfolding new_body table_bytes
new_table o p t = Option.map (table_bytes t) (new_body o p t.number t.body)

abbrev pub table_from : Options → ℕ → Out Table → Option Bytes
table_from o p none = none
table_from o p (some (t, rest)) = new_table o p t

-- A table alone counts as on identifier 0 and, changed, ends at its own length.
unfoldable pub narrow_table : Options → Bytes → Option Bytes
unfolding table new_table
narrow_table o t = table_from o 0 (table t)

-- ---- the body of a PA message

-- A table as narrowing leaves it.
abbrev pub table_after : Options → ℕ → Table × Bytes → Bytes
table_after o p t = Option.get_or (new_table o p t.0) t.1

abbrev pub table_changes : Options → ℕ → Table × Bytes → Bool
table_changes o p t = is_some (new_table o p t.0)

-- The head's entries take the tables' lengths in order until either runs out; numbers and versions stay.
unfoldable pub relength : List Bytes → List Bytes → List Bytes
unfolding put16
relength [] ts = []
relength (e ∷ es) [] = e ∷ es
relength (e ∷ es) (t ∷ ts) = (take 2 e ++ put16 (length t - 4)) ∷ relength es ts

unfoldable pub pa_bytes : PaHead → List Bytes → Bytes → Bytes
unfolding relength flatten
pa_bytes h ts left = h.count ∷ (flatten (relength h.entries ts) ++ (flatten ts ++ left))

-- A cut table leaves the whole message; else it changes where any table does.
abbrev pub pa_for : Options → ℕ → Option (PaHead × Walk (Table × Bytes)) → Option Bytes
pa_for o p none = none
pa_for o p (some (h, w)) =
    cond (ltb (length w.left) 4 && any (table_changes o p) w.found)
    (some (pa_bytes h (map (table_after o p) w.found) w.left))
    none

unfoldable pub narrow_pa : Options → ℕ → Bytes → Option Bytes
unfolding pa any new_table pa_bytes
narrow_pa o p s = pa_for o p (pa s)

-- ---- a payload with its identifier: a whole, unaggregated PA message

abbrev pub pa_of : Out Message → Option Bytes
pa_of none = none
pa_of (some (m, rest)) = cond (eqb m.number 0) (some m.body) none

-- The body of that message.
unfoldable pub pa_message : Bytes → Option Bytes
unfolding indicator aggregated message
pa_message [] = none
pa_message (flags ∷ []) = none
pa_message (flags ∷ counter ∷ s) = cond (eqb (indicator flags) 0 && eqb (aggregated flags) 0) (pa_of (message s)) none

-- Flags, counter, message number and version stay; the length follows, and bytes after the message go.
unfoldable pub payload_bytes : Bytes → Bytes → Bytes
unfolding put32
payload_bytes s b = take 5 s ++ (put32 (length b) ++ b)

abbrev pub payload_for : Options → ℕ → Bytes → Option Bytes → Option Bytes
payload_for o p s none = none
payload_for o p s (some b) = Option.map (payload_bytes s) (narrow_pa o p b)

unfoldable pub narrow_payload : Options → ℕ → Bytes → Option Bytes
unfolding pa_message narrow_pa payload_bytes
narrow_payload o p s = payload_for o p s (pa_message s)

-- ---- a packet: of its first four bytes only the type is read, and the length follows

-- Whether it may be rewritten: compressed IP by the type of its header, and in that mode plain IP. 02 [2].
unfoldable pub may_rewrite : Modes → Bytes → Mmtp → Bool
unfolding plain_ip
may_rewrite M p m = m.rewritable || (M.plain_ip && plain_ip (get_or p 1 0) (drop 4 p))

-- The packet with another payload: the lengths follow, and in plain IP the checksums.
unfoldable pub packet_bytes : Bytes → Mmtp → Bytes → Bytes
unfolding put16 afresh
packet_bytes p m y =
    let rest = take (length p - length m.payload - 4) (drop 4 p) ++ y in
    take 2 p ++ (put16 (length rest) ++ afresh (get_or p 1 0) rest)

abbrev pub packet_for : Modes → Options → Bytes → Option Mmtp → Option Bytes
packet_for M o p none = none
packet_for M o p (some m) =
    cond (is_signalling m && may_rewrite M p m)
    (Option.map (packet_bytes p m) (narrow_payload o m.identifier m.payload))
    none

unfoldable pub narrow_packet : Modes → Options → Bytes → Option Bytes
unfolding mmtp_of may_rewrite narrow_payload packet_bytes
narrow_packet M o p = packet_for M o p (mmtp_of p)

-- Unchanged, the narrowed packet is the packet itself.
unfoldable pub narrowed_packet : Modes → Options → Bytes → Bytes
unfolding narrow_packet
narrowed_packet M o p = Option.get_or (narrow_packet M o p) p

-- ---- how many entries stayed and how many went: captions, carousels, others, over the readable MPTs

unfoldable pub is_part : Part → Part → Bool
is_part Caption Caption = true
is_part Caption Carousel = false
is_part Caption Other = false
is_part Carousel Caption = false
is_part Carousel Carousel = true
is_part Carousel Other = false
is_part Other Caption = false
is_part Other Carousel = false
is_part Other Other = true

unfoldable pub by_part : List Part → List ℕ
unfolding count is_part
by_part ps = count (is_part Caption) ps ∷ count (is_part Carousel) ps ∷ count (is_part Other) ps ∷ []

unfoldable pub stayed : Options → List Part → List ℕ
unfolding by_part keep
stayed o ps = by_part (keep (wanted o) ps)

unfoldable pub went : Options → List Part → List ℕ
unfolding by_part keep
went o ps = by_part (keep (λ part. not (wanted o part)) ps)

abbrev pub parts_from : Out Mpt → List Part
parts_from none = []
parts_from (some (m, more)) = map (λ e. e.part) m.entries

unfoldable pub table_parts : Table → List Part
unfolding is_mpt mpt
table_parts t = cond (is_mpt t.number) (parts_from (mpt t.body)) []

unfoldable pub tables_parts : List (Table × Bytes) → List Part
unfolding table_parts
tables_parts [] = []
tables_parts (t ∷ ts) = table_parts t.0 ++ tables_parts ts

abbrev pub pa_parts : Option (PaHead × Walk (Table × Bytes)) → List Part
pa_parts none = []
pa_parts (some (h, w)) = tables_parts w.found

-- What a narrowing answers where it changes something.
pub record Change : Type 0 where
  pub out : Bytes
  pub stays : List ℕ
  pub goes : List ℕ

abbrev pub change_of : Options → List Part → Bytes → Change
change_of o ps y = record { out = y; stays = stayed o ps; goes = went o ps }

abbrev pub parts_of_table : Out Table → List Part
parts_of_table none = []
parts_of_table (some (t, rest)) = table_parts t

abbrev pub parts_of_message : Option Bytes → List Part
parts_of_message none = []
parts_of_message (some b) = pa_parts (pa b)

abbrev pub parts_of_packet : Option Mmtp → List Part
parts_of_packet none = []
parts_of_packet (some m) = parts_of_message (pa_message m.payload)

unfoldable pub change_table : Options → Bytes → Option Change
unfolding narrow_table table table_parts stayed went
change_table o t = Option.map (change_of o (parts_of_table (table t))) (narrow_table o t)

unfoldable pub change_payload : Options → ℕ → Bytes → Option Change
unfolding narrow_payload pa_message pa tables_parts stayed went
change_payload o p s = Option.map (change_of o (parts_of_message (pa_message s))) (narrow_payload o p s)

unfoldable pub change_packet : Modes → Options → Bytes → Option Change
unfolding narrow_packet mmtp_of pa_message pa tables_parts stayed went
change_packet M o p = Option.map (change_of o (parts_of_packet (mmtp_of p))) (narrow_packet M o p)

-- ---- refused by the lengths of the input and of the output

unfoldable pub narrow_refusal : ℕ → ℕ → ℕ
narrow_refusal n out_length = cond (leb n 65539) (cond (leb n out_length) 0 6) 5

-- ---- what is answered, by the refusal's number and by what the definition changes: refused or unchanged, nothing

-- The change that is made.
unfoldable pub change_made : ℕ → Option Change → Option Change
change_made number c = cond (eqb number 0) c none

abbrev pub changed_bytes : Option Change → Bytes
changed_bytes none = []
changed_bytes (some c) = c.out

-- No caption, no carousel, no other.
abbrev pub none_of_each : List ℕ
none_of_each = 0 ∷ 0 ∷ 0 ∷ []

abbrev pub stays_of : Option Change → List ℕ
stays_of none = none_of_each
stays_of (some c) = c.stays

abbrev pub goes_of : Option Change → List ℕ
goes_of none = none_of_each
goes_of (some c) = c.goes
