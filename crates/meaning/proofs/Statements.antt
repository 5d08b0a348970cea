-- The laws that are quoted most, each in the form in which to quote it. Their proofs are in the files that they cite.
use Prim.Native.Nat.{ℕ, ◌+◌, ◌≤◌}
use mathlib.Core.Path.{◌≡◌, refl}
use mathlib.Core.Bool.{false, not}
use mathlib.Core.List.{List, ◌++◌, Sublistᴰ}
use mathlib.Core.Option.{some}
use native.Mathlib.Omega.{arith}
use lib.ListN.{length}
use Rattle.meaning.specs.Bytes.{Bytes}
use Rattle.meaning.specs.Lists.{keep, count}
use Rattle.meaning.specs.Packets.{cut}
use Rattle.meaning.specs.Tables.{Mpt, mpt, Table, table}
use Rattle.meaning.specs.Wishes.{wanted, wanted_entry, copies_all}
use Rattle.meaning.specs.Narrow.{mpt_body, new_body, table_bytes, narrow_table, narrow_payload, narrow_packet, narrowed_packet, is_part}
use Rattle.meaning.specs.Rooms.{packet_limit}
use Rattle.meaning.specs.Record.{State}
use Rattle.meaning.specs.Push.{push, filtered}
use Rattle.meaning.specs.Less.{Fewer}
use Rattle.meaning.specs.declared.Limits.{Limits}
use Rattle.meaning.specs.declared.Part.{Part}
use Rattle.meaning.specs.declared.Options.{Options}
use Rattle.meaning.specs.declared.Modes.{Modes}
use Rattle.meaning.proofs.ListLaws.{keep_sublist, stay_go}
use Rattle.meaning.proofs.CutLaws.{lengths, byte_equation}
use Rattle.meaning.proofs.TableLaws.{mpt_reads, table_again, table_split, body_narrows, with_body}
use Rattle.meaning.proofs.NarrowLaws.{alone_narrows, payload_narrows, packet_narrows}

-- ---- no byte is lost: held before + chunk = accepted packets' bytes + skipped + held after

pub bytes_add_up : (L : Limits) (M : Modes) (o : Options) (st : State) (chunk : Bytes) → copies_all o ≡ false
    → length st.held + length chunk
    ≡ lengths (cut (packet_limit L.work) (st.held ++ chunk)).packets + (push L M o st chunk).counts.skipped + length (push L M o st chunk).state.held
unfolding push filtered
bytes_add_up L M o st chunk e = rw e (byte_equation (packet_limit L.work) st.held chunk)

-- ---- a narrowed table

pub same_wishes : (o : Options) → Fewer o o
same_wishes o = record { service_same = refl; caption_too = λ e. e; carousel_too = λ e. e; eit_too = λ e. e; other_too = λ e. e }

-- Its entries are those of the old table that are wanted, in order, and its count is their number.
pub entries_are_wanted : (o : Options) (b : Bytes) (m : Mpt) (more : Bytes) → mpt b ≡ some (m, more)
    → (mpt (mpt_body m.front (keep (wanted_entry o) m.entries) more) ≡ some (record { front = m.front; entries = keep (wanted_entry o) m.entries }, more))
    × Sublistᴰ (keep (wanted_entry o) m.entries) m.entries
entries_are_wanted o b m more e = (mpt_reads o b m more e, keep_sublist (wanted_entry o) m.entries)

-- Its length fits its bytes: whatever follows, it reads as itself.
pub length_fits : (o : Options) (p : ℕ) (s more : Bytes) (t : Table) → table s ≡ some (t, more) → (b : Bytes) → new_body o p t.number t.body ≡ some b
    → (rest : Bytes) → table (table_bytes t b ++ rest) ≡ some (with_body t b, rest)
length_fits o p s more t e b q rest =
    let few = (table_split s t more e).few in
    let less = (body_narrows (same_wishes o) p t.number).shorter t.body b q in
    table_again t b rest (omega (arith, few, less))

-- Of each kind, those that stayed and those that went are those that were there.
pub stayed_and_went : (o : Options) (kind : Part) (ps : List Part)
    → count (is_part kind) (keep (wanted o) ps) + count (is_part kind) (keep (λ part. not (wanted o part)) ps) ≡ count (is_part kind) ps
stayed_and_went o kind ps = stay_go (wanted o) (is_part kind) ps

-- ---- narrowing is never longer, and again changes nothing

pub table_shorter : (o : Options) (t y : Bytes) → narrow_table o t ≡ some y → length y ≤ length t
table_shorter o = (alone_narrows (same_wishes o)).shorter

pub payload_shorter : (o : Options) (p : ℕ) (s y : Bytes) → narrow_payload o p s ≡ some y → length y ≤ length s
payload_shorter o p = (payload_narrows (same_wishes o) p).shorter

pub packet_shorter : (M : Modes) (o : Options) (p y : Bytes) → narrow_packet M o p ≡ some y → length y ≤ length p
packet_shorter M o = (packet_narrows M (same_wishes o)).shorter

-- Changed or not, a narrowed packet stays as it is under the same wishes.
pub narrowed_stays : (M : Modes) (o : Options) (p : Bytes) → narrowed_packet M o (narrowed_packet M o p) ≡ narrowed_packet M o p
unfolding narrowed_packet
narrowed_stays M o p = (packet_narrows M (same_wishes o)).twice p

-- ---- by more wishes and then by fewer is by the fewer

pub narrowed_by_fewer : (M : Modes) (o₁ o₂ : Options) → Fewer o₁ o₂ → (p : Bytes) → narrowed_packet M o₁ (narrowed_packet M o₂ p) ≡ narrowed_packet M o₁ p
unfolding narrowed_packet
narrowed_by_fewer M o₁ o₂ f p = (packet_narrows M f).twice p
