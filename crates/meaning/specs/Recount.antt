-- What is recounted by hand: packets, tables, entries, counts and lengths from the bytes that were written, by the readers alone and with no
-- look at how the bytes were made; maps lost from the packets that came. That narrowing and push keep to it is proved (proofs/SizeLaws,
-- RecountLaws, LostLaws).
use Rattle.std.specs.Prelude.{ℕ, zero, suc, ◌+◌, ◌-◌, ◌%◌, ◌<◌, ◌≡◌, cond, true, false, ◌&&◌, get_or, length, take, drop, eqb, ltb}
use mathlib.Core.List.{List, [], ◌∷◌, ◌++◌, map, flatten, flat_map, filter_map, zip_with, Memᴰ, Sublistᴰ, Forall₂}
use Rattle.std.proofs.Math.Option
use Rattle.std.proofs.Math.Option.{Option, none, some}
use Rattle.meaning.specs.Bytes.{Bytes, be16_at, be32_at}
use Rattle.meaning.specs.Sets.{in_set}
use Rattle.meaning.specs.Lists.{keep, any, count, is_some}
use Rattle.meaning.specs.Readers.{Out, Reader, bytes, Walk, walk}
use Rattle.meaning.specs.Packets.{size_of}
use Rattle.meaning.specs.Mmtp.{Mmtp, mmtp_of, is_signalling}
use Rattle.meaning.specs.Checksums.{ones_sum, all_ones}
use Rattle.meaning.specs.Ip.{header_length, udp_checksum, plain_ip, pseudo4, pseudo6, afresh}
use Rattle.meaning.specs.Messages.{indicator, Message, messages}
use Rattle.meaning.specs.Tables.{Mpt, mpt, Package, plt, service_of, Table, table, is_mpt, is_plt, PaHead, pa}
use Rattle.meaning.specs.Wishes.{wanted_entry}
use Rattle.meaning.specs.Narrow.{is_service, pa_message, narrow_packet, narrowed_packet, by_part, Change}
use Rattle.meaning.specs.Learn.{Fragment, Known, Listed, lists, pa_tables, fragment_of, fits, joined, learn}
use Rattle.meaning.specs.Rules.{list_of}
use Rattle.meaning.specs.declared.Limits.{Limits}
use Rattle.meaning.specs.declared.Part.{Part}
use Rattle.meaning.specs.declared.Service.{Service}
use Rattle.meaning.specs.declared.Service.TheVariants.{Every, Only}
use Rattle.meaning.specs.declared.Options.{Options}
use Rattle.meaning.specs.declared.Modes.{Modes}

-- ---- packets one after the other

-- One packet, as long as its head says. Fewer than four bytes have none: a packet has four at least.
unfoldable pub packet : Reader Bytes
unfolding size_of bytes
packet s = bytes (size_of s) s

unfoldable pub packets_of : Bytes → List Bytes
unfolding packet walk
packets_of y = (walk packet y).found

-- Each is as long as its head says.
abbrev pub Sized : List Bytes → Type 0
Sized ps = (p : Bytes) → Memᴰ p ps → size_of p ≡ length p

-- ---- the entries of a table

-- The number of eight bits that stands at an offset.
unfoldable pub u8_at : Bytes → ℕ → ℕ
u8_at s at = get_or s at 0 % 256

-- What a table that is a readable MPT holds, with the bytes behind its last entry.
unfoldable pub mpt_in : Table → Out Mpt
unfolding is_mpt mpt
mpt_in t = cond (is_mpt t.number) (mpt t.body) none

-- It, with its wanted entries alone.
abbrev pub only : Options → Mpt × Bytes → Mpt × Bytes
only o (m, more) = (record { front = m.front; entries = keep (wanted_entry o) m.entries }, more)

-- The packages of a table that is a readable PLT, on packet identifier p: 0 alone has PLTs.
unfoldable pub plt_in : ℕ → Table → Out (List Package)
unfolding is_plt plt
plt_in p t = cond (is_plt t.number && eqb p 0) (plt t.body) none

-- The last, alone; of none, all those that there were.
unfoldable pub last_alone : List Package → List Package → List Package
last_alone [] all = all
last_alone (p ∷ []) all = p ∷ []
last_alone (p ∷ q ∷ ps) all = last_alone (q ∷ ps) all

-- A PLT with the last package of the named service alone.
abbrev pub only_for : Service → List Package × Bytes → List Package × Bytes
only_for Every x = x
only_for (Only s) (ps, more) = (last_alone (keep (λ p. is_service s (service_of p.name)) ps) ps, more)

-- ---- a table on packet identifier p, as it was and as it became, each with its bytes

pub record TableRecounted (o : Options) (p : ℕ) (x y : Table × Bytes) : Type 0 where
  pub number_stays : y.0.number ≡ x.0.number
  pub version_stays : y.0.version ≡ x.0.version
  -- number, version, a length of two bytes, and as many bytes as that says
  pub laid_out : y.1 ≡ y.0.number ∷ y.0.version ∷ get_or y.1 2 0 ∷ get_or y.1 3 0 ∷ y.0.body
  pub length_fits : be16_at y.1 2 ≡ length y.0.body
  -- an MPT: the wanted entries in order, one after the other behind a count that is their number; what follows them stays
  pub mpt_is : mpt_in y.0 ≡ Option.map (only o) (mpt_in x.0)
  pub mpt_laid_out : (m : Mpt) (more : Bytes) → mpt_in y.0 ≡ some (m, more)
      → y.0.body ≡ m.front ++ get_or y.0.body (length m.front) 0 ∷ (flatten (map (λ e. e.bytes_of) m.entries) ++ more)
  pub mpt_count_fits : (m : Mpt) (more : Bytes) → mpt_in y.0 ≡ some (m, more) → u8_at y.0.body (length m.front) ≡ length m.entries
  -- a PLT: the last package of the service, behind a count that is the number of packages
  pub plt_is : plt_in p y.0 ≡ Option.map (only_for o.service) (plt_in p x.0)
  pub plt_laid_out : (ps : List Package) (more : Bytes) → plt_in p y.0 ≡ some (ps, more)
      → y.0.body ≡ get_or y.0.body 0 0 ∷ (flatten (map (λ k. k.bytes_of) ps) ++ more)
  pub plt_count_fits : (ps : List Package) (more : Bytes) → plt_in p y.0 ≡ some (ps, more) → u8_at y.0.body 0 ≡ length ps
  -- any other table, and one that does not read, stays byte for byte
  pub other_stays : mpt_in x.0 ≡ none → plt_in p x.0 ≡ none → y ≡ x

-- ---- all tables: the entries of their MPTs, and how many of each kind stayed and went

unfoldable pub mpts_in : List (Table × Bytes) → List (Mpt × Bytes)
unfolding filter_map mpt_in
mpts_in ts = filter_map (λ t. mpt_in t.0) ts

-- The kind of each entry.
unfoldable pub kinds_in : List (Mpt × Bytes) → List Part
unfolding flat_map
kinds_in ms = flat_map (λ m. map (λ e. e.part) m.0.entries) ms

pub record Recounted (o : Options) (p : ℕ) (xs ys : List (Table × Bytes)) (stays goes : List ℕ) : Type 0 where
  -- as many tables in the same order
  pub tables_are : Forall₂ (TableRecounted o p) xs ys
  pub mpts_are : mpts_in ys ≡ map (only o) (mpts_in xs)
  -- those that stayed are those in the output; with those that went they are those in the input
  pub stays_are : stays ≡ by_part (kinds_in (mpts_in ys))
  pub all_are : zip_with ◌+◌ stays goes ≡ by_part (kinds_in (mpts_in xs))

-- ---- a table alone, a payload, a packet: what was read of it, and what is read of the output

pub record TableAlone (o : Options) (t : Bytes) (c : Change) : Type 0 where
  pub before : Table
  pub rest : Bytes
  pub reads_before : table t ≡ some (before, rest)
  pub after : Table
  -- it ends at its own length
  pub reads_after : table c.out ≡ some (after, [])
  pub recounted : Recounted o 0 ((before, take (length t - length rest) t) ∷ []) ((after, c.out) ∷ []) c.stays c.goes

abbrev pub pa_within : Option Bytes → Option (PaHead × Walk (Table × Bytes))
pa_within none = none
pa_within (some b) = pa b

-- The head and the tables of a payload's whole, unaggregated PA message.
unfoldable pub pa_in : Bytes → Option (PaHead × Walk (Table × Bytes))
unfolding pa_message pa
pa_in s = pa_within (pa_message s)

abbrev pub mpts_within : Option (PaHead × Walk (Table × Bytes)) → List (Mpt × Bytes)
mpts_within none = []
mpts_within (some (h, w)) = mpts_in w.found

-- The MPTs of that message.
unfoldable pub mpts_of : Bytes → List (Mpt × Bytes)
unfolding pa_in mpts_in
mpts_of s = mpts_within (pa_in s)

pub record PayloadRecounted (o : Options) (p : ℕ) (s y : Bytes) (stays goes : List ℕ) : Type 0 where
  pub head_before : PaHead
  pub before : Walk (Table × Bytes)
  pub reads_before : pa_in s ≡ some (head_before, before)
  pub head_after : PaHead
  pub after : Walk (Table × Bytes)
  pub reads_after : pa_in y ≡ some (head_after, after)
  -- flags, counter, message number and version stay; then a length of four bytes, and as many bytes as that says
  pub front_stays : take 5 y ≡ take 5 s
  pub length_fits : be32_at y 5 ≡ length (drop 9 y)
  -- these are the count of head entries, the entries, the tables, and what was left behind them, fewer bytes than a table's head has
  pub laid_out : drop 9 y ≡ head_after.count ∷ (flatten head_after.entries ++ (flatten (map (λ t. t.1) after.found) ++ after.left))
  pub count_fits : head_after.count % 256 ≡ length head_after.entries
  pub count_stays : head_after.count ≡ head_before.count
  pub left_short : length after.left < 4
  pub left_stays : after.left ≡ before.left
  -- of each head entry number and version stay, and its length is its table's, as far as both go; entries past the tables stay
  pub heads_stay : map (take 2) head_after.entries ≡ map (take 2) head_before.entries
  pub heads_fit : take (length after.found) (map (λ e. be16_at e 2) head_after.entries)
      ≡ take (length head_after.entries) (map (λ t. length t.0.body) after.found)
  pub heads_past : drop (length after.found) head_after.entries ≡ drop (length after.found) head_before.entries
  pub recounted : Recounted o p before.found after.found stays goes

-- A TLV payload of plain IP, as it was and as it became: what a receiver tests.
pub record PlainRecounted (type : ℕ) (s t : Bytes) : Type 0 where
  -- the lengths of IP and UDP are those of the payload and of what follows the IP header
  pub lengths_agree : plain_ip type t ≡ true
  pub header_right : eqb type 0x01 ≡ true → ones_sum (take (header_length t) t) ≡ all_ones
  -- in IPv4 there is a UDP checksum exactly if there was one
  pub none_stays : eqb type 0x01 ≡ true → eqb (udp_checksum (header_length t) t) 0 ≡ eqb (udp_checksum (header_length s) s) 0
  pub udp_right_4 : eqb type 0x01 ≡ true → eqb (udp_checksum (header_length t) t) 0 ≡ false
      → ones_sum (pseudo4 (header_length t) t ++ drop (header_length t) t) ≡ all_ones
  pub udp_right_6 : eqb type 0x02 ≡ true → ones_sum (pseudo6 t ++ drop 40 t) ≡ all_ones

pub record PacketRecounted (o : Options) (p : Bytes) (c : Change) : Type 0 where
  pub before : Mmtp
  pub reads_before : mmtp_of p ≡ some before
  pub after : Mmtp
  pub reads_after : mmtp_of c.out ≡ some after
  pub identifier_stays : after.identifier ≡ before.identifier
  -- the first byte and the type stay; then a length of two bytes, and as many bytes as that says: those before the payload, and the payload
  pub front_stays : take 2 c.out ≡ take 2 p
  pub length_fits : be16_at c.out 2 ≡ length (drop 4 c.out)
  -- those before stay, but for the lengths and checksums of plain IP, which are right
  pub laid_out : drop 4 c.out ≡ afresh (get_or p 1 0) (take (length p - length before.payload - 4) (drop 4 p) ++ after.payload)
  pub plain_right : before.rewritable ≡ false → PlainRecounted (get_or p 1 0) (drop 4 p) (drop 4 c.out)
  pub recounted : PayloadRecounted o before.identifier before.payload after.payload c.stays c.goes

-- ---- the packets of a run, those written of them, and how many of these were rewritten

pub record Written (M : Modes) (o : Options) (packets out : List Bytes) (rewritten : ℕ) : Type 0 where
  pub from : List Bytes
  pub some_of : Sublistᴰ from packets
  pub narrowed : out ≡ map (narrowed_packet M o) from
  pub rewritten_are : rewritten ≡ count (λ p. is_some (narrow_packet M o p)) from

-- ---- MPTs that are learned from: each is kept, or counted as lost

-- Its list is held from then on, and each other list as before.
pub record ListKept (p : ℕ) (as' : Listed) (k k' : Known) : Type 0 where
  pub held : list_of p (lists k') ≡ some as'
  pub others_stay : (q : ℕ) → eqb q p ≡ false → list_of q (lists k') ≡ list_of q (lists k)

-- 64 lists are held and none is its identifier's; nothing changes.
pub record ListLost (p : ℕ) (k k' : Known) : Type 0 where
  pub not_held : list_of p (lists k) ≡ none
  pub no_place : length (lists k) ≡ 64
  pub same : k' ≡ k

-- ---- maps lost in a run: the identifiers on which readable MPTs come, in order, and how many of them find no place

-- The messages that a last joins.
abbrev pub joined_messages : Option Fragment → Limits → Bytes → List Fragment → List Message
joined_messages none L b fs = []
joined_messages (some f) L b fs = cond (fits L f b fs) (messages (joined f b)) []

-- By the top two bits of a payload's first byte: a whole has its own messages, a last those that it joins.
abbrev pub messages_by : ℕ → Limits → ℕ → Bytes → Known → List Message
messages_by zero L p s k = messages s
messages_by (suc zero) L p s k = []
messages_by (suc (suc zero)) L p s k = []
messages_by (suc (suc (suc n))) L p s k = joined_messages (fragment_of p k.fragments) L (drop 2 s) k.fragments

-- The messages that a payload on identifier p completes; none on an identifier of the data set.
unfoldable pub observed_messages : Limits → ℕ → Bytes → Known → List Message
unfolding in_set indicator messages fragment_of fits joined
observed_messages L p [] k = []
observed_messages L p (flags ∷ s) k = cond (in_set k.data_set p) [] (messages_by (indicator flags) L p (flags ∷ s) k)

-- The identifier, once for each readable MPT in PA messages.
unfoldable pub mpt_identifiers : ℕ → List Message → List ℕ
unfolding flat_map mpts_in pa
mpt_identifiers p ms = flat_map (λ m. cond (eqb m.number 0) (map (λ x. p) (mpts_in (pa_tables (pa m.body)))) []) ms

abbrev pub identifiers_from : Limits → Option Mmtp → Known → List ℕ
identifiers_from L none k = []
identifiers_from L (some m) k = cond (is_signalling m) (mpt_identifiers m.identifier (observed_messages L m.identifier m.payload k)) []

-- Those of packets in order.
unfoldable pub observed_mpts : Limits → Known → List Bytes → List ℕ
unfolding mmtp_of learn observed_messages mpt_identifiers
observed_mpts L k [] = []
observed_mpts L k (p ∷ ps) = identifiers_from L (mmtp_of p) k ++ observed_mpts L (learn L k p).known ps

-- How many find no place: an identifier that has none takes one of 64, while there is one.
unfoldable pub lost_of : List ℕ → List ℕ → ℕ
unfolding any
lost_of held [] = 0
lost_of held (p ∷ ps) =
    cond (any (λ q. eqb q p) held) (lost_of held ps)
    (cond (ltb (length held) 64) (lost_of (held ++ (p ∷ [])) ps) (suc (lost_of held ps)))
