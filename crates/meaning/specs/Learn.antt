-- What is learned from packets, and how: 01, "What is learned". No wish comes in.
use Rattle.std.specs.Prelude.{ℕ, ◌+◌, ◌*◌, ◌%◌, zero, suc, Bool, cond, true, ◌&&◌, not, List, [], ◌∷◌, ◌++◌, map, length, take, drop, eqb, leb, ltb}
use Rattle.std.proofs.Math.Option.{Option, none, some}
use Rattle.meaning.specs.Bytes.{Bytes}
use Rattle.meaning.specs.Sets.{Words, in_set, with_id}
use Rattle.meaning.specs.Lists.{keep, sum}
use Rattle.meaning.specs.Readers.{Out, Walk}
use Rattle.meaning.specs.Mmtp.{Mmtp, mmtp_of, is_signalling}
use Rattle.meaning.specs.Messages.{indicator, Message, messages}
use Rattle.meaning.specs.Tables.{kind_number, kind_of, Entry, Mpt, mpt, Package, plt, service_of, Table, is_mpt, is_plt, PaHead, pa}
use Rattle.meaning.specs.declared.Part.{Part}
use Rattle.meaning.specs.declared.Limits.{Limits}

-- ---- what is known

-- A message that has begun: its identifier, its flags and the bodies so far. A first's flags are the low six bits of its first byte; in a
-- record that is handed in they may be any byte.
pub record Fragment : Type 0 where
  pub identifier : ℕ
  pub flags : ℕ
  pub body : Bytes

pub record Known : Type 0 where
  pub plt_seen : Bool
  -- service and MPT identifier, services rising
  pub packages : List (ℕ × ℕ)
  -- MPT identifier and number of assets, in the order of their places in the map room
  pub map_heads : List (ℕ × ℕ)
  -- the numbers of the map room
  pub map_room : List ℕ
  -- the data-carousel identifiers
  pub data_set : Words
  pub fragments : List Fragment

-- What is known, and how many maps were lost on the way.
pub record Learnt : Type 0 where
  pub known : Known
  pub lost : ℕ

abbrev pub learnt : Known → Learnt
learnt k = record { known = k; lost = 0 }

-- ---- the map room: place i is its numbers 512 i to 512 i + 511, an asset two of them

abbrev pub Listed : Type 0
Listed = List (ℕ × Part)

-- n assets from the front of a place.
unfoldable pub assets_in : ℕ → List ℕ → Listed
unfolding kind_of
assets_in zero ns = []
assets_in (suc n) [] = []
assets_in (suc n) (p ∷ []) = []
assets_in (suc n) (p ∷ k ∷ ns) = (p, kind_of k) ∷ assets_in n ns

unfoldable pub asset_numbers : Listed → List ℕ
unfolding kind_number
asset_numbers [] = []
asset_numbers ((p, part) ∷ as') = p ∷ kind_number part ∷ asset_numbers as'

-- All lists, each with its MPT's identifier.
unfoldable pub lists_in : List (ℕ × ℕ) → List ℕ → List (ℕ × Listed)
unfolding assets_in
lists_in [] map_room = []
lists_in ((p, n) ∷ ms) map_room = (p, assets_in n map_room) ∷ lists_in ms (drop 512 map_room)

unfoldable pub lists : Known → List (ℕ × Listed)
unfolding lists_in
lists k = lists_in k.map_heads k.map_room

-- Numbers written over those of the map room from one on.
unfoldable pub over : List ℕ → ℕ → List ℕ → List ℕ
over map_room at ns = take at map_room ++ (ns ++ drop (at + length ns) map_room)

-- The place of an identifier's list: where it stands, or the first that is free.
unfoldable pub place_for : ℕ → List (ℕ × ℕ) → ℕ
place_for p [] = 0
place_for p (m ∷ ms) = cond (eqb m.0 p) 0 (suc (place_for p ms))

-- ---- an MPT: its list takes the place of the identifier's; with 64 others held it is lost

-- An asset with no identifier is not listed.
abbrev pub list_asset : Option ℕ → Part → Listed → Listed
list_asset none part as' = as'
list_asset (some p) part as' = (p, part) ∷ as'

unfoldable pub listed : List Entry → Listed
listed [] = []
listed (e ∷ es) = list_asset e.carrier e.part (listed es)

unfoldable pub with_list : ℕ → Listed → Known → ℕ → Known
unfolding over asset_numbers
with_list p as' k i = record {
  plt_seen = k.plt_seen;
  packages = k.packages;
  map_heads = take i k.map_heads ++ ((p, length as') ∷ drop (suc i) k.map_heads);
  map_room = over k.map_room (512 * i) (asset_numbers as');
  data_set = k.data_set;
  fragments = k.fragments;
}

abbrev pub mpt_from : ℕ → Out Mpt → Known → Learnt
mpt_from p none k = learnt k
mpt_from p (some (m, more)) k =
    cond (ltb (place_for p k.map_heads) 64)
    (learnt (with_list p (listed m.entries) k (place_for p k.map_heads)))
    (record { known = k; lost = 1 })

unfoldable pub learn_mpt : ℕ → Bytes → Known → Learnt
unfolding mpt place_for with_list listed
learn_mpt p b k = mpt_from p (mpt b) k

-- ---- a PLT: the packages with a service and a type 0 location, the last of a repeated service

unfoldable pub insert_package : ℕ → ℕ → List (ℕ × ℕ) → List (ℕ × ℕ)
insert_package s p [] = (s, p) ∷ []
insert_package s p (q ∷ qs) =
    cond (ltb s q.0) ((s, p) ∷ q ∷ qs)
    (cond (eqb s q.0) ((s, p) ∷ qs) (q ∷ insert_package s p qs))

abbrev pub add_package : Option ℕ → Option ℕ → List (ℕ × ℕ) → List (ℕ × ℕ)
add_package none o ps = ps
add_package (some s) none ps = ps
add_package (some s) (some p) ps = insert_package s p ps

unfoldable pub packages_in : List Package → List (ℕ × ℕ) → List (ℕ × ℕ)
unfolding service_of insert_package
packages_in [] ps = ps
packages_in (x ∷ xs) ps = packages_in xs (add_package (service_of x.name) x.carrier ps)

abbrev pub with_packages : List (ℕ × ℕ) → Known → Known
with_packages ps k = record {
  plt_seen = true;
  packages = ps;
  map_heads = k.map_heads;
  map_room = k.map_room;
  data_set = k.data_set;
  fragments = k.fragments;
}

abbrev pub plt_from : Out (List Package) → Known → Known
plt_from none k = k
plt_from (some (xs, more)) k = with_packages (packages_in xs []) k

unfoldable pub learn_plt : Bytes → Known → Known
unfolding plt packages_in
learn_plt b k = plt_from (plt b) k

-- ---- tables and messages in order

unfoldable pub learn_table : ℕ → Table → Known → Learnt
unfolding is_plt is_mpt learn_plt learn_mpt
learn_table p t k =
    cond (is_plt t.number && eqb p 0) (learnt (learn_plt t.body k))
    (cond (is_mpt t.number) (learn_mpt p t.body k) (learnt k))

abbrev pub and_lost : ℕ → Learnt → Learnt
and_lost n l = record { known = l.known; lost = n + l.lost }

unfoldable pub learn_tables : ℕ → List (Table × Bytes) → Known → Learnt
unfolding learn_table
learn_tables p [] k = learnt k
learn_tables p (t ∷ ts) k = let l = learn_table p t.0 k in and_lost l.lost (learn_tables p ts l.known)

abbrev pub pa_tables : Option (PaHead × Walk (Table × Bytes)) → List (Table × Bytes)
pa_tables none = []
pa_tables (some (h, w)) = w.found

abbrev pub with_data : ℕ → Known → Known
with_data p k = record {
  plt_seen = k.plt_seen;
  packages = k.packages;
  map_heads = k.map_heads;
  map_room = k.map_room;
  data_set = with_id k.data_set p;
  fragments = k.fragments;
}

-- Message 0 is a PA message, 0x8003 makes its identifier a data-carousel one.
unfoldable pub learn_message : ℕ → Message → Known → Learnt
unfolding learn_tables pa with_id
learn_message p m k =
    cond (eqb m.number 0) (learn_tables p (pa_tables (pa m.body)) k)
    (cond (eqb m.number 0x8003) (learnt (with_data p k)) (learnt k))

unfoldable pub learn_messages : ℕ → List Message → Known → Learnt
unfolding learn_message
learn_messages p [] k = learnt k
learn_messages p (m ∷ ms) k = let l = learn_message p m k in and_lost l.lost (learn_messages p ms l.known)

-- ---- fragments

abbrev pub with_fragments : List Fragment → Known → Known
with_fragments fs k = record {
  plt_seen = k.plt_seen;
  packages = k.packages;
  map_heads = k.map_heads;
  map_room = k.map_room;
  data_set = k.data_set;
  fragments = fs;
}

unfoldable pub is_of : ℕ → Fragment → Bool
is_of p f = eqb f.identifier p

unfoldable pub without : ℕ → List Fragment → List Fragment
unfolding keep is_of
without p fs = keep (λ f. not (is_of p f)) fs

unfoldable pub fragment_bytes : List Fragment → ℕ
unfolding sum
fragment_bytes fs = sum (map (λ f. length f.body) fs)

unfoldable pub fragment_of : ℕ → List Fragment → Option Fragment
unfolding is_of
fragment_of p [] = none
fragment_of p (f ∷ fs) = cond (is_of p f) (some f) (fragment_of p fs)

abbrev pub grown : Fragment → Bytes → Fragment
grown f b = record { identifier = f.identifier; flags = f.flags; body = f.body ++ b }

unfoldable pub grow_in : ℕ → Bytes → List Fragment → List Fragment
unfolding is_of
grow_in p b [] = []
grow_in p b (f ∷ fs) = cond (is_of p f) (grown f b ∷ fs) (f ∷ grow_in p b fs)

-- A first drops what was held of its identifier, then is held if fewer than 256 others are and there is room. M is not tested.
unfoldable pub hold_first : Limits → ℕ → ℕ → Bytes → List Fragment → List Fragment
unfolding without fragment_bytes
hold_first L p flags b fs =
    let others = without p fs in
    cond (ltb (length others) 256 && leb (fragment_bytes others + length b) L.total)
    (others ++ (record { identifier = p; flags = flags % 64; body = b } ∷ []))
    others

-- Whether a body keeps the fragment within M and all within T; a middle or last that does not discards the fragment.
unfoldable pub fits : Limits → Fragment → Bytes → List Fragment → Bool
unfolding fragment_bytes
fits L f b fs = leb (length f.body + length b) L.most && leb (fragment_bytes fs + length b) L.total

abbrev pub middle_of : Option Fragment → Limits → ℕ → Bytes → List Fragment → List Fragment
middle_of none L p b fs = fs
middle_of (some f) L p b fs = cond (fits L f b fs) (grow_in p b fs) (without p fs)

unfoldable pub middle : Limits → ℕ → Bytes → List Fragment → List Fragment
unfolding fragment_of fits grow_in without
middle L p b fs = middle_of (fragment_of p fs) L p b fs

-- A last gives the fragment's room back; the joined message has the first's flags and 0 as its two bytes.
unfoldable pub joined : Fragment → Bytes → Bytes
joined f b = f.flags ∷ 0 ∷ (f.body ++ b)

abbrev pub last_for : Option Fragment → Limits → ℕ → Bytes → Known → Learnt
last_for none L p b k = learnt k
last_for (some f) L p b k =
    cond (fits L f b k.fragments)
    (learn_messages p (messages (joined f b)) (with_fragments (without p k.fragments) k))
    (learnt (with_fragments (without p k.fragments) k))

unfoldable pub last : Limits → ℕ → Bytes → Known → Learnt
unfolding fragment_of fits without learn_messages messages joined
last L p b k = last_for (fragment_of p k.fragments) L p b k

-- ---- a payload, by the top two bits of its first byte; its body is the bytes from 2 on

abbrev pub by_indicator : ℕ → Limits → ℕ → ℕ → Bytes → Known → Learnt
by_indicator zero L p flags s k = learn_messages p (messages (flags ∷ s)) (with_fragments (without p k.fragments) k)
by_indicator (suc zero) L p flags s k = learnt (with_fragments (hold_first L p flags (drop 1 s) k.fragments) k)
by_indicator (suc (suc zero)) L p flags s k = learnt (with_fragments (middle L p (drop 1 s) k.fragments) k)
by_indicator (suc (suc (suc n))) L p flags s k = last L p (drop 1 s) k

unfoldable pub observe : Limits → ℕ → Bytes → Known → Learnt
unfolding in_set indicator hold_first middle last learn_messages messages without
observe L p [] k = learnt k
observe L p (flags ∷ s) k = cond (in_set k.data_set p) (learnt k) (by_indicator (indicator flags) L p flags s k)

-- ---- a packet: only signalling is observed

abbrev pub learn_from : Limits → Option Mmtp → Known → Learnt
learn_from L none k = learnt k
learn_from L (some m) k = cond (is_signalling m) (observe L m.identifier m.payload k) (learnt k)

unfoldable pub learn : Limits → Known → Bytes → Learnt
unfolding mmtp_of observe in_set
learn L k p = learn_from L (mmtp_of p) k
