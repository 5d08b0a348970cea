-- Outputs, counts and what is learned depend on the map lists and not on the spare numbers of the map room: two states that differ in
-- these alone answer alike, call after call. Rests on SoundnessKept.
use Prim.Native.Nat.{ℕ, zero, suc, ◌+◌, ◌-◌, ◌*◌, ◌≤◌, ◌<◌}
use mathlib.Core.Path.{◌≡◌, refl, sym, ap, ap₂, ◌∙◌}
use mathlib.Core.Bool.{Bool, true, false, cond, not, ◌&&◌, ◌||◌}
use mathlib.Core.List.{List, [], ◌∷◌, ◌++◌, append_assoc}
use mathlib.Core.Option.{Option, none, some}
use native.Mathlib.Nat.{zero-add}
use native.Mathlib.Omega.{arith}
use lib.ListN.{length, take, drop, length-append, length-drop, take-append-drop}
use lib.Seq.{length-take-le, drop_at, take-add, drop-drop, drop-append-add}
use lib.Dec.{ltb, eqb}
use borrow.Author.Tests.{ltb-true}
use Rattle.meaning.specs.Bytes.{Bytes}
use Rattle.meaning.specs.Sets.{in_set}
use Rattle.meaning.specs.Readers.{Out}
use Rattle.meaning.specs.Packets.{Cut, cut}
use Rattle.meaning.specs.Mmtp.{Mmtp, mmtp_of, is_signalling}
use Rattle.meaning.specs.Messages.{Message, messages, indicator}
use Rattle.meaning.specs.Tables.{Entry, Mpt, mpt, Package, plt, Table, is_mpt, is_plt, pa, kind_number, kind_of}
use Rattle.meaning.specs.Wishes.{copies_all}
use Rattle.meaning.specs.Narrow.{narrow_packet}
use Rattle.meaning.specs.Rooms.{packet_limit}
use Rattle.meaning.specs.Learn.{Fragment, Known, Learnt, learnt, Listed, assets_in, asset_numbers, lists_in, lists, over, place_for, listed, with_list, mpt_from, learn_mpt, plt_from, learn_plt, learn_table, and_lost, learn_tables, pa_tables, with_data, learn_message, learn_messages, with_fragments, without, fragment_of, fits, middle_of, middle, joined, last_for, last, hold_first, by_indicator, observe, learn_from, learn}
use Rattle.meaning.specs.Rules.{in_drop_set, drops, dropped, ready}
use Rattle.meaning.specs.Soundness.{SecondsBelow, HoldsFragments, Holds}
use Rattle.meaning.specs.Push.{withheld, Passed, pass_one, pass, Outcome, copied, outcome, filtered, push}
use Rattle.meaning.specs.declared.Limits.{Limits}
use Rattle.meaning.specs.declared.Part.{Part}
use Rattle.meaning.specs.declared.Part.TheVariants.{Caption, Carousel, Other}
use Rattle.meaning.specs.declared.Options.{Options}
use Rattle.meaning.specs.declared.Modes.{Modes}
use Rattle.meaning.proofs.TableLaws.{mpt_split}
use Rattle.meaning.proofs.SetLaws.{many_same}
use Rattle.meaning.proofs.SoundnessKept.{put_head, put_is, list_length, list_holds, packages_holds, with_fragments_lem, without_holds, first_holds, middle_holds}

-- ---- what a list's numbers hold

kind_back : (part : Part) → kind_of (kind_number part) ≡ part
unfolding kind_of kind_number
kind_back Caption = refl
kind_back Carousel = refl
kind_back Other = refl

pub numbers_length : (as' : Listed) → length (asset_numbers as') ≡ 2 * length as'
unfolding asset_numbers
numbers_length [] = refl
numbers_length (a ∷ as') = omega (arith, numbers_length as')

pub assets_back : (as' : Listed) (ns : List ℕ) → assets_in (length as') (asset_numbers as' ++ ns) ≡ as'
unfolding assets_in asset_numbers
assets_back [] ns = refl
assets_back (a ∷ as') ns = ap₂ (λ (k : Part) (l : Listed). (a.0, k) ∷ l) (kind_back a.1) (assets_back as' ns)

-- a list depends on its own numbers alone
pub assets_front : (n : ℕ) (xs ys : List ℕ) → 2 * n ≤ length xs → assets_in n (xs ++ ys) ≡ assets_in n xs
unfolding assets_in
assets_front zero xs ys h = refl
assets_front (suc n) [] ys h = absurd (omega arith)
assets_front (suc n) (p ∷ []) ys h = absurd (omega arith)
assets_front (suc n) (p ∷ k ∷ xs) ys h = ap (λ (l : Listed). (p, kind_of k) ∷ l) (assets_front n xs ys (omega arith))

-- ---- a list put into its place changes that list and no other

unfoldable pub put_list : ℕ → Listed → List (ℕ × Listed) → List (ℕ × Listed)
put_list p as' [] = (p, as') ∷ []
put_list p as' (l ∷ ls) = cond (eqb l.0 p) ((p, as') ∷ ls) (l ∷ put_list p as' ls)

-- numbers written at the front leave the next place alone
front_rest : (map_room ns : List ℕ) → length ns ≤ 512 → drop 512 (over map_room 0 ns) ≡ drop 512 map_room
unfolding over
front_rest map_room ns h =
    let e : 512 ≡ length ns + (512 - length ns) = omega arith in
    let z : drop (0 + length ns) map_room ≡ drop (length ns) map_room = ap (λ (n : ℕ). drop n map_room) (zero-add (length ns)) in
    rw z (ap (λ (n : ℕ). drop n (ns ++ drop (length ns) map_room)) e ∙ drop-append-add ns (drop (length ns) map_room) (512 - length ns)
    ∙ drop-drop (512 - length ns) (length ns) map_room ∙ ap (λ (n : ℕ). drop n map_room) (sym e))

-- numbers written further on leave the first place alone
later_over : (map_room ns : List ℕ) (i : ℕ) → 512 ≤ length map_room → over map_room (512 * suc i) ns ≡ take 512 map_room ++ over (drop 512 map_room) (512 * i) ns
unfolding over
later_over map_room ns i h =
    let e : 512 * suc i ≡ 512 + 512 * i = omega arith in
    let t : take (512 * suc i) map_room ≡ take 512 map_room ++ take (512 * i) (drop 512 map_room) = ap (λ (n : ℕ). take n map_room) e ∙ take-add 512 (512 * i) map_room in
    let d : drop (512 * suc i + length ns) map_room ≡ drop (512 * i + length ns) (drop 512 map_room) =
    (let q : 512 * suc i + length ns ≡ 512 + (512 * i + length ns) = omega arith in ap (λ (n : ℕ). drop n map_room) q ∙ sym (drop-drop (512 * i + length ns) 512 map_room)) in
    rw (t, d) (append_assoc (take 512 map_room) (take (512 * i) (drop 512 map_room)) (ns ++ drop (512 * i + length ns) (drop 512 map_room)))

front_list : (as' : Listed) (map_room : List ℕ) → assets_in (length as') (over map_room 0 (asset_numbers as')) ≡ as'
unfolding over
front_list as' map_room = assets_back as' (drop (0 + length (asset_numbers as')) map_room)

pub lists_put : (N p : ℕ) (as' : Listed) (ms : List (ℕ × ℕ)) (map_room : List ℕ) → SecondsBelow 256 ms → length as' < 256 → place_for p ms < N → length map_room ≡ 512 * N
    → lists_in (put_head p (length as') ms) (over map_room (512 * place_for p ms) (asset_numbers as')) ≡ put_list p as' (lists_in ms map_room)
unfolding lists_in put_head put_list place_for
lists_put N p as' [] map_room b l h r =
    ap (λ (x : Listed). (p, x) ∷ []) (front_list as' map_room)
lists_put zero p as' (m ∷ ms) map_room b l h r = absurd (omega arith)
lists_put (suc N) p as' (m ∷ ms) map_room b l h r = go (eqb m.0 p) refl h (λ g. lists_put N p as' ms (drop 512 map_room) b.1 l g (omega (arith, length-drop 512 map_room)))
  where
    ns : List ℕ
    ns = asset_numbers as'

    go : (a : Bool) → eqb m.0 p ≡ a → cond a 0 (suc (place_for p ms)) < suc N
        → (place_for p ms < N → lists_in (put_head p (length as') ms) (over (drop 512 map_room) (512 * place_for p ms) ns) ≡ put_list p as' (lists_in ms (drop 512 map_room)))
        → lists_in (cond a ((p, length as') ∷ ms) (m ∷ put_head p (length as') ms)) (over map_room (512 * cond a 0 (suc (place_for p ms))) ns)
        ≡ cond a ((p, as') ∷ lists_in ms (drop 512 map_room)) ((m.0, assets_in m.1 map_room) ∷ put_list p as' (lists_in ms (drop 512 map_room)))
    go true e g ih = ap₂ (λ (x : Listed) (y : List (ℕ × Listed)). (p, x) ∷ y) (front_list as' map_room)
        (ap (lists_in ms) (front_rest map_room ns (omega (arith, numbers_length as'))))
    go false e g ih =
        let k : 512 ≤ length map_room = omega arith in
        let w = later_over map_room ns (place_for p ms) k in
        let t = length-take-le 512 map_room k in
        ap (λ (x : List ℕ). (m.0, assets_in m.1 x) ∷ lists_in (put_head p (length as') ms) (drop 512 x)) w
        ∙ ap₂ (λ (x : Listed) (y : List (ℕ × Listed)). (m.0, x) ∷ y)
        (assets_front m.1 (take 512 map_room) (over (drop 512 map_room) (512 * place_for p ms) ns) (omega (arith, b.0))
        ∙ sym (ap (assets_in m.1) (sym (take-append-drop 512 map_room)) ∙ assets_front m.1 (take 512 map_room) (drop 512 map_room) (omega (arith, b.0))))
        (ap (lists_in (put_head p (length as') ms)) (drop_at (take 512 map_room) (over (drop 512 map_room) (512 * place_for p ms) ns) 512 t) ∙ ih (omega arith))

-- ---- the same knowledge in another room

abbrev pub with_map_room : Known → List ℕ → Known
with_map_room k map_room = record {
  plt_seen = k.plt_seen;
  packages = k.packages;
  map_heads = k.map_heads;
  map_room = map_room;
  data_set = k.data_set;
  fragments = k.fragments;
}

-- The other room holds the same lists, whatever its spare numbers are.
pub record Spare (T : ℕ) (k : Known) (map_room : List ℕ) : Type 0 where
  pub holds : Holds T k
  pub own_length : length k.map_room ≡ 32768
  pub other_length : length map_room ≡ 32768
  pub lists_same : lists_in k.map_heads k.map_room ≡ lists_in k.map_heads map_room

-- After a step in each room the two differ again in spare numbers alone, and as many maps were lost.
record Alike (T : ℕ) (one other : Learnt) : Type 0 where
  map_room_after : List ℕ
  spare : Spare T one.known map_room_after
  same : other ≡ record { known = with_map_room one.known map_room_after; lost = one.lost }

-- ---- steps that do not touch the room

stays : {T : ℕ} {k : Known} {map_room : List ℕ} → Spare T k map_room → Alike T (learnt k) (learnt (with_map_room k map_room))
stays {T} {k} {map_room} s = record { map_room_after = map_room; spare = s; same = refl }

-- ---- an MPT writes its list into both

over_length : (map_room ns : List ℕ) (at : ℕ) → at + length ns ≤ length map_room → length (over map_room at ns) ≡ length map_room
unfolding over
over_length map_room ns at h = simp length-append (omega (arith, length-take-le at map_room (omega arith), length-drop (at + length ns) map_room))

list_alike : (T p : ℕ) (es : List Entry) (k : Known) (map_room : List ℕ) → length es < 256 → place_for p k.map_heads < 64 → Spare T k map_room
    → Holds T (with_list p (listed es) k (place_for p k.map_heads))
    → Alike T (learnt (with_list p (listed es) k (place_for p k.map_heads))) (learnt (with_list p (listed es) (with_map_room k map_room) (place_for p k.map_heads)))
unfolding with_list
list_alike T p es k map_room l h s g =
    let as' : Listed = listed es in
    let i : ℕ = place_for p k.map_heads in
    let ns : List ℕ = asset_numbers as' in
    let few = list_length es in
    let fits = numbers_length as' in
    let b = s.holds.maps_hold.small in
    let one = lists_put 64 p as' k.map_heads k.map_room b (omega arith) h s.own_length in
    let two = lists_put 64 p as' k.map_heads map_room b (omega arith) h s.other_length in
    let map_heads = put_is p (length as') k.map_heads in
    record {
      map_room_after = over map_room (512 * i) ns;
      spare = record {
        holds = g;
        own_length = over_length k.map_room ns (512 * i) (omega (arith, s.own_length)) ∙ s.own_length;
        other_length = over_length map_room ns (512 * i) (omega (arith, s.other_length)) ∙ s.other_length;
        lists_same =
            ap (λ (ms : List (ℕ × ℕ)). lists_in ms (over k.map_room (512 * i) ns)) map_heads ∙ one ∙ ap (put_list p as') s.lists_same ∙ sym two
            ∙ ap (λ (ms : List (ℕ × ℕ)). lists_in ms (over map_room (512 * i) ns)) (sym map_heads);
      };
      same = refl;
    }

mpt_alike : (T p : ℕ) (b : Bytes) (x : Out Mpt) → mpt b ≡ x → (k : Known) (map_room : List ℕ) → Spare T k map_room → Alike T (mpt_from p x k) (mpt_from p x (with_map_room k map_room))
mpt_alike T p b none e k map_room s = stays s
mpt_alike T p b (some (m, more)) e k map_room s = go (ltb (place_for p k.map_heads) 64) refl
  where
    go : (a : Bool) → ltb (place_for p k.map_heads) 64 ≡ a
        → Alike T (cond a (learnt (with_list p (listed m.entries) k (place_for p k.map_heads))) (record { known = k; lost = 1 }))
        (cond a (learnt (with_list p (listed m.entries) (with_map_room k map_room) (place_for p k.map_heads))) (record { known = with_map_room k map_room; lost = 1 }))
    go true ea =
        let few = (mpt_split b m more e).few in
        list_alike T p m.entries k map_room few (ltb-true _ _ ea) s (list_holds T p m.entries k few (ltb-true _ _ ea) s.holds)
    go false ea = record { map_room_after = map_room; spare = s; same = refl }

-- ---- tables, messages, payloads, packets

plt_alike : (T : ℕ) (b : Bytes) (x : Out (List Package)) → plt b ≡ x → (k : Known) (map_room : List ℕ) → Spare T k map_room → Alike T (learnt (plt_from x k)) (learnt (plt_from x (with_map_room k map_room)))
plt_alike T b none e k map_room s = stays s
plt_alike T b (some (xs, more)) e k map_room s =
    record {
      map_room_after = map_room;
      spare = record { holds = packages_holds T b (some (xs, more)) e k s.holds; own_length = s.own_length; other_length = s.other_length; lists_same = s.lists_same };
      same = refl;
    }

table_alike : (T p : ℕ) (t : Table) (k : Known) (map_room : List ℕ) → Spare T k map_room → Alike T (learn_table p t k) (learn_table p t (with_map_room k map_room))
unfolding learn_table learn_plt learn_mpt
table_alike T p t k map_room s = go (is_plt t.number && eqb p 0) (is_mpt t.number)
  where
    go : (a b : Bool) → Alike T (cond a (learnt (plt_from (plt t.body) k)) (cond b (mpt_from p (mpt t.body) k) (learnt k)))
        (cond a (learnt (plt_from (plt t.body) (with_map_room k map_room))) (cond b (mpt_from p (mpt t.body) (with_map_room k map_room)) (learnt (with_map_room k map_room))))
    go true b = plt_alike T t.body (plt t.body) refl k map_room s
    go false true = mpt_alike T p t.body (mpt t.body) refl k map_room s
    go false false = stays s

-- one step and then others
then_alike : (T : ℕ) (f : Known → Learnt) (one other : Learnt) → Alike T one other → ((k : Known) (map_room : List ℕ) → Spare T k map_room → Alike T (f k) (f (with_map_room k map_room)))
    → Alike T (and_lost one.lost (f one.known)) (and_lost other.lost (f other.known))
then_alike T f one other a g =
    let b = g one.known a.map_room_after a.spare in
    record {
      map_room_after = b.map_room_after;
      spare = b.spare;
      same = ap (λ (l : Learnt). and_lost l.lost (f l.known)) a.same ∙ ap (and_lost one.lost) b.same;
    }

tables_alike : (T p : ℕ) (ts : List (Table × Bytes)) (k : Known) (map_room : List ℕ) → Spare T k map_room → Alike T (learn_tables p ts k) (learn_tables p ts (with_map_room k map_room))
unfolding learn_tables
tables_alike T p [] k map_room s = stays s
tables_alike T p (t ∷ ts) k map_room s = then_alike T (learn_tables p ts) (learn_table p t.0 k) (learn_table p t.0 (with_map_room k map_room)) (table_alike T p t.0 k map_room s) (tables_alike T p ts)

message_alike : (T p : ℕ) (m : Message) (k : Known) (map_room : List ℕ) → Spare T k map_room → Alike T (learn_message p m k) (learn_message p m (with_map_room k map_room))
unfolding learn_message
message_alike T p m k map_room s = go (eqb m.number 0) (eqb m.number 0x8003)
  where
    go : (a b : Bool) → Alike T (cond a (learn_tables p (pa_tables (pa m.body)) k) (cond b (learnt (with_data p k)) (learnt k)))
        (cond a (learn_tables p (pa_tables (pa m.body)) (with_map_room k map_room)) (cond b (learnt (with_data p (with_map_room k map_room))) (learnt (with_map_room k map_room))))
    go true b = tables_alike T p (pa_tables (pa m.body)) k map_room s
    go false true = record {
      map_room_after = map_room;
      spare = record {
        holds = record { packages_hold = s.holds.packages_hold; maps_hold = s.holds.maps_hold; fragments_hold = s.holds.fragments_hold; map_room_all = s.holds.map_room_all };
        own_length = s.own_length;
        other_length = s.other_length;
        lists_same = s.lists_same;
      };
      same = refl;
    }
    go false false = stays s

messages_alike : (T p : ℕ) (ms : List Message) (k : Known) (map_room : List ℕ) → Spare T k map_room → Alike T (learn_messages p ms k) (learn_messages p ms (with_map_room k map_room))
unfolding learn_messages
messages_alike T p [] k map_room s = stays s
messages_alike T p (m ∷ ms) k map_room s = then_alike T (learn_messages p ms) (learn_message p m k) (learn_message p m (with_map_room k map_room)) (message_alike T p m k map_room s) (messages_alike T p ms)

-- other fragments, the same lists
fragments_spare : {T : ℕ} {k : Known} {map_room : List ℕ} (fs : List Fragment) → HoldsFragments T fs → Spare T k map_room → Spare T (with_fragments fs k) map_room
fragments_spare fs f s = record { holds = with_fragments_lem s.holds f; own_length = s.own_length; other_length = s.other_length; lists_same = s.lists_same }

last_alike : (L : Limits) (p : ℕ) (b : Bytes) (k : Known) (map_room : List ℕ) (o : Option Fragment) → Spare L.total k map_room → Alike L.total (last_for o L p b k) (last_for o L p b (with_map_room k map_room))
last_alike L p b k map_room none s = stays s
last_alike L p b k map_room (some f) s = go (fits L f b k.fragments)
  where
    less : List Fragment
    less = without p k.fragments

    spare : Spare L.total (with_fragments less k) map_room
    spare = fragments_spare less (without_holds L.total p k.fragments s.holds.fragments_hold) s

    go : (a : Bool) → Alike L.total (cond a (learn_messages p (messages (joined f b)) (with_fragments less k)) (learnt (with_fragments less k)))
        (cond a (learn_messages p (messages (joined f b)) (with_fragments less (with_map_room k map_room))) (learnt (with_fragments less (with_map_room k map_room))))
    go true = messages_alike L.total p (messages (joined f b)) (with_fragments less k) map_room spare
    go false = stays spare

indicator_alike : (i : ℕ) (L : Limits) (p flags : ℕ) (s : Bytes) (k : Known) (map_room : List ℕ) → Spare L.total k map_room
    → Alike L.total (by_indicator i L p flags s k) (by_indicator i L p flags s (with_map_room k map_room))
unfolding middle last
indicator_alike zero L p flags s k map_room h =
    messages_alike L.total p (messages (flags ∷ s)) (with_fragments (without p k.fragments) k) map_room
    (fragments_spare (without p k.fragments) (without_holds L.total p k.fragments h.holds.fragments_hold) h)
indicator_alike (suc zero) L p flags s k map_room h =
    stays (fragments_spare (hold_first L p flags (drop 1 s) k.fragments) (first_holds L p flags (drop 1 s) k.fragments h.holds.fragments_hold) h)
indicator_alike (suc (suc zero)) L p flags s k map_room h =
    stays (fragments_spare (middle_of (fragment_of p k.fragments) L p (drop 1 s) k.fragments)
    (middle_holds L p (drop 1 s) k.fragments (fragment_of p k.fragments) h.holds.fragments_hold) h)
indicator_alike (suc (suc (suc n))) L p flags s k map_room h = last_alike L p (drop 1 s) k map_room (fragment_of p k.fragments) h

observe_alike : (L : Limits) (p : ℕ) (s : Bytes) (k : Known) (map_room : List ℕ) → Spare L.total k map_room → Alike L.total (observe L p s k) (observe L p s (with_map_room k map_room))
unfolding observe
observe_alike L p [] k map_room h = stays h
observe_alike L p (flags ∷ s) k map_room h = go (in_set k.data_set p)
  where
    go : (a : Bool) → Alike L.total (cond a (learnt k) (by_indicator (indicator flags) L p flags s k)) (cond a (learnt (with_map_room k map_room)) (by_indicator (indicator flags) L p flags s (with_map_room k map_room)))
    go true = stays h
    go false = indicator_alike (indicator flags) L p flags s k map_room h

learn_alike : (L : Limits) (k : Known) (map_room : List ℕ) (p : Bytes) → Spare L.total k map_room → Alike L.total (learn L k p) (learn L (with_map_room k map_room) p)
unfolding learn
learn_alike L k map_room p h = go (mmtp_of p)
  where
    inner : (m : Mmtp) (a : Bool) → Alike L.total (cond a (observe L m.identifier m.payload k) (learnt k)) (cond a (observe L m.identifier m.payload (with_map_room k map_room)) (learnt (with_map_room k map_room)))
    inner m true = observe_alike L m.identifier m.payload k map_room h
    inner m false = stays h

    go : (o : Option Mmtp) → Alike L.total (learn_from L o k) (learn_from L o (with_map_room k map_room))
    go none = stays h
    go (some m) = inner m (is_signalling m)

-- ---- the rules see the lists alone

pub drops_alike : (T : ℕ) (o : Options) (k : Known) (map_room : List ℕ) (q : ℕ) → Spare T k map_room → drops o k q ≡ drops o (with_map_room k map_room) q
unfolding drops in_drop_set lists
drops_alike T o k map_room q s = rw s.lists_same

pub ready_alike : (T : ℕ) (o : Options) (k : Known) (map_room : List ℕ) → Spare T k map_room → ready o.service k ≡ ready o.service (with_map_room k map_room)
unfolding ready lists
ready_alike T o k map_room s = rw s.lists_same

pub dropped_alike : (T : ℕ) (o : Options) (k : Known) (map_room : List ℕ) → Spare T k map_room → dropped o k ≡ dropped o (with_map_room k map_room)
unfolding dropped
dropped_alike T o k map_room s = many_same (drops o k) (drops o (with_map_room k map_room)) 65536 (λ q l. drops_alike T o k map_room q s)

withheld_alike : (T : ℕ) (o : Options) (k : Known) (map_room : List ℕ) (m : Option Mmtp) → Spare T k map_room → withheld o k m ≡ withheld o (with_map_room k map_room) m
withheld_alike T o k map_room none s = refl
withheld_alike T o k map_room (some m) s =
    ap₂ (λ (a b : Bool). a || (not (is_signalling m) && not b)) (drops_alike T o k map_room m.identifier s) (ready_alike T o k map_room s)

-- ---- a call

record AlikePass (T : ℕ) (one other : Passed) : Type 0 where
  map_room_after : List ℕ
  spare : Spare T one.known map_room_after
  same : other ≡ record { out = one.out; rewritten = one.rewritten; lost = one.lost; known = with_map_room one.known map_room_after }

pass_alike : (L : Limits) (M : Modes) (o : Options) (ps : List Bytes) (k : Known) (map_room : List ℕ) → Spare L.total k map_room → AlikePass L.total (pass L M o k ps) (pass L M o (with_map_room k map_room) ps)
unfolding pass
pass_alike L M o [] k map_room s = record { map_room_after = map_room; spare = s; same = refl }
pass_alike L M o (p ∷ ps) k map_room s =
    let a = learn_alike L k map_room p s in
    let r = pass_alike L M o ps (learn L k p).known a.map_room_after a.spare in
    let one : Learnt = learn L k p in
    let step : Learnt → Passed = λ l. pass_one (withheld o l.known (mmtp_of p)) (narrow_packet M o p) p l.lost (pass L M o l.known ps) in
    let moved : step (learn L (with_map_room k map_room) p) ≡ pass_one (withheld o one.known (mmtp_of p)) (narrow_packet M o p) p one.lost (pass L M o (with_map_room one.known a.map_room_after) ps) =
    ap step a.same
    ∙ ap (λ (b : Bool). pass_one b (narrow_packet M o p) p one.lost (pass L M o (with_map_room one.known a.map_room_after) ps))
    (sym (withheld_alike L.total o one.known a.map_room_after (mmtp_of p) a.spare)) in
    go (withheld o one.known (mmtp_of p)) one.lost (pass L M o one.known ps) (pass L M o (with_map_room one.known a.map_room_after) ps) r _ moved
  where
    go : (b : Bool) (lost : ℕ) (r r' : Passed) → AlikePass L.total r r' → (other : Passed) → other ≡ pass_one b (narrow_packet M o p) p lost r'
        → AlikePass L.total (pass_one b (narrow_packet M o p) p lost r) other
    go true lost r r' a other e = record { map_room_after = a.map_room_after; spare = a.spare; same = e ∙ ap (pass_one true (narrow_packet M o p) p lost) a.same }
    go false lost r r' a other e = record { map_room_after = a.map_room_after; spare = a.spare; same = e ∙ ap (pass_one false (narrow_packet M o p) p lost) a.same }

-- The same bytes and counts from both rooms, and the two states differ in spare numbers again.
pub record AlikePush (T : ℕ) (one other : Outcome) : Type 0 where
  pub map_room_after : List ℕ
  pub spare : Spare T one.state.known map_room_after
  pub out_same : one.out ≡ other.out
  pub counts_same : one.counts ≡ other.counts
  pub state_same : other.state ≡ record { held = one.state.held; known = with_map_room one.state.known map_room_after }

pub push_alike : (L : Limits) (M : Modes) (o : Options) (held chunk : Bytes) (k : Known) (map_room : List ℕ) → Spare L.total k map_room
    → AlikePush L.total (push L M o (record { held = held; known = k }) chunk) (push L M o (record { held = held; known = with_map_room k map_room }) chunk)
unfolding push filtered
push_alike L M o held chunk k map_room s = go (copies_all o)
  where
    c : Cut
    c = cut (packet_limit L.work) (held ++ chunk)

    go : (a : Bool) → AlikePush L.total (cond a (copied (record { held = held; known = k }) chunk) (outcome c (pass L M o k c.packets)))
        (cond a (copied (record { held = held; known = with_map_room k map_room }) chunk) (outcome c (pass L M o (with_map_room k map_room) c.packets)))
    go true = record { map_room_after = map_room; spare = s; out_same = refl; counts_same = refl; state_same = refl }
    go false =
        let a = pass_alike L M o c.packets k map_room s in
        record {
          map_room_after = a.map_room_after;
          spare = a.spare;
          out_same = sym (ap (λ (r : Passed). r.out) a.same);
          counts_same = sym (ap (λ (r : Passed). (outcome c r).counts) a.same);
          state_same = ap (λ (r : Passed). (outcome c r).state) a.same;
        }
