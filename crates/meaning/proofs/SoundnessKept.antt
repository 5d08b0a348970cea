-- What a sound state holds to, and that learning keeps it: services rise, no map or fragment identifier comes twice, counts and lengths
-- stay within their limits. No packet breaks it. Rests on specs/Learn.
use Prim.Native.Nat.{ℕ, zero, suc, ◌+◌, ◌*◌, ◌-◌, ◌%◌, ◌≤◌, ◌<◌}
use mathlib.Core.Path.{◌≡◌, refl, sym, ap, ◌∙◌, subst}
use mathlib.Core.Bool.{Bool, true, false, cond, not, ◌&&◌, ◌||◌}
use mathlib.Core.List.{List, [], ◌∷◌, ◌++◌}
use mathlib.Core.Option.{Option, none, some, none-ne-some, some-injective}
use native.Mathlib.Omega.{arith}
use lib.ListN.{length, take, drop, length-append, length-take, length-drop}
use lib.Arith.{lt_of_le-ne}
use lib.Dec.{leb, ltb, eqb}
use borrow.Author.Tests.{ltb-true, ltb-false, leb-true, eqb-true, eqb-false, lt-ltb, ne_eqb}
use Rattle.meaning.specs.Bytes.{Bytes}
use Rattle.meaning.specs.Sets.{in_set}
use Rattle.meaning.specs.Lists.{keep, any, sum}
use Rattle.meaning.specs.Readers.{◌>>=◌, Out, Reader, give, u8, u16, bytes, counted8, many, raw}
use Rattle.meaning.specs.Mmtp.{Mmtp, mmtp_of, is_signalling}
use Rattle.meaning.specs.Messages.{Message, messages, indicator}
use Rattle.meaning.specs.Tables.{elsewhere, location_body, location, Entry, Mpt, mpt, Package, package_fields, package_entry, plt, service_of, Table, is_mpt, is_plt, pa}
use Rattle.meaning.specs.Learn.{Fragment, Known, Listed, asset_numbers, over, learnt, place_for, list_asset, listed, with_list, mpt_from, learn_mpt, insert_package, add_package, packages_in, plt_from, learn_plt, learn_table, learn_tables, pa_tables, with_data, learn_message, learn_messages, with_fragments, is_of, without, fragment_bytes, fragment_of, grown, grow_in, hold_first, fits, middle_of, middle, joined, last_for, last, by_indicator, observe, learn_from, learn}
use Rattle.meaning.specs.Soundness.{rising, distinct, firsts, identifiers, SecondsBelow, SmallFlags, HoldsPackages, HoldsMaps, HoldsFragments, Holds}
use Rattle.meaning.specs.declared.Limits.{Limits}
use Rattle.meaning.proofs.ListLaws.{and_both, both_true, or_neither, keep_length}
use Rattle.meaning.proofs.Framed.{before, many_framed}
use Rattle.meaning.proofs.TableLaws.{u16_below, u8_split, mpt_split, package_framed}

-- ---- packages: a PLT names at most 255, and an insertion keeps them rising

module _ (s p : ℕ) where
  insert_after : (x : ℕ) (qs : List (ℕ × ℕ)) → x < s → rising (x ∷ firsts qs) ≡ true → rising (x ∷ firsts (insert_package s p qs)) ≡ true
  unfolding insert_package rising
  insert_after x [] l r = rw (lt-ltb x s l)
  insert_after x (q ∷ qs) l r =
      let h = and_both (ltb x q.0) (rising (q.0 ∷ firsts qs)) r in
      go (ltb s q.0) refl (eqb s q.0) refl h.0 h.1 (insert_after q.0 qs)
    where
      go : (a : Bool) → ltb s q.0 ≡ a → (b : Bool) → eqb s q.0 ≡ b → ltb x q.0 ≡ true → rising (q.0 ∷ firsts qs) ≡ true
          → (q.0 < s → rising (q.0 ∷ firsts qs) ≡ true → rising (q.0 ∷ firsts (insert_package s p qs)) ≡ true)
          → rising (x ∷ firsts (cond a ((s, p) ∷ q ∷ qs) (cond b ((s, p) ∷ qs) (q ∷ insert_package s p qs)))) ≡ true
      go true ea b eb hx hq ih = rw (lt-ltb x s l, ea) hq
      go false ea true eb hx hq ih = rw (lt-ltb x s l) (subst (λ (n : ℕ). rising (n ∷ firsts qs) ≡ true) (sym (eqb-true _ _ eb)) hq)
      go false ea false eb hx hq ih = rw hx (ih (above (ltb-false s q.0 ea) (eqb-false s q.0 eb)) hq)
        where
          above : q.0 ≤ s → (s ≡ q.0 → ⊥) → q.0 < s
          above l n = lt_of_le-ne l (λ e. n (sym e))

  pub insert_rise : (qs : List (ℕ × ℕ)) → rising (firsts qs) ≡ true → rising (firsts (insert_package s p qs)) ≡ true
  unfolding insert_package rising
  insert_rise [] r = refl
  insert_rise (q ∷ qs) r = go (ltb s q.0) refl (eqb s q.0) refl
    where
      go : (a : Bool) → ltb s q.0 ≡ a → (b : Bool) → eqb s q.0 ≡ b
          → rising (firsts (cond a ((s, p) ∷ q ∷ qs) (cond b ((s, p) ∷ qs) (q ∷ insert_package s p qs)))) ≡ true
      go true ea b eb = rw ea r
      go false ea true eb = subst (λ (n : ℕ). rising (n ∷ firsts qs) ≡ true) (sym (eqb-true _ _ eb)) r
      go false ea false eb = insert_after q.0 qs (lt_of_le-ne (ltb-false s q.0 ea) (λ e. eqb-false s q.0 eb (sym e))) r

  pub insert_length : (qs : List (ℕ × ℕ)) → length (insert_package s p qs) ≤ suc (length qs)
  unfolding insert_package
  insert_length [] = omega arith
  insert_length (q ∷ qs) = go (ltb s q.0) (eqb s q.0) (insert_length qs)
    where
      go : (a b : Bool) → length (insert_package s p qs) ≤ suc (length qs)
          → length (cond a ((s, p) ∷ q ∷ qs) (cond b ((s, p) ∷ qs) (q ∷ insert_package s p qs))) ≤ suc (suc (length qs))
      go true b ih = omega arith
      go false true ih = omega arith
      go false false ih = omega arith

  insert_below : (n : ℕ) → p < n → (qs : List (ℕ × ℕ)) → SecondsBelow n qs → SecondsBelow n (insert_package s p qs)
  unfolding insert_package
  insert_below n l [] h = (l, tt)
  insert_below n l (q ∷ qs) h = go (ltb s q.0) (eqb s q.0) (insert_below n l qs h.1)
    where
      go : (a b : Bool) → SecondsBelow n (insert_package s p qs) → SecondsBelow n (cond a ((s, p) ∷ q ∷ qs) (cond b ((s, p) ∷ qs) (q ∷ insert_package s p qs)))
      go true b ih = (l, h)
      go false true ih = (l, h.1)
      go false false ih = (h.0, ih)

add_holds : (s o : Option ℕ) (ps : List (ℕ × ℕ)) → ((p : ℕ) → o ≡ some p → p < 65536) → rising (firsts ps) ≡ true → SecondsBelow 65536 ps
    → (rising (firsts (add_package s o ps)) ≡ true) × SecondsBelow 65536 (add_package s o ps) × (length (add_package s o ps) ≤ suc (length ps))
add_holds none o ps l r b = (r, b, omega arith)
add_holds (some s) none ps l r b = (r, b, omega arith)
add_holds (some s) (some p) ps l r b = (insert_rise s p ps r, insert_below s p 65536 (l p refl) ps b, insert_length s p ps)

-- the carriers that a list of packages names are identifiers
abbrev Placed : List Package → Type 0
Placed [] = Unit {0}
Placed (x ∷ xs) = ((p : ℕ) → x.carrier ≡ some p → p < 65536) × Placed xs

packages_hold_in : (xs : List Package) (ps : List (ℕ × ℕ)) → Placed xs → rising (firsts ps) ≡ true → SecondsBelow 65536 ps → length xs + length ps ≤ 255
    → HoldsPackages (packages_in xs ps)
unfolding packages_in
packages_hold_in [] ps h r b l = record { few = omega arith; rise = r; small = b }
packages_hold_in (x ∷ xs) ps h r b l =
    let a = add_holds (service_of x.name) x.carrier ps h.0 r b in
    packages_hold_in xs (add_package (service_of x.name) x.carrier ps) h.1 a.0 a.1 (omega (arith, a.2))

-- what a location gives
abbrev Identifies : Option ℕ → Type 0
Identifies o = (p : ℕ) → o ≡ some p → p < 65536

elsewhere_none : (q : Reader Bytes) (s : Bytes) (o : Option ℕ) (r : Bytes) → elsewhere q s ≡ some (o, r) → Identifies o
elsewhere_none q s o r e p f =
    let b = before (q s) (λ _. give none) o r e in
    absurd (none-ne-some p (ap (λ z. z.0) (some-injective _ _ b.then_was) ∙ f))

body_identifies : (t : ℕ) (s : Bytes) (o : Option ℕ) (r : Bytes) → location_body t s ≡ some (o, r) → Identifies o
unfolding location_body
body_identifies zero s o r e = λ p f.
    let b = before (u16 s) (λ n. give (some n)) o r e in
    let q : some b.first ≡ some p = ap (λ z. z.0) (some-injective _ _ b.then_was) ∙ f in
    subst (λ (n : ℕ). n < 65536) (some-injective _ _ q) (u16_below s b.first b.rest b.was)
body_identifies (suc zero) s o r e = elsewhere_none (bytes 12) s o r e
body_identifies (suc (suc zero)) s o r e = elsewhere_none (bytes 36) s o r e
body_identifies (suc (suc (suc zero))) s o r e = elsewhere_none (bytes 6) s o r e
body_identifies (suc (suc (suc (suc zero)))) s o r e = elsewhere_none (bytes 36) s o r e
body_identifies (suc (suc (suc (suc (suc zero))))) s o r e = elsewhere_none counted8 s o r e
body_identifies (suc (suc (suc (suc (suc (suc t)))))) s o r e = absurd (none-ne-some _ e)

location_identifies : (s : Bytes) (o : Option ℕ) (r : Bytes) → location s ≡ some (o, r) → Identifies o
unfolding location
location_identifies s o r e = let b = before (u8 s) location_body o r e in body_identifies b.first b.rest o r b.then_was

fields_identify : (s : Bytes) (x : Bytes × Option ℕ) (r : Bytes) → package_fields s ≡ some (x, r) → Identifies x.1
unfolding package_fields
fields_identify s x r e =
    let b = before (counted8 s) (λ n. location >>= (λ l. give (n, l))) x r e in
    let c = before (location b.rest) (λ l. give (b.first, l)) x r b.then_was in
    subst Identifies (ap (λ z. z.0.1) (some-injective _ _ c.then_was)) (location_identifies b.rest c.first c.rest c.was)

entry_identifies : (s : Bytes) (x : Package) (r : Bytes) → package_entry s ≡ some (x, r) → Identifies x.carrier
unfolding package_entry raw
entry_identifies s x r e =
    let b = before (raw package_fields s) (λ p. give (record { name = p.0.0; carrier = p.0.1; bytes_of = p.1 })) x r e in
    let c = before (package_fields s) (λ a r. some ((a, take (length s - length r) s), r)) b.first b.rest b.was in
    let q = some-injective _ _ b.then_was in
    let w = some-injective _ _ c.then_was in
    subst Identifies (ap (λ z. z.0.0.1) w ∙ ap (λ z. z.0.carrier) q) (fields_identify s c.first c.rest c.was)

many_placed : (n : ℕ) (s : Bytes) (xs : List Package) (r : Bytes) → many n package_entry s ≡ some (xs, r) → Placed xs
unfolding many
many_placed zero s xs r e = subst Placed (ap (λ z. z.0) (some-injective _ _ e)) tt
many_placed (suc n) s xs r e =
    let b = before (package_entry s) (λ a. many n package_entry >>= (λ l. give (a ∷ l))) xs r e in
    let c = before (many n package_entry b.rest) (λ l. give (b.first ∷ l)) xs r b.then_was in
    subst Placed (ap (λ z. z.0) (some-injective _ _ c.then_was))
    (entry_identifies s b.first b.rest b.was, many_placed n b.rest c.first c.rest c.was)

pub plt_holds : (b : Bytes) (xs : List Package) (more : Bytes) → plt b ≡ some (xs, more) → HoldsPackages (packages_in xs [])
unfolding plt rising
plt_holds b xs more e =
    let x = before (u8 b) (λ n. many n package_entry) xs more e in
    let n = u8_split b x.first x.rest x.was in
    let m = many_framed package_entry (λ p. p.bytes_of) package_framed x.first x.rest xs more x.then_was in
    packages_hold_in xs [] (many_placed x.first x.rest xs more x.then_was) refl tt (omega (arith, m.length_of, n.2))

-- ---- maps: a list takes the place of its identifier, or a free one

-- the heads with p's put in
unfoldable pub put_head : ℕ → ℕ → List (ℕ × ℕ) → List (ℕ × ℕ)
put_head p n [] = (p, n) ∷ []
put_head p n (m ∷ ms) = cond (eqb m.0 p) ((p, n) ∷ ms) (m ∷ put_head p n ms)

pub put_is : (p n : ℕ) (ms : List (ℕ × ℕ)) → take (place_for p ms) ms ++ ((p, n) ∷ drop (suc (place_for p ms)) ms) ≡ put_head p n ms
unfolding place_for put_head
put_is p n [] = refl
put_is p n (m ∷ ms) = go (eqb m.0 p) (put_is p n ms)
  where
    go : (a : Bool) → take (place_for p ms) ms ++ ((p, n) ∷ drop (suc (place_for p ms)) ms) ≡ put_head p n ms
        → take (cond a 0 (suc (place_for p ms))) (m ∷ ms) ++ ((p, n) ∷ drop (suc (cond a 0 (suc (place_for p ms)))) (m ∷ ms)) ≡ cond a ((p, n) ∷ ms) (m ∷ put_head p n ms)
    go true ih = refl
    go false ih = ap (λ (l : List (ℕ × ℕ)). m ∷ l) ih

pub put_length : (N p n : ℕ) (ms : List (ℕ × ℕ)) → length ms ≤ N → place_for p ms < N → length (put_head p n ms) ≤ N
unfolding place_for put_head
put_length N p n [] l h = omega arith
put_length zero p n (m ∷ ms) l h = absurd (omega arith)
put_length (suc N) p n (m ∷ ms) l h = go (eqb m.0 p) h (put_length N p n ms (omega arith))
  where
    go : (a : Bool) → cond a 0 (suc (place_for p ms)) < suc N → (place_for p ms < N → length (put_head p n ms) ≤ N) → length (cond a ((p, n) ∷ ms) (m ∷ put_head p n ms)) ≤ suc N
    go true h ih = omega arith
    go false h ih = omega (arith, ih (omega arith))

put_below : (N p n : ℕ) (ms : List (ℕ × ℕ)) → n < N → SecondsBelow N ms → SecondsBelow N (put_head p n ms)
unfolding put_head
put_below N p n [] l b = (l, tt)
put_below N p n (m ∷ ms) l b = go (eqb m.0 p) (put_below N p n ms l b.1)
  where
    go : (a : Bool) → SecondsBelow N (put_head p n ms) → SecondsBelow N (cond a ((p, n) ∷ ms) (m ∷ put_head p n ms))
    go true ih = (l, b.1)
    go false ih = (b.0, ih)

-- an identifier other than p is there where it was
put_any : (a p n : ℕ) (ms : List (ℕ × ℕ)) → eqb a p ≡ false → any (eqb a) (firsts (put_head p n ms)) ≡ any (eqb a) (firsts ms)
unfolding put_head any
put_any a p n [] ne = rw ne
put_any a p n (m ∷ ms) ne = go (eqb m.0 p) refl (put_any a p n ms ne)
  where
    go : (b : Bool) → eqb m.0 p ≡ b → any (eqb a) (firsts (put_head p n ms)) ≡ any (eqb a) (firsts ms)
        → any (eqb a) (firsts (cond b ((p, n) ∷ ms) (m ∷ put_head p n ms))) ≡ (eqb a m.0 || any (eqb a) (firsts ms))
    go true eb ih = ap (λ (z : ℕ). eqb a z || any (eqb a) (firsts ms)) (sym (eqb-true _ _ eb))
    go false eb ih = ap (λ (z : Bool). eqb a m.0 || z) ih

put_once : (p n : ℕ) (ms : List (ℕ × ℕ)) → distinct (firsts ms) ≡ true → distinct (firsts (put_head p n ms)) ≡ true
unfolding put_head distinct any
put_once p n [] d = refl
put_once p n (m ∷ ms) d = go (eqb m.0 p) refl (and_both (not (any (eqb m.0) (firsts ms))) (distinct (firsts ms)) d) (put_once p n ms)
  where
    go : (b : Bool) → eqb m.0 p ≡ b → (not (any (eqb m.0) (firsts ms)) ≡ true) × (distinct (firsts ms) ≡ true)
        → (distinct (firsts ms) ≡ true → distinct (firsts (put_head p n ms)) ≡ true) → distinct (firsts (cond b ((p, n) ∷ ms) (m ∷ put_head p n ms))) ≡ true
    go true eb h ih = subst (λ (z : ℕ). (not (any (eqb z) (firsts ms)) && distinct (firsts ms)) ≡ true) (eqb-true _ _ eb) d
    go false eb h ih =
        both_true (not (any (eqb m.0) (firsts (put_head p n ms)))) (distinct (firsts (put_head p n ms)))
        (ap not (put_any m.0 p n ms eb) ∙ h.0) (ih h.1)

-- no more assets are listed than entries
pub list_length : (es : List Entry) → length (listed es) ≤ length es
unfolding listed
list_length [] = omega arith
list_length (e ∷ es) = go e.carrier (list_length es)
  where
    go : (o : Option ℕ) → length (listed es) ≤ length es → length (list_asset o e.part (listed es)) ≤ suc (length es)
    go none ih = omega arith
    go (some p) ih = omega arith

-- the maps with a list put in
pub maps_hold_after : (p : ℕ) (es : List Entry) (ms : List (ℕ × ℕ)) → length es < 256 → place_for p ms < 64 → HoldsMaps ms
    → HoldsMaps (take (place_for p ms) ms ++ ((p, length (listed es)) ∷ drop (suc (place_for p ms)) ms))
maps_hold_after p es ms l h m =
    let n = length (listed es) in
    rw (put_is p n ms)
    (record {
      few = put_length 64 p n ms m.few h;
      once = put_once p n ms m.once;
      small = put_below 256 p n ms (omega (arith, list_length es)) m.small;
    })

numbers_length : (as' : Listed) → length (asset_numbers as') ≡ 2 * length as'
unfolding asset_numbers
numbers_length [] = refl
numbers_length ((p, part) ∷ as') = omega (arith, numbers_length as')

-- a list at a place of the map room leaves it as long as it is
list_within : (map_room : List ℕ) (i : ℕ) (as' : Listed) → i < 64 → length as' < 256 → length map_room ≡ 32768 → length (over map_room (512 * i) (asset_numbers as')) ≡ 32768
unfolding over
list_within map_room i as' h l m =
    let at = 512 * i in
    let n = length (asset_numbers as') in
    omega (arith, h, l, m, numbers_length as', length-append (take at map_room) (asset_numbers as' ++ drop (at + n) map_room), length-append (asset_numbers as') (drop (at + n) map_room), length-take at map_room, length-drop (at + n) map_room)

pub list_holds : (T p : ℕ) (es : List Entry) (k : Known) → length es < 256 → place_for p k.map_heads < 64 → Holds T k → Holds T (with_list p (listed es) k (place_for p k.map_heads))
unfolding with_list
list_holds T p es k l h s = record {
  packages_hold = s.packages_hold;
  maps_hold = maps_hold_after p es k.map_heads l h s.maps_hold;
  fragments_hold = s.fragments_hold;
  map_room_all = list_within k.map_room (place_for p k.map_heads) (listed es) h (omega (arith, list_length es)) s.map_room_all;
}

mpt_holds : (T p : ℕ) (b : Bytes) (x : Out Mpt) → mpt b ≡ x → (k : Known) → Holds T k → Holds T (mpt_from p x k).known
mpt_holds T p b none e k s = s
mpt_holds T p b (some (m, more)) e k s = go (ltb (place_for p k.map_heads) 64) refl
  where
    go : (a : Bool) → ltb (place_for p k.map_heads) 64 ≡ a
        → Holds T (cond a (learnt (with_list p (listed m.entries) k (place_for p k.map_heads))) (record { known = k; lost = 1 })).known
    go true ea = list_holds T p m.entries k (mpt_split b m more e).few (ltb-true _ _ ea) s
    go false ea = s

-- ---- tables and messages

pub packages_holds : (T : ℕ) (b : Bytes) (x : Out (List Package)) → plt b ≡ x → (k : Known) → Holds T k → Holds T (plt_from x k)
packages_holds T b none e k s = s
packages_holds T b (some (xs, more)) e k s =
    record { packages_hold = plt_holds b xs more e; maps_hold = s.maps_hold; fragments_hold = s.fragments_hold; map_room_all = s.map_room_all }

table_holds : (T p : ℕ) (t : Table) (k : Known) → Holds T k → Holds T (learn_table p t k).known
unfolding learn_table learn_plt learn_mpt
table_holds T p t k s = go (is_plt t.number && eqb p 0) (is_mpt t.number)
  where
    go : (a b : Bool) → Holds T (cond a (learnt (plt_from (plt t.body) k)) (cond b (mpt_from p (mpt t.body) k) (learnt k))).known
    go true b = packages_holds T t.body (plt t.body) refl k s
    go false true = mpt_holds T p t.body (mpt t.body) refl k s
    go false false = s

tables_hold : (T p : ℕ) (ts : List (Table × Bytes)) (k : Known) → Holds T k → Holds T (learn_tables p ts k).known
unfolding learn_tables
tables_hold T p [] k s = s
tables_hold T p (t ∷ ts) k s = tables_hold T p ts (learn_table p t.0 k).known (table_holds T p t.0 k s)

message_holds : (T p : ℕ) (m : Message) (k : Known) → Holds T k → Holds T (learn_message p m k).known
unfolding learn_message
message_holds T p m k s = go (eqb m.number 0) (eqb m.number 0x8003)
  where
    go : (a b : Bool) → Holds T (cond a (learn_tables p (pa_tables (pa m.body)) k) (cond b (learnt (with_data p k)) (learnt k))).known
    go true b = tables_hold T p (pa_tables (pa m.body)) k s
    go false true =
        record { packages_hold = s.packages_hold; maps_hold = s.maps_hold; fragments_hold = s.fragments_hold; map_room_all = s.map_room_all }
    go false false = s

messages_hold : (T p : ℕ) (ms : List Message) (k : Known) → Holds T k → Holds T (learn_messages p ms k).known
unfolding learn_messages
messages_hold T p [] k s = s
messages_hold T p (m ∷ ms) k s = messages_hold T p ms (learn_message p m k).known (message_holds T p m k s)

-- ---- fragments

pub held_next : (f : Fragment) (fs : List Fragment) → fragment_bytes (f ∷ fs) ≡ length f.body + fragment_bytes fs
unfolding fragment_bytes sum
held_next f fs = refl

-- an identifier that is in none of a list is in none of a part of it
keep_any : (g : Fragment → Bool) (a : ℕ) (fs : List Fragment) → any (eqb a) (identifiers fs) ≡ false → any (eqb a) (identifiers (keep g fs)) ≡ false
unfolding keep any
keep_any g a [] e = refl
keep_any g a (f ∷ fs) e =
    let h = or_neither (eqb a f.identifier) (any (eqb a) (identifiers fs)) e in
    go (g f) h.0 (keep_any g a fs h.1)
  where
    go : (b : Bool) → eqb a f.identifier ≡ false → any (eqb a) (identifiers (keep g fs)) ≡ false → any (eqb a) (identifiers (cond b (f ∷ keep g fs) (keep g fs))) ≡ false
    go true x ih = rw x ih
    go false x ih = ih

pub not_false : (b : Bool) → not b ≡ true → b ≡ false
not_false true e = sym e
not_false false e = refl

keep_once : (g : Fragment → Bool) (fs : List Fragment) → distinct (identifiers fs) ≡ true → distinct (identifiers (keep g fs)) ≡ true
unfolding keep distinct
keep_once g [] d = d
keep_once g (f ∷ fs) d =
    let h = and_both (not (any (eqb f.identifier) (identifiers fs))) (distinct (identifiers fs)) d in
    go (g f) (keep_any g f.identifier fs (not_false _ h.0)) (keep_once g fs h.1)
  where
    go : (b : Bool) → any (eqb f.identifier) (identifiers (keep g fs)) ≡ false → distinct (identifiers (keep g fs)) ≡ true
        → distinct (identifiers (cond b (f ∷ keep g fs) (keep g fs))) ≡ true
    go true x ih = rw x ih
    go false x ih = ih

keep_flags : (g : Fragment → Bool) (fs : List Fragment) → SmallFlags fs → SmallFlags (keep g fs)
unfolding keep
keep_flags g [] h = tt
keep_flags g (f ∷ fs) h = go (g f) (keep_flags g fs h.1)
  where
    go : (b : Bool) → SmallFlags (keep g fs) → SmallFlags (cond b (f ∷ keep g fs) (keep g fs))
    go true ih = (h.0, ih)
    go false ih = ih

keep_within : (g : Fragment → Bool) (fs : List Fragment) → fragment_bytes (keep g fs) ≤ fragment_bytes fs
unfolding keep
keep_within g [] = omega arith
keep_within g (f ∷ fs) = go (g f) (keep_within g fs)
  where
    go : (b : Bool) → fragment_bytes (keep g fs) ≤ fragment_bytes fs → fragment_bytes (cond b (f ∷ keep g fs) (keep g fs)) ≤ fragment_bytes (f ∷ fs)
    go true ih = omega (arith, held_next f (keep g fs), held_next f fs)
    go false ih = omega (arith, held_next f fs)

keep_holds : (T : ℕ) (g : Fragment → Bool) (fs : List Fragment) → HoldsFragments T fs → HoldsFragments T (keep g fs)
keep_holds T g fs s = record {
  few = omega (arith, keep_length g fs, s.few);
  once = keep_once g fs s.once;
  flags = keep_flags g fs s.flags;
  within = omega (arith, keep_within g fs, s.within);
}

-- one more at the end
snoc_any : (a : ℕ) (fs : List Fragment) (f : Fragment) → any (eqb a) (identifiers fs) ≡ false → eqb a f.identifier ≡ false → any (eqb a) (identifiers (fs ++ (f ∷ []))) ≡ false
unfolding any
snoc_any a [] f e x = rw x
snoc_any a (g ∷ fs) f e x =
    let h = or_neither (eqb a g.identifier) (any (eqb a) (identifiers fs)) e in
    rw h.0 (snoc_any a fs f h.1 x)

pub eqb_swap : (a b : ℕ) → eqb a b ≡ false → eqb b a ≡ false
eqb_swap a b e = ne_eqb b a (λ x. eqb-false a b e (sym x))

snoc_once : (fs : List Fragment) (f : Fragment) → distinct (identifiers fs) ≡ true → any (eqb f.identifier) (identifiers fs) ≡ false → distinct (identifiers (fs ++ (f ∷ []))) ≡ true
unfolding distinct any
snoc_once [] f d e = refl
snoc_once (g ∷ fs) f d e =
    let h = and_both (not (any (eqb g.identifier) (identifiers fs))) (distinct (identifiers fs)) d in
    let x = or_neither (eqb f.identifier g.identifier) (any (eqb f.identifier) (identifiers fs)) e in
    rw (snoc_any g.identifier fs f (not_false _ h.0) (eqb_swap f.identifier g.identifier x.0)) (snoc_once fs f h.1 x.1)

snoc_flags : (fs : List Fragment) (f : Fragment) → SmallFlags fs → f.flags < 256 → SmallFlags (fs ++ (f ∷ []))
snoc_flags [] f h l = (l, tt)
snoc_flags (g ∷ fs) f h l = (h.0, snoc_flags fs f h.1 l)

snoc_fragment_bytes : (fs : List Fragment) (f : Fragment) → fragment_bytes (fs ++ (f ∷ [])) ≡ fragment_bytes fs + length f.body
unfolding fragment_bytes sum
snoc_fragment_bytes [] f = omega arith
snoc_fragment_bytes (g ∷ fs) f = omega (arith, snoc_fragment_bytes fs f)

-- none of an identifier's own is left without it
without_none : (p : ℕ) (fs : List Fragment) → any (eqb p) (identifiers (without p fs)) ≡ false
unfolding without keep any is_of
without_none p [] = refl
without_none p (f ∷ fs) = go (eqb f.identifier p) refl (without_none p fs)
  where
    go : (b : Bool) → eqb f.identifier p ≡ b → any (eqb p) (identifiers (without p fs)) ≡ false
        → any (eqb p) (identifiers (cond (not b) (f ∷ without p fs) (without p fs))) ≡ false
    go true eb ih = ih
    go false eb ih = rw (eqb_swap f.identifier p eb) ih

pub without_holds : (T p : ℕ) (fs : List Fragment) → HoldsFragments T fs → HoldsFragments T (without p fs)
unfolding without
without_holds T p fs s = keep_holds T (λ f. not (is_of p f)) fs s

pub first_holds : (L : Limits) (p flags : ℕ) (b : Bytes) (fs : List Fragment) → HoldsFragments L.total fs → HoldsFragments L.total (hold_first L p flags b fs)
unfolding hold_first
first_holds L p flags b fs s = go (ltb (length others) 256 && leb (fragment_bytes others + length b) L.total) refl
  where
    others : List Fragment
    others = without p fs

    held : HoldsFragments L.total others
    held = without_holds L.total p fs s

    new : Fragment
    new = record { identifier = p; flags = flags % 64; body = b }

    go : (a : Bool) → (ltb (length others) 256 && leb (fragment_bytes others + length b) L.total) ≡ a → HoldsFragments L.total (cond a (others ++ (new ∷ [])) others)
    go false e = held
    go true e =
        let h = and_both (ltb (length others) 256) (leb (fragment_bytes others + length b) L.total) e in
        record {
          few = omega (arith, ltb-true (length others) 256 h.0, length-append others (new ∷ []));
          once = snoc_once others new held.once (without_none p fs);
          flags = snoc_flags others new held.flags (omega arith);
          within = omega (arith, leb-true (fragment_bytes others + length b) L.total h.1, snoc_fragment_bytes others new);
        }

-- a fragment that grows stays where it is
grow_identifiers : (p : ℕ) (b : Bytes) (fs : List Fragment) → identifiers (grow_in p b fs) ≡ identifiers fs
unfolding grow_in
grow_identifiers p b [] = refl
grow_identifiers p b (f ∷ fs) = go (is_of p f) (grow_identifiers p b fs)
  where
    go : (a : Bool) → identifiers (grow_in p b fs) ≡ identifiers fs → identifiers (cond a (grown f b ∷ fs) (f ∷ grow_in p b fs)) ≡ f.identifier ∷ identifiers fs
    go true ih = refl
    go false ih = ap (λ (l : List ℕ). f.identifier ∷ l) ih

grow_length : (p : ℕ) (b : Bytes) (fs : List Fragment) → length (grow_in p b fs) ≡ length fs
unfolding grow_in
grow_length p b [] = refl
grow_length p b (f ∷ fs) = go (is_of p f) (grow_length p b fs)
  where
    go : (a : Bool) → length (grow_in p b fs) ≡ length fs → length (cond a (grown f b ∷ fs) (f ∷ grow_in p b fs)) ≡ suc (length fs)
    go true ih = refl
    go false ih = ap suc ih

grow_flags : (p : ℕ) (b : Bytes) (fs : List Fragment) → SmallFlags fs → SmallFlags (grow_in p b fs)
unfolding grow_in
grow_flags p b [] h = tt
grow_flags p b (f ∷ fs) h = go (is_of p f) (grow_flags p b fs h.1)
  where
    go : (a : Bool) → SmallFlags (grow_in p b fs) → SmallFlags (cond a (grown f b ∷ fs) (f ∷ grow_in p b fs))
    go true ih = h
    go false ih = (h.0, ih)

grow_fragment_bytes : (p : ℕ) (b : Bytes) (fs : List Fragment) → fragment_bytes (grow_in p b fs) ≤ fragment_bytes fs + length b
unfolding grow_in
grow_fragment_bytes p b [] = omega arith
grow_fragment_bytes p b (f ∷ fs) = go (is_of p f) (grow_fragment_bytes p b fs)
  where
    go : (a : Bool) → fragment_bytes (grow_in p b fs) ≤ fragment_bytes fs + length b → fragment_bytes (cond a (grown f b ∷ fs) (f ∷ grow_in p b fs)) ≤ fragment_bytes (f ∷ fs) + length b
    go true ih = omega (arith, held_next (grown f b) fs, held_next f fs, length-append f.body b)
    go false ih = omega (arith, held_next f (grow_in p b fs), held_next f fs)

pub middle_holds : (L : Limits) (p : ℕ) (b : Bytes) (fs : List Fragment) (o : Option Fragment) → HoldsFragments L.total fs → HoldsFragments L.total (middle_of o L p b fs)
unfolding fits
middle_holds L p b fs none s = s
middle_holds L p b fs (some f) s = go (fits L f b fs) refl
  where
    go : (a : Bool) → fits L f b fs ≡ a → HoldsFragments L.total (cond a (grow_in p b fs) (without p fs))
    go false e = without_holds L.total p fs s
    go true e =
        let h = and_both (leb (length f.body + length b) L.most) (leb (fragment_bytes fs + length b) L.total) e in
        record {
          few = omega (arith, grow_length p b fs, s.few);
          once = ap distinct (grow_identifiers p b fs) ∙ s.once;
          flags = grow_flags p b fs s.flags;
          within = omega (arith, grow_fragment_bytes p b fs, leb-true (fragment_bytes fs + length b) L.total h.1);
        }

-- ---- a payload, a packet

abbrev pub with_fragments_lem : {T : ℕ} {k : Known} {fs : List Fragment} → Holds T k → HoldsFragments T fs → Holds T (with_fragments fs k)
with_fragments_lem s f = record { packages_hold = s.packages_hold; maps_hold = s.maps_hold; fragments_hold = f; map_room_all = s.map_room_all }

last_holds : (L : Limits) (p : ℕ) (b : Bytes) (k : Known) (o : Option Fragment) → Holds L.total k → Holds L.total (last_for o L p b k).known
last_holds L p b k none s = s
last_holds L p b k (some f) s = go (fits L f b k.fragments)
  where
    rest : Holds L.total (with_fragments (without p k.fragments) k)
    rest = with_fragments_lem s (without_holds L.total p k.fragments s.fragments_hold)

    go : (a : Bool) → Holds L.total (cond a (learn_messages p (messages (joined f b)) (with_fragments (without p k.fragments) k)) (learnt (with_fragments (without p k.fragments) k))).known
    go true = messages_hold L.total p (messages (joined f b)) (with_fragments (without p k.fragments) k) rest
    go false = rest

indicator_holds : (i : ℕ) (L : Limits) (p flags : ℕ) (s : Bytes) (k : Known) → Holds L.total k → Holds L.total (by_indicator i L p flags s k).known
unfolding middle last
indicator_holds zero L p flags s k h =
    messages_hold L.total p (messages (flags ∷ s)) (with_fragments (without p k.fragments) k)
    (with_fragments_lem h (without_holds L.total p k.fragments h.fragments_hold))
indicator_holds (suc zero) L p flags s k h = with_fragments_lem h (first_holds L p flags (drop 1 s) k.fragments h.fragments_hold)
indicator_holds (suc (suc zero)) L p flags s k h =
    with_fragments_lem h (middle_holds L p (drop 1 s) k.fragments (fragment_of p k.fragments) h.fragments_hold)
indicator_holds (suc (suc (suc n))) L p flags s k h = last_holds L p (drop 1 s) k (fragment_of p k.fragments) h

observe_holds : (L : Limits) (p : ℕ) (s : Bytes) (k : Known) → Holds L.total k → Holds L.total (observe L p s k).known
unfolding observe
observe_holds L p [] k h = h
observe_holds L p (flags ∷ s) k h = go (in_set k.data_set p)
  where
    go : (a : Bool) → Holds L.total (cond a (learnt k) (by_indicator (indicator flags) L p flags s k)).known
    go true = h
    go false = indicator_holds (indicator flags) L p flags s k h

pub learn_holds : (L : Limits) (k : Known) (p : Bytes) → Holds L.total k → Holds L.total (learn L k p).known
unfolding learn
learn_holds L k p h = go (mmtp_of p)
  where
    inner : (m : Mmtp) (a : Bool) → Holds L.total (cond a (observe L m.identifier m.payload k) (learnt k)).known
    inner m true = observe_holds L m.identifier m.payload k h
    inner m false = h

    go : (o : Option Mmtp) → Holds L.total (learn_from L o k).known
    go none = h
    go (some m) = inner m (is_signalling m)
