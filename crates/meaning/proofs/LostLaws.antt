-- Nothing is lost silently: an MPT that is learned from is held from then on, or counted as lost where 64 others are held; and the maps
-- lost of a call are those that find no place among the MPTs of its packets, counted by hand. Rests on SoundnessKept and SpareLaws.
use Prim.Native.Nat.{ℕ, zero, suc, ◌+◌, ◌*◌, ◌≤◌, ◌<◌}
use mathlib.Core.Path.{◌≡◌, refl, sym, ap, ap₂, ◌∙◌, subst}
use mathlib.Core.Logic.{◌⊎◌, inl, inr}
use mathlib.Core.Bool.{Bool, true, false, cond, ◌&&◌, ◌||◌}
use mathlib.Core.List.{List, [], ◌∷◌, ◌++◌, map, flat_map, filter_map}
use mathlib.Core.Option.{Option, none, some, Option-elim}
use native.Mathlib.Omega.{arith}
use lib.ListN.{length, drop, length-map}
use lib.Dec.{eqb, ltb}
use borrow.Author.Tests.{ltb-true, ltb-false, eqb-true, eqb-false, eq-eqb, ne_eqb}
use Rattle.meaning.specs.Bytes.{Bytes}
use Rattle.meaning.specs.Sets.{in_set}
use Rattle.meaning.specs.Lists.{any}
use Rattle.meaning.specs.Readers.{Out}
use Rattle.meaning.specs.Packets.{cut}
use Rattle.meaning.specs.Mmtp.{Mmtp, mmtp_of, is_signalling}
use Rattle.meaning.specs.Messages.{indicator, Message, messages}
use Rattle.meaning.specs.Tables.{Mpt, mpt, Package, plt, Table, is_mpt, is_plt, pa}
use Rattle.meaning.specs.Wishes.{copies_all}
use Rattle.meaning.specs.Narrow.{narrow_packet}
use Rattle.meaning.specs.Rooms.{packet_limit}
use Rattle.meaning.specs.Learn.{Fragment, Known, Learnt, learnt, Listed, assets_in, asset_numbers, lists_in, lists, over, place_for, listed, with_list, mpt_from, learn_mpt, plt_from, learn_plt, learn_table, and_lost, learn_tables, pa_tables, with_data, learn_message, learn_messages, with_fragments, without, fragment_of, fits, joined, last_for, last, by_indicator, observe, learn_from, learn}
use Rattle.meaning.specs.Rules.{list_of}
use Rattle.meaning.specs.Record.{State}
use Rattle.meaning.specs.Soundness.{firsts, Holds}
use Rattle.meaning.specs.Push.{withheld, Passed, pass_one, pass, filtered, push}
use Rattle.meaning.specs.Recount.{mpt_in, mpts_in, ListKept, ListLost, joined_messages, messages_by, observed_messages, mpt_identifiers, identifiers_from, observed_mpts, lost_of}
use Rattle.meaning.specs.declared.Limits.{Limits}
use Rattle.meaning.specs.declared.Options.{Options}
use Rattle.meaning.specs.declared.Modes.{Modes}
use Rattle.meaning.proofs.ListLaws.{clash}
use Rattle.meaning.proofs.TableLaws.{mpt_split}
use Rattle.meaning.proofs.SoundnessKept.{put_head, put_is, put_length, list_length}
use Rattle.meaning.proofs.SpareLaws.{put_list, lists_put}
use Rattle.meaning.proofs.RecountLaws.{not_both}

-- ---- the place of an identifier

abbrev is_in : ℕ → List ℕ → Bool
is_in p held = any (λ q. eqb q p) held

place_there : (p : ℕ) (ms : List (ℕ × ℕ)) → is_in p (firsts ms) ≡ true → place_for p ms < length ms
unfolding place_for any
place_there p [] e = clash (cc)
place_there p (m ∷ ms) e = go (eqb m.0 p) e (place_there p ms)
  where
    go : (a : Bool) → (a || is_in p (firsts ms)) ≡ true → (is_in p (firsts ms) ≡ true → place_for p ms < length ms) → cond a 0 (suc (place_for p ms)) < suc (length ms)
    go true h ih = omega arith
    go false h ih = omega (arith, ih h)

place_new : (p : ℕ) (ms : List (ℕ × ℕ)) → is_in p (firsts ms) ≡ false → place_for p ms ≡ length ms
unfolding place_for any
place_new p [] e = refl
place_new p (m ∷ ms) e = go (eqb m.0 p) e (place_new p ms)
  where
    go : (a : Bool) → (a || is_in p (firsts ms)) ≡ false → (is_in p (firsts ms) ≡ false → place_for p ms ≡ length ms) → cond a 0 (suc (place_for p ms)) ≡ suc (length ms)
    go true h ih = clash (cc)
    go false h ih = ap suc (ih h)

-- a head put in: where its identifier stood, or at the end
put_there : (p n : ℕ) (ms : List (ℕ × ℕ)) → is_in p (firsts ms) ≡ true → firsts (put_head p n ms) ≡ firsts ms
unfolding put_head any
put_there p n [] e = clash (cc)
put_there p n (m ∷ ms) e = go (eqb m.0 p) refl e (put_there p n ms)
  where
    go : (a : Bool) → eqb m.0 p ≡ a → (a || is_in p (firsts ms)) ≡ true → (is_in p (firsts ms) ≡ true → firsts (put_head p n ms) ≡ firsts ms)
        → firsts (cond a ((p, n) ∷ ms) (m ∷ put_head p n ms)) ≡ m.0 ∷ firsts ms
    go true ea h ih = ap (λ (z : ℕ). z ∷ firsts ms) (sym (eqb-true _ _ ea))
    go false ea h ih = ap (λ (l : List ℕ). m.0 ∷ l) (ih h)

put_new : (p n : ℕ) (ms : List (ℕ × ℕ)) → is_in p (firsts ms) ≡ false → firsts (put_head p n ms) ≡ firsts ms ++ (p ∷ [])
unfolding put_head any
put_new p n [] e = refl
put_new p n (m ∷ ms) e = go (eqb m.0 p) e (put_new p n ms)
  where
    go : (a : Bool) → (a || is_in p (firsts ms)) ≡ false → (is_in p (firsts ms) ≡ false → firsts (put_head p n ms) ≡ firsts ms ++ (p ∷ []))
        → firsts (cond a ((p, n) ∷ ms) (m ∷ put_head p n ms)) ≡ m.0 ∷ (firsts ms ++ (p ∷ []))
    go true h ih = clash (cc)
    go false h ih = ap (λ (l : List ℕ). m.0 ∷ l) (ih h)

-- ---- one MPT: kept, or lost

put_held : (p : ℕ) (as' : Listed) (ls : List (ℕ × Listed)) → list_of p (put_list p as' ls) ≡ some as'
unfolding list_of put_list
put_held p as' [] = rw (eq-eqb p p refl)
put_held p as' (l ∷ ls) = go (eqb l.0 p) refl (put_held p as' ls)
  where
    go : (a : Bool) → eqb l.0 p ≡ a → list_of p (put_list p as' ls) ≡ some as' → list_of p (cond a ((p, as') ∷ ls) (l ∷ put_list p as' ls)) ≡ some as'
    go true ea ih = rw (eq-eqb p p refl)
    go false ea ih = rw ea ih

put_others : (q p : ℕ) (as' : Listed) (ls : List (ℕ × Listed)) → eqb p q ≡ false → list_of q (put_list p as' ls) ≡ list_of q ls
unfolding list_of put_list
put_others q p as' [] h = rw h
put_others q p as' (l ∷ ls) h = go (eqb l.0 p) refl (put_others q p as' ls h)
  where
    go : (a : Bool) → eqb l.0 p ≡ a → list_of q (put_list p as' ls) ≡ list_of q ls
        → list_of q (cond a ((p, as') ∷ ls) (l ∷ put_list p as' ls)) ≡ cond (eqb l.0 q) (some l.1) (list_of q ls)
    go true ea ih = let e : eqb l.0 q ≡ false = ap (λ (z : ℕ). eqb z q) (eqb-true l.0 p ea) ∙ h in rw (h, e)
    go false ea ih = ap (λ (x : Option Listed). cond (eqb l.0 q) (some l.1) x) ih

-- without its identifier there is no list
lists_none : (p : ℕ) (ms : List (ℕ × ℕ)) (map_room : List ℕ) → is_in p (firsts ms) ≡ false → list_of p (lists_in ms map_room) ≡ none
unfolding list_of lists_in any
lists_none p [] map_room e = refl
lists_none p (m ∷ ms) map_room e = go (eqb m.0 p) e (lists_none p ms (drop 512 map_room))
  where
    go : (a : Bool) → (a || is_in p (firsts ms)) ≡ false → (is_in p (firsts ms) ≡ false → list_of p (lists_in ms (drop 512 map_room)) ≡ none)
        → cond a (some (assets_in m.1 map_room)) (list_of p (lists_in ms (drop 512 map_room))) ≡ none
    go true h ih = clash (cc)
    go false h ih = ih h

lists_length : (ms : List (ℕ × ℕ)) (map_room : List ℕ) → length (lists_in ms map_room) ≡ length ms
unfolding lists_in
lists_length [] map_room = refl
lists_length (m ∷ ms) map_room = ap suc (lists_length ms (drop 512 map_room))

module _ (T p : ℕ) (b : Bytes) (k : Known) (m : Mpt) (more : Bytes) (sound : Holds T k) (places : length k.map_room ≡ 32768) (reads : mpt b ≡ some (m, more)) where
  abbrev place : ℕ
  place = place_for p k.map_heads

  abbrev as_listed : Listed
  as_listed = listed m.entries

  is_kept : place < 64 → ListKept p as_listed k (with_list p as_listed k place)
  unfolding lists with_list
  is_kept h =
      let few = (mpt_split b m more reads).few in
      let short : length as_listed < 256 = omega (arith, few, list_length m.entries) in
      let now : lists (with_list p as_listed k place) ≡ put_list p as_listed (lists k) =
      ap (λ (ms : List (ℕ × ℕ)). lists_in ms (over k.map_room (512 * place) (asset_numbers as_listed))) (put_is p (length as_listed) k.map_heads)
      ∙ lists_put 64 p as_listed k.map_heads k.map_room sound.maps_hold.small short h places in
      record {
        held = ap (list_of p) now ∙ put_held p as_listed (lists k);
        others_stay = λ q ne. ap (list_of q) now ∙ put_others q p as_listed (lists k) (ne_eqb p q (λ e. eqb-false q p ne (sym e)));
      }

  is_lost : 64 ≤ place → ListLost p k k
  unfolding lists
  is_lost h = go (is_in p (firsts k.map_heads)) refl
    where
      go : (a : Bool) → is_in p (firsts k.map_heads) ≡ a → ListLost p k k
      go true e = absurd (omega (arith, place_there p k.map_heads e, sound.maps_hold.few))
      go false e = record {
        not_held = lists_none p k.map_heads k.map_room e;
        no_place = omega (arith, lists_length k.map_heads k.map_room, place_new p k.map_heads e, sound.maps_hold.few);
        same = refl;
      }

  -- A readable MPT that is learned from is kept, or it is counted as lost.
  pub kept_or_lost : (((learn_mpt p b k).lost ≡ 0) × ListKept p (listed m.entries) k (learn_mpt p b k).known) ⊎ (((learn_mpt p b k).lost ≡ 1) × ListLost p k (learn_mpt p b k).known)
  unfolding learn_mpt
  kept_or_lost = rw reads (go (ltb place 64) refl)
    where
      go : (a : Bool) → ltb place 64 ≡ a
          → let l : Learnt = cond a (learnt (with_list p as_listed k place)) (record { known = k; lost = 1 }) in
          ((l.lost ≡ 0) × ListKept p as_listed k l.known) ⊎ ((l.lost ≡ 1) × ListLost p k l.known)
      go true e = inl (refl, is_kept (ltb-true _ _ e))
      go false e = inr (refl, is_lost (ltb-false _ _ e))

-- ---- identifiers in order: how many find no place, and which have one afterwards

abbrev ids : Known → List ℕ
ids k = firsts k.map_heads

unfoldable held_after : List ℕ → List ℕ → List ℕ
held_after held [] = held
held_after held (p ∷ ps) = cond (is_in p held) (held_after held ps) (cond (ltb (length held) 64) (held_after (held ++ (p ∷ [])) ps) (held_after held ps))

lost_append : (held ps qs : List ℕ) → lost_of held (ps ++ qs) ≡ lost_of held ps + lost_of (held_after held ps) qs
unfolding lost_of held_after
lost_append held [] qs = omega arith
lost_append held (p ∷ ps) qs = go (is_in p held) (ltb (length held) 64) (lost_append held ps qs) (lost_append (held ++ (p ∷ [])) ps qs)
  where
    more : List ℕ
    more = held ++ (p ∷ [])

    go : (a c : Bool) → lost_of held (ps ++ qs) ≡ lost_of held ps + lost_of (held_after held ps) qs → lost_of more (ps ++ qs) ≡ lost_of more ps + lost_of (held_after more ps) qs
        → cond a (lost_of held (ps ++ qs)) (cond c (lost_of more (ps ++ qs)) (suc (lost_of held (ps ++ qs))))
        ≡ cond a (lost_of held ps) (cond c (lost_of more ps) (suc (lost_of held ps))) + lost_of (cond a (held_after held ps) (cond c (held_after more ps) (held_after held ps))) qs
    go true c h g = h
    go false true h g = g
    go false false h g = omega arith

after_append : (held ps qs : List ℕ) → held_after held (ps ++ qs) ≡ held_after (held_after held ps) qs
unfolding held_after
after_append held [] qs = refl
after_append held (p ∷ ps) qs = go (is_in p held) (ltb (length held) 64) (after_append held ps qs) (after_append (held ++ (p ∷ [])) ps qs)
  where
    more : List ℕ
    more = held ++ (p ∷ [])

    go : (a c : Bool) → held_after held (ps ++ qs) ≡ held_after (held_after held ps) qs → held_after more (ps ++ qs) ≡ held_after (held_after more ps) qs
        → cond a (held_after held (ps ++ qs)) (cond c (held_after more (ps ++ qs)) (held_after held (ps ++ qs)))
        ≡ held_after (cond a (held_after held ps) (cond c (held_after more ps) (held_after held ps))) qs
    go true c h g = h
    go false true h g = g
    go false false h g = h

-- ---- what is learned loses those of ps that find no place, and holds the others

record Told (k : Known) (ps : List ℕ) (l : Learnt) : Type 0 where
  few : length l.known.map_heads ≤ 64
  lost_is : l.lost ≡ lost_of (ids k) ps
  held_is : ids l.known ≡ held_after (ids k) ps

-- nothing, where the heads stay
told_none : (k k' : Known) → length k.map_heads ≤ 64 → k'.map_heads ≡ k.map_heads → Told k [] (learnt k')
unfolding lost_of held_after
told_none k k' few e = record { few = omega (arith, ap length e); lost_is = refl; held_is = ap firsts e }

told_then : {k : Known} {ps qs : List ℕ} {l l' : Learnt} → Told k ps l → Told l.known qs l' → Told k (ps ++ qs) (and_lost l.lost l')
told_then {k} {ps} {qs} {l} {l'} t u = record {
  few = u.few;
  lost_is = ap₂ (λ (a c : ℕ). a + c) t.lost_is (u.lost_is ∙ ap (λ (h : List ℕ). lost_of h qs) t.held_is) ∙ sym (lost_append (ids k) ps qs);
  held_is = u.held_is ∙ ap (λ (h : List ℕ). held_after h qs) t.held_is ∙ sym (after_append (ids k) ps qs);
}

-- from the same heads
told_from : (k k' : Known) {ps : List ℕ} {l : Learnt} → k'.map_heads ≡ k.map_heads → Told k' ps l → Told k ps l
told_from k k' {ps} {l} e t = record {
  few = t.few;
  lost_is = t.lost_is ∙ ap (λ (ms : List (ℕ × ℕ)). lost_of (firsts ms) ps) e;
  held_is = t.held_is ∙ ap (λ (ms : List (ℕ × ℕ)). held_after (firsts ms) ps) e;
}

-- ---- an MPT, a table, tables

abbrev one : ℕ → Out Mpt → List ℕ
one p none = []
one p (some x) = p ∷ []

module _ (p : ℕ) (k : Known) (few : length k.map_heads ≤ 64) where
  told_mpt : (x : Out Mpt) → Told k (one p x) (mpt_from p x k)
  unfolding lost_of held_after with_list
  told_mpt none = told_none k k few refl
  told_mpt (some (m, more)) =
      let g = go (is_in p (ids k)) refl (ltb (length (ids k)) 64) refl (ltb (place_for p k.map_heads) 64) refl in
      record { few = g.0; lost_is = g.1; held_is = g.2 }
    where
      n : ℕ
      n = length (listed m.entries)

      same_long : length (ids k) ≡ length k.map_heads
      same_long = length-map k.map_heads (λ x. x.0)

      put : Known
      put = with_list p (listed m.entries) k (place_for p k.map_heads)

      put_few : place_for p k.map_heads < 64 → length put.map_heads ≤ 64
      put_few h = omega (arith, ap length (put_is p n k.map_heads), put_length 64 p n k.map_heads few h)

      go : (a : Bool) → is_in p (ids k) ≡ a → (c : Bool) → ltb (length (ids k)) 64 ≡ c → (d : Bool) → ltb (place_for p k.map_heads) 64 ≡ d
          → let l : Learnt = cond d (learnt put) (record { known = k; lost = 1 }) in
          (length l.known.map_heads ≤ 64) × (l.lost ≡ cond a 0 (cond c 0 1)) × (ids l.known ≡ cond a (ids k) (cond c (ids k ++ (p ∷ [])) (ids k)))
      go true ea c ec true ed = (put_few (ltb-true _ _ ed), refl, ap firsts (put_is p n k.map_heads) ∙ put_there p n k.map_heads ea)
      go true ea c ec false ed = let far : 64 ≤ place_for p k.map_heads = ltb-false _ _ ed in absurd (omega (arith, place_there p k.map_heads ea))
      go false ea true ec true ed = (put_few (ltb-true _ _ ed), refl, ap firsts (put_is p n k.map_heads) ∙ put_new p n k.map_heads ea)
      go false ea true ec false ed =
          let far : 64 ≤ place_for p k.map_heads = ltb-false _ _ ed in
          let room : length (ids k) < 64 = ltb-true _ _ ec in
          absurd (omega (arith, place_new p k.map_heads ea, same_long))
      go false ea false ec true ed =
          let near : place_for p k.map_heads < 64 = ltb-true _ _ ed in
          let full : 64 ≤ length (ids k) = ltb-false _ _ ec in
          absurd (omega (arith, place_new p k.map_heads ea, same_long))
      go false ea false ec false ed = (few, refl, refl)

  plt_heads : (x : Out (List Package)) → (plt_from x k).map_heads ≡ k.map_heads
  plt_heads none = refl
  plt_heads (some (xs, more)) = refl

  told_table : (t : Table) → Told k (one p (mpt_in t)) (learn_table p t k)
  unfolding learn_table learn_plt learn_mpt mpt_in
  told_table t = go (is_plt t.number && eqb p 0) refl (is_mpt t.number) refl
    where
      go : (a : Bool) → (is_plt t.number && eqb p 0) ≡ a → (c : Bool) → is_mpt t.number ≡ c
          → Told k (one p (cond c (mpt t.body) none)) (cond a (learnt (plt_from (plt t.body) k)) (cond c (mpt_from p (mpt t.body) k) (learnt k)))
      go true ea true ec = absurd (not_both t.number p ec ea)
      go true ea false ec = told_none k (plt_from (plt t.body) k) few (plt_heads (plt t.body))
      go false ea true ec = told_mpt (mpt t.body)
      go false ea false ec = told_none k k few refl

told_tables : (p : ℕ) (ts : List (Table × Bytes)) (k : Known) → length k.map_heads ≤ 64 → Told k (map (λ x. p) (mpts_in ts)) (learn_tables p ts k)
unfolding learn_tables mpts_in filter_map Option-elim
told_tables p [] k few = told_none k k few refl
told_tables p (t ∷ ts) k few =
    let h = told_table p k few t.0 in
    subst (λ (ps : List ℕ). Told k ps (and_lost (learn_table p t.0 k).lost (learn_tables p ts (learn_table p t.0 k).known))) (go (mpt_in t.0))
    (told_then h (told_tables p ts (learn_table p t.0 k).known h.few))
  where
    go : (x : Out Mpt) → one p x ++ map (λ x. p) (mpts_in ts) ≡ map (λ x. p) (Option-elim x (mpts_in ts) (λ m. m ∷ mpts_in ts))
    go none = refl
    go (some m) = refl

-- ---- messages, payloads, packets

told_message : (p : ℕ) (m : Message) (k : Known) → length k.map_heads ≤ 64
    → Told k (cond (eqb m.number 0) (map (λ x. p) (mpts_in (pa_tables (pa m.body)))) []) (learn_message p m k)
unfolding learn_message
told_message p m k few = go (eqb m.number 0) (eqb m.number 0x8003)
  where
    go : (a c : Bool) → Told k (cond a (map (λ x. p) (mpts_in (pa_tables (pa m.body)))) []) (cond a (learn_tables p (pa_tables (pa m.body)) k) (cond c (learnt (with_data p k)) (learnt k)))
    go true c = told_tables p (pa_tables (pa m.body)) k few
    go false true = told_none k (with_data p k) few refl
    go false false = told_none k k few refl

told_messages : (p : ℕ) (ms : List Message) (k : Known) → length k.map_heads ≤ 64 → Told k (mpt_identifiers p ms) (learn_messages p ms k)
unfolding learn_messages mpt_identifiers flat_map
told_messages p [] k few = told_none k k few refl
told_messages p (m ∷ ms) k few = let h = told_message p m k few in told_then h (told_messages p ms (learn_message p m k).known h.few)

module _ (L : Limits) (p : ℕ) (k : Known) (few : length k.map_heads ≤ 64) where
  -- after fragments have changed
  told_fragments : (fs : List Fragment) (ms : List Message) → Told k (mpt_identifiers p ms) (learn_messages p ms (with_fragments fs k))
  told_fragments fs ms = told_from k (with_fragments fs k) refl (told_messages p ms (with_fragments fs k) few)

  told_nothing : (k' : Known) → k'.map_heads ≡ k.map_heads → Told k (mpt_identifiers p []) (learnt k')
  unfolding mpt_identifiers flat_map
  told_nothing k' e = told_none k k' few e

  told_last : (f : Option Fragment) (s : Bytes) → Told k (mpt_identifiers p (joined_messages f L s k.fragments)) (last_for f L p s k)
  told_last none s = told_nothing k refl
  told_last (some f) s = go (fits L f s k.fragments)
    where
      fs : List Fragment
      fs = without p k.fragments

      go : (a : Bool) → Told k (mpt_identifiers p (cond a (messages (joined f s)) [])) (cond a (learn_messages p (messages (joined f s)) (with_fragments fs k)) (learnt (with_fragments fs k)))
      go true = told_fragments fs (messages (joined f s))
      go false = told_nothing (with_fragments fs k) refl

  told_by : (i flags : ℕ) (s : Bytes) → Told k (mpt_identifiers p (messages_by i L p (flags ∷ s) k)) (by_indicator i L p flags s k)
  unfolding last
  told_by zero flags s = told_fragments (without p k.fragments) (messages (flags ∷ s))
  told_by (suc zero) flags s = told_nothing _ refl
  told_by (suc (suc zero)) flags s = told_nothing _ refl
  told_by (suc (suc (suc n))) flags s = told_last (fragment_of p k.fragments) (drop 1 s)

  told_observed : (s : Bytes) → Told k (mpt_identifiers p (observed_messages L p s k)) (observe L p s k)
  unfolding observe observed_messages
  told_observed [] = told_nothing k refl
  told_observed (flags ∷ s) = go (in_set k.data_set p)
    where
      go : (a : Bool) → Told k (mpt_identifiers p (cond a [] (messages_by (indicator flags) L p (flags ∷ s) k))) (cond a (learnt k) (by_indicator (indicator flags) L p flags s k))
      go true = told_nothing k refl
      go false = told_by (indicator flags) flags s

told_packet : (L : Limits) (k : Known) → length k.map_heads ≤ 64 → (x : Option Mmtp) → Told k (identifiers_from L x k) (learn_from L x k)
told_packet L k few none = told_none k k few refl
told_packet L k few (some m) = go (is_signalling m)
  where
    go : (a : Bool) → Told k (cond a (mpt_identifiers m.identifier (observed_messages L m.identifier m.payload k)) []) (cond a (observe L m.identifier m.payload k) (learnt k))
    go true = told_observed L m.identifier k few m.payload
    go false = told_none k k few refl

told_learn : (L : Limits) (k : Known) (p : Bytes) → length k.map_heads ≤ 64 → Told k (identifiers_from L (mmtp_of p) k) (learn L k p)
unfolding learn
told_learn L k p few = told_packet L k few (mmtp_of p)

-- ---- a run, and a call

pass_lost : (L : Limits) (M : Modes) (o : Options) (k : Known) (ps : List Bytes) → length k.map_heads ≤ 64 → (pass L M o k ps).lost ≡ lost_of (ids k) (observed_mpts L k ps)
unfolding pass observed_mpts lost_of
pass_lost L M o k [] few = refl
pass_lost L M o k (p ∷ ps) few =
    let t = told_learn L k p few in
    go (withheld o (learn L k p).known (mmtp_of p)) t (pass_lost L M o (learn L k p).known ps t.few)
  where
    r : Passed
    r = pass L M o (learn L k p).known ps

    rest : List ℕ
    rest = observed_mpts L (learn L k p).known ps

    sums : Told k (identifiers_from L (mmtp_of p) k) (learn L k p) → r.lost ≡ lost_of (ids (learn L k p).known) rest
        → (learn L k p).lost + r.lost ≡ lost_of (ids k) (identifiers_from L (mmtp_of p) k ++ rest)
    sums t ih =
        ap₂ (λ (a c : ℕ). a + c) t.lost_is (ih ∙ ap (λ (h : List ℕ). lost_of h rest) t.held_is) ∙ sym (lost_append (ids k) (identifiers_from L (mmtp_of p) k) rest)

    go : (a : Bool) → Told k (identifiers_from L (mmtp_of p) k) (learn L k p) → r.lost ≡ lost_of (ids (learn L k p).known) rest
        → (pass_one a (narrow_packet M o p) p (learn L k p).lost r).lost ≡ lost_of (ids k) (identifiers_from L (mmtp_of p) k ++ rest)
    go true t ih = sums t ih
    go false t ih = sums t ih

-- The maps lost of a call: of the MPTs of its packets in order, those that find no place beside the lists held before.
pub lost_recounted : (L : Limits) (M : Modes) (o : Options) (st : State) (chunk : Bytes) → copies_all o ≡ false → length st.known.map_heads ≤ 64
    → (push L M o st chunk).counts.lost ≡ lost_of (firsts st.known.map_heads) (observed_mpts L st.known (cut (packet_limit L.work) (st.held ++ chunk)).packets)
unfolding push filtered
lost_recounted L M o st chunk e few = rw e (pass_lost L M o st.known (cut (packet_limit L.work) (st.held ++ chunk)).packets few)
