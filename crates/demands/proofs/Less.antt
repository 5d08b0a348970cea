-- Demand 3 over two series of calls, and what the user asks in other words. Rests on SeriesLaws, and on LessIsLess and SizeLaws of `meaning`.
use Prim.Native.Nat.{ℕ, ◌+◌, ◌≤◌}
use mathlib.Core.Path.{◌≡◌, refl, sym, ap, ◌∙◌, subst}
use mathlib.Core.Bool.{Bool, true, false, ◌&&◌, false≢true}
use mathlib.Core.List.Memᴰ
use mathlib.Core.List.{List, [], ◌∷◌, ◌++◌, map, flatten, Sublistᴰ}
use mathlib.Core.Option.{Option}
use native.Mathlib.Omega.{arith}
use lib.ListN.{length, take, length-append}
use lib.Seq.{length-take-le}
use lib.Dec.{eqb}
use borrow.Author.Tests.{eq-eqb}
use Rattle.meaning.specs.Bytes.{Bytes}
use Rattle.meaning.specs.Lists.{count}
use Rattle.meaning.specs.Packets.{cut}
use Rattle.meaning.specs.Wishes.{every_service, copies_all, captions_only}
use Rattle.meaning.specs.Narrow.{narrowed_packet, change_table, change_payload, change_packet}
use Rattle.meaning.specs.Rooms.{packet_limit}
use Rattle.meaning.specs.Refusals.{answer_number}
use Rattle.meaning.specs.Record.{State, Record, record_of, state_of}
use Rattle.meaning.specs.Soundness.{firsts}
use Rattle.meaning.specs.Calls.{Called}
use Rattle.meaning.specs.Start.{fresh}
use Rattle.meaning.specs.Push.{Outcome, push, filtered, called}
use Rattle.meaning.specs.Series.{Lent, series}
use Rattle.meaning.specs.Recount.{packets_of, Sized, Written, observed_mpts, lost_of}
use Rattle.meaning.specs.Less.{Fewer, Thinned}
use Rattle.meaning.specs.declared.Limits.{Limits}
use Rattle.meaning.specs.declared.Options.{Options}
use Rattle.meaning.specs.declared.Modes.{Modes}
use Rattle.meaning.specs.declared.Service.{Service}
use Rattle.meaning.specs.declared.Counts.{Counts}
use Rattle.meaning.proofs.CutLaws.{lengths}
use Rattle.meaning.proofs.Statements.{bytes_add_up}
use Rattle.meaning.proofs.LessIsLess.{less_is_less}
use Rattle.meaning.proofs.SizeLaws.{packets_again, push_sized, series_splits, splits_one}
use Rattle.meaning.proofs.RecountLaws.{table_recounted, payload_recounted, packet_recounted, push_written}
use Rattle.meaning.proofs.LostLaws.{lost_recounted}
use Rattle.meaning.proofs.SoundnessLaws.{state_holds}
use Rattle.recorder.specs.declared.Pushed as pushed
use Rattle.recorder.proofs.StateLaws.{record_parts}
use Rattle.soundness.proofs.PartLaws.{limit_fits}
use Rattle.demands.specs.Demands.{Recorder, Push, Result, Pushed, Allows, given, told, recording, Beside, LessIsLess, Recount, without_captions, accepted, InWords}
use Rattle.demands.proofs.Narrowings.{told_some, told_short}
use Rattle.demands.proofs.Between.{begins}
use Rattle.demands.proofs.SeriesLaws.{pushes_in, As, series_is, numbers_same}
use Rattle.demands.proofs.Refusing.{called_refused}
use Rattle.demands.proofs.Total.{called_accepted}

-- ---- demand 3

module _ (L : Limits) (M : Modes) (o₁ o₂ : Options) (xs₁ xs₂ : List Result) (b : Beside L M o₁ o₂ xs₁ xs₂) where
  abbrev s₁ : Recorder
  s₁ = b.begin.0

  abbrev s₂ : Recorder
  s₂ = b.begin.1

  abbrev st : State
  st = fresh s₁.map_room

  abbrev gs : List (Option Lent)
  gs = map given b.calls.0

  as₁ : As L M o₁ st gs xs₁ b.series₁.0
  as₁ = series_is L M o₁ st s₁ b.calls.0 xs₁ b.series₁.0 (begins L M o₁ s₁ b.begin.2) b.series₁.1

  as₂ : As L M o₂ st gs xs₂ b.series₂.0
  as₂ =
      let a = series_is L M o₂ (fresh s₂.map_room) s₂ b.calls.1 xs₂ b.series₂.0 (begins L M o₂ s₂ b.begin.3) b.series₂.1 in
      subst (λ (m : List ℕ). As L M o₂ (fresh m) gs xs₂ b.series₂.0) (sym b.begin.6)
      (subst (λ (hs : List (Option Lent)). As L M o₂ (fresh s₂.map_room) hs xs₂ b.series₂.0) (sym b.calls.2) a)

  less : Fewer o₁ o₂ → copies_all o₁ ≡ false → copies_all o₂ ≡ false
      → Thinned (narrowed_packet M o₁) (recording xs₁) (recording xs₂) × (map (λ x. (told x).0) xs₁ ≡ map (λ x. (told x).0) xs₂)
  less fewer some₁ some₂ =
      let cs = pushes_in gs in
      let p₁ : recording xs₁ ≡ (series L M o₁ st cs).out = ap packets_of as₁.wrote ∙ series_splits L M o₁ some₁ st cs in
      let p₂ : recording xs₂ ≡ (series L M o₂ st cs).out = ap packets_of as₂.wrote ∙ series_splits L M o₂ some₂ st cs in (
        subst (λ (ps : List Bytes). Thinned (narrowed_packet M o₁) ps (recording xs₂)) (sym p₁)
            (subst (λ (ps : List Bytes). Thinned (narrowed_packet M o₁) (series L M o₁ st cs).out ps) (sym p₂) (less_is_less L M fewer some₁ some₂ st cs).0),
        as₁.answers ∙ numbers_same L M fewer some₁ some₂ st gs ∙ sym as₂.answers,
      )

pub demand3 : LessIsLess
demand3 = less

-- ---- what a push that is not refused writes and counts

none_sized : Sized []
none_sized p m = absurd (Memᴰ.not-nil m)

none_of : (ps : List Bytes) → Sublistᴰ [] ps
none_of [] = Sublistᴰ.slnil
none_of (p ∷ ps) = Sublistᴰ.cons (none_of ps)

none_written : (M : Modes) (o : Options) (ps : List Bytes) → Written M o ps [] 0
unfolding count
none_written M o ps = record { from = []; some_of = none_of ps; narrowed = refl; rewritten_are = refl }

count_written : (L : Limits) (M : Modes) (o : Options) → copies_all o ≡ false → (st : State) (chunk : Bytes) → (push L M o st chunk).counts.written ≡ length (push L M o st chunk).out
unfolding push filtered
count_written L M o e st chunk = rw e refl

push_accepted : (L : Limits) (M : Modes) (o : Options) → copies_all o ≡ false → (st : State) (chunk : Bytes) → (push L M o st chunk).counts.accepted ≡ length (cut (packet_limit L.work) (st.held ++ chunk)).packets
unfolding push filtered
push_accepted L M o e st chunk = rw e refl

held_in_lem : (L : Limits) (M : Modes) (o : Options) (leading : ℕ) (st : State) → (record_of L M o leading st).held_count ≡ length st.held
unfolding record_of
held_in_lem L M o leading st = refl

held_before : (r : Record) (work bodies : Bytes) (map_room : List ℕ) → r.held_count ≤ length work → length (state_of r work bodies map_room).held ≡ r.held_count
unfolding state_of
held_before r work bodies map_room h = length-take-le r.held_count work h

found_in : (r : Record) (work bodies : Bytes) (map_room : List ℕ) (chunk : Bytes) → r.limits.work ≡ length work
    → (cut (packet_limit r.limits.work) ((state_of r work bodies map_room).held ++ chunk)).packets ≡ (cut (packet_limit (length work)) (take r.held_count work ++ chunk)).packets
unfolding state_of
found_in r work bodies map_room chunk e = ap (λ (n : ℕ). (cut (packet_limit n) (take r.held_count work ++ chunk)).packets) e

lengths_flat : (ps : List Bytes) → lengths ps ≡ length (flatten ps)
unfolding flatten lengths
lengths_flat [] = refl
lengths_flat (p ∷ ps) = ap (λ (n : ℕ). length p + n) (lengths_flat ps) ∙ sym (length-append p (flatten ps))

-- What a push that is not refused does.
module _ (s : Recorder) (chunk out : Bytes) (x : pushed.Pushed) (out' : Bytes) (t : Recorder) (a : Allows s (Push chunk out) (Pushed x out') t) (some_wishes : copies_all s.handed.options ≡ false) where
  abbrev p : Outcome
  p = push s.handed.limits s.handed.modes s.handed.options (state_of s.handed s.work s.bodies s.map_room) chunk

  abbrev st' : State
  st' = state_of s.handed s.work s.bodies s.map_room

  abbrev c : Called
  c = called s.handed s.work s.bodies s.map_room chunk (length out)

  -- the packets that are found in held bytes and chunk
  abbrev found : List Bytes
  found = accepted s chunk

  sized : Sized c.out × (c.counts.written ≡ length c.out) × Written s.handed.modes s.handed.options found c.out c.counts.rewritten
  sized = go (eqb c.number 0) refl
    where
      go : (b : Bool) → eqb c.number 0 ≡ b → Sized c.out × (c.counts.written ≡ length c.out) × Written s.handed.modes s.handed.options found c.out c.counts.rewritten
      go true e =
          let q = called_accepted s chunk out e in
          let k = record_parts s.handed (length s.work) (length s.bodies) (length s.map_room) q.0 in
          let w = push_written s.handed.limits s.handed.modes s.handed.options some_wishes st' chunk in
          let f = found_in s.handed s.work s.bodies s.map_room chunk k.work_is in
          subst (λ (z : Called). Sized z.out × (z.counts.written ≡ length z.out) × Written s.handed.modes s.handed.options found z.out z.counts.rewritten) (sym q.1) (
            push_sized s.handed.limits s.handed.modes s.handed.options some_wishes st' chunk,
            count_written s.handed.limits s.handed.modes s.handed.options some_wishes st' chunk,
            subst (λ (ps : List Bytes). Written s.handed.modes s.handed.options ps p.out p.counts.rewritten) f w,
          )
      go false e =
          let q = called_refused s.handed s.work s.bodies s.map_room chunk (length out) e in
          subst (λ (z : Called). Sized z.out × (z.counts.written ≡ length z.out) × Written s.handed.modes s.handed.options found z.out z.counts.rewritten) (sym q)
          (none_sized, refl, none_written s.handed.modes s.handed.options found)

  pub recounts : let y = take x.counts.bytes out' in
      (flatten (packets_of y) ≡ y) × Sized (packets_of y) × (x.counts.written ≡ length (packets_of y)) × Written s.handed.modes s.handed.options (accepted s chunk) (packets_of y) x.counts.rewritten
  recounts =
      let y : take x.counts.bytes out' ≡ flatten c.out = a.0.written.front in
      let z : packets_of (take x.counts.bytes out') ≡ c.out = ap packets_of y ∙ packets_again c.out sized.0 in
      let n = a.0.counts_are in (
        ap flatten z ∙ sym y,
        subst Sized (sym z) sized.0,
        ap (λ (k : Counts). k.written) n ∙ sized.1 ∙ ap length (sym z),
        subst (λ (ps : List Bytes). Written s.handed.modes s.handed.options found ps x.counts.rewritten) (sym z)
            (subst (λ (k : Counts). Written s.handed.modes s.handed.options found c.out k.rewritten) (sym n) sized.2),
      )

  pub adds_up : answer_number x.answer ≡ 0
      → (x.counts.accepted ≡ length (accepted s chunk))
      × (s.handed.held_count + length chunk ≡ length (flatten (accepted s chunk)) + x.counts.skipped + t.handed.held_count)
      × (x.counts.lost ≡ lost_of (firsts st'.known.map_heads) (observed_mpts s.handed.limits st'.known (accepted s chunk)))
  adds_up e =
      let q = called_accepted s chunk out (eq-eqb c.number 0 (sym a.0.answer_is ∙ e)) in
      let k = record_parts s.handed (length s.work) (length s.bodies) (length s.map_room) q.0 in
      let counts : x.counts ≡ p.counts = a.0.counts_are ∙ ap (λ (z : Called). z.counts) q.1 in
      let after : t.handed.held_count ≡ length p.state.held = ap (λ (r : Record). r.held_count) (a.1 ∙ a.0.handed_is ∙ ap (λ (z : Called). z.handed) q.1) ∙ held_in_lem s.handed.limits s.handed.modes s.handed.options _ p.state in
      let before : length st'.held ≡ s.handed.held_count = held_before s.handed s.work s.bodies s.map_room (omega (arith, k.held_few, limit_fits (length s.work))) in
      let packets : (cut (packet_limit s.handed.limits.work) (st'.held ++ chunk)).packets ≡ accepted s chunk = found_in s.handed s.work s.bodies s.map_room chunk k.work_is in
      let few = (state_holds s.handed s.work s.bodies s.map_room q.0).known_holds.maps_hold.few in (
        ap (λ (z : Counts). z.accepted) counts ∙ push_accepted s.handed.limits s.handed.modes s.handed.options some_wishes st' chunk ∙ ap length packets,
        (λ i. sym before i + length chunk)
            ∙ bytes_add_up s.handed.limits s.handed.modes s.handed.options st' chunk some_wishes
            ∙ (λ i. (ap lengths packets ∙ lengths_flat (accepted s chunk)) i + (sym counts i).skipped + sym after i),
        ap (λ (z : Counts). z.lost) counts ∙ lost_recounted s.handed.limits s.handed.modes s.handed.options st' chunk some_wishes few
            ∙ ap (λ (ps : List Bytes). lost_of (firsts st'.known.map_heads) (observed_mpts s.handed.limits st'.known ps)) packets,
      )

pub recount : Recount
recount = record {
  packets = recounts;
  one_way = splits_one;
  table = λ o t d x d' c a e. table_recounted o t c (told_some t (change_table o t) d x d' a c e);
  payload = λ o p s d x d' c a e. payload_recounted o p s c (told_some s (change_payload o p s) d x d' a c e);
  packet = λ M o p d x d' c a e. packet_recounted M o p c (told_short p (change_packet M o p) d x d' a c e) (told_some p (change_packet M o p) d x d' a c e);
}

-- ---- in the user's words

fewer_captions : (o : Options) → Fewer (without_captions o) o
fewer_captions o = record { service_same = refl; caption_too = λ e. absurd (false≢true e); carousel_too = λ e. e; eit_too = λ e. e; other_too = λ e. e }

clean_some : (o : Options) → copies_all (without_captions o) ≡ false
unfolding copies_all
clean_some o = go (every_service o.service) o.carousel o.eit o.other
  where
    go : (a b c d : Bool) → (a && false && b && c && d) ≡ false
    go true b c d = refl
    go false b c d = refl

fewer_alone : (o : Options) → o.caption ≡ true → Fewer (captions_only o.service) o
unfolding captions_only
fewer_alone o e = record { service_same = refl; caption_too = λ z. e; carousel_too = λ z. absurd (false≢true z); eit_too = λ z. absurd (false≢true z); other_too = λ z. absurd (false≢true z) }

alone_some : (s : Service) → copies_all (captions_only s) ≡ false
unfolding copies_all captions_only
alone_some s = go (every_service s)
  where
    go : (a : Bool) → (a && true && false && false && false) ≡ false
    go true = refl
    go false = refl

pub in_words : InWords
in_words = record {
  clean = λ L M o xs₁ xs₂ b some_wishes. (less L M (without_captions o) o xs₁ xs₂ b (fewer_captions o) (clean_some o) some_wishes).0;
  captions_and_tables = λ L M o xs₁ xs₂ b e some_wishes. (less L M (captions_only o.service) o xs₁ xs₂ b (fewer_alone o e) (alone_some o.service) some_wishes).0;
  nothing_lost = λ s chunk out x out' t a e some_wishes. adds_up s chunk out x out' t a some_wishes e;
}
