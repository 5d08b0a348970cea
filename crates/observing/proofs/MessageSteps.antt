-- A message by its number, and the parts of an aggregate one after the other, as `learn_message` and `learn_aggregate` meet them. Rests on
-- StepLaws and FoldLaws.
use Prim.Native.Nat.{ℕ, zero, suc, ◌+◌, ◌-◌, ◌%◌, ◌≤◌, ◌<◌}
use mathlib.Core.Path.{◌≡◌, refl, sym, ap, ◌∙◌}
use mathlib.Core.Bool.{Bool, true, false, not}
use mathlib.Core.List.{List, [], ◌∷◌}
use mathlib.Core.Option.{none, some}
use native.Mathlib.Nat.{add-zero}
use native.Mathlib.Omega.{arith}
use lib.ListN.{length, take, drop, length-take, length-drop, length-set}
use borrow.Author.Tests.{eq-eqb, ne_eqb}
use Rattle.meaning.specs.Bytes.{Bytes}
use Rattle.meaning.specs.Sets.{in_set, with_id}
use Rattle.meaning.specs.Readers.{Out, byte, u16, u32, counted16, counted32, walk}
use Rattle.meaning.specs.Messages.{Message, indicator, aggregated, long_lengths, message, message_body, cons_message, read_each, in_body, messages}
use Rattle.meaning.specs.Tables.{pa}
use Rattle.meaning.specs.Learn.{Known, Learnt, learn_tables, pa_tables, learn_message, learn_messages, and_lost}
use Rattle.meaning.proofs.Local.{message_body_local}
use Rattle.meaning.proofs.Framed.{walk_none, walk_some}
use Rattle.std.specs.Prelude.{Some}
use Rattle.tables.specs.Answers.{FrameIs}
use Rattle.tables.specs.declared.messages.Frame.{Frame}
use Rattle.learning.specs.News.{also, change_news}
use Rattle.learning.specs.declared.Extent.{Extent}
use Rattle.learning.specs.declared.Kept.{Kept}
use Rattle.learning.specs.declared.News.{News}
use Rattle.learning.proofs.AlsoLaws.{also_none}
use Rattle.observing.specs.News.{news_tables, news_message, news_messages}
use Rattle.observing.specs.Steps.{IndicatorIs, DataLearnt, KeepsIn, KeepsSome, After, Learns}
use Rattle.observing.specs.declared.messages.Indicator.{Indicator}
use Rattle.observing.proofs.StepLaws.{after_none}
use Rattle.observing.proofs.FoldLaws.{Folds, LearntTo, and_none, and_last, to_begin, to_next, to_done}

-- ---- a message, by its number

-- a part is no longer than the whole
pub part_lost : (lost : ℕ) (s : Bytes) (a e r : ℕ) → r ≤ lost + length (take (e - a) (drop a s)) → r ≤ lost + length s
part_lost lost s a e r h = omega (arith, length-take (e - a) (drop a s), length-drop a s)

with_length : (ws : List ℕ) (q : ℕ) → length (with_id ws q) ≡ length ws
unfolding with_id
with_length ws q = simp length-set

module _ (q : ℕ) (x : Message) (k : Known) (e : Extent) (a : Kept) (o : List ℕ) (h : KeepsIn k e a o) where
  pub message_pa : x.number ≡ 0 → (r : Extent) (b : Kept) (o' : List ℕ) → After (learn_tables q (pa_tables (pa x.body)) k) (news_tables q (pa_tables (pa x.body)) k) e r a b o'
      → After (learn_message q x k) (news_message q x k) e r a b o'
  unfolding learn_message news_message
  message_pa n r b o' f = rw (eq-eqb x.number 0 n) f

  pub message_data : (x.number ≡ 0 → ⊥) → x.number ≡ 0x8003 → (r : Extent) (ws : List ℕ) → DataLearnt q e a.data_set.words r ws → After (learn_message q x k) (news_message q x k) e r a (record a { data_set = record { words = ws } }) o
  unfolding learn_message news_message
  message_data z n r ws d =
      rw (ne_eqb x.number 0 z, eq-eqb x.number 0x8003 n)
      (record {
        keeps =
            record {
              seen = ap (λ y. y.seen) d.1 ∙ h.seen;
              packages_kept = rw (ap (λ y. y.package_count) d.1) h.packages_kept;
              maps_kept = rw (ap (λ y. y.map_count) d.1) h.maps_kept;
              data_set_is = d.0 ∙ ap (λ (vs : List ℕ). with_id vs q) h.data_set_is;
              data_set_all = ap length d.0 ∙ with_length a.data_set.words q ∙ h.data_set_all;
              map_room_is = h.map_room_is;
              map_room_all = h.map_room_all;
            };
        lost_is = omega (arith, ap (λ y. y.lost) d.1);
        news_are = ap (λ y. y.news) d.1 ∙ ap (λ (vs : List ℕ). also e.news (change_news (not (in_set vs q)))) h.data_set_is;
        fragments_same = ap (λ y. y.fragment_count) d.1;
        leading_same = ap (λ y. y.leading) d.1;
        heads_same = refl;
      })

  pub message_other : (x.number ≡ 0 → ⊥) → (x.number ≡ 0x8003 → ⊥) → After (learn_message q x k) (news_message q x k) e e a a o
  unfolding learn_message news_message
  message_other z n = rw (ne_eqb x.number 0 z, ne_eqb x.number 0x8003 n) (after_none k e a o h)

-- one message alone
one_after : (q : ℕ) (x : Message) (k : Known) (e r : Extent) (a b : Kept) (o : List ℕ) → After (learn_message q x k) (news_message q x k) e r a b o
    → After (learn_messages q (x ∷ []) k) (news_messages q (x ∷ []) k) e r a b o
unfolding learn_messages news_messages
one_after q x k e r a b o f = rw (and_last (learn_message q x k), ← also_none (news_message q x k)) f

module _ (q : ℕ) (s : Bytes) (k : Known) (e r : Extent) (a b : Kept) (o : List ℕ) where
  pub found_none : message s ≡ none → KeepsIn k e a o → After (learn_messages q (cons_message (message s) []) k) (news_messages q (cons_message (message s) []) k) e e a a o
  unfolding learn_messages news_messages
  found_none n h = rw n (after_none k e a o h)

  pub found_after : (x : Message) (rest : Bytes) → message s ≡ some (x, rest) → After (learn_message q x k) (news_message q x k) e r a b o
      → After (learn_messages q (cons_message (message s) []) k) (news_messages q (cons_message (message s) []) k) e r a b o
  found_after x rest n f = rw n (one_after q x k e r a b o f)

-- ---- the parts of an aggregate, each a message or nothing

abbrev part_step : ℕ → Bytes → Known → Learnt
part_step q f k = learn_messages q (cons_message (message f) []) k

abbrev part_new : ℕ → Bytes → Known → News
part_new q f k = news_messages q (cons_message (message f) []) k

parts_fold : (q : ℕ) → Folds {A = Bytes} (part_step q) (part_new q) (λ fs. learn_messages q (read_each fs)) (λ fs. news_messages q (read_each fs))
unfolding learn_messages news_messages read_each
parts_fold q = record { nil = λ k. refl; cons = λ f fs k. on (message f) fs k; no_news_lem = λ k. refl; more_news = λ f fs k. new_on (message f) fs k }
  where
    on : (x : Out Message) (fs : List Bytes) (k : Known)
        → learn_messages q (cons_message x (read_each fs)) k ≡ and_lost (learn_messages q (cons_message x []) k).lost (learn_messages q (read_each fs) (learn_messages q (cons_message x []) k).known)
    on none fs k = and_none (learn_messages q (read_each fs) k)
    on (some (m, rest)) fs k = ap (λ (n : ℕ). and_lost n (learn_messages q (read_each fs) (learn_message q m k).known)) (sym (add-zero (learn_message q m k).lost))

    new_on : (x : Out Message) (fs : List Bytes) (k : Known)
        → news_messages q (cons_message x (read_each fs)) k ≡ also (news_messages q (cons_message x []) k) (news_messages q (read_each fs) (learn_messages q (cons_message x []) k).known)
    new_on none fs k = refl
    new_on (some (m, rest)) fs k = ap (λ (n : News). also n (news_messages q (read_each fs) (learn_message q m k).known)) (also_none (news_message q m k))

body_nil : (long : Bool) → message_body long [] ≡ none
unfolding message_body counted16 counted32 u32 u16 byte
body_nil true = refl
body_nil false = refl

abbrev pub parts : Bool → Bytes → List Bytes
parts long r = (walk (message_body long) r).found

-- those before `at` are learned
abbrev pub PartsSofar : Bytes → Bool → ℕ → Extent → Kept → List ℕ → Extent → ℕ → Kept → List ℕ → Type 0
PartsSofar s long q known a₀ o₀ e at a o = LearntTo (λ fs. learn_messages q (read_each fs)) (λ fs. news_messages q (read_each fs)) (parts long) s 0 known a₀ o₀ e at a o

module _ (s : Bytes) (long : Bool) (q : ℕ) (known : Extent) (a₀ : Kept) (o₀ : List ℕ) where
  pub parts_begin : KeepsSome known a₀ o₀ → PartsSofar s long q known a₀ o₀ known 0 a₀ o₀
  parts_begin x =
      to_begin (part_step q) (part_new q) (λ fs. learn_messages q (read_each fs)) (λ fs. news_messages q (read_each fs)) (parts_fold q) (parts long) s 0 known a₀ o₀ (omega arith) x

  module _ (e : Extent) (at : ℕ) (a : Kept) (o : List ℕ) (i : PartsSofar s long q known a₀ o₀ e at a o) where
    pub parts_next : (f : Frame) → FrameIs (message_body long (drop at s)) s at (Some f) → (r : Extent) (b : Kept) (o' : List ℕ) → length o' ≡ length o
        → Learns (part_step q (take (f.end - f.start) (drop f.start s))) (part_new q (take (f.end - f.start) (drop f.start s))) e a o r b o'
        → r.lost ≤ e.lost + length (take (f.end - f.start) (drop f.start s)) → PartsSofar s long q known a₀ o₀ r f.end b o'
    parts_next f h r b o' l g n =
        let part = take (f.end - f.start) (drop f.start s) in
        let next_parts : parts long (drop at s) ≡ part ∷ parts long (drop f.end s) =
        ap (λ w. w.found) (walk_some (message_body_local long) (body_nil long) (drop at s) part (drop f.end s) h.3) in
        to_next (part_step q) (part_new q) (λ fs. learn_messages q (read_each fs)) (λ fs. news_messages q (read_each fs)) (parts_fold q) (parts long) s 0 known a₀ o₀ e at a o i
        part f.end (omega (arith, h.0, h.1)) h.2 next_parts r b o' l g (omega (arith, n, h.0, h.1, h.2, length-take (f.end - f.start) (drop f.start s), length-drop f.start s))

    pub parts_done : message_body long (drop at s) ≡ none → Learns (λ k. learn_messages q (read_each (parts long s)) k) (λ k. news_messages q (read_each (parts long s)) k) known a₀ o₀ e a o
    parts_done f =
        to_done (part_step q) (part_new q) (λ fs. learn_messages q (read_each fs)) (λ fs. news_messages q (read_each fs)) (parts_fold q) (parts long) s 0 known a₀ o₀ e at a o i
        (ap (λ w. w.found) (walk_none (message_body long) (drop at s) f))

-- ---- a payload's messages, by its first byte

pub no_messages : (q : ℕ) (k : Known) (e : Extent) (a : Kept) (o : List ℕ) → KeepsIn k e a o → After (learn_messages q [] k) (news_messages q [] k) e e a a o
unfolding learn_messages news_messages
no_messages q k e a o h = after_none k e a o h

module _ (flags : ℕ) (s : Bytes) where
  pub messages_none : (i : Indicator) → IndicatorIs flags i → (i ≡ Indicator.Whole → ⊥) → messages (flags ∷ 0 ∷ s) ≡ []
  unfolding messages
  messages_none Indicator.Whole h n = absurd (n refl)
  messages_none Indicator.First h n = rw h
  messages_none Indicator.Middle h n = rw h
  messages_none Indicator.Last h n = rw h

  pub messages_one : indicator flags ≡ 0 → flags % 2 ≡ 0 → messages (flags ∷ 0 ∷ s) ≡ cons_message (message s) []
  unfolding messages aggregated in_body
  messages_one h z = rw (h, z)

  pub messages_many : indicator flags ≡ 0 → (flags % 2 ≡ 0 → ⊥) → messages (flags ∷ 0 ∷ s) ≡ read_each (parts (long_lengths flags) s)
  unfolding messages aggregated in_body
  messages_many h z = let o : flags % 2 ≡ 1 = odd (flags % 2) (omega arith) z in rw (h, o)
    where
      odd : (n : ℕ) → n < 2 → (n ≡ 0 → ⊥) → n ≡ 1
      odd zero l f = absurd (f refl)
      odd (suc zero) l f = refl
      odd (suc (suc n)) l f = absurd (omega arith)
