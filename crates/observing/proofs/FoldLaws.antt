-- Learning from one thing after the other: what a loop has reached is what the definition makes of the things before, and the rest is what
-- it makes of those left. Rests on StepLaws.
use Prim.Native.Nat.{ℕ, ◌+◌, ◌-◌, ◌≤◌}
use native.Mathlib.Nat.{zero-add, add-zero, add_assoc}
use native.Mathlib.Omega.{arith}
use mathlib.Core.Path.{◌≡◌, refl, sym, ap, ◌∙◌, subst}
use mathlib.Core.List.{List, [], ◌∷◌}
use lib.ListN.{length, drop}
use Rattle.meaning.specs.Bytes.{Bytes}
use Rattle.meaning.specs.Learn.{Known, Learnt, learnt, and_lost}
use Rattle.learning.specs.News.{no_news, also}
use Rattle.learning.specs.declared.Extent.{Extent}
use Rattle.learning.specs.declared.Kept.{Kept}
use Rattle.learning.specs.declared.News.{News}
use Rattle.learning.proofs.AlsoLaws.{also_assoc, also_none}
use Rattle.observing.specs.Steps.{KeepsIn, KeepsSome, After, Learns}
use Rattle.observing.proofs.StepLaws.{after_none, after_then}

-- A fold over things: what each teaches, and what is new with it.
pub record Folds {A : Type 0} (one : A → Known → Learnt) (new : A → Known → News) (all : List A → Known → Learnt) (news : List A → Known → News) : Type 0 where
  pub nil : (k : Known) → all [] k ≡ learnt k
  pub cons : (a : A) (as' : List A) (k : Known) → all (a ∷ as') k ≡ and_lost (one a k).lost (all as' (one a k).known)
  pub no_news_lem : (k : Known) → news [] k ≡ no_news
  pub more_news : (a : A) (as' : List A) (k : Known) → news (a ∷ as') k ≡ also (new a k) (news as' (one a k).known)

-- Of the things xs, those before ys are learned.
pub record Reached {A : Type 0} (all : List A → Known → Learnt) (news : List A → Known → News) (xs ys : List A) (k : Known) (known e : Extent) (a₀ a : Kept) (o : List ℕ) : Type 0 where
  pub so : Learnt
  pub newly : News
  pub after : After so newly known e a₀ a o
  pub left : all xs k ≡ and_lost so.lost (all ys so.known)
  pub news_left : news xs k ≡ also newly (news ys so.known)

pub and_none : (l : Learnt) → l ≡ and_lost 0 l
and_none l i = record { known = l.known; lost = sym (zero-add l.lost) i }

and_more : (a b : ℕ) (l : Learnt) → and_lost a (and_lost b l) ≡ and_lost (a + b) l
and_more a b l i = record { known = l.known; lost = sym (add_assoc a b l.lost) i }

pub and_last : (l : Learnt) → and_lost l.lost (learnt l.known) ≡ l
and_last l i = record { known = l.known; lost = add-zero l.lost i }

module _ {A : Type 0} (one : A → Known → Learnt) (new : A → Known → News) (all : List A → Known → Learnt) (news : List A → Known → News)
    (folds : Folds one new all news) (xs : List A) (k : Known) (known : Extent) (a₀ : Kept) where
  pub reach_begin : (o : List ℕ) → KeepsIn k known a₀ o → Reached all news xs xs k known known a₀ a₀ o
  reach_begin o h = record { so = learnt k; newly = no_news; after = after_none k known a₀ o h; left = and_none (all xs k); news_left = refl }

  pub reach_next : (x : A) (ys : List A) (e r : Extent) (a : Kept) (o : List ℕ) (b : Kept) (o' : List ℕ) (h : Reached all news xs (x ∷ ys) k known e a₀ a o)
      → After (one x h.so.known) (new x h.so.known) e r a b o' → Reached all news xs ys k known r a₀ b o'
  reach_next x ys e r a o b o' h f =
      let s = h.so in
      let t = one x s.known in
      let n = new x s.known in
      record {
        so = and_lost s.lost t;
        newly = also h.newly n;
        after = after_then s t h.newly n known e r a₀ a b o o' h.after f;
        left = h.left ∙ ap (and_lost s.lost) (folds.cons x ys s.known) ∙ and_more s.lost t.lost (all ys t.known);
        news_left = h.news_left ∙ ap (also h.newly) (folds.more_news x ys s.known) ∙ sym (also_assoc h.newly n (news ys t.known));
      }

  pub reach_done : (e : Extent) (a : Kept) (o : List ℕ) → Reached all news xs [] k known e a₀ a o → After (all xs k) (news xs k) known e a₀ a o
  reach_done e a o h =
      let s = h.so in
      let l : all xs k ≡ s = h.left ∙ ap (and_lost s.lost) (folds.nil s.known) ∙ and_last s in
      let n : news xs k ≡ h.newly = h.news_left ∙ ap (also h.newly) (folds.no_news_lem s.known) ∙ sym (also_none h.newly) in
      rw (l, n) h.after

-- ---- the things that stand in bytes, from some offset on

-- Those before `at` are learned; each loses no more maps than it has bytes.
pub record LearntTo {A : Type 0} (all : List A → Known → Learnt) (news : List A → Known → News) (things : Bytes → List A) (s : Bytes) (from : ℕ) (known : Extent) (a₀ : Kept) (o₀ : List ℕ)
    (e : Extent) (at : ℕ) (a : Kept) (o : List ℕ) : Type 0 where
  pub in_s : at ≤ length s
  pub countable : e.lost + (length s - at) ≤ known.lost + length s
  pub some_known : KeepsSome e a o
  pub same : length o ≡ length o₀
  pub reached : (k : Known) → KeepsIn k known a₀ o₀ → Reached all news (things (drop from s)) (things (drop at s)) k known e a₀ a o

module _ {A : Type 0} (one : A → Known → Learnt) (new : A → Known → News) (all : List A → Known → Learnt) (news : List A → Known → News)
    (folds : Folds one new all news) (things : Bytes → List A) (s : Bytes) (from : ℕ) (known : Extent) (a₀ : Kept) (o₀ : List ℕ) where
  pub to_begin : from ≤ length s → KeepsSome known a₀ o₀ → LearntTo all news things s from known a₀ o₀ known from a₀ o₀
  to_begin l x =
      record { in_s = l; countable = omega arith; some_known = x; same = refl; reached = λ k h. reach_begin one new all news folds (things (drop from s)) k known a₀ o₀ h }

  module _ (e : Extent) (at : ℕ) (a : Kept) (o : List ℕ) (i : LearntTo all news things s from known a₀ o₀ e at a o) where
    pub to_next : (x : A) (to : ℕ) → at ≤ to → to ≤ length s → things (drop at s) ≡ x ∷ things (drop to s) → (r : Extent) (b : Kept) (o' : List ℕ) → length o' ≡ length o
        → Learns (one x) (new x) e a o r b o' → r.lost ≤ e.lost + (to - at) → LearntTo all news things s from known a₀ o₀ r to b o'
    to_next x to forth inside cut r b o' l f few =
        let y = i.some_known in
        record {
          in_s = inside;
          countable = omega (arith, i.countable, few, forth, inside);
          some_known = ((one x y.0).known, (f y.0 y.1).keeps);
          same = l ∙ i.same;
          reached = λ k h.
              let z = subst (λ (ts : List A). Reached all news (things (drop from s)) ts k known e a₀ a o) cut (i.reached k h) in
              reach_next one new all news folds (things (drop from s)) k known a₀ x (things (drop to s)) e r a o b o' z (f z.so.known z.after.keeps);
        }

    pub to_done : things (drop at s) ≡ [] → Learns (all (things (drop from s))) (news (things (drop from s))) known a₀ o₀ e a o
    to_done cut k h =
        let z = subst (λ (ts : List A). Reached all news (things (drop from s)) ts k known e a₀ a o) cut (i.reached k h) in
        reach_done one new all news folds (things (drop from s)) k known a₀ e a o z
