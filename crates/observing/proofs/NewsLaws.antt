-- What no change means: where the news tell none, learning changes at most the held fragments, so what is dropped and whether it is ready stay
-- as they are. Of every state, sound or not. Rests on specs/News, on FoldLaws, and on what the two tests of sameness prove (PairLaws and
-- HeldLaws of `learning`).
use Prim.Native.Nat.{ℕ, zero, suc, ◌*◌}
use mathlib.Core.Path.{◌≡◌, refl, sym, ap, ◌∙◌}
use mathlib.Core.Bool.{Bool, true, false, cond, not, ◌&&◌}
use mathlib.Core.List.{List, [], ◌∷◌}
use mathlib.Core.Option.{Option, none, some}
use lib.ListN.{drop}
use lib.Dec.{ltb, eqb}
use borrow.Author.Tests.{not-false}
use Rattle.meaning.specs.Bytes.{Bytes}
use Rattle.meaning.specs.Sets.{Words, in_set}
use Rattle.meaning.specs.Readers.{Out}
use Rattle.meaning.specs.Messages.{Message, messages, indicator}
use Rattle.meaning.specs.Tables.{Mpt, mpt, Package, plt, Table, is_mpt, is_plt, pa}
use Rattle.meaning.specs.Learn.{Fragment, Known, Learnt, learnt, Listed, lists, place_for, listed, with_list, mpt_from, learn_mpt, packages_in, plt_from, learn_plt, learn_table, learn_tables, pa_tables, with_data, learn_message, learn_messages, with_fragments, without, fragment_of, hold_first, fits, middle, joined, last_for, last, by_indicator, observe}
use Rattle.meaning.specs.Rules.{in_drop_set, drops, ready}
use Rattle.meaning.specs.declared.Limits.{Limits}
use Rattle.meaning.specs.declared.Options.{Options}
use Rattle.meaning.specs.declared.Service.{Service}
use Rattle.meaning.proofs.SetLaws.{insert_there}
use Rattle.meaning.proofs.ListLaws.{and_both, or_neither}
use Rattle.learning.specs.News.{no_news, change_news, kinds_in, same_pairs, plt_news, count_at, same_list, list_new}
use Rattle.learning.specs.declared.News.{News}
use Rattle.learning.proofs.PairLaws.{pairs_true}
use Rattle.learning.proofs.HeldLaws.{list_there}
use Rattle.observing.specs.News.{mpt_new, news_table, news_message, news_messages, news_tables, news_last, news_by, anything, news}
use Rattle.observing.proofs.FoldLaws.{Folds}
use Rattle.observing.proofs.TableSteps.{tables_fold}

-- what is written anew, field by field, is what was known
known_same : (k : Known) {seen : Bool} {ps ms : List (ℕ × ℕ)} {map_room : List ℕ} {ws : Words}
    → seen ≡ k.plt_seen → ps ≡ k.packages → ms ≡ k.map_heads → map_room ≡ k.map_room → ws ≡ k.data_set
    → record { plt_seen = seen; packages = ps; map_heads = ms; map_room = map_room; data_set = ws; fragments = k.fragments } ≡ k
known_same k a b c d e = λ i. record { plt_seen = a i; packages = b i; map_heads = c i; map_room = d i; data_set = e i; fragments = k.fragments }

-- ---- a list that stands in its place

module _ (p : ℕ) (as' : Listed) (k : Known) where
  abbrev at : ℕ
  at = place_for p k.map_heads

  list_same : same_list (count_at at k.map_heads) as' (drop (512 * at) k.map_room) ≡ true → with_list p as' k at ≡ k
  unfolding with_list
  list_same h = let t = list_there p as' k.map_heads k.map_room h in known_same k refl refl t.0 t.1 refl

  -- it is there, or it is lost
  list_still : list_new p as' k.map_heads k.map_room ≡ false → (cond (ltb at 64) (learnt (with_list p as' k at)) (record { known = k; lost = 1 })).known ≡ k
  unfolding list_new
  list_still e = go (ltb at 64) e
    where
      go : (a : Bool) → (a && not (same_list (count_at at k.map_heads) as' (drop (512 * at) k.map_room))) ≡ false
          → (cond a (learnt (with_list p as' k at)) (record { known = k; lost = 1 })).known ≡ k
      go true e = list_same (not-false _ e)
      go false e = refl

-- ---- a table

mpt_still : (p : ℕ) (x : Out Mpt) (k : Known) → (mpt_new p x k.map_heads k.map_room).changed ≡ false → (mpt_from p x k).known ≡ k
mpt_still p none k e = refl
mpt_still p (some (m, more)) k e = list_still p (listed m.entries) k (or_neither (list_new p (listed m.entries) k.map_heads k.map_room) (kinds_in m.entries).changed e).0

pub plt_still : (x : Out (List Package)) (k : Known) → (plt_news x k.plt_seen k.packages).changed ≡ false → plt_from x k ≡ k
plt_still none k e = refl
plt_still (some (xs, more)) k e =
    let b = and_both k.plt_seen (same_pairs k.packages (packages_in xs [])) (not-false _ (or_neither _ false e).0) in
    known_same k (sym b.0) (sym (pairs_true k.packages (packages_in xs []) b.1)) refl refl refl

pub table_still : (p : ℕ) (t : Table) (k : Known) → (news_table p t k).changed ≡ false → (learn_table p t k).known ≡ k
unfolding news_table learn_table learn_plt learn_mpt
table_still p t k e = go (is_plt t.number && eqb p 0) (is_mpt t.number) e
  where
    go : (a b : Bool) → (cond a (plt_news (plt t.body) k.plt_seen k.packages) (cond b (mpt_new p (mpt t.body) k.map_heads k.map_room) no_news)).changed ≡ false
        → (cond a (learnt (plt_from (plt t.body) k)) (cond b (mpt_from p (mpt t.body) k) (learnt k))).known ≡ k
    go true b e = plt_still (plt t.body) k e
    go false true e = mpt_still p (mpt t.body) k e
    go false false e = refl

-- ---- one thing after the other

-- each leaves what is known as it is, so all do
fold_still : {A : Type 0} (one : A → Known → Learnt) (new : A → Known → News) (all : List A → Known → Learnt) (some_new : List A → Known → News) → Folds one new all some_new
    → ((a : A) (k : Known) → (new a k).changed ≡ false → (one a k).known ≡ k) → (as' : List A) (k : Known) → (some_new as' k).changed ≡ false → (all as' k).known ≡ k
fold_still one new all some_new f h [] k e = ap (λ l. l.known) (f.nil k)
fold_still one new all some_new f h (a ∷ as') k e =
    let b = or_neither (new a k).changed (some_new as' (one a k).known).changed (sym (ap (λ (n : News). n.changed) (f.more_news a as' k)) ∙ e) in
    let same = h a k b.0 in
    ap (λ l. l.known) (f.cons a as' k) ∙ ap (λ (z : Known). (all as' z).known) same ∙ fold_still one new all some_new f h as' k (rw same at b.1)

message_still : (p : ℕ) (m : Message) (k : Known) → (news_message p m k).changed ≡ false → (learn_message p m k).known ≡ k
unfolding news_message learn_message
message_still p m k e = go (eqb m.number 0) (eqb m.number 0x8003) e
  where
    ts : List (Table × Bytes)
    ts = pa_tables (pa m.body)

    go : (a b : Bool) → (cond a (news_tables p ts k) (cond b (change_news (not (in_set k.data_set p))) no_news)).changed ≡ false
        → (cond a (learn_tables p ts k) (cond b (learnt (with_data p k)) (learnt k))).known ≡ k
    go true b e = fold_still (λ t. learn_table p t.0) (λ t. news_table p t.0) (learn_tables p) (news_tables p) (tables_fold p) (λ t. table_still p t.0) ts k e
    go false true e = known_same k refl refl refl refl (insert_there k.data_set p (not-false _ e))
    go false false e = refl

messages_fold : (p : ℕ) → Folds (learn_message p) (news_message p) (learn_messages p) (news_messages p)
unfolding learn_messages news_messages
messages_fold p = record { nil = λ k. refl; cons = λ m ms k. refl; no_news_lem = λ k. refl; more_news = λ m ms k. refl }

-- ---- a payload

-- The same is known, but for fragments.
pub record Still (k k' : Known) : Type 0 where
  pub fragments_after : List Fragment
  pub known_is : k' ≡ with_fragments fragments_after k

module _ (L : Limits) (p : ℕ) where
  messages_still : (ms : List Message) (fs : List Fragment) (k : Known) → (news_messages p ms (with_fragments fs k)).changed ≡ false → Still k (learn_messages p ms (with_fragments fs k)).known
  messages_still ms fs k e = record {
    fragments_after = fs;
    known_is = fold_still (learn_message p) (news_message p) (learn_messages p) (news_messages p) (messages_fold p) (message_still p) ms (with_fragments fs k) e;
  }

  last_still : (o : Option Fragment) (b : Bytes) (k : Known) → (news_last o L p b k).changed ≡ false → Still k (last_for o L p b k).known
  last_still none b k e = record { fragments_after = k.fragments; known_is = refl }
  last_still (some f) b k e = go (fits L f b k.fragments) e
    where
      rest : List Fragment
      rest = without p k.fragments

      go : (a : Bool) → (cond a (news_messages p (messages (joined f b)) (with_fragments rest k)) no_news).changed ≡ false
          → Still k (cond a (learn_messages p (messages (joined f b)) (with_fragments rest k)) (learnt (with_fragments rest k))).known
      go true e = messages_still (messages (joined f b)) rest k e
      go false e = record { fragments_after = rest; known_is = refl }

  by_still : (i flags : ℕ) (s : Bytes) (k : Known) → (news_by i L p flags s k).changed ≡ false → Still k (by_indicator i L p flags s k).known
  unfolding last
  by_still zero flags s k e = messages_still (messages (flags ∷ s)) (without p k.fragments) k e
  by_still (suc zero) flags s k e = record { fragments_after = hold_first L p flags (drop 1 s) k.fragments; known_is = refl }
  by_still (suc (suc zero)) flags s k e = record { fragments_after = middle L p (drop 1 s) k.fragments; known_is = refl }
  by_still (suc (suc (suc i))) flags s k e = last_still (fragment_of p k.fragments) (drop 1 s) k e

-- Where nothing changed, at most fragments changed.
pub still : (L : Limits) (p : ℕ) (s : Bytes) (k : Known) → (news L p s k).changed ≡ false → Still k (observe L p s k).known
unfolding news observe
still L p [] k e = record { fragments_after = k.fragments; known_is = refl }
still L p (flags ∷ s) k e = go (in_set k.data_set p) e
  where
    go : (a : Bool) → (cond a anything (news_by (indicator flags) L p flags s k)).changed ≡ false → Still k (cond a (learnt k) (by_indicator (indicator flags) L p flags s k)).known
    go true e = record { fragments_after = k.fragments; known_is = refl }
    go false e = by_still L p (indicator flags) flags s k e

-- ---- and no rule reads fragments

module _ {k k' : Known} (x : Still k k') where
  pub drops_still : (o : Options) (q : ℕ) → drops o k' q ≡ drops o k q
  unfolding drops in_drop_set lists
  drops_still o q = ap (λ (z : Known). drops o z q) x.known_is

  pub ready_still : (s : Service) → ready s k' ≡ ready s k
  unfolding ready lists
  ready_still s = ap (ready s) x.known_is
