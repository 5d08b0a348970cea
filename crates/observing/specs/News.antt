-- What is new, table by table and message by message: whether what is known changed, as 000's `changed`, since the rules are worked out
-- again only then; and what stands in the tables, since they are narrowed only where a wish is against that.
use Rattle.std.specs.Prelude.{ℕ, zero, suc, true, false, cond, not, ◌&&◌, List, [], ◌∷◌, drop, eqb}
use Rattle.std.proofs.Math.Option.{Option, none, some}
use Rattle.meaning.specs.Bytes.{Bytes}
use Rattle.meaning.specs.Sets.{in_set}
use Rattle.meaning.specs.Readers.{Out}
use Rattle.meaning.specs.Messages.{Message, messages, indicator}
use Rattle.meaning.specs.Tables.{Mpt, mpt, plt, Table, is_mpt, is_plt, pa}
use Rattle.meaning.specs.Learn.{Known, listed, packages_in, learn_table, pa_tables, learn_message, fragment_of, fits, Fragment, joined, with_fragments, without}
use Rattle.meaning.specs.declared.Limits.{Limits}
use Rattle.learning.specs.News.{no_news, also, change_news, kinds_in, unlisted, same_pairs, plt_news, list_new, list_news}
use Rattle.learning.specs.declared.News.{News}

abbrev pub mpt_new : ℕ → Out Mpt → List (ℕ × ℕ) → List ℕ → News
mpt_new p none ms map_room = no_news
mpt_new p (some (m, more)) ms map_room = list_news p m.entries ms map_room

unfoldable pub news_table : ℕ → Table → Known → News
unfolding is_plt is_mpt plt mpt packages_in same_pairs unlisted listed list_new kinds_in
news_table p t k =
    cond (is_plt t.number && eqb p 0) (plt_news (plt t.body) k.plt_seen k.packages)
    (cond (is_mpt t.number) (mpt_new p (mpt t.body) k.map_heads k.map_room) no_news)

unfoldable pub news_tables : ℕ → List (Table × Bytes) → Known → News
unfolding news_table learn_table
news_tables p [] k = no_news
news_tables p (t ∷ ts) k = also (news_table p t.0 k) (news_tables p ts (learn_table p t.0 k).known)

unfoldable pub news_message : ℕ → Message → Known → News
unfolding news_tables pa in_set
news_message p m k =
    cond (eqb m.number 0) (news_tables p (pa_tables (pa m.body)) k)
    (cond (eqb m.number 0x8003) (change_news (not (in_set k.data_set p))) no_news)

unfoldable pub news_messages : ℕ → List Message → Known → News
unfolding news_message learn_message
news_messages p [] k = no_news
news_messages p (m ∷ ms) k = also (news_message p m k) (news_messages p ms (learn_message p m k).known)

-- ---- a payload: by whole messages, or by a last fragment that joins one

abbrev pub news_last : Option Fragment → Limits → ℕ → Bytes → Known → News
news_last none L p b k = no_news
news_last (some f) L p b k =
    cond (fits L f b k.fragments) (news_messages p (messages (joined f b)) (with_fragments (without p k.fragments) k)) no_news

abbrev pub news_by : ℕ → Limits → ℕ → ℕ → Bytes → Known → News
news_by zero L p flags s k = news_messages p (messages (flags ∷ s)) (with_fragments (without p k.fragments) k)
news_by (suc zero) L p flags s k = no_news
news_by (suc (suc zero)) L p flags s k = no_news
news_by (suc (suc (suc n))) L p flags s k = news_last (fragment_of p k.fragments) L p (drop 1 s) k

-- On a data-carousel identifier nothing is read, so anything may stand there.
abbrev pub anything : News
anything = record { changed = false; caption = true; carousel = true; other = true; unlisted = true }

unfoldable pub news : Limits → ℕ → Bytes → Known → News
unfolding in_set indicator news_messages messages joined without fragment_of fits
news L p [] k = no_news
news L p (flags ∷ s) k = cond (in_set k.data_set p) anything (news_by (indicator flags) L p flags s k)
