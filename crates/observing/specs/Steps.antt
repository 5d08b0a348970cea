-- What each step of learning promises, in the terms of the definitions: the state that the arrays hold afterwards, whatever state it was.
use Rattle.std.specs.Prelude.{ℕ, ◌+◌, ◌-◌, ◌≡◌, not, List, length, take, drop, get_or}
use Rattle.meaning.specs.Bytes.{Bytes}
use Rattle.meaning.specs.Sets.{Words, in_set, with_id}
use Rattle.meaning.specs.Messages.{indicator}
use Rattle.meaning.specs.Tables.{Table}
use Rattle.meaning.specs.Learn.{Known, Learnt}
use Rattle.learning.specs.Kept.{Keeps}
use Rattle.learning.specs.News.{also, change_news}
use Rattle.learning.specs.declared.Extent.{Extent}
use Rattle.learning.specs.declared.Kept.{Kept}
use Rattle.learning.specs.declared.News.{News}
use Rattle.observing.specs.declared.messages.Indicator.{Indicator}

-- ---- a data-carousel identifier

abbrev pub DataLearnt : ℕ → Extent → Words → Extent → Words → Type 0
DataLearnt p e ws r ws' =
    (ws' ≡ with_id ws p)
    × (r ≡ record { seen = e.seen; package_count = e.package_count; map_count = e.map_count; fragment_count = e.fragment_count; leading = e.leading; lost = e.lost; news = also e.news (change_news (not (in_set ws p))) })

-- ---- tables and messages

-- What is kept holds this state, but for the fragments.
abbrev pub KeepsIn : Known → Extent → Kept → List ℕ → Type 0
KeepsIn k e kept map_room = Keeps k e kept.data_set.words kept.packages kept.map_heads map_room

-- It holds some state.
abbrev pub KeepsSome : Extent → Kept → List ℕ → Type 0
KeepsSome e kept map_room = (k : Known) × KeepsIn k e kept map_room

-- After a step: the state that is held, how many maps were lost, what is new. Fragments are as they were.
pub record After (l : Learnt) (new : News) (e r : Extent) (kept kept' : Kept) (map_room' : List ℕ) : Type 0 where
  pub keeps : KeepsIn l.known r kept' map_room'
  pub lost_is : r.lost ≡ e.lost + l.lost
  pub news_are : r.news ≡ also e.news new
  pub fragments_same : r.fragment_count ≡ e.fragment_count
  pub leading_same : r.leading ≡ e.leading
  pub heads_same : kept'.fragment_heads ≡ kept.fragment_heads

-- A step of learning, whatever state is held.
abbrev pub Learns : (Known → Learnt) → (Known → News) → Extent → Kept → List ℕ → Extent → Kept → List ℕ → Type 0
Learns step new e kept map_room r kept' map_room' =
    (k : Known) → KeepsIn k e kept map_room → After (step k) (new k) e r kept kept' map_room'

-- ---- payloads

-- The indicator as the code has it.
abbrev pub IndicatorIs : ℕ → Indicator → Type 0
IndicatorIs flags Indicator.Whole = indicator flags ≡ 0
IndicatorIs flags Indicator.First = indicator flags ≡ 1
IndicatorIs flags Indicator.Middle = indicator flags ≡ 2
IndicatorIs flags Indicator.Last = indicator flags ≡ 3

-- The table whose bytes these are.
abbrev pub table_in : Bytes → Table
table_in t = record { number = get_or t 0 0; version = get_or t 1 0; body = take (length t - 4) (drop 4 t) }
