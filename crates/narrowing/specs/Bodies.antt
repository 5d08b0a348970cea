-- What the functions on the bodies of an MPT and a PLT answer, in the terms of the definitions.
use Rattle.std.specs.Prelude.{ℕ, ◌+◌, ◌-◌, ◌≤◌, ◌<◌, ◌≡◌, Bool, false, length, take, drop, get_or, Some, None}
use Rattle.std.specs.Prelude as code
use mathlib.Core.List.{List, [], ◌∷◌, ◌++◌, map, flatten}
use Rattle.std.proofs.Math.Option.{none, some}
use Rattle.meaning.specs.Bytes.{Bytes}
use Rattle.meaning.specs.Lists.{keep}
use Rattle.meaning.specs.Readers.{Out, many}
use Rattle.meaning.specs.Tables.{Entry, entry}
use Rattle.meaning.specs.Wishes.{wanted_entry}
use Rattle.meaning.specs.Narrow.{mpt_body, mpt_without, plt_only}
use Rattle.meaning.specs.declared.Options.{Options}
use Rattle.narrowing.specs.declared.mpt.EntryWalk.{EntryWalk}
use Rattle.narrowing.specs.declared.mpt.MptChange.{MptChange}
use Rattle.narrowing.specs.declared.plt.PltChange.{PltChange}

-- The bytes of some entries.
abbrev pub bytes_of : List Entry → Bytes
bytes_of es = flatten (map (λ e. e.bytes_of) es)

-- The bytes of the wanted ones among the entries that were read.
abbrev pub kept_bytes : Options → Out (List Entry) → Bytes
kept_bytes o none = []
kept_bytes o (some x) = bytes_of (keep (wanted_entry o) x.0)

-- Where the entries from `at` on end; `kept` of them are wanted, which are `size` bytes.
abbrev pub WalkIs : Options → Bytes → ℕ → ℕ → code.Option EntryWalk → Type 0
WalkIs o b at count (Some w) =
    (w.end ≤ length b) × (at + w.size ≤ w.end) × (w.kept ≤ count)
    × ((es : List Entry) × (many count entry (drop at b) ≡ some (es, drop w.end b))
    × (w.kept ≡ length (keep (wanted_entry o) es)) × (w.size ≡ length (bytes_of (keep (wanted_entry o) es))))
WalkIs o b at count None = many count entry (drop at b) ≡ none

-- An MPT's body loses entries: its count is at `front`, its entries end at `end`, and of these `kept` stay, which are `size` bytes.
pub record MptLess (o : Options) (b : Bytes) (less : MptChange) : Type 0 where
  pub entries_of : List Entry
  pub reads : many (get_or b less.front 0) entry (drop (less.front + 1) b) ≡ some (entries_of, drop less.end b)
  pub narrowed : mpt_without o b ≡ some (mpt_body (take less.front b) (keep (wanted_entry o) entries_of) (drop less.end b))
  pub kept_is : less.kept ≡ length (keep (wanted_entry o) entries_of)
  pub size_is : less.size ≡ length (bytes_of (keep (wanted_entry o) entries_of))
  pub few : less.kept < 256
  pub fits : less.front + 1 + less.size ≤ less.end
  pub within : less.end ≤ length b

abbrev pub MptIs : Options → Bytes → code.Option MptChange → Type 0
MptIs o b (Some less) = MptLess o b less
MptIs o b None = mpt_without o b ≡ none

-- The PLT's body with one entry, that from `start` to `end`, and what follows the entries from `past` on.
abbrev pub one_entry : Bytes → PltChange → Bytes
one_entry b one = 1 ∷ (take (one.end - one.start) (drop one.start b) ++ drop one.past b)

pub record PltBounds (b : Bytes) (one : PltChange) : Type 0 where
  pub first : 1 ≤ one.start
  pub ends : one.start ≤ one.end
  pub before : one.end ≤ one.past
  pub within : one.past ≤ length b

abbrev pub PltIs : ℕ → Bytes → code.Option PltChange → Type 0
PltIs s b (Some one) = PltBounds b one × (plt_only s b ≡ some (one_entry b one))
PltIs s b None = plt_only s b ≡ none
