-- What the readers answer, in the terms of the definitions: an answer says what was read and that the rest follows it, or that the
-- definition reads nothing. Each determines the answer.
use Rattle.std.specs.Prelude.{ℕ, ◌+◌, ◌-◌, ◌%◌, ◌≤◌, ◌<◌, ◌≡◌, Bool, ◌&&◌, List, length, take, drop, get_or, eqb, leb, Some, None}
use Rattle.std.specs.Prelude as code
use Rattle.std.proofs.Math.Option.{Option, none, some}
use Rattle.meaning.specs.Bytes.{Bytes}
use Rattle.meaning.specs.Readers.{◌>>=◌, Out, Reader, give, u8, counted16, announced, many}
use Rattle.meaning.specs.Messages as messages
use Rattle.meaning.specs.Tables as meant
use Rattle.tables.specs.declared.locations.Located.{Located}
use Rattle.tables.specs.declared.assets.Asset.{Asset}
use Rattle.tables.specs.declared.packages.Package.{Package}
use Rattle.tables.specs.declared.messages.Message.{Message}
use Rattle.tables.specs.declared.messages.Frame.{Frame}
use Rattle.tables.specs.declared.pa.Table.{Table}

-- Something was read, and the bytes from e on follow it.
abbrev pub Ends : {A : Type 0} → Out A → Bytes → code.Option ℕ → Type 0
Ends {A} o s (Some e) = (e ≤ length s) × ((a : A) × (o ≡ some (a, drop e s)))
Ends o s None = o ≡ none

-- What is there or not, as the code has it.
abbrev pub in_code : {A : Type 0} → Option A → code.Option A
in_code none = None
in_code (some a) = Some a

-- A location was read, up to its end.
abbrev pub LocationIs : Out (Option ℕ) → Bytes → code.Option Located → Type 0
LocationIs o s (Some l) = (l.end ≤ length s) × ((a : Option ℕ) × (o ≡ some (a, drop l.end s)) × (l.carrier ≡ in_code a))
LocationIs o s None = o ≡ none

-- Several were, and the first identifier among them is theirs.
abbrev pub LocationsAre : Out (List (Option ℕ)) → Bytes → code.Option Located → Type 0
LocationsAre o s (Some l) = (l.end ≤ length s) × ((as' : List (Option ℕ)) × (o ≡ some (as', drop l.end s)) × (l.carrier ≡ in_code (meant.first_of as')))
LocationsAre o s None = o ≡ none

-- A location without an identifier, by where it ends.
abbrev pub elsewhere_of : code.Option ℕ → code.Option Located
elsewhere_of = code.option_map (λ e. record { end = e; carrier = None })

-- What follows the flags of an asset: the locations that were read, up to the asset's end.
unfoldable pub asset_tail : ℕ → Reader (List (Option ℕ))
unfolding u8 counted16 announced many meant.clock_relation meant.location
asset_tail flags = do
  clock_relation ← announced (flags % 2) meant.clock_relation
  location_count ← u8
  locations ← many location_count meant.location
  asset_descriptors ← counted16
  give locations

-- No clock relation is announced, and one location of type 0 follows, as far as its identifier.
unfoldable pub is_plain : ℕ → Bytes → ℕ → Bool
is_plain flags s at = eqb (flags % 2) 0 && (leb (at + 4) (length s) && (eqb (get_or s at 0) 1 && eqb (get_or s (at + 1) 0) 0))

-- An asset entry from `at` to its end.
abbrev pub AssetIs : Bytes → ℕ → code.Option Asset → Type 0
AssetIs s at (Some a) =
    (a.end ≤ length s) × (at < a.end)
    × ((q : Option ℕ) × (meant.entry (drop at s) ≡ some (record { part = a.part; carrier = q; bytes_of = take (a.end - at) (drop at s) }, drop a.end s)) × (a.carrier ≡ in_code q))
AssetIs s at None = meant.entry (drop at s) ≡ none

-- A package from `at` to its end.
abbrev pub PackageIs : Bytes → ℕ → code.Option Package → Type 0
PackageIs s at (Some p) =
    (p.end ≤ length s) × (at < p.end)
    × ((n : Bytes) × (q : Option ℕ) × (meant.package_entry (drop at s) ≡ some (record { name = n; carrier = q; bytes_of = take (p.end - at) (drop at s) }, drop p.end s))
    × (p.name ≡ in_code (meant.service_of n)) × (p.carrier ≡ in_code q))
PackageIs s at None = meant.package_entry (drop at s) ≡ none

-- A part of an aggregate: its bytes from its start to its end.
abbrev pub FrameIs : Out Bytes → Bytes → ℕ → code.Option Frame → Type 0
FrameIs o s at (Some f) = (at < f.start) × (f.start ≤ f.end) × (f.end ≤ length s) × (o ≡ some (take (f.end - f.start) (drop f.start s), drop f.end s))
FrameIs o s at None = o ≡ none

-- A message: its number, and its body from its start to its end.
abbrev pub MessageIs : Out messages.Message → Bytes → code.Option Message → Type 0
MessageIs o s (Some m) =
    (3 < m.start) × (m.start ≤ m.end) × (m.end ≤ length s)
    × (o ≡ some (record { number = m.number; body = take (m.end - m.start) (drop m.start s) }, drop m.end s))
MessageIs o s None = o ≡ none

-- The table at an offset: it ends at e, or it is cut, or fewer bytes than a table's head has are left.
abbrev pub TableIs : Out meant.Table → Bytes → ℕ → Table → Type 0
TableIs o s at (Table.To e) =
    (at + 4 ≤ e) × (e ≤ length s)
    × (o ≡ some (record { number = get_or s at 0; version = get_or s (at + 1) 0; body = take (e - at - 4) (drop (at + 4) s) }, drop e s))
TableIs o s at Table.Cut = (o ≡ none) × (4 ≤ length (drop at s))
TableIs o s at Table.Done = (o ≡ none) × (length (drop at s) < 4)

-- The head of a PA body, up to where its tables start.
abbrev pub PaHeadIs : Out meant.PaHead → Bytes → code.Option ℕ → Type 0
PaHeadIs o s (Some n) =
    (0 < n) × (n ≤ length s)
    × ((es : List Bytes) × (o ≡ some (record { count = get_or s 0 0; entries = es }, drop n s)))
PaHeadIs o s None = o ≡ none
