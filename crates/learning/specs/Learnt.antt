-- What the functions that read a PLT or an MPT promise, in the terms of the definitions: what the arrays hold afterwards, whatever they held.
use Rattle.std.specs.Prelude.{ℕ, suc, max, ◌+◌, ◌*◌, ◌/◌, ◌≤◌, ◌<◌, ◌≡◌, ◌≢◌, Bool, true, false, cond, List, [], ◌∷◌, ◌++◌, length, take, drop, get_or, set, ltb, Some, None, Result, Ok, Err, ⊤}
use Rattle.std.specs.Prelude as code
use Rattle.std.proofs.Math.Option.{Option, none, some}
use Rattle.meaning.specs.Bytes.{Bytes}
use Rattle.meaning.specs.Readers.{Out}
use Rattle.meaning.specs.Tables.{Entry, Mpt, Package, kind_number}
use Rattle.meaning.specs.Learn.{asset_numbers, over, place_for, listed, insert_package, packages_in}
use Rattle.meaning.specs.Soundness.{rising, firsts}
use Rattle.meaning.specs.declared.Part.{Part}
use Rattle.learning.specs.Kept.{pairs_in, Pairs, KeptPackages, KeptMaps}
use Rattle.learning.specs.News.{also, kinds_in, unlisted, plt_news, same_list, list_news}
use Rattle.learning.specs.declared.Extent.{Extent}
use Rattle.learning.specs.declared.News.{News}
use Rattle.learning.specs.declared.lists.Assets.{Assets}
use Rattle.learning.specs.declared.packages.Services.{Services}

abbrev pub with_news : Extent → News → Extent
with_news e n = record { seen = e.seen; package_count = e.package_count; map_count = e.map_count; fragment_count = e.fragment_count; leading = e.leading; lost = e.lost; news = n }

-- ---- a PLT

-- How many pairs come before the first whose service is not below s.
unfoldable pub before : ℕ → List (ℕ × ℕ) → ℕ
before s [] = 0
before s (q ∷ qs) = cond (ltb q.0 s) (suc (before s qs)) 0

-- The slot among n in which the package of a service is, or in which it would go.
abbrev pub SlotIs : ℕ → ℕ → List ℕ → Result ℕ ℕ → Type 0
SlotIs s n xs (Ok at) = (at ≡ before s (pairs_in n xs)) × (at < n) × (get_or xs at 0 / 65536 ≡ s)
SlotIs s n xs (Err at) = (at ≡ before s (pairs_in n xs)) × (at ≤ n) × (at < n → get_or xs at 0 / 65536 ≢ s)

-- Pairs in the slots of a PLT's packages, services rising.
pub record Rising (ps : List (ℕ × ℕ)) (n : ℕ) (xs : List ℕ) : Type 0 where
  pub pairs : Pairs 255 ps n xs
  pub rise : rising (firsts ps) ≡ true

-- One more package, if it has a service and an identifier.
abbrev pub taken : code.Option ℕ → code.Option ℕ → List (ℕ × ℕ) → List (ℕ × ℕ)
taken None c ps = ps
taken (Some s) None ps = ps
taken (Some s) (Some p) ps = insert_package s p ps

-- The packages of a PLT's body that have a service and an identifier, in an array of their own, and whether those are not all.
abbrev pub PackagesAre : Out (List Package) → Services → code.Option ⊤ → Type 0
PackagesAre o r (Some read) =
    (ys : List Package) × (more : Bytes) × (o ≡ some (ys, more)) × Pairs 255 (packages_in ys []) r.count r.packages × (r.unlisted ≡ unlisted ys)
PackagesAre o r None = o ≡ none

-- What a PLT makes of the extent and of the packages.
abbrev pub PltLearnt : Out (List Package) → List (ℕ × ℕ) → Extent → Extent → List ℕ → Type 0
PltLearnt none ps e r xs = (r ≡ e) × KeptPackages ps e.package_count xs
PltLearnt (some (ys, more)) ps e r xs =
    KeptPackages (packages_in ys []) r.package_count xs
    × (r ≡ record {
      seen = true;
      package_count = length (packages_in ys []);
      map_count = e.map_count;
      fragment_count = e.fragment_count;
      leading = e.leading;
      lost = e.lost;
      news = also e.news (plt_news (some (ys, more)) e.seen ps);
    })

-- ---- an MPT

-- The listed assets of an MPT's body, as numbers at the front of an array of their own, and what is new with the kinds of all.
abbrev pub AssetsAre : Out Mpt → News → Assets → code.Option ⊤ → Type 0
AssetsAre o known r (Some read) =
    (r.count ≤ 255)
    × ((m : Mpt) × (more : Bytes) × (o ≡ some (m, more)) × (r.count ≡ length (listed m.entries)) × (take (2 * r.count) r.numbers ≡ asset_numbers (listed m.entries)) × (r.news ≡ also known (kinds_in m.entries)))
AssetsAre o known r None = o ≡ none

-- The two numbers of an asset, if it has an identifier.
abbrev pub numbers_of : code.Option ℕ → Part → List ℕ
numbers_of None part = []
numbers_of (Some p) part = p ∷ kind_number part ∷ []

-- Whether an MPT's body reads and its list is the one that is held, if one is: of that count, at the front of these numbers.
abbrev pub mpt_held : Out Mpt → Option ℕ → List ℕ → Bool
mpt_held none o ns = false
mpt_held (some (m, more)) o ns = same_list o (listed m.entries) ns

-- What is new with the kinds of an MPT's entries.
abbrev pub with_kinds : News → Out Mpt → News
with_kinds known none = known
with_kinds known (some (m, more)) = also known (kinds_in m.entries)

abbrev pub HeldIs : Out Mpt → Option ℕ → List ℕ → News → code.Option News → Type 0
HeldIs x o ns known (Some news) = (mpt_held x o ns ≡ true) × (news ≡ with_kinds known x)
HeldIs x o ns known None = mpt_held x o ns ≡ false

-- A list of n assets written at place i: its head, its numbers, and how many lists there are then. It is a change.
pub record HeadsAre (i p n : ℕ) (fresh : List ℕ) (e : Extent) (map_heads map_room : List ℕ) (r : Extent) (map_heads' map_room' : List ℕ) : Type 0 where
  pub map_heads_are : map_heads' ≡ set map_heads i (p * 65536 + n)
  pub map_room_is : map_room' ≡ over map_room (512 * i) (take (2 * n) fresh)
  pub extent_is : r ≡ record {
    seen = e.seen;
    package_count = e.package_count;
    map_count = max e.map_count (i + 1);
    fragment_count = e.fragment_count;
    leading = e.leading;
    lost = e.lost;
    news = record { changed = true; caption = e.news.caption; carousel = e.news.carousel; other = e.news.other; unlisted = e.news.unlisted };
  }

abbrev pub lost_one : Extent → Extent
lost_one e = record { seen = e.seen; package_count = e.package_count; map_count = e.map_count; fragment_count = e.fragment_count; leading = e.leading; lost = e.lost + 1; news = e.news }

-- Whether there is a place for it: its list takes the place, or it is lost.
abbrev pub ListLearnt : Bool → ℕ → List Entry → List (ℕ × ℕ) → Extent → List ℕ → Extent → List ℕ → List ℕ → Type 0
ListLearnt true p es ms e map_room r xs map_room' =
    KeptMaps (take (place_for p ms) ms ++ ((p, length (listed es)) ∷ drop (suc (place_for p ms)) ms)) r.map_count xs
    × (map_room' ≡ over map_room (512 * place_for p ms) (asset_numbers (listed es)))
    × (r ≡ record {
      seen = e.seen;
      package_count = e.package_count;
      map_count = r.map_count;
      fragment_count = e.fragment_count;
      leading = e.leading;
      lost = e.lost;
      news = also e.news (list_news p es ms map_room);
    })
ListLearnt false p es ms e map_room r xs map_room' =
    KeptMaps ms e.map_count xs × (map_room' ≡ map_room) × (r ≡ lost_one (with_news e (also e.news (kinds_in es))))

abbrev pub MptLearnt : ℕ → Out Mpt → List (ℕ × ℕ) → Extent → List ℕ → Extent → List ℕ → List ℕ → Type 0
MptLearnt p none ms e map_room r xs map_room' = KeptMaps ms e.map_count xs × (map_room' ≡ map_room) × (r ≡ e)
MptLearnt p (some (m, more)) ms e map_room r xs map_room' = ListLearnt (ltb (place_for p ms) 64) p m.entries ms e map_room r xs map_room'
