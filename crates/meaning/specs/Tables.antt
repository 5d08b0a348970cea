-- The tables of a PA message, with their entries, as ARIB STD-B60 and ISO/IEC 23008-1 lay them out: 01, "What is learned".
use Rattle.std.specs.Prelude.{ℕ, ◌%◌, zero, suc, Bool, cond, true, false, ◌&&◌, List, [], ◌∷◌, eqb, leb}
use Rattle.std.proofs.Math.Option.{Option, none, some}
use Rattle.meaning.specs.Bytes.{Bytes, be16}
use Rattle.meaning.specs.Readers.{Out, Reader, ◌>>=◌, give, refuse, byte, u8, u16, bytes, counted8, counted16, announced, many, raw, Walk, walk}
use Rattle.meaning.specs.declared.Part.{Part}
use Rattle.meaning.specs.declared.Part.TheVariants.{Caption, Carousel, Other}

-- ---- general location: of type 0 the packet identifier, of the others nothing

abbrev pub elsewhere : Reader Bytes → Reader (Option ℕ)
elsewhere p = do
  passed ← p
  give none

unfoldable pub location_body : ℕ → Reader (Option ℕ)
unfolding u16 bytes counted8
location_body zero = do
  packet_id ← u16
  give (some packet_id)
location_body (suc zero) = elsewhere (bytes 12)
location_body (suc (suc zero)) = elsewhere (bytes 36)
location_body (suc (suc (suc zero))) = elsewhere (bytes 6)
location_body (suc (suc (suc (suc zero)))) = elsewhere (bytes 36)
location_body (suc (suc (suc (suc (suc zero))))) = elsewhere counted8
location_body (suc (suc (suc (suc (suc (suc t)))))) = refuse

unfoldable pub location : Reader (Option ℕ)
unfolding u8 location_body
location = do
  location_type ← u8
  location_body location_type

-- ---- an asset of an MPT

pub record Asset : Type 0 where
  pub asset_type : Bytes
  -- the identifier of its first type 0 location
  pub carrier : Option ℕ

-- The first that there is.
unfoldable pub first_of : List (Option ℕ) → Option ℕ
first_of [] = none
first_of (none ∷ os) = first_of os
first_of (some p ∷ os) = some p

unfoldable pub clock_relation : Reader Bytes
unfolding u8 bytes announced
clock_relation = do
  asset_clock_relation_id ← u8
  timescale_flag ← u8
  announced (timescale_flag % 2) (bytes 4)

unfoldable pub asset : Reader Asset
unfolding u8 bytes counted8 counted16 announced clock_relation many location first_of
asset = do
  identifier_type ← u8
  asset_id_scheme ← bytes 4
  asset_id ← counted8
  asset_type ← bytes 4
  clock_relation_flag ← u8
  clock_relation ← announced (clock_relation_flag % 2) clock_relation
  location_count ← u8
  locations ← many location_count location
  asset_descriptors ← counted16
  give (record { asset_type = asset_type; carrier = first_of locations })

unfoldable pub same_bytes : Bytes → Bytes → Bool
same_bytes [] [] = true
same_bytes [] (b ∷ t) = false
same_bytes (a ∷ s) [] = false
same_bytes (a ∷ s) (b ∷ t) = eqb a b && same_bytes s t

-- `stpp` is caption, `aapp` carousel.
unfoldable pub part_of : Bytes → Part
unfolding same_bytes
part_of asset_type =
    cond (same_bytes asset_type (0x73 ∷ 0x74 ∷ 0x70 ∷ 0x70 ∷ [])) Caption
    (cond (same_bytes asset_type (0x61 ∷ 0x61 ∷ 0x70 ∷ 0x70 ∷ [])) Carousel Other)

-- A kind's number: captions, carousels, others.
unfoldable pub kind_number : Part → ℕ
kind_number Caption = 0
kind_number Carousel = 1
kind_number Other = 2

unfoldable pub kind_of : ℕ → Part
kind_of zero = Caption
kind_of (suc zero) = Carousel
kind_of (suc (suc n)) = Other

-- ---- the body of an MPT: what stands before the count of entries, the entries, and what follows them

pub record Entry : Type 0 where
  pub part : Part
  pub carrier : Option ℕ
  pub bytes_of : Bytes

unfoldable pub entry : Reader Entry
unfolding raw asset part_of
entry = do
  a ← raw asset
  give (record { part = part_of a.0.asset_type; carrier = a.0.carrier; bytes_of = a.1 })

unfoldable pub mpt_front : Reader Bytes
unfolding u8 counted8 counted16
mpt_front = do
  mpt_mode ← u8
  package_id ← counted8
  counted16

pub record Mpt : Type 0 where
  pub front : Bytes
  pub entries : List Entry

unfoldable pub mpt : Reader Mpt
unfolding raw mpt_front u8 many entry
mpt = do
  front ← raw mpt_front
  number_of_assets ← u8
  entries ← many number_of_assets entry
  give (record { front = front.1; entries = entries })

-- ---- the body of a PLT: the packages, and what follows them

pub record Package : Type 0 where
  pub name : Bytes
  pub carrier : Option ℕ
  pub bytes_of : Bytes

unfoldable pub package_fields : Reader (Bytes × Option ℕ)
unfolding counted8 location
package_fields = do
  package_id ← counted8
  carrier ← location
  give (package_id, carrier)

unfoldable pub package_entry : Reader Package
unfolding raw package_fields
package_entry = do
  p ← raw package_fields
  give (record { name = p.0.0; carrier = p.0.1; bytes_of = p.1 })

unfoldable pub plt : Reader (List Package)
unfolding u8 many package_entry
plt = do
  num_of_package ← u8
  many num_of_package package_entry

-- The service of a name of two bytes.
unfoldable pub service_of : Bytes → Option ℕ
unfolding be16
service_of [] = none
service_of (a ∷ []) = none
service_of (a ∷ b ∷ []) = some (be16 a b)
service_of (a ∷ b ∷ c ∷ s) = none

-- ---- a table by its own head, and the body of a PA message

pub record Table : Type 0 where
  pub number : ℕ
  pub version : ℕ
  pub body : Bytes

unfoldable pub table : Reader Table
unfolding byte counted16
table = do
  table_id ← byte
  version ← byte
  body ← counted16
  give (record { number = table_id; version = version; body = body })

-- 0x11 to 0x20.
unfoldable pub is_mpt : ℕ → Bool
is_mpt n = leb 0x11 n && leb n 0x20

unfoldable pub is_plt : ℕ → Bool
is_plt n = eqb n 0x80

-- The head: how many entries, and each one's table number, version and length.
pub record PaHead : Type 0 where
  pub count : ℕ
  pub entries : List Bytes

unfoldable pub pa_head : Reader PaHead
unfolding byte bytes many
pa_head = do
  number_of_tables ← byte
  entries ← many (number_of_tables % 256) (bytes 4)
  give (record { count = number_of_tables; entries = entries })

-- The tables of a PA body, each with its bytes; none where count or entries are cut. What is left behind them is a cut table, or
-- fewer bytes than a table's head has.
abbrev pub pa_from : Out PaHead → Option (PaHead × Walk (Table × Bytes))
pa_from none = none
pa_from (some (h, s)) = some (h, walk (raw table) s)

unfoldable pub pa : Bytes → Option (PaHead × Walk (Table × Bytes))
unfolding pa_head walk raw table
pa s = pa_from (pa_head s)
