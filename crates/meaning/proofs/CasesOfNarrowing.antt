-- Small cases of narrowing: 01, "Narrowing". M and M₁ are those of 01's examples.
use Prim.Native.Nat.{ℕ}
use mathlib.Core.Path.{◌≡◌, refl}
use mathlib.Core.Bool.{true, false}
use mathlib.Core.List.{[], ◌∷◌, ◌++◌}
use mathlib.Core.Option.{none, some}
use lib.ListN.{replicate, drop}
use Rattle.meaning.specs.Bytes.{Bytes}
use Rattle.meaning.specs.Wishes.{wanted, all_off}
use Rattle.meaning.specs.Narrow.{mpt_without, is_service, last_of, plt_only, new_body, table_bytes, narrow_table, relength, pa_bytes, narrow_pa, pa_message, payload_bytes, narrow_payload, narrow_packet, narrowed_packet, by_part, stayed, went, table_parts, Change, change_table, change_payload, change_packet, change_made, changed_bytes, none_of_each, stays_of, goes_of}
use Rattle.meaning.specs.declared.Part.TheVariants.{Caption, Carousel, Other}
use Rattle.meaning.specs.declared.Service.TheVariants.{Every}
use Rattle.meaning.specs.declared.Options.{Options}
use Rattle.meaning.proofs.Examples.{hvc1, stpp, E, mWith, M, M₁, plt_with, one_service, no_captions, no_carousels, service}
use Rattle.meaning.proofs.CasesOfTables.{aapp}

-- ---- bodies

abbrev pub front : Bytes
front = 0 ∷ 2 ∷ 4 ∷ 0 ∷ 0 ∷ 0 ∷ []

abbrev pub more : Bytes
more = 0xEE ∷ 0xEE ∷ []

abbrev pub three : Bytes
three = front ++ (3 ∷ E 0x11 hvc1 0xF1 0x00 ++ (E 0x22 stpp 0xF1 0x30 ++ (E 0x33 aapp 0xF1 0x40 ++ more)))

-- service 0401 twice, the second time at a location of type 5; then 0402
abbrev pub at0 : Bytes
at0 = 2 ∷ 4 ∷ 1 ∷ 0 ∷ 0xF0 ∷ 0x01 ∷ []

abbrev pub at5 : Bytes
at5 = 2 ∷ 4 ∷ 1 ∷ 5 ∷ 1 ∷ 7 ∷ []

abbrev pub packages : Bytes
packages = 3 ∷ at0 ++ (at5 ++ (2 ∷ 4 ∷ 2 ∷ 0 ∷ 0xF0 ∷ 0x02 ∷ more))

abbrev all_on : Options
all_on = record { service = Every; caption = true; carousel = true; eit = true; other = true }

pub record Bodies : Type 0 where
  pub captions : (wanted no_captions Caption ≡ false) × (wanted no_captions Carousel ≡ true) × (wanted no_captions Other ≡ true)
  pub data_set : (wanted no_carousels Caption ≡ true) × (wanted no_carousels Carousel ≡ false)
  -- the rest stays in order, the count follows, and so do bytes after the last entry
  pub caption_goes : mpt_without no_captions three ≡ some (front ++ (2 ∷ E 0x11 hvc1 0xF1 0x00 ++ (E 0x33 aapp 0xF1 0x40 ++ more)))
  pub carousel_goes : mpt_without no_carousels three ≡ some (front ++ (2 ∷ E 0x11 hvc1 0xF1 0x00 ++ (E 0x22 stpp 0xF1 0x30 ++ more)))
  pub nothing_goes : mpt_without all_on three ≡ none
  pub firsts : (is_service 7 (some 7) ≡ true) × (is_service 7 (some 8) ≡ false) × (is_service 0 none ≡ false)
  -- the last entry of the service at any location
  pub last_stays : plt_only 0x0401 packages ≡ some (1 ∷ at5 ++ more)
  pub no_such : plt_only 0x0403 packages ≡ none
  pub last_of_lem : last_of 0x0401 [] (some at0) ≡ some at0
  pub on_zero : new_body (service 0x0401) 0 0x80 packages ≡ some (1 ∷ at5 ++ more)
  pub on_another : new_body (service 0x0401) 1 0x80 packages ≡ none
  pub no_service : new_body no_captions 0 0x80 packages ≡ none
  pub on_any : new_body no_carousels 7 0x11 three ≡ some (front ++ (2 ∷ E 0x11 hvc1 0xF1 0x00 ++ (E 0x22 stpp 0xF1 0x30 ++ more)))
  pub no_mpt : new_body no_captions 0 0x21 three ≡ none
  pub own_length : table_bytes (record { number = 0x20; version = 5; body = [] }) (7 ∷ 8 ∷ []) ≡ 0x20 ∷ 5 ∷ 0 ∷ 2 ∷ 7 ∷ 8 ∷ []
  -- a table alone ends at its own length
  pub alone : narrow_table no_captions (M ++ more) ≡ some M₁
  pub cut_table : narrow_table no_captions (0x20 ∷ 5 ∷ 0 ∷ 9 ∷ []) ≡ none

pub body_cases : Bodies
unfolding mpt_without is_service last_of plt_only new_body table_bytes narrow_table
body_cases = record {
  captions = (refl, refl, refl);
  data_set = (refl, refl);
  caption_goes = refl;
  carousel_goes = refl;
  nothing_goes = refl;
  firsts = (refl, refl, refl);
  last_stays = refl;
  no_such = refl;
  last_of_lem = refl;
  on_zero = refl;
  on_another = refl;
  no_service = refl;
  on_any = refl;
  no_mpt = refl;
  own_length = refl;
  alone = refl;
  cut_table = refl;
}

-- ---- a PA message: M, M₁, an MPT that does not read, one that is none, and two bytes more; two head entries with other lengths

abbrev unread : Bytes
unread = mWith 3 hvc1 stpp ++ (0x21 ∷ drop 1 M ++ more)

abbrev body : ℕ → ℕ → Bytes → Bytes
body first second table1 = 2 ∷ 0x20 ∷ 0x05 ∷ 0x00 ∷ first ∷ 0x1F ∷ 0x06 ∷ 0x00 ∷ second ∷ table1 ++ (M₁ ++ unread)

-- flag bits 1 to 5 and the counter are not asked; bytes after the message go
abbrev pub payload : Bytes
payload = 0x3E ∷ 0x55 ∷ 0x00 ∷ 0x00 ∷ 0x07 ∷ 0x00 ∷ 0x00 ∷ 0x00 ∷ 0xB5 ∷ body 9 9 M ++ (0x99 ∷ [])

abbrev pub narrowed : Bytes
narrowed = 0x3E ∷ 0x55 ∷ 0x00 ∷ 0x00 ∷ 0x07 ∷ 0x00 ∷ 0x00 ∷ 0x00 ∷ 0xA3 ∷ body 0x19 0x19 M₁

-- of a packet's first four bytes only the type is read; the length follows
abbrev pub packet : ℕ → ℕ → ℕ → Bytes → Bytes
packet length header payload_type s =
    0x7E ∷ 0x03 ∷ 0x00 ∷ length ∷ 0x00 ∷ 0x00 ∷ header ∷ 0x00 ∷ payload_type ∷ 0x00 ∷ 0x05 ∷ 1 ∷ 2 ∷ 3 ∷ 4 ∷ 5 ∷ 6 ∷ 7 ∷ 8 ∷ s

-- the PLT of 01's example 7, or another table, alone in its message
abbrev pub alone_in : ℕ → Bytes → Bytes
alone_in size t = 0x00 ∷ 0x00 ∷ 0x00 ∷ 0x00 ∷ 0x07 ∷ 0x00 ∷ 0x00 ∷ 0x00 ∷ size ∷ 0x00 ∷ t

pub record Messages : Type 0 where
  pub entry_more : relength ((1 ∷ 2 ∷ 3 ∷ 4 ∷ []) ∷ (5 ∷ 6 ∷ 7 ∷ 8 ∷ []) ∷ []) (replicate 7 0 ∷ []) ≡ (1 ∷ 2 ∷ 0 ∷ 3 ∷ []) ∷ (5 ∷ 6 ∷ 7 ∷ 8 ∷ []) ∷ []
  pub table_more : relength ((1 ∷ 2 ∷ 3 ∷ 4 ∷ []) ∷ []) (replicate 7 0 ∷ replicate 8 0 ∷ []) ≡ (1 ∷ 2 ∷ 0 ∷ 3 ∷ []) ∷ []
  pub head_then_tables : pa_bytes (record { count = 1; entries = (1 ∷ 2 ∷ 3 ∷ 4 ∷ []) ∷ [] }) ((1 ∷ 2 ∷ 0 ∷ 1 ∷ 9 ∷ []) ∷ []) (8 ∷ [])
      ≡ 1 ∷ 1 ∷ 2 ∷ 0 ∷ 1 ∷ 1 ∷ 2 ∷ 0 ∷ 1 ∷ 9 ∷ 8 ∷ []
  pub one_changed : narrow_pa no_captions 5 (body 9 9 M) ≡ some (body 0x19 0x19 M₁)
  pub none_changed : narrow_pa no_carousels 5 (body 9 9 M) ≡ none
  -- four bytes more are a table's head, and the table is cut
  pub cut_behind : narrow_pa no_captions 5 (body 9 9 M ++ (0x20 ∷ 0x05 ∷ [])) ≡ none
  pub the_message : pa_message payload ≡ some (body 9 9 M)
  pub no_message : (pa_message (0x01 ∷ drop 1 payload) ≡ none) × (pa_message (0x40 ∷ drop 1 payload) ≡ none) × (pa_message (0x00 ∷ []) ≡ none)
  pub not_pa : pa_message (0x00 ∷ 0x00 ∷ 0x80 ∷ 0x03 ∷ 0x07 ∷ 0x00 ∷ 0x00 ∷ 0x00 ∷ 0x01 ∷ 0x09 ∷ []) ≡ none
  pub length_follows : payload_bytes payload (7 ∷ 8 ∷ []) ≡ 0x3E ∷ 0x55 ∷ 0x00 ∷ 0x00 ∷ 0x07 ∷ 0x00 ∷ 0x00 ∷ 0x00 ∷ 0x02 ∷ 7 ∷ 8 ∷ []
  pub of_payload : narrow_payload no_captions 5 payload ≡ some narrowed
  pub of_packet : narrow_packet all_off no_captions (packet 0x00 0x61 0x02 payload) ≡ some (packet 0xBB 0x61 0x02 narrowed)
  -- a PLT is one on identifier 0 alone
  pub plt_on_zero : narrow_payload (service 0x0401) 0 (alone_in 0x13 (plt_with 0x01)) ≡ some (alone_in 0x0D (one_service 0x01))
  pub plt_on_five : narrow_payload (service 0x0401) 5 (alone_in 0x13 (plt_with 0x01)) ≡ none
  pub plt_packet_on_five : narrow_packet all_off (service 0x0401) (packet 0x00 0x61 0x02 (alone_in 0x13 (plt_with 0x01))) ≡ none
  pub not_rewritable : narrow_packet all_off no_captions (packet 0x00 0x20 0x02 (replicate 8 0 ++ drop 7 (packet 0x00 0x20 0x02 payload))) ≡ none
  pub no_signalling : narrow_packet all_off no_captions (packet 0x00 0x61 0x00 payload) ≡ none
  pub itself : narrowed_packet all_off no_carousels (packet 0x00 0x61 0x02 payload) ≡ packet 0x00 0x61 0x02 payload
  pub another : narrowed_packet all_off no_captions (packet 0x00 0x61 0x02 payload) ≡ packet 0xBB 0x61 0x02 narrowed

pub message_cases : Messages
unfolding relength pa_bytes narrow_pa pa_message payload_bytes narrow_payload narrow_packet narrowed_packet
message_cases = record {
  entry_more = refl;
  table_more = refl;
  head_then_tables = refl;
  one_changed = refl;
  none_changed = refl;
  cut_behind = refl;
  the_message = refl;
  no_message = (refl, refl, refl);
  not_pa = refl;
  length_follows = refl;
  of_payload = refl;
  of_packet = refl;
  plt_on_zero = refl;
  plt_on_five = refl;
  plt_packet_on_five = refl;
  not_rewritable = refl;
  no_signalling = refl;
  itself = refl;
  another = refl;
}

-- ---- captions, carousels, others: those that stayed and those that went, over the readable MPTs

pub record Counted : Type 0 where
  pub each : by_part (Caption ∷ Carousel ∷ Carousel ∷ Other ∷ Other ∷ Other ∷ []) ≡ 1 ∷ 2 ∷ 3 ∷ []
  pub who_stayed : stayed no_carousels (Caption ∷ Carousel ∷ Carousel ∷ Other ∷ []) ≡ 1 ∷ 0 ∷ 1 ∷ []
  pub who_went : went no_carousels (Caption ∷ Carousel ∷ Carousel ∷ Other ∷ []) ≡ 0 ∷ 2 ∷ 0 ∷ []
  pub of_an_mpt : table_parts (record { number = 0x11; version = 0; body = three }) ≡ Other ∷ Caption ∷ Carousel ∷ []
  pub of_no_mpt : table_parts (record { number = 0x21; version = 0; body = three }) ≡ []
  pub in_table : change_table no_captions (M ++ more) ≡ some (record { out = M₁; stays = 0 ∷ 0 ∷ 1 ∷ []; goes = 1 ∷ 0 ∷ 0 ∷ [] })
  pub in_payload : change_payload no_captions 5 payload ≡ some (record { out = narrowed; stays = 0 ∷ 0 ∷ 2 ∷ []; goes = 1 ∷ 0 ∷ 0 ∷ [] })
  pub in_packet : change_packet all_off no_captions (packet 0x00 0x61 0x02 payload)
      ≡ some (record { out = packet 0xBB 0x61 0x02 narrowed; stays = 0 ∷ 0 ∷ 2 ∷ []; goes = 1 ∷ 0 ∷ 0 ∷ [] })
  pub on_five : change_payload (service 0x0401) 5 (alone_in 0x13 (plt_with 0x01)) ≡ none
  pub unchanged : (change_payload no_carousels 5 payload ≡ none) × (change_packet all_off no_carousels (packet 0x00 0x61 0x02 payload) ≡ none)

pub counted : Counted
unfolding by_part stayed went table_parts change_table change_payload change_packet
counted = record {
  each = refl;
  who_stayed = refl;
  who_went = refl;
  of_an_mpt = refl;
  of_no_mpt = refl;
  in_table = refl;
  in_payload = refl;
  in_packet = refl;
  on_five = refl;
  unchanged = (refl, refl);
}

-- ---- what is answered: refused or unchanged, nothing

abbrev change : Change
change = record { out = M₁; stays = 0 ∷ 0 ∷ 1 ∷ []; goes = 1 ∷ 0 ∷ 0 ∷ [] }

pub record Made : Type 0 where
  pub accepted : (change_made 0 (some change) ≡ some change) × (change_made 0 none ≡ none)
  pub refused : (change_made 5 (some change) ≡ none) × (change_made 6 (some change) ≡ none)
  pub changed : (changed_bytes (some change) ≡ M₁) × (stays_of (some change) ≡ 0 ∷ 0 ∷ 1 ∷ []) × (goes_of (some change) ≡ 1 ∷ 0 ∷ 0 ∷ [])
  pub of_each : none_of_each ≡ by_part []
  pub unchanged : (changed_bytes none ≡ []) × (stays_of none ≡ 0 ∷ 0 ∷ 0 ∷ []) × (goes_of none ≡ 0 ∷ 0 ∷ 0 ∷ [])

pub made : Made
unfolding change_made by_part
made = record {
  accepted = (refl, refl);
  refused = (refl, refl);
  changed = (refl, refl, refl);
  of_each = refl;
  unchanged = (refl, refl, refl);
}
