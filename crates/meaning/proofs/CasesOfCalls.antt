-- Small cases of the calls: a start, a push, a series of them. 01, "Finding packets", "Keep, drop, ready" and "Refusal numbers".
use Prim.Native.Nat.{ℕ}
use mathlib.Core.Path.{◌≡◌, refl}
use mathlib.Core.Bool.{true, false}
use mathlib.Core.List.{[], ◌∷◌, ◌++◌}
use mathlib.Core.Option.{none, some}
use lib.ListN.{length, take, drop}
use Rattle.meaning.specs.Bytes.{Bytes}
use Rattle.meaning.specs.Sets.{in_set, with_id}
use Rattle.meaning.specs.Mmtp.{Mmtp}
use Rattle.meaning.specs.Wishes.{all_off}
use Rattle.meaning.specs.Learn.{Known}
use Rattle.meaning.specs.Record.{State}
use Rattle.meaning.specs.Start.{no_words, fresh}
use Rattle.meaning.specs.Push.{withheld, Passed, pass_one, pass, push}
use Rattle.meaning.specs.Series.{series}
use Rattle.meaning.specs.declared.Limits.{Limits}
use Rattle.meaning.specs.declared.Service.TheVariants.{Every}
use Rattle.meaning.specs.declared.Options.{Options}
use Rattle.meaning.specs.declared.Counts.{Counts}
use Rattle.meaning.proofs.Examples.{M, M₁, no_captions, no_carousels}

-- ---- a stream: video on F100, a PLT with service 0401 on 6, M on 6, captions on F130, video again, and a byte

abbrev pub video : Bytes
video = 0x7F ∷ 0x03 ∷ 0x00 ∷ 0x10 ∷ 0 ∷ 0 ∷ 0x61 ∷ 0 ∷ 0 ∷ 0xF1 ∷ 0x00 ∷ 1 ∷ 2 ∷ 3 ∷ 4 ∷ 5 ∷ 6 ∷ 7 ∷ 8 ∷ 0xAB ∷ []

abbrev pub captions : Bytes
captions = 0x7F ∷ 0x03 ∷ 0x00 ∷ 0x10 ∷ 0 ∷ 0 ∷ 0x61 ∷ 0 ∷ 0 ∷ 0xF1 ∷ 0x30 ∷ 1 ∷ 2 ∷ 3 ∷ 4 ∷ 5 ∷ 6 ∷ 7 ∷ 8 ∷ 0xAB ∷ []

abbrev pub signal : ℕ → ℕ → ℕ → Bytes → Bytes
signal size id long t =
    0x7F ∷ 0x03 ∷ 0x00 ∷ size ∷ 0 ∷ 0 ∷ 0x61 ∷ 0 ∷ 2 ∷ 0 ∷ id ∷ 1 ∷ 2 ∷ 3 ∷ 4 ∷ 5 ∷ 6 ∷ 7 ∷ 8 ∷ 0 ∷ 0 ∷ 0 ∷ 0 ∷ 7 ∷ 0 ∷ 0 ∷ 0 ∷ long ∷ 0 ∷ t

abbrev pub plt : Bytes
plt = signal 0x24 0 0x0C (0x80 ∷ 1 ∷ 0 ∷ 7 ∷ 1 ∷ 2 ∷ 4 ∷ 1 ∷ 0 ∷ 0 ∷ 6 ∷ [])

abbrev pub mpt : Bytes
mpt = signal 0x48 6 0x30 M

abbrev pub narrowed : Bytes
narrowed = signal 0x36 6 0x1E M₁

-- message 0x8003 on 6
abbrev carousel : Bytes
carousel = 0x7F ∷ 0x03 ∷ 0x00 ∷ 0x18 ∷ 0 ∷ 0 ∷ 0x61 ∷ 0 ∷ 2 ∷ 0 ∷ 6 ∷ 1 ∷ 2 ∷ 3 ∷ 4 ∷ 5 ∷ 6 ∷ 7 ∷ 8 ∷ 0 ∷ 0 ∷ 0x80 ∷ 0x03 ∷ 7 ∷ 0 ∷ 0 ∷ 0 ∷ 0 ∷ []

abbrev pub stream : Bytes
stream = video ++ (plt ++ (mpt ++ (captions ++ (video ++ (0x7F ∷ [])))))

abbrev limits : Limits
limits = record { work = 65536; total = 65536; most = 65536 }

abbrev all_on : Options
all_on = record { service = Every; caption = true; carousel = true; eit = true; other = true }

abbrev no_eit : Options
no_eit = record { service = Every; caption = true; carousel = true; eit = false; other = true }

abbrev start : State
start = fresh (0 ∷ 0 ∷ 0 ∷ 0 ∷ [])

abbrev after : Known
after = record { plt_seen = true; packages = (0x0401, 6) ∷ []; map_heads = (6, 2) ∷ []; map_room = 0xF100 ∷ 2 ∷ 0xF130 ∷ 0 ∷ []; data_set = no_words; fragments = [] }

abbrev counted : ℕ → ℕ → ℕ → ℕ → ℕ → Counts
counted bytes accepted written rewritten skipped = record { bytes = bytes; accepted = accepted; written = written; rewritten = rewritten; skipped = skipped; lost = 0 }

abbrev of_type : ℕ → ℕ → Mmtp
of_type payload_type id = record { identifier = id; payload_type = payload_type; rewritable = true; payload = [] }

abbrev behind : Passed
behind = record { out = (9 ∷ []) ∷ []; rewritten = 1; lost = 3; known = after }

pub record Pushes : Type 0 where
  pub words : (length no_words ≡ 1024) × (in_set no_words 0xFFC0 ≡ false) × (in_set (with_id no_words 0xFFFF) 0xFFFF ≡ true)
  pub empty : fresh (7 ∷ []) ≡ record { held = []; known = record { plt_seen = false; packages = []; map_heads = []; map_room = 7 ∷ []; data_set = no_words; fragments = [] } }
  -- what was not read passes, signalling too, media not before all is ready; what is dropped never does
  pub unread : withheld no_captions start.known none ≡ false
  pub signalling : (withheld no_eit start.known (some (of_type 2 6)) ≡ false) × (withheld no_eit start.known (some (of_type 2 0x8000)) ≡ true)
  pub media : (withheld no_captions start.known (some (of_type 0 0xF100)) ≡ true) × (withheld no_captions after (some (of_type 0 0xF100)) ≡ false)
  pub dropped_one : withheld no_captions after (some (of_type 0 0xF130)) ≡ true
  pub not_written : pass_one true (some (7 ∷ [])) (8 ∷ []) 2 behind ≡ record { out = (9 ∷ []) ∷ []; rewritten = 1; lost = 5; known = after }
  pub as_it_is : pass_one false none (8 ∷ []) 2 behind ≡ record { out = (8 ∷ []) ∷ (9 ∷ []) ∷ []; rewritten = 1; lost = 5; known = after }
  pub rewritten : pass_one false (some (7 ∷ [])) (8 ∷ []) 2 behind ≡ record { out = (7 ∷ []) ∷ (9 ∷ []) ∷ []; rewritten = 2; lost = 5; known = after }
  pub none_left : pass limits all_off no_captions after [] ≡ record { out = []; rewritten = 0; lost = 0; known = after }
  -- a packet is asked after it was learned from: 0x8003 makes its own identifier one that is dropped
  pub data_at_once : (pass limits all_off no_carousels start.known (carousel ∷ [])).out ≡ []
  pub whole : push limits all_off no_captions start stream
      ≡ record { out = plt ∷ narrowed ∷ video ∷ []; counts = counted 118 5 3 1 0; state = record { held = 0x7F ∷ []; known = after } }
  pub copied : push limits all_off all_on start stream ≡ record { out = stream ∷ []; counts = counted 177 0 0 0 0; state = start }
  -- W of 4,096 bytes makes a packet of 2,052 none
  pub above_limit : push (record { work = 4096; total = 1; most = 1 }) all_off no_captions start (0x7F ∷ 0xFF ∷ 0x08 ∷ 0x00 ∷ [])
      ≡ record { out = []; counts = counted 0 0 0 0 1; state = record { held = 0xFF ∷ 0x08 ∷ 0x00 ∷ []; known = start.known } }
  -- in two pieces, with a refused one between them, which counts nothing
  pub in_pieces : series limits all_off no_captions start ((take 70 stream, 70) ∷ (stream, 9) ∷ (drop 70 stream, 65536) ∷ [])
      ≡ record { out = plt ∷ narrowed ∷ video ∷ []; counts = counted 118 5 3 1 0; state = record { held = 0x7F ∷ []; known = after } }

pub pushes : Pushes
unfolding no_words in_set with_id fresh pass push series
pushes = record {
  words = (refl, refl, refl);
  empty = refl;
  unread = refl;
  signalling = (refl, refl);
  media = (refl, refl);
  dropped_one = refl;
  not_written = refl;
  as_it_is = refl;
  rewritten = refl;
  none_left = refl;
  data_at_once = refl;
  whole = refl;
  copied = refl;
  above_limit = refl;
  in_pieces = refl;
}
