-- Laws on a signalling packet: what becomes of it, what is known, dropped and ready after it, and that what comes next has room still.
-- Rests on PassLaws, on meaning's Statements and on learning's NewsLaws.
use Prim.Native.Nat.{ℕ, ◌+◌, ◌≤◌}
use mathlib.Core.Path.{◌≡◌, refl, sym, ap, ◌∙◌}
use mathlib.Core.Bool.{Bool, true, false, cond}
use mathlib.Core.List.{List, [], ◌∷◌, ◌++◌, flatten, append-nil}
use mathlib.Core.Option.{Option, none, some, map, get_or}
use native.Mathlib.Omega.{arith}
use lib.ListN.{length}
use Rattle.meaning.specs.Bytes.{Bytes}
use Rattle.meaning.specs.Writing.{Wrote}
use Rattle.meaning.specs.Sets.{Words, in_set}
use Rattle.meaning.specs.Lists.{is_some}
use Rattle.meaning.specs.Mmtp.{Mmtp, mmtp_of}
use Rattle.meaning.specs.Narrow.{packet_for, narrow_packet}
use Rattle.meaning.specs.Learn.{Known, Learnt, learn_from, learn, observe}
use Rattle.meaning.specs.Rules.{drops, ready}
use Rattle.meaning.specs.Leading.{leading_observed, leading_from, leading_over}
use Rattle.meaning.specs.Push.{Passed, none_passed, pass_one, pass, withheld}
use Rattle.meaning.specs.declared.Limits.{Limits}
use Rattle.meaning.specs.declared.Options.{Options}
use Rattle.meaning.specs.declared.Modes.{Modes}
use Rattle.meaning.specs.declared.Counts.{Counts}
use Rattle.meaning.proofs.ListLaws.{or_false}
use Rattle.meaning.proofs.Writes.{wrote_none}
use Rattle.meaning.proofs.Statements.{packet_shorter}
use Rattle.tlv.specs.Answers.{PartIs}
use Rattle.narrowing.specs.Answers.{signal_of}
use Rattle.learning.specs.News.{no_news}
use Rattle.learning.specs.Learnt.{with_news}
use Rattle.learning.specs.declared.Extent.{Extent}
use Rattle.learning.specs.declared.Kept.{Kept}
use Rattle.learning.specs.declared.News.{News}
use Rattle.observing.specs.News.{news}
use Rattle.observing.specs.Steps.{KeepsIn}
use Rattle.observing.specs.Observed.{Holding, Observed}
use Rattle.observing.proofs.NewsLaws.{still, drops_still, ready_still}
use Rattle.rules.specs.Changes.{SetIs}
use Rattle.passing.specs.declared.Progress.{Progress}
use Rattle.passing.specs.Verdicts.{Signals}
use Rattle.passing.specs.Passing.{Emitted, Refreshed, Fits, Sofar}
use Rattle.passing.proofs.PassLaws.{counts_after, further}

-- ---- narrowing a packet of signalling

pub narrows_as : (M : Modes) (o : Options) {p payload : Bytes} {id : ℕ} {w : Bool} → Signals p payload id w
    → narrow_packet M o p ≡ packet_for M o p (some (signal_of id w payload))
unfolding narrow_packet
narrows_as M o {p} h = ap (packet_for M o p) h.read

-- ---- what is known after it

-- the part that the reader hands back is the payload
pub part_is : {p payload : Bytes} {id : ℕ} {w : Bool} (r : Bytes) → Signals p payload id w → PartIs (map (λ m. m.payload) (mmtp_of p)) 16 p r → r ≡ payload
part_is r h g = let k = rw h.read at g in k.0

-- the observer begins with no news
abbrev pub no_change : Extent → Extent
no_change e = with_news e no_news

pub holding_anew : {T : ℕ} {k : Known} {e : Extent} {kept : Kept} {map_room : List ℕ} {bodies : Bytes}
    → Holding T k e kept map_room bodies → Holding T k (no_change e) kept map_room bodies
holding_anew h =
    let t = h.tables_kept in
    record {
      tables_kept = record { seen = t.seen; packages_kept = t.packages_kept; maps_kept = t.maps_kept; data_set_is = t.data_set_is; data_set_all = t.data_set_all; map_room_is = t.map_room_is; map_room_all = t.map_room_all };
      fragments_kept = h.fragments_kept;
    }

-- ---- what is dropped, and readiness, after it

module _ (L : Limits) (M : Modes) (o : Options) (id : ℕ) (s : Bytes) (k : Known) where
  abbrev after : Known
  after = (observe L id s k).known

  refreshed_is : (b : Bool) (kept : Kept) {e : Extent} {was : Bool} {map_room : List ℕ} {set : Words} {r : Bool} {set' : Words}
      → b ≡ (news L id s k).changed → Refreshed b o e was kept map_room set r set' → KeepsIn after e kept map_room
      → SetIs (drops o k) set → was ≡ ready o.service k
      → SetIs (drops o after) set' × (r ≡ ready o.service after)
  refreshed_is true kept b h keeps t y = h after keeps
  refreshed_is false kept b h keeps t y =
      let x = still L id s k (sym b) in (
        rw h.1 (record { all_words = t.all_words; member = λ q small. t.member q small ∙ sym (drops_still x o q) }),
        h.0 ∙ y ∙ sym (ready_still x o.service),
      )

-- ---- what passes

module _ (L : Limits) (M : Modes) (o : Options) (k : Known) {p payload : Bytes} {id : ℕ} {w : Bool} (h : Signals p payload id w) where
  abbrev told : Learnt
  told = observe L id payload k

  abbrev passed_one : Passed
  passed_one = pass_one (drops o told.known id) (narrow_packet M o p) p told.lost (none_passed told.known)

  learns_as : learn L k p ≡ told
  unfolding learn
  learns_as = ap (λ (m : Option Mmtp). learn_from L m k) h.read

  leads_as : (leading : ℕ) → leading_over L k (p ∷ []) leading ≡ leading_observed L id payload k leading
  unfolding leading_over
  leads_as leading = ap (λ (m : Option Mmtp). leading_from L m k leading) h.read

  withheld_as : (j : Known) → withheld o j (mmtp_of p) ≡ drops o j id
  withheld_as j = ap (withheld o j) h.read ∙ or_false (drops o j id)

  passes_as : pass L M o k (p ∷ []) ≡ passed_one
  unfolding pass
  passes_as =
      ap (λ (l : Learnt). pass_one (withheld o l.known (mmtp_of p)) (narrow_packet M o p) p l.lost (none_passed l.known)) learns_as
      ∙ ap (λ (b : Bool). pass_one b (narrow_packet M o p) p told.lost (none_passed told.known)) (withheld_as told.known)

-- what was emitted is what passes
module _ (y : Option Bytes) (p : Bytes) (lost : ℕ) (k : Known) (c : Counts) (d : Bytes) (r : Counts) (d' : Bytes) where
  emitted_counts : (b : Bool) → Emitted b y p c d r d' → r ≡ counts_after c r.bytes (pass_one b y p lost (none_passed k)) 1 0
  emitted_counts true h =
      let b : c.bytes ≡ r.bytes = sym (ap (λ (z : Counts). z.bytes) h.0) in
      let v : c.written ≡ c.written + 0 = omega arith in
      let q : c.rewritten ≡ c.rewritten + 0 = omega arith in
      let s : c.skipped ≡ c.skipped + 0 = omega arith in
      h.0 ∙ (λ i. record { bytes = b i; accepted = c.accepted + 1; written = v i; rewritten = q i; skipped = s i; lost = c.lost })
  emitted_counts false h =
      let x = pass_one false y p lost (none_passed k) in
      let q : c.rewritten + cond (is_some y) 1 0 ≡ c.rewritten + x.rewritten = omega arith in
      let s : c.skipped ≡ c.skipped + 0 = omega arith in
      h.0 ∙ (λ i. record { bytes = r.bytes; accepted = c.accepted + 1; written = c.written + 1; rewritten = q i; skipped = s i; lost = c.lost })

  emitted_bytes : (b : Bool) → Emitted b y p c d r d' → Wrote (flatten (pass_one b y p lost (none_passed k)).out) d c.bytes d' r.bytes
  unfolding flatten
  emitted_bytes true h = rw (h.0, h.1) (wrote_none d c.bytes)
  emitted_bytes false h = rw (append-nil (get_or y p)) h.1

known_after : (b : Bool) (y : Option Bytes) (p : Bytes) (lost : ℕ) (k : Known) → (pass_one b y p lost (none_passed k)).known ≡ k
known_after true y p lost k = refl
known_after false y p lost k = refl

lost_after : (b : Bool) (y : Option Bytes) (p : Bytes) (lost : ℕ) (k : Known) → (pass_one b y p lost (none_passed k)).lost ≡ lost
lost_after true y p lost k = omega arith
lost_after false y p lost k = omega arith

module _ (L : Limits) (M : Modes) (o : Options) (k : Known) (leading : ℕ) (d : Bytes) (ps : List Bytes) (n : ℕ) (s r : Progress)
    {p payload : Bytes} {id : ℕ} {w : Bool} (h : Signals p payload id w) where
  abbrev here : Known
  here = (pass L M o k ps).known

  abbrev step : Learnt
  step = observe L id payload here

  -- A run has come one packet further.
  pub signalled : {kept : Kept} {map_room : List ℕ} {bodies : Bytes} {set : Words} {out : Bytes}
      {kept' : Kept} {map_room' : List ℕ} {bodies' : Bytes} {set' : Words} {out' : Bytes}
      → Sofar L M o k leading d ps n s kept map_room bodies set out
      → Observed L.total step (news L id payload here) (leading_observed L id payload here s.extent.leading) (no_change s.extent) r.extent kept' map_room' bodies'
      → Refreshed r.extent.news.changed o r.extent s.ready kept' map_room' set r.ready set'
      → Emitted (in_set set' id) (narrow_packet M o p) p s.counts out r.counts out'
      → Sofar L M o k leading d (ps ++ p ∷ []) (n + 0) r kept' map_room' bodies' set' out'
  signalled {kept} {map_room} {bodies} {set} {out} {kept'} {map_room'} {bodies'} {set'} {out'} f seen fresh sent =
      let g = refreshed_is L M o id payload here r.extent.news.changed kept' (ap (λ (n : News). n.changed) seen.news_are) fresh seen.holding.tables_kept f.set_is f.ready_is in
      let b : in_set set' id ≡ drops o step.known id = g.0.member id h.identifier_fits in
      let x = rw b at sent in
      let y = narrow_packet M o p in
      let passes = passes_as L M o here h in
      let knows : (pass L M o here (p ∷ [])).known ≡ step.known = ap (λ (z : Passed). z.known) passes ∙ known_after (drops o step.known id) y p step.lost step.known in
      let loses : (pass L M o here (p ∷ [])).lost ≡ step.lost = ap (λ (z : Passed). z.lost) passes ∙ lost_after (drops o step.known id) y p step.lost step.known in
      further L M o k leading d ps (p ∷ []) n 0 s r kept map_room bodies set out kept' map_room' bodies' set' out' f
      (rw knows seen.holding)
      (rw knows g.0)
      (rw knows g.1)
      (rw loses seen.lost_is)
      (seen.leading_is ∙ sym (leads_as L M o here h s.extent.leading))
      (rw passes (emitted_counts y p step.lost step.known s.counts out r.counts out' (drops o step.known id) x))
      (rw passes (emitted_bytes y p step.lost step.known s.counts out r.counts out' (drops o step.known id) x))

-- ---- room for what comes next

pub emitter_fits : {p payload : Bytes} {id : ℕ} {w : Bool} (s : Progress) (out_length : ℕ) → Signals p payload id w → Fits s (length p) out_length
    → (s.counts.bytes + length p ≤ out_length) × (s.counts.accepted + 1 ≤ 18446744073709551615) × (s.counts.written + 1 ≤ 18446744073709551615) × (s.counts.rewritten + 1 ≤ 18446744073709551615)
emitter_fits {p} s out_length h f =
    let some_bytes : 1 ≤ length p = omega (arith, h.behind_header) in
    (f.bytes_fit, omega (arith, f.accepted_fit), omega (arith, f.written_fit), omega (arith, f.rewritten_fit))

-- the output grows by no more than the packet
emitted_within : (b : Bool) (y : Option Bytes) (p : Bytes) (c : Counts) (d : Bytes) (r : Counts) (d' : Bytes) → length (get_or y p) ≤ length p
    → Emitted b y p c d r d' → (r.bytes ≤ c.bytes + length p) × (r.accepted ≤ c.accepted + 1) × (r.written ≤ c.written + 1) × (r.rewritten ≤ c.rewritten + 1) × (r.skipped ≡ c.skipped)
emitted_within true y p c d r d' z h = rw h.0 (omega arith, omega arith, omega arith, omega arith, refl)
emitted_within false y p c d r d' z h =
    let one : cond (is_some y) 1 0 ≤ 1 = go y in (
      omega (arith, h.1.end),
      omega (arith, ap (λ (x : Counts). x.accepted) h.0),
      omega (arith, ap (λ (x : Counts). x.written) h.0),
      omega (arith, ap (λ (x : Counts). x.rewritten) h.0),
      ap (λ (x : Counts). x.skipped) h.0,
    )
  where
    go : (y : Option Bytes) → cond (is_some y) 1 0 ≤ 1
    go none = omega arith
    go (some z) = omega arith

never_longer : (M : Modes) (o : Options) (p : Bytes) (y : Option Bytes) → narrow_packet M o p ≡ y → length (get_or y p) ≤ length p
never_longer M o p none e = omega arith
never_longer M o p (some y) e = packet_shorter M o p y e

pub fits_after : (M : Modes) (o : Options) {p payload : Bytes} {id : ℕ} {w : Bool} → Signals p payload id w → (s r : Progress) (set : Words) (d d' : Bytes) (T : ℕ)
    → Emitted (in_set set id) (narrow_packet M o p) p s.counts d r.counts d' → r.extent.lost ≤ s.extent.lost + length payload + T → T ≤ 16777216
    → length d' ≡ length d → (m : ℕ) → Fits s (length p + m) (length d) → Fits r m (length d')
fits_after M o {p} {payload} {id} h s r set d d' T x l few same m f =
    let z = emitted_within (in_set set id) (narrow_packet M o p) p s.counts d r.counts d' (never_longer M o p (narrow_packet M o p) refl) x in
    let long : 16 + length payload ≤ length p = h.behind_header in
    record {
      bytes_fit = omega (arith, z.0, f.bytes_fit);
      accepted_fit = omega (arith, z.1, f.accepted_fit);
      written_fit = omega (arith, z.2, f.written_fit);
      rewritten_fit = omega (arith, z.3, f.rewritten_fit);
      skipped_fit = omega (arith, z.4, f.skipped_fit);
      lost_fit = omega (arith, f.lost_fit, l, few, long);
    }
