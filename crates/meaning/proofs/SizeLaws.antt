-- Every packet that is written is as long as its head says, so the bytes written split into packets in one way only, those that were
-- written, and whoever finds packets in them by 01's rule finds these. Rests on CutLaws and NarrowLaws.
use Prim.Native.Nat.{ℕ, ◌+◌, ◌-◌, ◌≤◌}
use mathlib.Core.Path.{◌≡◌, refl, sym, ap, ap₂, ◌∙◌, subst}
use mathlib.Core.Logic.{inl, inr}
use mathlib.Core.Bool.{Bool, true, false, cond, ◌&&◌}
use mathlib.Core.List.Memᴰ
use mathlib.Core.List.{List, [], ◌∷◌, ◌++◌, flatten, append-nil, Memᴰ}
use mathlib.Core.Option.{Option, none, some, map, none-ne-some, some-injective}
use native.Mathlib.Omega.{arith}
use lib.ListN.{length, take, drop, get_or, length-append, take-append-drop, get_or-append}
use lib.Seq.{take_at, drop_at, length-take-le, get_or-append-add}
use lib.Dec.{eqb, leb}
use borrow.Author.Tests.{le-leb, leb-true, le-ltb}
use Rattle.meaning.specs.Bytes.{Bytes, be16, be16_at, put16}
use Rattle.meaning.specs.Readers.{bytes, walk}
use Rattle.meaning.specs.Packets.{size_of, is_type, candidate, followed, step_of, cut}
use Rattle.meaning.specs.Mmtp.{Mmtp, mmtp_of, is_signalling}
use Rattle.meaning.specs.Wishes.{copies_all}
use Rattle.meaning.specs.Narrow.{may_rewrite, narrow_payload, packet_bytes, packet_for, narrow_packet}
use Rattle.meaning.specs.Rooms.{packet_limit}
use Rattle.meaning.specs.Learn.{Known, learn}
use Rattle.meaning.specs.Record.{State}
use Rattle.meaning.specs.Push.{withheld, Passed, pass_one, pass, filtered, push}
use Rattle.meaning.specs.Series.{Lent, call_refusal, series_on, series}
use Rattle.meaning.specs.Recount.{packet, packets_of, Sized}
use Rattle.meaning.specs.declared.Limits.{Limits}
use Rattle.meaning.specs.declared.Options.{Options}
use Rattle.meaning.specs.declared.Modes.{Modes}
use Rattle.meaning.specs.declared.Step.TheVariants.{Packet}
use Rattle.meaning.proofs.ListLaws.{and_both, or_left, or_right}
use Rattle.meaning.proofs.Local.{Local}
use Rattle.meaning.proofs.Framed.{Again, AllAgain, walk_again}
use Rattle.meaning.proofs.CutLaws.{by_steps, step_nil, cut_keep, cut_skip, cut_packet, size_four}
use Rattle.meaning.proofs.TableLaws.{be16_put, be16_small}
use Rattle.meaning.proofs.PaLaws.{map_same, bytes_framed, taken}
use Rattle.meaning.proofs.AfreshLaws.{afresh_length}
use Rattle.meaning.proofs.Statements.{packet_shorter}

-- ---- the head's length

-- no head says more than sixteen bits can
pub size_most : (s : Bytes) → size_of s ≤ 65539
unfolding size_of be16_at
size_most s = omega (arith, be16_small (get_or s 2 0) (get_or s 3 0))

-- it stands in the first four bytes
front_size : (p t : Bytes) → 4 ≤ length p → size_of (p ++ t) ≡ size_of p
unfolding size_of be16_at
front_size p t four = ap₂ (λ (a b : ℕ). 4 + be16 a b) (get_or-append p t 0 2 (omega arith)) (get_or-append p t 0 3 (omega arith))

-- and so does all by which a start is one
front_start : (P : ℕ) (p t : Bytes) → 4 ≤ length p → candidate P (p ++ t) ≡ candidate P p
unfolding candidate
front_start P p t four = rw (get_or-append p t 0 0 (omega arith), get_or-append p t 0 1 (omega arith), front_size p t four)

-- ---- what holds of each packet of a list

module _ (Q : Bytes → Type 0) where
  abbrev Each : List Bytes → Type 0
  Each ps = (p : Bytes) → Memᴰ p ps → Q p

  each_none : Each []
  each_none p m = absurd (Memᴰ.not-nil m)

  each_more : (p : Bytes) (ps : List Bytes) → Q p → Each ps → Each (p ∷ ps)
  each_more p ps h hs q m = elim (Memᴰ.cases_cons m) [ inl e ↦ rw e h | inr i ↦ hs q i ]

  each_first : (p : Bytes) (ps : List Bytes) → Each (p ∷ ps) → Q p
  each_first p ps h = h p (Memᴰ.head refl)

  each_rest : (p : Bytes) (ps : List Bytes) → Each (p ∷ ps) → Each ps
  each_rest p ps h q m = h q (Memᴰ.tail m)

  each_both : (ps qs : List Bytes) → Each ps → Each qs → Each (ps ++ qs)
  each_both ps qs h k p m = elim (Memᴰ.append_cases ps m) [ inl i ↦ h p i | inr i ↦ k p i ]

-- A packet: as long as its head says, and one that 01's rule takes for a start.
pub record Whole (P : ℕ) (p : Bytes) : Type 0 where
  pub size : size_of p ≡ length p
  pub start : candidate P p ≡ true

whole_sized : (P : ℕ) (ps : List Bytes) → Each (Whole P) ps → Sized ps
whole_sized P ps h p m = (h p m).size

-- ---- accepted packets, narrowed packets, and all that are written

cut_whole : (P : ℕ) (s : Bytes) → Each (Whole P) (cut P s).packets
cut_whole P =
    by_steps P (λ (s : Bytes). Each (Whole P) (cut P s).packets)
    (λ s e. rw (cut_keep P s e) (each_none (Whole P)))
    (λ s e h c ih. rw (cut_skip P s e) ih)
    (λ s e h c l ih. rw (cut_packet P s (size_of s) e) (each_more (Whole P) (take (size_of s) s) (cut P (drop (size_of s) s)).packets (front s h c l) ih))
  where
    front : (s : Bytes) → 4 ≤ length s → (candidate P s && followed s) ≡ true → size_of s ≤ length s → Whole P (take (size_of s) s)
    front s h c l =
        let n : length (take (size_of s) s) ≡ size_of s = length-take-le (size_of s) s l in
        let four : 4 ≤ length (take (size_of s) s) = omega (arith, n, size_four s) in
        let w : take (size_of s) s ++ drop (size_of s) s ≡ s = take-append-drop (size_of s) s in
        record {
          size = sym (front_size (take (size_of s) s) (drop (size_of s) s) four) ∙ ap size_of w ∙ sym n;
          start = sym (front_start P (take (size_of s) s) (drop (size_of s) s) four) ∙ ap (candidate P) w ∙ (and_both (candidate P s) (followed s) c).0;
        }

pub cut_sized : (P : ℕ) (s : Bytes) → Sized (cut P s).packets
cut_sized P s = whole_sized P (cut P s).packets (cut_whole P s)

-- ---- a packet that narrowing changes

pub record Rewritten (M : Modes) (o : Options) (p y : Bytes) : Type 0 where
  pub read : Mmtp
  pub was : mmtp_of p ≡ some read
  pub may : (is_signalling read && may_rewrite M p read) ≡ true
  pub payload : Bytes
  pub narrowed : narrow_payload o read.identifier read.payload ≡ some payload
  pub is : packet_bytes p read payload ≡ y

pub rewritten : (M : Modes) (o : Options) (p y : Bytes) → narrow_packet M o p ≡ some y → Rewritten M o p y
unfolding narrow_packet
rewritten M o p y e = found (mmtp_of p) refl e
  where
    mapped : (m : Mmtp) → mmtp_of p ≡ some m → (is_signalling m && may_rewrite M p m) ≡ true → (x : Option Bytes) → narrow_payload o m.identifier m.payload ≡ x
        → map (packet_bytes p m) x ≡ some y → Rewritten M o p y
    mapped m em g none ex q = absurd (none-ne-some _ q)
    mapped m em g (some z) ex q = record { read = m; was = em; may = g; payload = z; narrowed = ex; is = some-injective _ _ q }

    found : (x : Option Mmtp) → mmtp_of p ≡ x → packet_for M o p x ≡ some y → Rewritten M o p y
    found none ex q = absurd (none-ne-some _ q)
    found (some m) ex q = go (is_signalling m && may_rewrite M p m) refl q
      where
        go : (b : Bool) → (is_signalling m && may_rewrite M p m) ≡ b → cond b (map (packet_bytes p m) (narrow_payload o m.identifier m.payload)) none ≡ some y → Rewritten M o p y
        go true eb r = mapped m ex eb (narrow_payload o m.identifier m.payload) refl r
        go false eb r = absurd (none-ne-some _ r)

-- its TLV length follows, and it still starts as it did
module _ (a t l k : ℕ) (s : Bytes) (m : Mmtp) (z : Bytes) where
  put_size : length (packet_bytes (a ∷ t ∷ l ∷ k ∷ s) m z) ≤ 65539 → size_of (packet_bytes (a ∷ t ∷ l ∷ k ∷ s) m z) ≡ length (packet_bytes (a ∷ t ∷ l ∷ k ∷ s) m z)
  unfolding packet_bytes size_of be16_at put16
  put_size few =
      let rest : Bytes = take (length (a ∷ t ∷ l ∷ k ∷ s) - length m.payload - 4) s ++ z in
      omega (arith, few, be16_put (length rest), afresh_length t rest)

  put_front : (get_or (packet_bytes (a ∷ t ∷ l ∷ k ∷ s) m z) 0 0 ≡ a) × (get_or (packet_bytes (a ∷ t ∷ l ∷ k ∷ s) m z) 1 0 ≡ t)
  unfolding packet_bytes
  put_front = (refl, refl)

module _ (P : ℕ) (M : Modes) (o : Options) where
  size_start : (p y : Bytes) → length p ≤ 65539 → length y ≤ length p → Rewritten M o p y
      → (size_of y ≡ length y) × (size_of p ≡ length p → candidate P p ≡ true → candidate P y ≡ true)
  unfolding mmtp_of candidate
  size_start [] y few less w = absurd (none-ne-some _ w.was)
  size_start (a ∷ []) y few less w = absurd (none-ne-some _ w.was)
  size_start (a ∷ t ∷ []) y few less w = absurd (none-ne-some _ w.was)
  size_start (a ∷ t ∷ l ∷ []) y few less w = absurd (none-ne-some _ w.was)
  size_start (a ∷ t ∷ l ∷ k ∷ s) y few less w =
      let e : packet_bytes (a ∷ t ∷ l ∷ k ∷ s) w.read w.payload ≡ y = w.is in
      let size : size_of y ≡ length y =
      subst (λ (x : Bytes). size_of x ≡ length x) e (put_size a t l k s w.read w.payload (omega (arith, ap length e))) in
      let f = put_front a t l k s w.read w.payload in
      let first : get_or y 0 0 ≡ a = ap (λ (x : Bytes). get_or x 0 0) (sym e) ∙ f.0 in
      let second : get_or y 1 0 ≡ t = ap (λ (x : Bytes). get_or x 1 0) (sym e) ∙ f.1 in (
        size,
        λ whole c. let b = and_both (eqb a 0x7F && is_type t) (leb (size_of (a ∷ t ∷ l ∷ k ∷ s)) P) c in
            let within : size_of (a ∷ t ∷ l ∷ k ∷ s) ≤ P = leb-true _ _ b.1 in
            let fits : size_of y ≤ P = omega (arith, size, whole) in
            rw (first, second, b.0, le-leb _ _ fits),
      )

-- The TLV length follows: 01 bounds what is narrowed by 65,539 bytes.
pub size_follows : (M : Modes) (o : Options) (p y : Bytes) → length p ≤ 65539 → narrow_packet M o p ≡ some y → size_of y ≡ length y
size_follows M o p y few e = (size_start 0 M o p y few (packet_shorter M o p y e) (rewritten M o p y e)).0

-- ---- all that is written

-- what narrowing keeps holds of all that goes out, if it held of all that came in
module _ (Q : Bytes → Type 0) (L : Limits) (M : Modes) (o : Options) (keeps : (p y : Bytes) → Q p → narrow_packet M o p ≡ some y → Q y) where
  pass_each : (k : Known) (ps : List Bytes) → Each Q ps → Each Q (pass L M o k ps).out
  unfolding pass
  pass_each k [] h = each_none Q
  pass_each k (p ∷ ps) h =
      go (withheld o (learn L k p).known (mmtp_of p)) (narrow_packet M o p) refl (pass_each (learn L k p).known ps (each_rest Q p ps h))
    where
      r : Passed
      r = pass L M o (learn L k p).known ps

      go : (a : Bool) (y : Option Bytes) → narrow_packet M o p ≡ y → Each Q r.out → Each Q (pass_one a y p (learn L k p).lost r).out
      go true y e ih = ih
      go false none e ih = each_more Q p r.out (each_first Q p ps h) ih
      go false (some y) e ih = each_more Q y r.out (keeps p y (each_first Q p ps h) e) ih

pub pass_sized : (L : Limits) (M : Modes) (o : Options) (k : Known) (ps : List Bytes) → Sized ps → Sized (pass L M o k ps).out
pass_sized L M o = pass_each (λ p. size_of p ≡ length p) L M o (λ p y h e. size_follows M o p y (omega (arith, h, size_most p)) e)

narrowed_whole : (P : ℕ) (M : Modes) (o : Options) (p y : Bytes) → Whole P p → narrow_packet M o p ≡ some y → Whole P y
narrowed_whole P M o p y w e =
    let n = size_start P M o p y (omega (arith, w.size, size_most p)) (packet_shorter M o p y e) (rewritten M o p y e) in
    record { size = n.0; start = n.1 w.size w.start }

module _ (L : Limits) (M : Modes) (o : Options) (some_off : copies_all o ≡ false) where
  abbrev P : ℕ
  P = packet_limit L.work

  push_whole : (st : State) (chunk : Bytes) → Each (Whole P) (push L M o st chunk).out
  unfolding push filtered
  push_whole st chunk = rw some_off (pass_each (Whole P) L M o (narrowed_whole P M o) st.known (cut P (st.held ++ chunk)).packets (cut_whole P (st.held ++ chunk)))

  series_whole : (st : State) (cs : List Lent) → Each (Whole P) (series L M o st cs).out
  unfolding series
  series_whole st [] = each_none (Whole P)
  series_whole st (c ∷ cs) = go (eqb (call_refusal L st c) 0) (series_whole st cs) (series_whole (push L M o st c.0).state cs)
    where
      go : (a : Bool) → Each (Whole P) (series L M o st cs).out → Each (Whole P) (series L M o (push L M o st c.0).state cs).out
          → Each (Whole P) (cond a (series_on (push L M o st c.0) (series L M o (push L M o st c.0).state cs)) (series L M o st cs)).out
      go true skipped done = each_both (Whole P) (push L M o st c.0).out (series L M o (push L M o st c.0).state cs).out (push_whole st c.0) done
      go false skipped done = skipped

  pub push_sized : (st : State) (chunk : Bytes) → Sized (push L M o st chunk).out
  push_sized st chunk = whole_sized P (push L M o st chunk).out (push_whole st chunk)

  pub series_sized : (st : State) (cs : List Lent) → Sized (series L M o st cs).out
  series_sized st cs = whole_sized P (series L M o st cs).out (series_whole st cs)

-- ---- bytes split into packets in one way only

packet_nil : packet [] ≡ none
unfolding packet size_of bytes be16_at
packet_nil = refl

packet_again : (p : Bytes) → size_of p ≡ length p → Again packet (λ x. x) p
unfolding packet bytes
packet_again p h t =
    let n : size_of (p ++ t) ≡ length p = front_size p t (omega (arith, h, size_four p)) ∙ h in
    let l : length p ≤ length (p ++ t) = omega (arith, length-append p t) in
    rw (n, le-leb _ _ l, take_at p t (length p) refl, drop_at p t (length p) refl)

packet_local : Local packet
unfolding packet
packet_local s p r e =
    let w : s ≡ p ++ r = (bytes_framed (size_of s) s p r e).0 in
    let n : length p ≡ size_of s = taken (size_of s) s p r e in
    let size : size_of p ≡ length p = sym (ap size_of w ∙ front_size p r (omega (arith, n, size_four s))) ∙ sym n in
    record { part = p; whole = w; again = packet_again p size }

all_again : (ps : List Bytes) → Sized ps → AllAgain packet (λ x. x) ps
all_again [] h = tt
all_again (p ∷ ps) h = (packet_again p (h p (Memᴰ.head refl)), all_again ps (λ q m. h q (Memᴰ.tail m)))

-- Read again from their bytes, they are all that is found, and nothing is left.
pub walk_sized : (ps : List Bytes) → Sized ps → walk packet (flatten ps) ≡ record { found = ps; left = [] }
walk_sized ps h =
    ap (walk packet) (sym (append-nil (flatten ps)) ∙ ap (λ (l : List Bytes). flatten l ++ []) (sym (map_same ps)))
    ∙ walk_again packet_local packet_nil (λ x. x) ps [] (all_again ps h) packet_nil

pub packets_again : (ps : List Bytes) → Sized ps → packets_of (flatten ps) ≡ ps
unfolding packets_of
packets_again ps h = ap (λ w. w.found) (walk_sized ps h)

pub splits_one : (ps qs : List Bytes) → Sized ps → Sized qs → flatten ps ≡ flatten qs → ps ≡ qs
splits_one ps qs h k e = sym (packets_again ps h) ∙ ap packets_of e ∙ packets_again qs k

-- ---- by 01's rule for finding packets: these, nothing skipped, nothing held

-- the byte behind a packet is the first of the next
followed_by : (P : ℕ) (p : Bytes) (ps : List Bytes) → size_of p ≡ length p → Each (Whole P) ps → followed (p ++ flatten ps) ≡ true
unfolding followed flatten candidate
followed_by P p [] size h =
    let e : size_of (p ++ []) ≡ length (p ++ []) = ap size_of (append-nil p) ∙ size ∙ sym (ap length (append-nil p)) in
    let l : length (p ++ []) ≤ size_of (p ++ []) = omega (arith, e) in
    or_left (leb (length (p ++ [])) (size_of (p ++ []))) _ (le-leb _ _ l)
followed_by P p (q ∷ qs) size h =
    let w = each_first (Whole P) q qs h in
    let n : size_of (p ++ (q ++ flatten qs)) ≡ length p = front_size p (q ++ flatten qs) (omega (arith, size, size_four p)) ∙ size in
    let c = and_both (eqb (get_or q 0 0) 0x7F && is_type (get_or q 1 0)) (leb (size_of q) P) w.start in
    let z : get_or (p ++ (q ++ flatten qs)) (length p + 0) 0 ≡ get_or q 0 0 =
    get_or-append-add p (q ++ flatten qs) 0 0 ∙ get_or-append q (flatten qs) 0 0 (omega (arith, w.size, size_four q)) in
    let at : get_or (p ++ (q ++ flatten qs)) (size_of (p ++ (q ++ flatten qs))) 0 ≡ get_or q 0 0 =
    ap (λ (i : ℕ). get_or (p ++ (q ++ flatten qs)) i 0) (omega (arith, n)) ∙ z in
    or_right (leb (length (p ++ (q ++ flatten qs))) (size_of (p ++ (q ++ flatten qs)))) _ (rw at (and_both (eqb (get_or q 0 0) 0x7F) (is_type (get_or q 1 0)) c.0).0)

step_whole : (P : ℕ) (p : Bytes) (ps : List Bytes) → Whole P p → Each (Whole P) ps → step_of P (p ++ flatten ps) ≡ Packet (length p)
unfolding step_of
step_whole P p ps w h =
    let four : 4 ≤ length p = omega (arith, w.size, size_four p) in
    let n : size_of (p ++ flatten ps) ≡ length p = front_size p (flatten ps) four ∙ w.size in
    let long : 4 ≤ length (p ++ flatten ps) = omega (arith, length-append p (flatten ps)) in
    let fits : length p ≤ length (p ++ flatten ps) = omega (arith, length-append p (flatten ps)) in
    rw (le-ltb _ _ long, front_start P p (flatten ps) four, w.start, followed_by P p ps w.size h, n, le-leb _ _ fits)

cut_again : (P : ℕ) (ps : List Bytes) → Each (Whole P) ps → cut P (flatten ps) ≡ record { packets = ps; skipped = 0; held = [] }
unfolding flatten
cut_again P [] h = cut_keep P [] (step_nil P)
cut_again P (p ∷ ps) h =
    let w = each_first (Whole P) p ps h in
    let rest = each_rest (Whole P) p ps h in
    cut_packet P (p ++ flatten ps) (length p) (step_whole P p ps w rest)
    ∙ rw (take_at p (flatten ps) (length p) refl, drop_at p (flatten ps) (length p) refl, cut_again P ps rest)

-- ---- a push, and a series of calls

module _ (L : Limits) (M : Modes) (o : Options) (some_off : copies_all o ≡ false) where
  pub push_splits : (st : State) (chunk : Bytes) → packets_of (flatten (push L M o st chunk).out) ≡ (push L M o st chunk).out
  push_splits st chunk = packets_again (push L M o st chunk).out (push_sized L M o some_off st chunk)

  told : (st : State) (chunk : Bytes)
      → ((push L M o st chunk).counts.written ≡ length (push L M o st chunk).out) × ((push L M o st chunk).counts.bytes ≡ length (flatten (push L M o st chunk).out))
  unfolding push filtered
  told st chunk = rw some_off (refl, refl)

  -- So the packets reported as written, and the bytes, are counted again from the output.
  pub push_counts : (st : State) (chunk : Bytes)
      → ((push L M o st chunk).counts.written ≡ length (packets_of (flatten (push L M o st chunk).out))) × ((push L M o st chunk).counts.bytes ≡ length (flatten (push L M o st chunk).out))
  push_counts st chunk = ((told st chunk).0 ∙ ap length (sym (push_splits st chunk)), (told st chunk).1)

  pub push_found : (st : State) (chunk : Bytes)
      → cut (packet_limit L.work) (flatten (push L M o st chunk).out) ≡ record { packets = (push L M o st chunk).out; skipped = 0; held = [] }
  push_found st chunk = cut_again (packet_limit L.work) (push L M o st chunk).out (push_whole L M o some_off st chunk)

  pub series_splits : (st : State) (cs : List Lent) → packets_of (flatten (series L M o st cs).out) ≡ (series L M o st cs).out
  series_splits st cs = packets_again (series L M o st cs).out (series_sized L M o some_off st cs)

  pub series_found : (st : State) (cs : List Lent)
      → cut (packet_limit L.work) (flatten (series L M o st cs).out) ≡ record { packets = (series L M o st cs).out; skipped = 0; held = [] }
  series_found st cs = cut_again (packet_limit L.work) (series L M o st cs).out (series_whole L M o some_off st cs)
