-- All modes off is 01's filter: narrowing a packet, a run, a push and a series as 01 alone has them, written out here, are what the
-- definitions say with all modes off; and in any mode a packet that is no plain IP is narrowed as 01 says. Rests on PacketLaws.
use Prim.Native.Nat.{ℕ, ◌-◌}
use mathlib.Core.Path.{◌≡◌, refl, ap, ◌∙◌}
use mathlib.Core.Bool.{Bool, true, false, cond, ◌&&◌, ◌||◌}
use mathlib.Core.List.{List, [], ◌∷◌, ◌++◌}
use mathlib.Core.Option.{Option, none, some, map}
use lib.ListN.{length, take, drop, get_or}
use lib.Dec.{eqb}
use borrow.Author.Tests.{eqb-true}
use Rattle.meaning.specs.Bytes.{Bytes, put16}
use Rattle.meaning.specs.Packets.{cut}
use Rattle.meaning.specs.Mmtp.{Mmtp, mmtp_of, is_signalling}
use Rattle.meaning.specs.Ip.{plain_ip, afresh4, afresh6, afresh}
use Rattle.meaning.specs.Wishes.{copies_all, all_off}
use Rattle.meaning.specs.Narrow.{narrow_payload, may_rewrite, packet_bytes, packet_for, narrow_packet}
use Rattle.meaning.specs.Rooms.{packet_limit}
use Rattle.meaning.specs.Learn.{Known, learn}
use Rattle.meaning.specs.Record.{State}
use Rattle.meaning.specs.Calls.{counts_of}
use Rattle.meaning.specs.Push.{withheld, Passed, none_passed, pass_one, pass, Outcome, copied, outcome, filtered, push}
use Rattle.meaning.specs.Series.{Lent, call_refusal, Series, series_on, series}
use Rattle.meaning.specs.declared.Limits.{Limits}
use Rattle.meaning.specs.declared.Options.{Options}
use Rattle.meaning.specs.declared.Modes.{Modes}
use Rattle.meaning.proofs.ListLaws.{or_false}
use Rattle.meaning.proofs.PacketLaws.{rewritable_type}

-- ---- as 01 has it

abbrev pub packet_bytes01 : Bytes → Mmtp → Bytes → Bytes
packet_bytes01 p m y =
    let rest = take (length p - length m.payload - 4) (drop 4 p) ++ y in
    take 2 p ++ (put16 (length rest) ++ rest)

abbrev pub packet_for01 : Options → Bytes → Option Mmtp → Option Bytes
packet_for01 o p none = none
packet_for01 o p (some m) =
    cond (is_signalling m && m.rewritable)
    (map (packet_bytes01 p m) (narrow_payload o m.identifier m.payload))
    none

abbrev pub narrow_packet01 : Options → Bytes → Option Bytes
narrow_packet01 o p = packet_for01 o p (mmtp_of p)

unfoldable pub pass01 : Limits → Options → Known → List Bytes → Passed
pass01 L o k [] = none_passed k
pass01 L o k (p ∷ ps) =
    let l = learn L k p in
    pass_one (withheld o l.known (mmtp_of p)) (narrow_packet01 o p) p l.lost (pass01 L o l.known ps)

unfoldable pub push01 : Limits → Options → State → Bytes → Outcome
push01 L o st chunk =
    let c = cut (packet_limit L.work) (st.held ++ chunk) in
    cond (copies_all o) (copied st chunk) (outcome c (pass01 L o st.known c.packets))

unfoldable pub series01 : Limits → Options → State → List Lent → Series
series01 L o st [] = record { out = []; counts = counts_of 0; state = st }
series01 L o st (c ∷ cs) =
    let p = push01 L o st c.0 in
    cond (eqb (call_refusal L st c) 0) (series_on p (series01 L o p.state cs)) (series01 L o st cs)

-- ---- a packet

-- compressed IP has neither lengths nor checksums
bytes_same : (p : Bytes) (m : Mmtp) (y : Bytes) → eqb (get_or p 1 0) 0x03 ≡ true → packet_bytes p m y ≡ packet_bytes01 p m y
unfolding packet_bytes afresh
bytes_same p m y e =
    let rest : Bytes = take (length p - length m.payload - 4) (drop 4 p) ++ y in
    ap (λ (t : ℕ). take 2 p ++ (put16 (length rest) ++ cond (eqb t 0x01) (afresh4 rest) (cond (eqb t 0x02) (afresh6 rest) rest))) (eqb-true (get_or p 1 0) 0x03 e)

by_header : (M : Modes) (p : Bytes) (m : Mmtp) → (M.plain_ip && plain_ip (get_or p 1 0) (drop 4 p)) ≡ false → may_rewrite M p m ≡ m.rewritable
unfolding may_rewrite
by_header M p m e = ap (λ (b : Bool). m.rewritable || b) e ∙ or_false m.rewritable

no_plain : (b : Bool) (t : ℕ) (s : Bytes) → t ≡ 0x03 → (b && plain_ip t s) ≡ false
unfolding plain_ip
no_plain true t s q = ap (λ (k : ℕ). plain_ip k s) q
no_plain false t s q = refl

-- Where the mode does not come in, by its being off or by the packet.
pub narrowed_as_before : (M : Modes) (o : Options) (p : Bytes) → (M.plain_ip && plain_ip (get_or p 1 0) (drop 4 p)) ≡ false → narrow_packet M o p ≡ narrow_packet01 o p
unfolding narrow_packet
narrowed_as_before M o p e = go (mmtp_of p) refl
  where
    put : (m : Mmtp) → eqb (get_or p 1 0) 0x03 ≡ true → (x : Option Bytes) → map (packet_bytes p m) x ≡ map (packet_bytes01 p m) x
    put m c none = refl
    put m c (some y) = ap some (bytes_same p m y c)

    by : (m : Mmtp) → mmtp_of p ≡ some m → (s w : Bool) → m.rewritable ≡ w
        → cond (s && w) (map (packet_bytes p m) (narrow_payload o m.identifier m.payload)) none
        ≡ cond (s && w) (map (packet_bytes01 p m) (narrow_payload o m.identifier m.payload)) none
    by m em true true ew = put m (rewritable_type p m em ew) (narrow_payload o m.identifier m.payload)
    by m em true false ew = refl
    by m em false w ew = refl

    go : (x : Option Mmtp) → mmtp_of p ≡ x → packet_for M o p x ≡ packet_for01 o p x
    go none ex = refl
    go (some m) ex =
        ap (λ (b : Bool). cond (is_signalling m && b) (map (packet_bytes p m) (narrow_payload o m.identifier m.payload)) none) (by_header M p m e)
        ∙ by m ex (is_signalling m) m.rewritable refl

pub narrowed_off : (o : Options) (p : Bytes) → narrow_packet all_off o p ≡ narrow_packet01 o p
narrowed_off o p = narrowed_as_before all_off o p refl

-- Compressed IP in every mode: the types 0x20 and 0x60 stay untouched.
pub compressed_as_before : (M : Modes) (o : Options) (p : Bytes) → eqb (get_or p 1 0) 0x03 ≡ true → narrow_packet M o p ≡ narrow_packet01 o p
compressed_as_before M o p e = narrowed_as_before M o p (no_plain M.plain_ip (get_or p 1 0) (drop 4 p) (eqb-true (get_or p 1 0) 0x03 e))

-- ---- a run, a push, a series

module _ (L : Limits) (o : Options) where
  pub pass_off : (k : Known) (ps : List Bytes) → pass L all_off o k ps ≡ pass01 L o k ps
  unfolding pass pass01
  pass_off k [] = refl
  pass_off k (p ∷ ps) =
      let l = learn L k p in
      let w : Bool = withheld o l.known (mmtp_of p) in
      ap (λ (y : Option Bytes). pass_one w y p l.lost (pass L all_off o l.known ps)) (narrowed_off o p)
      ∙ ap (λ (r : Passed). pass_one w (narrow_packet01 o p) p l.lost r) (pass_off l.known ps)

  pub push_off : (st : State) (chunk : Bytes) → push L all_off o st chunk ≡ push01 L o st chunk
  unfolding push filtered push01
  push_off st chunk =
      let c = cut (packet_limit L.work) (st.held ++ chunk) in
      ap (λ (r : Passed). cond (copies_all o) (copied st chunk) (outcome c r)) (pass_off st.known c.packets)

  pub series_off : (st : State) (cs : List Lent) → series L all_off o st cs ≡ series01 L o st cs
  unfolding series series01
  series_off st [] = refl
  series_off st (c ∷ cs) =
      let b : Bool = eqb (call_refusal L st c) 0 in
      let p = push L all_off o st c.0 in
      ap (λ (r : Series). cond b (series_on p r) (series L all_off o st cs)) (series_off p.state cs)
      ∙ ap (λ (r : Series). cond b (series_on p (series01 L o p.state cs)) r) (series_off st cs)
      ∙ ap (λ (q : Outcome). cond b (series_on q (series01 L o q.state cs)) (series01 L o st cs)) (push_off st c.0)
