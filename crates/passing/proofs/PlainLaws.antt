-- Packets that are no signalling: nothing is learned from them, the drop set and readiness alone withhold them, and narrowing leaves them.
-- Rests on PassLaws.
use Prim.Native.Nat.{ℕ, ◌/◌, ◌%◌, ◌<◌}
use mathlib.Core.Path.{◌≡◌, refl, ap, ◌∙◌, subst, ap₂}
use mathlib.Core.Bool.{Bool, true, false, cond}
use mathlib.Core.List.{List, [], ◌∷◌}
use mathlib.Core.Option.{Option, none, some, some-injective, none-ne-some}
use lib.ListN.{length, drop, get_or}
use lib.Dec.{leb}
use Rattle.meaning.specs.Bytes.{Bytes}
use Rattle.meaning.specs.Sets.{Words}
use Rattle.meaning.specs.Readers.{Out, Reader, ◌>>=◌, give, u8, u16, u32, bytes, announced}
use Rattle.meaning.specs.Mmtp.{MmtpHeader, Mmtp, Offset, offset_of, extension, mmtp_header, mmtp_from, mmtp_at, mmtp_of}
use Rattle.meaning.specs.Narrow.{packet_for, narrow_packet}
use Rattle.meaning.specs.Learn.{Known, learn_from, learnt, learn, Learnt}
use Rattle.meaning.specs.Rules.{drops, ready}
use Rattle.meaning.specs.Leading.{leading_from, leading_over}
use Rattle.meaning.specs.Push.{pass_one, pass, withheld}
use Rattle.meaning.specs.declared.Limits.{Limits}
use Rattle.meaning.specs.declared.Options.{Options}
use Rattle.meaning.specs.declared.Modes.{Modes}
use Rattle.meaning.proofs.TableLaws.{u16_below}
use Rattle.meaning.proofs.Framed.{before}
use Rattle.rules.specs.Changes.{SetIs}
use Rattle.passing.specs.Verdicts.{signals, stopped, Plain, AllPass}

-- ---- an identifier has 16 bits

-- the head's reader from its third field on
abbrev from_number : ℕ → ℕ → ℕ → Reader MmtpHeader
from_number flags type id = announced (flags / 32 % 2) (bytes 4) >>= (λ _. announced (flags / 2 % 2) extension >>= (λ _. give (record { identifier = id; payload_type = type % 64 })))

abbrev from_time : ℕ → ℕ → ℕ → Reader MmtpHeader
from_time flags type id = u32 >>= (λ _. u32 >>= (λ _. from_number flags type id))

number_same : (f t id : ℕ) (s : Bytes) (h : MmtpHeader) (r : Bytes) → from_number f t id s ≡ some (h, r) → id ≡ h.identifier
number_same f t id s h r e =
    let head : MmtpHeader = record { identifier = id; payload_type = t % 64 } in
    let a = before (announced (f / 32 % 2) (bytes 4) s) (λ _. announced (f / 2 % 2) extension >>= (λ _. give head)) h r e in
    let b = before (announced (f / 2 % 2) extension a.rest) (λ _. give head) h r a.then_was in
    ap (λ (z : MmtpHeader × Bytes). z.0.identifier) (some-injective (head, b.rest) (h, r) b.then_was)

time_same : (f t id : ℕ) (s : Bytes) (h : MmtpHeader) (r : Bytes) → from_time f t id s ≡ some (h, r) → id ≡ h.identifier
time_same f t id s h r e =
    let a = before (u32 s) (λ _. u32 >>= (λ _. from_number f t id)) h r e in
    let b = before (u32 a.rest) (λ _. from_number f t id) h r a.then_was in
    number_same f t id b.rest h r b.then_was

head_small : (s : Bytes) (h : MmtpHeader) (r : Bytes) → mmtp_header s ≡ some (h, r) → h.identifier < 65536
unfolding mmtp_header
head_small s h r e =
    let a = before (u8 s) (λ f. u8 >>= (λ t. u16 >>= (λ id. from_time f t id))) h r e in
    let b = before (u8 a.rest) (λ t. u16 >>= (λ id. from_time a.first t id)) h r a.then_was in
    let c = before (u16 b.rest) (λ id. from_time a.first b.first id) h r b.then_was in
    subst (λ (n : ℕ). n < 65536) (time_same a.first b.first c.first c.rest h r c.then_was) (u16_below b.rest c.first c.rest c.was)

pub identifier_small : (p : Bytes) (m : Mmtp) → mmtp_of p ≡ some m → m.identifier < 65536
unfolding mmtp_of
identifier_small p = go (leb 4 (length p)) (offset_of (get_or p 1 0) (drop 4 p))
  where
    from : (w : Bool) (x : Out MmtpHeader) → ((h : MmtpHeader) (r : Bytes) → x ≡ some (h, r) → h.identifier < 65536) → (m : Mmtp) → mmtp_from w x ≡ some m → m.identifier < 65536
    from w none g m e = absurd (none-ne-some _ e)
    from w (some (h, r)) g m e = subst (λ (z : Mmtp). z.identifier < 65536) (some-injective _ _ e) (g h r refl)

    here : (a w : Bool) (at : ℕ) (m : Mmtp) → cond a (mmtp_from w (mmtp_header (drop at (drop 4 p)))) none ≡ some m → m.identifier < 65536
    here true w at m e = from w (mmtp_header (drop at (drop 4 p))) (head_small (drop at (drop 4 p))) m e
    here false w at m e = absurd (none-ne-some _ e)

    go : (a : Bool) (x : Offset) (m : Mmtp) → cond a (mmtp_at x (drop 4 p)) none ≡ some m → m.identifier < 65536
    go false x m e = absurd (none-ne-some _ e)
    go true none m e = absurd (none-ne-some _ e)
    go true (some (at, w)) m e = here (leb at (length (drop 4 p))) w at m e

-- ---- one that is no signalling

module _ (o : Options) (k : Known) (p : Bytes) (ws : Words) (is : Bool) (t : SetIs (drops o k) ws) (y : is ≡ ready o.service k) where
  withheld_by : (x : Option Mmtp) → ((m : Mmtp) → x ≡ some m → m.identifier < 65536) → signals x ≡ false → withheld o k x ≡ stopped x ws is
  withheld_by none g e = refl
  withheld_by (some m) g e = rw (e, t.member m.identifier (g m refl), y)

  pub plain_withheld : {stop : Bool} → Plain p ws is stop → withheld o k (mmtp_of p) ≡ stop
  plain_withheld h = withheld_by (mmtp_of p) (identifier_small p) h.other ∙ h.fate

learn_nothing : (L : Limits) (k : Known) (x : Option Mmtp) → signals x ≡ false → learn_from L x k ≡ learnt k
learn_nothing L k none e = refl
learn_nothing L k (some m) e = rw e

narrow_nothing : (M : Modes) (o : Options) (p : Bytes) (x : Option Mmtp) → signals x ≡ false → packet_for M o p x ≡ none
narrow_nothing M o p none e = refl
narrow_nothing M o p (some m) e = rw e

module _ (L : Limits) (M : Modes) (o : Options) (k : Known) (p : Bytes) (ws : Words) (is : Bool) (t : SetIs (drops o k) ws) (y : is ≡ ready o.service k) where
  one_plain : (stop : Bool) (ps : List Bytes) → Plain p ws is stop → pass L M o k (p ∷ ps) ≡ pass_one stop none p 0 (pass L M o k ps)
  unfolding pass learn narrow_packet
  one_plain stop ps h =
      let l : learn L k p ≡ learnt k = learn_nothing L k (mmtp_of p) h.other in
      rw (l, plain_withheld o k p ws is t y h, narrow_nothing M o p (mmtp_of p) h.other)

  -- withheld
  pub pass_withheld : Plain p ws is true → pass L M o k (p ∷ []) ≡ record { out = []; rewritten = 0; lost = 0; known = k }
  unfolding pass
  pass_withheld h = one_plain true [] h

-- and leave the fragments where they are
lead_nothing : (L : Limits) (k : Known) (x : Option Mmtp) (leading : ℕ) → signals x ≡ false → leading_from L x k leading ≡ leading
lead_nothing L k none leading e = refl
lead_nothing L k (some m) leading e = rw e

pub plain_leads : (L : Limits) (k : Known) (p : Bytes) (ps : List Bytes) (ws : Words) (is stop : Bool) (leading : ℕ) → Plain p ws is stop → leading_over L k (p ∷ ps) leading ≡ leading_over L k ps leading
unfolding leading_over learn
plain_leads L k p ps ws is stop leading h =
    let l : learn L k p ≡ learnt k = learn_nothing L k (mmtp_of p) h.other in
    ap₂ (λ (x : Known) (n : ℕ). leading_over L x ps n) (ap (λ (x : Learnt). x.known) l) (lead_nothing L k (mmtp_of p) leading h.other)

pub row_leads : (L : Limits) (k : Known) (ws : Words) (is : Bool) (ps : List Bytes) (leading : ℕ) → AllPass ws is ps → leading_over L k ps leading ≡ leading
unfolding leading_over
row_leads L k ws is [] leading h = refl
row_leads L k ws is (p ∷ ps) leading h = plain_leads L k p ps ws is false leading h.0 ∙ row_leads L k ws is ps leading h.1

-- all that pass go out as they are
pub pass_row : (L : Limits) (M : Modes) (o : Options) (k : Known) (ws : Words) (is : Bool) → SetIs (drops o k) ws → is ≡ ready o.service k → (ps : List Bytes) → AllPass ws is ps
    → pass L M o k ps ≡ record { out = ps; rewritten = 0; lost = 0; known = k }
unfolding pass
pass_row L M o k ws is t y [] h = refl
pass_row L M o k ws is t y (p ∷ ps) h =
    one_plain L M o k p ws is t y false ps h.0 ∙ ap (pass_one false none p 0) (pass_row L M o k ws is t y ps h.1)
