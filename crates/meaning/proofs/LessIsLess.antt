-- Demand 3 on the definitions: of two recorders started alike, the one with fewer wishes writes what the other writes, thinned and
-- narrowed. Over one run of packets, one call, and any series of calls with refusals. Rests on RuleLaws and NarrowLaws.
use mathlib.Core.Path.{◌≡◌, refl, sym, ap, ap₂, ◌∙◌, subst}
use mathlib.Core.Bool.{Bool, true, false, cond}
use mathlib.Core.List.Sublistᴰ
use mathlib.Core.List.{List, [], ◌∷◌, ◌++◌, map}
use mathlib.Core.Option.{get_or}
use lib.Dec.{eqb}
use Rattle.meaning.specs.Bytes.{Bytes}
use Rattle.meaning.specs.Packets.{cut}
use Rattle.meaning.specs.Mmtp.{mmtp_of}
use Rattle.meaning.specs.Wishes.{copies_all}
use Rattle.meaning.specs.Narrow.{narrow_packet, narrowed_packet}
use Rattle.meaning.specs.Rooms.{packet_limit}
use Rattle.meaning.specs.Learn.{Known, learn}
use Rattle.meaning.specs.Record.{State}
use Rattle.meaning.specs.Push.{withheld, Passed, pass_one, pass, filtered, push}
use Rattle.meaning.specs.Series.{Lent, call_refusal, Series, series_on, series}
use Rattle.meaning.specs.Less.{Fewer, Thinned}
use Rattle.meaning.specs.declared.Limits.{Limits}
use Rattle.meaning.specs.declared.Options.{Options}
use Rattle.meaning.specs.declared.Modes.{Modes}
use Rattle.meaning.proofs.ListLaws.{clash}
use Rattle.meaning.proofs.NarrowLaws.{packet_narrows}
use Rattle.meaning.proofs.RuleLaws.{withheld_under}

map_append : (f : Bytes → Bytes) (xs ys : List Bytes) → map f xs ++ map f ys ≡ map f (xs ++ ys)
map_append f [] ys = refl
map_append f (x ∷ xs) ys = ap (λ (l : List Bytes). f x ∷ l) (map_append f xs ys)

thinned_append : {f : Bytes → Bytes} {xs ys zs ws : List Bytes} → Thinned f xs ys → Thinned f zs ws → Thinned f (xs ++ zs) (ys ++ ws)
thinned_append {f} t u = record {
  from = t.from ++ u.from;
  some_of = Sublistᴰ.append t.some_of u.some_of;
  changed = ap₂ (λ (a b : List Bytes). a ++ b) t.changed u.changed ∙ map_append f t.from u.from;
}

thinned_nil : {f : Bytes → Bytes} → Thinned f [] []
thinned_nil = record { from = []; some_of = Sublistᴰ.slnil; changed = refl }

module _ (L : Limits) (M : Modes) {o₁ o₂ : Options} (fewer : Fewer o₁ o₂) where
  -- ---- packets in order: what is known does not depend on wishes

  pass_known : (k : Known) (ps : List Bytes) → (pass L M o₁ k ps).known ≡ (pass L M o₂ k ps).known
  unfolding pass
  pass_known k [] = refl
  pass_known k (p ∷ ps) = go (withheld o₁ (learn L k p).known (mmtp_of p)) (withheld o₂ (learn L k p).known (mmtp_of p)) (pass_known (learn L k p).known ps)
    where
      go : (a b : Bool) → (pass L M o₁ (learn L k p).known ps).known ≡ (pass L M o₂ (learn L k p).known ps).known
          → (pass_one a (narrow_packet M o₁ p) p (learn L k p).lost (pass L M o₁ (learn L k p).known ps)).known
          ≡ (pass_one b (narrow_packet M o₂ p) p (learn L k p).lost (pass L M o₂ (learn L k p).known ps)).known
      go true true ih = ih
      go true false ih = ih
      go false true ih = ih
      go false false ih = ih

  again : (p : Bytes) → narrowed_packet M o₁ (get_or (narrow_packet M o₂ p) p) ≡ get_or (narrow_packet M o₁ p) p
  unfolding narrowed_packet
  again p = (packet_narrows M fewer).twice p

  pass_thinned : (k : Known) (ps : List Bytes) → Thinned (narrowed_packet M o₁) (pass L M o₁ k ps).out (pass L M o₂ k ps).out
  unfolding pass
  pass_thinned k [] = thinned_nil
  pass_thinned k (p ∷ ps) =
      go (withheld o₁ (learn L k p).known (mmtp_of p)) refl (withheld o₂ (learn L k p).known (mmtp_of p)) refl (pass_thinned (learn L k p).known ps)
    where
      r₁ : Passed
      r₁ = pass L M o₁ (learn L k p).known ps

      r₂ : Passed
      r₂ = pass L M o₂ (learn L k p).known ps

      go : (a : Bool) → withheld o₁ (learn L k p).known (mmtp_of p) ≡ a → (b : Bool) → withheld o₂ (learn L k p).known (mmtp_of p) ≡ b
          → Thinned (narrowed_packet M o₁) r₁.out r₂.out
          → Thinned (narrowed_packet M o₁) (pass_one a (narrow_packet M o₁ p) p (learn L k p).lost r₁).out (pass_one b (narrow_packet M o₂ p) p (learn L k p).lost r₂).out
      go true ea true eb t = t
      go true ea false eb t = record { from = t.from; some_of = Sublistᴰ.cons t.some_of; changed = t.changed }
      go false ea false eb t = record {
        from = get_or (narrow_packet M o₂ p) p ∷ t.from;
        some_of = Sublistᴰ.cons-cons refl t.some_of;
        changed = ap₂ (λ (x : Bytes) (l : List Bytes). x ∷ l) (sym (again p)) t.changed;
      }
      go false ea true eb t = clash (cc (withheld_under fewer (learn L k p).known (mmtp_of p) eb))

  -- ---- one call, neither set to copy all

  module _ (some₁ : copies_all o₁ ≡ false) (some₂ : copies_all o₂ ≡ false) where
    pub push_thinned : (st : State) (chunk : Bytes) → Thinned (narrowed_packet M o₁) (push L M o₁ st chunk).out (push L M o₂ st chunk).out
    unfolding push filtered
    push_thinned st chunk = rw (some₁, some₂) (pass_thinned st.known (cut (packet_limit L.work) (st.held ++ chunk)).packets)

    pub push_state : (st : State) (chunk : Bytes) → (push L M o₁ st chunk).state ≡ (push L M o₂ st chunk).state
    unfolding push filtered
    push_state st chunk =
        rw (some₁, some₂)
        (ap (λ (k : Known). record { held = (cut (packet_limit L.work) (st.held ++ chunk)).held; known = k })
        (pass_known st.known (cut (packet_limit L.work) (st.held ++ chunk)).packets))

    -- ---- demand 3: any series of calls, each with its chunk and the length of its output

    pub less_is_less : (st : State) (cs : List Lent)
        → Thinned (narrowed_packet M o₁) (series L M o₁ st cs).out (series L M o₂ st cs).out × ((series L M o₁ st cs).state ≡ (series L M o₂ st cs).state)
    unfolding series
    less_is_less st [] = (thinned_nil, refl)
    less_is_less st (c ∷ cs) =
        go (eqb (call_refusal L st c) 0) (less_is_less st cs)
        (subst (λ (z : State). Thinned (narrowed_packet M o₁) (series L M o₁ (push L M o₁ st c.0).state cs).out (series L M o₂ z cs).out × ((series L M o₁ (push L M o₁ st c.0).state cs).state ≡ (series L M o₂ z cs).state))
        (push_state st c.0) (less_is_less (push L M o₁ st c.0).state cs))
      where
        r₁ : Series
        r₁ = series L M o₁ (push L M o₁ st c.0).state cs

        r₂ : Series
        r₂ = series L M o₂ (push L M o₂ st c.0).state cs

        go : (a : Bool) → Thinned (narrowed_packet M o₁) (series L M o₁ st cs).out (series L M o₂ st cs).out × ((series L M o₁ st cs).state ≡ (series L M o₂ st cs).state)
            → Thinned (narrowed_packet M o₁) r₁.out r₂.out × (r₁.state ≡ r₂.state)
            → Thinned (narrowed_packet M o₁) (cond a (series_on (push L M o₁ st c.0) r₁) (series L M o₁ st cs)).out (cond a (series_on (push L M o₂ st c.0) r₂) (series L M o₂ st cs)).out
            × ((cond a (series_on (push L M o₁ st c.0) r₁) (series L M o₁ st cs)).state ≡ (cond a (series_on (push L M o₂ st c.0) r₂) (series L M o₂ st cs)).state)
        go true skipped done = (thinned_append (push_thinned st c.0) done.0, done.1)
        go false skipped done = skipped
