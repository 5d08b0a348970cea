-- No statement is empty: its hypotheses are met. Of any calls there is a series, from a start in any mode with any wishes that it takes, and two such series beside each
-- other; the wishes of demand 3, an output that is long enough and a change that is told are computed. Rests on Total.
use Prim.Native.Nat.{ℕ}
use mathlib.Core.Path.{◌≡◌, refl, sym, ap, ◌∙◌}
use mathlib.Core.Bool.{Bool, true, false, cond}
use mathlib.Core.List.{List, [], ◌∷◌}
use mathlib.Core.Option.{some}
use native.Mathlib.Omega.{arith}
use lib.ListN.{replicate, length-replicate}
use Rattle.meaning.specs.Bytes.{Bytes}
use Rattle.meaning.specs.Wishes.{wants_assets, copies_all, captions_only}
use Rattle.meaning.specs.Narrow.{Change, change_table}
use Rattle.meaning.specs.Rooms.{good_work_room, good_fragment_room, good_map_room}
use Rattle.meaning.specs.Start.{start_refusal, started}
use Rattle.meaning.specs.Less.{Fewer}
use Rattle.meaning.specs.declared.Limits.{Limits}
use Rattle.meaning.specs.declared.Options.{Options}
use Rattle.meaning.specs.declared.Modes.{Modes}
use Rattle.meaning.specs.declared.Service.TheVariants.{Only}
use Rattle.meaning.proofs.Examples.{M, M₁, no_captions}
use Rattle.recorder.specs.Filter.{record_in}
use Rattle.narrowing.specs.declared.narrow.Narrowed as narrow
use Rattle.demands.specs.Demands.{Recorder, Call, Result, Series, Begun, Beside, Narrows, change_told}
use Rattle.demands.proofs.Narrowings.{narrow_total, gives}
use Rattle.demands.proofs.Total.{total}

-- ---- a start and a series

abbrev limits : Limits
limits = record { work = 4096; total = 1; most = 1 }

abbrev room : List ℕ
room = replicate 32768 0

start_accepted : (modes : Modes) (o : Options) → wants_assets o ≡ true → (started limits modes o room).number ≡ 0
unfolding started start_refusal good_work_room good_fragment_room good_map_room
start_accepted modes o w = ap (λ (n : ℕ). start_refusal 4096 1 1 n o) (length-replicate {A = ℕ} 32768 0) ∙ ap (λ (b : Bool). cond b 0 9) w

pub begun : (modes : Modes) (o : Options) → wants_assets o ≡ true → (s : Recorder) × Begun limits modes o s × (s.work ≡ replicate 4096 0) × (s.bodies ≡ 0 ∷ []) × (s.map_room ≡ room)
begun modes o w =
    let x = total.start limits modes o room in (
      record { handed = record_in x.0.filter; work = replicate 4096 0; bodies = 0 ∷ []; map_room = room },
      (x.0, x.1, x.1.answer_is ∙ start_accepted modes o w, refl, sym (length-replicate {A = ℕ} 4096 0), refl),
      refl,
      refl,
      refl,
    )

pub series : (s : Recorder) (cs : List Call) → (xs : List Result) × (t : Recorder) × Series s cs xs t
series s [] = ([], s, refl)
series s (c ∷ cs) =
    let x = total.call s c in
    let r = series x.1 cs in
    (x.0 ∷ r.0, r.1, (x.1, x.2, r.2))

pub beside : (modes : Modes) (o₁ o₂ : Options) → wants_assets o₁ ≡ true → wants_assets o₂ ≡ true → (cs : List Call) → (xs₁ : List Result) × (xs₂ : List Result) × Beside limits modes o₁ o₂ xs₁ xs₂
beside modes o₁ o₂ w₁ w₂ cs =
    let a = begun modes o₁ w₁ in
    let b = begun modes o₂ w₂ in
    let r = series a.0 cs in
    let q = series b.0 cs in (
      r.0,
      q.0,
      record {
        begin = (a.0, b.0, a.1, b.1, a.2 ∙ sym b.2, a.3 ∙ sym b.3, a.4 ∙ sym b.4);
        calls = (cs, cs, refl);
        series₁ = (r.1, r.2);
        series₂ = (q.1, q.2);
      },
    )

-- ---- wishes: without captions, and with them; neither copies all, and a start takes both

abbrev captions : Options
captions = record { service = Only 0x0401; caption = true; carousel = false; eit = true; other = true }

abbrev none_of_them : Options
none_of_them = record { service = Only 0x0401; caption = false; carousel = false; eit = true; other = true }

pub wishes : Fewer none_of_them captions × (copies_all none_of_them ≡ false) × (copies_all captions ≡ false) × (wants_assets none_of_them ≡ true) × (wants_assets captions ≡ true)
unfolding copies_all wants_assets
wishes = (record { service_same = refl; caption_too = λ e. refl; carousel_too = λ e. e; eit_too = λ e. e; other_too = λ e. e }, refl, refl, refl, refl)

-- captions and tables alone
pub captions_alone : (wants_assets (captions_only (Only 0x0401)) ≡ true) × (captions.caption ≡ true)
unfolding wants_assets captions_only
captions_alone = (refl, refl)

-- ---- a change that is told: example 1

pub told : (x : narrow.Narrowed) × (d : Bytes) × (c : Change) × Narrows M (change_table no_captions M) M x d × (change_told x d ≡ some c)
unfolding change_table
told =
    let r = narrow_total M (change_table no_captions M) M in
    (r.0, r.1, record { out = M₁; stays = 0 ∷ 0 ∷ 1 ∷ []; goes = 1 ∷ 0 ∷ 0 ∷ [] }, r.2, gives M (change_table no_captions M) M r.0 r.1 (omega arith) (omega arith) r.2)
