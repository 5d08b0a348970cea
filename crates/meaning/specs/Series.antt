-- A series of calls from a start that was not refused: each takes the state that the one before handed back; a refused one writes
-- nothing, counts nothing and changes nothing. The records in between are sound (proofs/SoundnessLaws), so that only 5 and 6 can come.
use Rattle.std.specs.Prelude.{ℕ, cond, List, [], ◌∷◌, ◌++◌, length, eqb}
use Rattle.meaning.specs.Bytes.{Bytes}
use Rattle.meaning.specs.Record.{State}
use Rattle.meaning.specs.Calls.{counts_of}
use Rattle.meaning.specs.Push.{Outcome, push, length_refusal}
use Rattle.meaning.specs.Tally.{add_counts}
use Rattle.meaning.specs.declared.Options.{Options}
use Rattle.meaning.specs.declared.Modes.{Modes}
use Rattle.meaning.specs.declared.Limits.{Limits}
use Rattle.meaning.specs.declared.Counts.{Counts}

-- A chunk, and the length of the output lent with it.
abbrev pub Lent : Type 0
Lent = Bytes × ℕ

unfoldable pub call_refusal : Limits → State → Lent → ℕ
unfolding length_refusal
call_refusal L st c = length_refusal L.work (length st.held) (length c.0) c.1

pub record Series : Type 0 where
  pub out : List Bytes
  -- the sums over the calls that were not refused
  pub counts : Counts
  pub state : State

abbrev pub series_on : Outcome → Series → Series
series_on p r = record { out = p.out ++ r.out; counts = add_counts p.counts r.counts; state = r.state }

unfoldable pub series : Limits → Modes → Options → State → List Lent → Series
unfolding call_refusal push
series L M o st [] = record { out = []; counts = counts_of 0; state = st }
series L M o st (c ∷ cs) =
    let p = push L M o st c.0 in
    cond (eqb (call_refusal L st c) 0) (series_on p (series L M o p.state cs)) (series L M o st cs)
