-- How many fragments lead in the fragment room (02, [3]): the free bytes stand behind the fragment of the latest payload, so that it can grow
-- in its place. No answer and nothing that is known depends on it.
use Rattle.std.specs.Prelude.{ℕ, suc, Bool, cond, List, [], ◌∷◌, ◌++◌, length, ltb}
use Rattle.std.proofs.Math.Option.{Option, none, some}
use Rattle.meaning.specs.Bytes.{Bytes}
use Rattle.meaning.specs.Sets.{in_set}
use Rattle.meaning.specs.Packets.{cut}
use Rattle.meaning.specs.Mmtp.{Mmtp, mmtp_of, is_signalling}
use Rattle.meaning.specs.Wishes.{copies_all}
use Rattle.meaning.specs.Rooms.{packet_limit}
use Rattle.meaning.specs.Learn.{Fragment, Known, is_of, observe, learn}
use Rattle.meaning.specs.Record.{State}
use Rattle.meaning.specs.declared.Options.{Options}
use Rattle.meaning.specs.declared.Limits.{Limits}

-- The index of the identifier's fragment; their number where it has none.
unfoldable pub index_of : ℕ → List Fragment → ℕ
unfolding is_of
index_of p [] = 0
index_of p (f ∷ fs) = cond (is_of p f) 0 (suc (index_of p fs))

unfoldable pub has_fragment : ℕ → List Fragment → Bool
unfolding index_of
has_fragment p fs = ltb (index_of p fs) (length fs)

-- After a payload of the identifier, by the fragments before it and after it: all up to its own lead; where it has none any more, those before
-- the one that it had; where it had none either, as many as before.
unfoldable pub leading_after : ℕ → List Fragment → List Fragment → ℕ → ℕ
unfolding has_fragment index_of
leading_after p fs fs' leading = cond (has_fragment p fs') (suc (index_of p fs')) (cond (has_fragment p fs) (index_of p fs) leading)

-- ---- a payload, a packet, packets in order, a push: what is not observed leaves it

unfoldable pub leading_observed : Limits → ℕ → Bytes → Known → ℕ → ℕ
unfolding in_set leading_after observe
leading_observed L p [] k leading = leading
leading_observed L p (x ∷ s) k leading =
    cond (in_set k.data_set p) leading (leading_after p k.fragments (observe L p (x ∷ s) k).known.fragments leading)

abbrev pub leading_from : Limits → Option Mmtp → Known → ℕ → ℕ
leading_from L none k leading = leading
leading_from L (some m) k leading = cond (is_signalling m) (leading_observed L m.identifier m.payload k leading) leading

unfoldable pub leading_over : Limits → Known → List Bytes → ℕ → ℕ
unfolding mmtp_of leading_observed learn
leading_over L k [] leading = leading
leading_over L k (p ∷ ps) leading = leading_over L (learn L k p).known ps (leading_from L (mmtp_of p) k leading)

unfoldable pub leading_pushed : Limits → Options → State → Bytes → ℕ → ℕ
unfolding copies_all cut packet_limit leading_over
leading_pushed L o st chunk leading =
    cond (copies_all o) leading (leading_over L st.known (cut (packet_limit L.work) (st.held ++ chunk)).packets leading)
