use mathlib.Core.Path.{◌≡◌, refl, sym, ◌∙◌}
use native.Mathlib.Omega.{arith}
use lib.ListN.{length}
use borrow.Author.Tests.{not-true, not-false}
use Rattle.meaning.specs.Record.{state_of}
use Rattle.recorder.specs.Filter.{record_in, extent_of}
use Rattle.recorder.proofs.StateLaws.{state_held}
use Rattle.recorder.proofs.PushLaws.{whole_record, not_counted, counted_as}
use Rattle.recorder.proofs.Filter.dropped.Goals as goal

pub returns-then-not-is_sound : goal.returns-then-not-is_sound
returns-then-not-is_sound c = not_counted _ _ _ _ (sym c.is_sound.ensures ∙ not-true _ c.if-not-is_sound.true-raw)

pub dropped-requires : goal.dropped-requires
unfolding record_in
dropped-requires c =
    let a = c.args in
    let s = sym c.is_sound.ensures ∙ not-false _ c.if-not-is_sound.false-raw in
    let p : length c.args.self.kept.packages ≡ 255 = omega arith in
    let m : length c.args.self.kept.map_heads ≡ 64 = omega arith in
    let h : length c.args.self.kept.fragment_heads ≡ 256 = omega arith in
    let d : length c.args.self.kept.data_set.words ≡ 1024 = omega arith in
    let all = whole_record c.args.self d p m h in
    let h = (state_held (record_in a.self) a.work.now a.bodies.now a.map_room.now (extent_of a.self) s all (record { seen_is = refl; packages_are = refl; map_heads_are = refl; fragments_are = refl; leading_is = refl })).tables_kept in
    ((state_of (record_in a.self) a.work.now a.bodies.now a.map_room.now).known, rw (c.clear_unused.ensures, c.extent_of-e.ensures) h)

pub returns : goal.returns
unfolding record_in
returns c =
    let a = c.args in
    let s = sym c.is_sound.ensures ∙ not-false _ c.if-not-is_sound.false-raw in
    let p : length c.args.self.kept.packages ≡ 255 = omega arith in
    let m : length c.args.self.kept.map_heads ≡ 64 = omega arith in
    let h : length c.args.self.kept.fragment_heads ≡ 256 = omega arith in
    let d : length c.args.self.kept.data_set.words ≡ 1024 = omega arith in
    let all = whole_record c.args.self d p m h in
    let h = (state_held (record_in a.self) a.work.now a.bodies.now a.map_room.now (extent_of a.self) s all (record { seen_is = refl; packages_are = refl; map_heads_are = refl; fragments_are = refl; leading_is = refl })).tables_kept in
    counted_as a.self a.work.now a.bodies.now a.map_room.now _ s
    (c.dropped.ensures (state_of (record_in a.self) a.work.now a.bodies.now a.map_room.now).known (rw (c.clear_unused.ensures, c.extent_of-e.ensures) h))
