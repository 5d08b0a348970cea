use mathlib.Core.Path.{◌≡◌, sym, ◌∙◌}
use mathlib.Core.Bool.{true, false}
use Rattle.meaning.specs.Wishes.{wants_assets}
use borrow.Author.Tests.{not-true, not-false}
use Rattle.meaning.specs.Refusals.{number_of, answer_number}
use Rattle.meaning.specs.Record.{slots, record_of}
use Rattle.meaning.specs.Start.{start_refusal, no_words, fresh, started}
use Rattle.recorder.proofs.start.Goals as goal

pub returns-then-not-good_work_room : goal.returns-then-not-good_work_room
unfolding started start_refusal number_of
returns-then-not-good_work_room c =
    let e = sym c.good_work_room.ensures ∙ not-true _ c.if-not-good_work_room.true-raw in
    record { answer_is = rw e c.not_started.ensures.0; handed_is = rw e c.not_started.ensures.1 }

pub returns-then-not-good_fragment_room : goal.returns-then-not-good_fragment_room
unfolding started start_refusal number_of
returns-then-not-good_fragment_room c =
    let e = sym c.good_work_room.ensures ∙ not-false _ c.if-not-good_work_room.false-raw in
    let d = sym c.good_fragment_room.ensures ∙ not-true _ c.if-not-good_fragment_room.true-raw in
    record { answer_is = rw (e, d) c.not_started-then-not-good_fragment_room.ensures.0; handed_is = rw (e, d) c.not_started-then-not-good_fragment_room.ensures.1 }

pub returns-then-not-good_map_room : goal.returns-then-not-good_map_room
unfolding started start_refusal number_of
returns-then-not-good_map_room c =
    let e = sym c.good_work_room.ensures ∙ not-false _ c.if-not-good_work_room.false-raw in
    let d = sym c.good_fragment_room.ensures ∙ not-false _ c.if-not-good_fragment_room.false-raw in
    let m = sym c.good_map_room.ensures ∙ not-true _ c.if-not-good_map_room.true-raw in
    record { answer_is = rw (e, d, m) c.not_started-then-not-good_map_room.ensures.0; handed_is = rw (e, d, m) c.not_started-then-not-good_map_room.ensures.1 }

pub returns-then-not-wants_assets : goal.returns-then-not-wants_assets
unfolding started start_refusal number_of
returns-then-not-wants_assets c =
    let e = sym c.good_work_room.ensures ∙ not-false _ c.if-not-good_work_room.false-raw in
    let d = sym c.good_fragment_room.ensures ∙ not-false _ c.if-not-good_fragment_room.false-raw in
    let m = sym c.good_map_room.ensures ∙ not-false _ c.if-not-good_map_room.false-raw in
    let w : wants_assets c.args.options ≡ false = sym c.wants_assets.ensures ∙ not-true _ c.if-not-wants_assets.true-raw in
    record { answer_is = rw (e, d, m, w) c.not_started-then-not-wants_assets.ensures.0; handed_is = rw (e, d, m, w) c.not_started-then-not-wants_assets.ensures.1 }

pub returns : goal.returns
unfolding started start_refusal answer_number record_of slots fresh no_words
returns c =
    let e = sym c.good_work_room.ensures ∙ not-false _ c.if-not-good_work_room.false-raw in
    let d = sym c.good_fragment_room.ensures ∙ not-false _ c.if-not-good_fragment_room.false-raw in
    let m = sym c.good_map_room.ensures ∙ not-false _ c.if-not-good_map_room.false-raw in
    let w : wants_assets c.args.options ≡ true = sym c.wants_assets.ensures ∙ not-false _ c.if-not-wants_assets.false-raw in
    record { answer_is = rw (e, d, m, w); handed_is = rw (e, d, m, w) c.fresh.ensures }
