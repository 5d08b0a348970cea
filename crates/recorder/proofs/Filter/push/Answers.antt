use mathlib.Core.Path.{◌≡◌, sym, ◌∙◌}
use borrow.Author.Rules.{rules}
use native.Mathlib.Omega.{arith}
use lib.ListN.{length}
use Rattle.recorder.specs.Filter.{record_in}
use Rattle.recorder.proofs.PushLaws.{told_refused, told_done, whole_record, may_carry_out, refused_as, done_as}
use Rattle.recorder.proofs.Filter.push.Goals as goal

pub returns-then-is_err : goal.returns-then-is_err
returns-then-is_err c =
    let a = c.args in
    let told = rw c.begun-b.ensures at c.call_answer-a.ensures in
    rw c.not_pushed.ensures
    (refused_as a.self a.work.now a.bodies.now a.map_room.now a.chunk.now a.out.now c.call_answer-a.result told (told_refused _ (sym c.is_err.ensures.value ∙ c.if-is_err.true)))

pub carry_out-r-requires : goal.carry_out-r-requires
carry_out-r-requires c =
    let a = c.args in
    let p : length c.args.self.kept.packages ≡ 255 = omega arith in
    let m : length c.args.self.kept.map_heads ≡ 64 = omega arith in
    let h : length c.args.self.kept.fragment_heads ≡ 256 = omega arith in
    let d : length c.args.self.kept.data_set.words ≡ 1024 = omega arith in
    let all = whole_record c.args.self d p m h in
    let b = c.begun-b.ensures in
    rw (c.clear_unused.ensures, b)
    (may_carry_out a.self a.work.now a.bodies.now a.map_room.now a.chunk.now a.out.now c.call_answer-a.result (rw b at c.call_answer-a.ensures) all
    (told_done _ (sym c.is_err.ensures.value ∙ c.if-is_err.false)))

pub returns : goal.returns
returns c =
    let a = c.args in
    let p : length c.args.self.kept.packages ≡ 255 = omega arith in
    let m : length c.args.self.kept.map_heads ≡ 64 = omega arith in
    let h : length c.args.self.kept.fragment_heads ≡ 256 = omega arith in
    let d : length c.args.self.kept.data_set.words ≡ 1024 = omega arith in
    let all = whole_record c.args.self d p m h in
    let b = c.begun-b.ensures in
    rw (c.hand_back.ensures, b)
    (done_as a.self a.work.now a.bodies.now a.map_room.now a.chunk.now a.out.now c.call_answer-a.result (rw b at c.call_answer-a.ensures) all
    (told_done _ (sym c.is_err.ensures.value ∙ c.if-is_err.false)) c.carry_out-r.result _ _ _ _ _ (rw (c.clear_unused.ensures, b) at c.carry_out-r.ensures)
    (search rules))
