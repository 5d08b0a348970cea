use Prim.Native.Nat.{ℕ, ◌+◌, ◌-◌}
use mathlib.Core.Path.{◌≡◌, sym, ap, ◌∙◌}
use mathlib.Core.List.{◌++◌}
use native.Mathlib.Omega.{arith}
use lib.ListN.{length, take, drop, length-append, length-drop}
use lib.Seq.{length-take-le, take_all}
use Rattle.meaning.specs.Push.{filtered}
use Rattle.passing.specs.declared.Terms.{Terms}
use Rattle.recorder.proofs.FrontLaws.{run_end, run_front, run_is, run_length, front_holds, front_reads}
use Rattle.recorder.proofs.CallLaws.{run_parts, parts_carried, held_ends, all_copied, not_all, not_all_leads, ran_as}
use Rattle.recorder.proofs.call.carry_out.Goals as goal

pub returns-then-copies_all : goal.returns-then-copies_all
returns-then-copies_all c L k em ew h =
    let all = sym c.copies_all.ensures ∙ c.if-copies_all.true in
    all_copied L _ _ k _ _ _ _ _ _ _ _ _ _ all (c.requires.1 all) c.copied.ensures.0 c.copied.ensures.1 h

pub returns-in_default : goal.returns-in_default
returns-in_default c L k em ew h =
    let a = c.args in
    let e = c.all_held.ensures in
    let terms = c.terms_of-t in
    let held = take a.b.held_count a.work.now in
    let len : length (held ++ a.chunk.now) ≡ a.b.held_count + length a.chunk.now = omega (arith, length-append held a.chunk.now, length-take-le a.b.held_count a.work.now (omega (arith, c.requires.0.work_room))) in
    ran_as (not_all L _ _ _ _ (sym c.copies_all.ensures ∙ c.if-copies_all.false)) (not_all_leads L _ _ _ _ (sym c.copies_all.ensures ∙ c.if-copies_all.false))
    (held_ends L a.b.modes a.b.options k held a.chunk.now a.out.now _ (length a.work.now) terms.result.limit a.b.extent c.all_held.result _ _ _ (ap (λ (t : Terms). t.limit) terms.ensures) ew
    (front_holds terms.result.limit a.b.held_count a.chunk.now a.work.now (omega (arith, c.requires.0.work_room)) _ c.front_of.ensures c.in_default.is)
    (rw (← len) at e.0) (ap (λ (n : ℕ). take n c.all_held.new.work) len ∙ e.1.front) h)

pub slice_bounds-copy-end : goal.slice_bounds-copy-end
slice_bounds-copy-end c =
    let a = c.args in
    let f = front_reads c.terms_of-t.result.limit a.b.held_count a.chunk.now a.work.now (omega (arith, c.requires.0.work_room)) _ c.front_of.ensures _ c.in-Some.is in
    omega (arith, f.0)

pub copy-n-requires : goal.copy-n-requires
copy-n-requires c =
    let a = c.args in
    let k = c.in-Some.k in
    let f = front_reads c.terms_of-t.result.limit a.b.held_count a.chunk.now a.work.now (omega (arith, c.requires.0.work_room)) _ c.front_of.ensures _ c.in-Some.is in
    omega (arith, f.0, c.requires.0.work_room, length-take-le (k - 0) (drop 0 a.chunk.now) (omega (arith, f.0)))

pub slice_bounds-in_parts-end : goal.slice_bounds-in_parts-end
slice_bounds-in_parts-end c =
    let a = c.args in
    let k = c.in-Some.k in
    let f = front_reads c.terms_of-t.result.limit a.b.held_count a.chunk.now a.work.now (omega (arith, c.requires.0.work_room)) _ c.front_of.ensures _ c.in-Some.is in
    omega (arith, f.0, c.requires.0.work_room, run_end a.b.held_count k a.chunk.now a.work.now _ c.copy-n.result f.0 (omega (arith, f.0, c.requires.0.work_room)) c.copy-n.ensures, c.copy-n.auto.out)

pub slice_bounds-in_parts-count-2 : goal.slice_bounds-in_parts-count-2
slice_bounds-in_parts-count-2 c =
    let a = c.args in
    let f = front_reads c.terms_of-t.result.limit a.b.held_count a.chunk.now a.work.now (omega (arith, c.requires.0.work_room)) _ c.front_of.ensures _ c.in-Some.is in
    omega (arith, f.0)

pub slice_bounds-in_parts-start-2 : goal.slice_bounds-in_parts-start-2
slice_bounds-in_parts-start-2 c =
    let a = c.args in
    let f = front_reads c.terms_of-t.result.limit a.b.held_count a.chunk.now a.work.now (omega (arith, c.requires.0.work_room)) _ c.front_of.ensures _ c.in-Some.is in
    omega (arith, f.0)

pub in_parts-x-requires : goal.in_parts-x-requires
in_parts-x-requires c =
    let a = c.args in
    let k = c.in-Some.k in
    let f = front_reads c.terms_of-t.result.limit a.b.held_count a.chunk.now a.work.now (omega (arith, c.requires.0.work_room)) _ c.front_of.ensures _ c.in-Some.is in
    let l = run_length a.b.held_count k a.chunk.now a.work.now _ c.copy-n.result f.0 (omega (arith, f.0, c.requires.0.work_room)) c.copy-n.ensures in
    let m = length-take-le (length a.chunk.now - k) (drop k a.chunk.now) (omega (arith, length-drop k a.chunk.now)) in
    (c.requires.0.none_lost, omega (arith, f.0, l, m, c.requires.0.work_room, c.requires.0.work_few), omega (arith, f.0, l, m, c.requires.0.out_room), c.requires.2)

pub slice_bounds-held_on-count : goal.slice_bounds-held_on-count
slice_bounds-held_on-count c =
    let a = c.args in
    let f = front_reads c.terms_of-t.result.limit a.b.held_count a.chunk.now a.work.now (omega (arith, c.requires.0.work_room)) _ c.front_of.ensures _ c.in-Some.is in
    omega (arith, f.0)

pub slice_bounds-held_on-start : goal.slice_bounds-held_on-start
slice_bounds-held_on-start c =
    let a = c.args in
    let f = front_reads c.terms_of-t.result.limit a.b.held_count a.chunk.now a.work.now (omega (arith, c.requires.0.work_room)) _ c.front_of.ensures _ c.in-Some.is in
    omega (arith, f.0)

pub held_on-requires : goal.held_on-requires
held_on-requires c =
    let a = c.args in
    let k = c.in-Some.k in
    let f = front_reads c.terms_of-t.result.limit a.b.held_count a.chunk.now a.work.now (omega (arith, c.requires.0.work_room)) _ c.front_of.ensures _ c.in-Some.is in
    let end = run_end a.b.held_count k a.chunk.now a.work.now _ c.copy-n.result f.0 (omega (arith, f.0, c.requires.0.work_room)) c.copy-n.ensures in
    let passed = c.in_parts-x.ensures in
    (omega (arith, end, run_length a.b.held_count k a.chunk.now a.work.now _ c.copy-n.result f.0 (omega (arith, f.0, c.requires.0.work_room)) c.copy-n.ensures, passed.first_inside), omega (arith, f.0, end, length-take-le (length a.chunk.now - k) (drop k a.chunk.now) (omega (arith, length-drop k a.chunk.now)), c.requires.0.work_room, c.copy-n.auto.out), passed.second_inside)

pub shape_of-work : goal.shape_of-work
shape_of-work c = c.held_on.auto.work ∙ c.copy-n.auto.out

pub returns : goal.returns
returns c L known em ew h =
    let a = c.args in
    let k = c.in-Some.k in
    let f = front_reads c.terms_of-t.result.limit a.b.held_count a.chunk.now a.work.now (omega (arith, c.requires.0.work_room)) _ c.front_of.ensures _ c.in-Some.is in
    let terms = c.terms_of-t in
    let held = take a.b.held_count a.work.now in
    let second : take (length a.chunk.now - k) (drop k a.chunk.now) ≡ drop k a.chunk.now = take_all (length a.chunk.now - k) (drop k a.chunk.now) (omega (arith, length-drop k a.chunk.now)) in
    let passed = rw (run_is a.b.held_count k a.chunk.now a.work.now _ c.copy-n.result f.0 (omega (arith, f.0, c.requires.0.work_room)) c.copy-n.ensures, second) at c.in_parts-x.ensures in
    let on = rw second at c.held_on.ensures in
    ran_as
    (ap (λ (t : Terms). filtered L t.modes t.options (record { held = held; known = known }) a.chunk.now) terms.ensures ∙ not_all L _ _ _ _ (sym c.copies_all.ensures ∙ c.if-copies_all.false))
    (not_all_leads L _ _ _ _ (sym c.copies_all.ensures ∙ c.if-copies_all.false))
    (parts_carried L terms.result known held a.chunk.now (held ++ take k a.chunk.now) (drop k a.chunk.now) a.out.now _ _ _ (length a.work.now) c.copy-n.result a.b.extent _ _ _ _ _ _ c.in_parts-x.result c.held_on.result
    (ap (λ (t : Terms). t.limit) terms.ensures) ew (em ∙ sym (ap (λ (t : Terms). t.most) terms.ensures)) (run_parts held a.chunk.now k) f.1 (run_front a.b.held_count k a.chunk.now a.work.now _ c.copy-n.result f.0 (omega (arith, f.0, c.requires.0.work_room)) c.copy-n.ensures) h passed on)
