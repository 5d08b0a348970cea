use Prim.Native.Nat.{ℕ, ◌+◌, ◌-◌, ◌*◌, ◌%◌}
use mathlib.Core.Path.{◌≡◌, ap, ◌∙◌}
use native.Mathlib.Omega.{arith}
use lib.ListN.{length, take, drop, get_or, length-drop}
use lib.Seq.{length-take-le}
use Rattle.learning.proofs.HeldLaws.{count_past, count_kept, held_none, front_held}
use Rattle.learning.proofs.lists.held_news_at.Goals as goal

pub returns-then-e-i : goal.returns-then-e-i
returns-then-e-i c =
    let a = c.args in
    rw (count_past a.e.map_count a.i a.map_heads.now (omega arith), held_none)

pub slice_bounds-held_news-end : goal.slice_bounds-held_news-end
slice_bounds-held_news-end c =
    let there = count_kept c.requires.1.1 c.args.i (omega arith) in
    let n : c.from-n.result ≡ get_or c.args.map_heads.now c.args.i 0 % 65536 = c.from-n.ensures ∙ c.from.ensures.1 in
    omega (arith, there.0, there.1)

pub returns : goal.returns
returns c =
    let a = c.args in
    let there = count_kept c.requires.1.1 a.i (omega arith) in
    let ns = drop (512 * a.i) a.map_room.now in
    let n = c.from-n.result in
    let count : n ≡ get_or a.map_heads.now a.i 0 % 65536 = c.from-n.ensures ∙ c.from.ensures.1 in
    let span : 512 * a.i + 2 * n - 512 * a.i ≡ 2 * n = omega arith in
    let all : length (take (2 * n) ns) ≡ 2 * n = length-take-le (2 * n) ns (omega (arith, there.0, there.1, length-drop (512 * a.i) a.map_room.now)) in
    rw (there.2, ← count) (front_held _ n ns _ a.e.news c.held_news.result (ap (λ (m : ℕ). take m ns) span) (rw span all) c.held_news.ensures)
