use Prim.Native.Nat.{◌+◌, ◌-◌, ◌*◌}
use lib.ListN.{length}
use mathlib.Core.Path.{◌≡◌}
use native.Mathlib.Omega.{arith}
use Rattle.meaning.proofs.ChecksumLaws.{words_le}
use Rattle.ip.proofs.CodeLaws.{words_two, words_one, words_none}
use Rattle.ip.proofs.words.Goals as goal

pub overflow_add-upper : goal.overflow_add-upper
overflow_add-upper c = omega (arith, c.from-upper.ensures, c.type_inv.s (c.loop-i.i * 2), words_le c.args.s.now)

pub overflow_add-lower : goal.overflow_add-lower
overflow_add-lower c = omega (arith, c.from-lower.ensures, c.type_inv.s (c.loop-i.i * 2 + 1), words_le c.args.s.now)

pub loop-i-preserved : goal.loop-i-preserved
loop-i-preserved c =
    let l = c.loop-i in
    let s = c.args.s.now in
    let k = c.type_inv.s in
    let e : (l.i + 1) * 2 ≡ l.i * 2 + 2 = omega arith in
    rw e (omega (arith, c.from-upper.ensures, c.from-lower.ensures, words_two s (l.i * 2) (omega arith) (omega (arith, k (l.i * 2))) (omega (arith, k (l.i * 2 + 1)))))

pub overflow_add-result : goal.overflow_add-result
overflow_add-result c = omega (arith, c.from.ensures, c.type_inv.s (length c.args.s.now - 1), words_le c.args.s.now)

pub overflow_mul-result : goal.overflow_mul-result
overflow_mul-result c = omega (arith, c.from.ensures, c.type_inv.s (length c.args.s.now - 1), words_le c.args.s.now)

pub overflow_add-result-then-s-eq1 : goal.overflow_add-result-then-s-eq1
overflow_add-result-then-s-eq1 c = omega (arith, c.from.ensures, c.type_inv.s (length c.args.s.now - 1), words_le c.args.s.now)

pub returns-then-s-eq1 : goal.returns-then-s-eq1
returns-then-s-eq1 c =
    let s = c.args.s.now in
    let e : length s - 1 ≡ c.loop-i.i * 2 = omega arith in
    let b = rw e at c.from.ensures in
    omega (arith, b, words_one s (c.loop-i.i * 2) (omega arith) (omega arith) (omega (arith, c.type_inv.s (c.loop-i.i * 2))), words_le s)

pub overflow_mul-result-2 : goal.overflow_mul-result-2
overflow_mul-result-2 c = omega (arith, words_le c.args.s.now)

pub overflow_add-result-2 : goal.overflow_add-result-2
overflow_add-result-2 c = omega (arith, words_le c.args.s.now)

pub returns : goal.returns
returns c =
    let s = c.args.s.now in
    omega (arith, words_none s (c.loop-i.i * 2) (omega arith), words_le s)
