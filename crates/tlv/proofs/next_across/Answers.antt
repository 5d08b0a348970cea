use Rattle.tlv.proofs.AcrossLaws.{told, denied, skip_other, keep_begun, packet_last, packet_marked, skip_unmarked}
use Rattle.tlv.proofs.Laws.{keep_short}
use borrow.Author.Tests.{leb-true, leb-false}
use lib.ListN.{length}
use native.Mathlib.Omega.{arith}
use mathlib.Core.List.{◌++◌}
use mathlib.Core.Path.{sym, ◌∙◌}
use Prim.Native.Nat.{◌+◌, ◌≤◌}
use Rattle.tlv.proofs.next_across.Goals as goal

pub returns-then-not-reaches : goal.returns-then-not-reaches
returns-then-not-reaches c =
    let a = c.args in
    sym (keep_short a.most (a.held.now ++ a.chunk.now) (leb-false 4 _ (denied c.reaches.ensures c.if-not-reaches.true-raw)))

pub head_across-head-requires : goal.head_across-head-requires
head_across-head-requires c = leb-true 4 _ (told c.reaches.ensures c.if-not-reaches.false-raw)

pub returns-then-not-candidate : goal.returns-then-not-candidate
returns-then-not-candidate c =
    let a = c.args in
    let four = told c.reaches.ensures c.if-not-reaches.false-raw in
    skip_other a.most (a.held.now ++ a.chunk.now) c.head_across-head.result four c.head_across-head.ensures c.candidate.ensures c.if-not-candidate.true-raw

pub returns-then-not-reaches-2 : goal.returns-then-not-reaches-2
returns-then-not-reaches-2 c =
    let a = c.args in
    let four = told c.reaches.ensures c.if-not-reaches.false-raw in
    keep_begun a.most (a.held.now ++ a.chunk.now) c.head_across-head.result four c.head_across-head.ensures c.candidate.ensures c.if-not-candidate.false-raw c.size_at-n.result c.size_at-n.ensures.0 (denied c.reaches-2.ensures c.if-not-reaches-2.true-raw)

pub returns-then-not-reaches-3 : goal.returns-then-not-reaches-3
returns-then-not-reaches-3 c =
    let a = c.args in
    let four = told c.reaches.ensures c.if-not-reaches.false-raw in
    packet_last a.most (a.held.now ++ a.chunk.now) c.head_across-head.result four c.head_across-head.ensures c.candidate.ensures c.if-not-candidate.false-raw c.size_at-n.result c.size_at-n.ensures.0 (told c.reaches-2.ensures c.if-not-reaches-2.false-raw) (denied c.reaches-3.ensures c.if-not-reaches-3.true-raw)

pub byte_across-requires : goal.byte_across-requires
byte_across-requires c =
    let a = c.args in
    let n = c.size_at-n.result in
    let k : n + 1 ≤ length (a.held.now ++ a.chunk.now) = leb-true (n + 1) _ (told c.reaches-3.ensures c.if-not-reaches-3.false-raw) in
    omega arith

pub returns-then-byte_across-ne127 : goal.returns-then-byte_across-ne127
returns-then-byte_across-ne127 c =
    let a = c.args in
    let four = told c.reaches.ensures c.if-not-reaches.false-raw in
    skip_unmarked a.most (a.held.now ++ a.chunk.now) c.head_across-head.result four c.head_across-head.ensures c.candidate.ensures c.if-not-candidate.false-raw c.size_at-n.result c.size_at-n.ensures.0 (told c.reaches-3.ensures c.if-not-reaches-3.false-raw) (λ e. c.if-byte_across-ne127.true (c.byte_across.ensures ∙ e))

pub returns : goal.returns
returns c =
    let a = c.args in
    let four = told c.reaches.ensures c.if-not-reaches.false-raw in
    packet_marked a.most (a.held.now ++ a.chunk.now) c.head_across-head.result four c.head_across-head.ensures c.candidate.ensures c.if-not-candidate.false-raw c.size_at-n.result c.size_at-n.ensures.0 (told c.reaches-3.ensures c.if-not-reaches-3.false-raw) (sym c.byte_across.ensures ∙ c.if-byte_across-ne127.false)
