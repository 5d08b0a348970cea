use native.Mathlib.Omega.{arith}
use mathlib.Core.Path.{refl}
use Rattle.learning.proofs.MapLaws.{list_lost, list_kept}
use Rattle.learning.proofs.HeldLaws.{list_held}
use Rattle.learning.proofs.lists.mpt.Goals as goal

pub place_for-i-requires : goal.place_for-i-requires
place_for-i-requires c =
    let k = c.requires.2.1.pairs in
    omega (arith, k.count, k.few)

pub returns-in-Some : goal.returns-in-Some
returns-in-Some c = λ ms k.
    let a = c.args in
    let w = c.place_for-i in
    rw c.with_news.ensures (list_held a.id w.result a.e a.map_heads.now a.map_room.now w.ensures.0 ms k a.b.now _ (rw c.in-Some.is at c.held_news_at.ensures))

pub returns-in_default-assets_of : goal.returns-in_default-assets_of
returns-in_default-assets_of c = λ ms k. rw (rw c.in_default-assets_of.is at c.assets_of.ensures) (k, refl, refl)

pub lose_one-requires : goal.lose_one-requires
lose_one-requires c = rw c.with_news-known.ensures c.requires.0

pub returns-then-i-ge64 : goal.returns-then-i-ge64
returns-then-i-ge64 c = λ ms k.
    let a = c.args in
    let w = c.place_for-i in
    rw (c.lose_one.ensures, c.with_news-known.ensures)
    (list_lost a.id w.result a.e a.map_heads.now a.map_room.now w.ensures.0 ms k a.b.now _ (rw c.in-Some-assets_of.is at c.assets_of.ensures) (omega arith))

pub keep_list-requires : goal.keep_list-requires
keep_list-requires c =
    let w = c.place_for-i in
    let p = c.requires in
    let k = p.2.1.pairs in
    rw c.with_news-known.ensures
    (omega arith, (rw c.in-Some-assets_of.is at c.assets_of.ensures).0, w.ensures.1, omega (arith, k.count, k.few), p.1)

pub returns : goal.returns
returns c = λ ms k.
    let a = c.args in
    let w = c.place_for-i in
    list_kept a.id w.result a.e a.map_heads.now a.map_room.now w.ensures.0 ms k a.b.now _ (rw c.in-Some-assets_of.is at c.assets_of.ensures) (omega arith)
    (rw c.in_default.is at c.held_news_at.ensures) _ _ _ (rw c.with_news-known.ensures at c.keep_list.ensures)
