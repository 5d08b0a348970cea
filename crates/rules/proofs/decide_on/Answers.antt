use lib.Dec.{eqb}
use Rattle.rules.specs.Changes.{Removes}
use Rattle.rules.proofs.MemberLaws.{inserts_one, removes_one}
use Rattle.rules.proofs.KnownRules.{packages_there, map_lists_there, all_dropped, all_kept, decided, eit_kept, eit_dropped}
use borrow.Author.Tests.{not-true, not-false}
use mathlib.Core.Path.{◌∙◌}
use native.Mathlib.Omega.{arith}
use Rattle.rules.proofs.decide_on.Goals as goal

pub by_packages-requires : goal.by_packages-requires
by_packages-requires c = let h = c.requires.2 in (packages_there h, map_lists_there h)

pub by_packages-requires-2 : goal.by_packages-requires-2
by_packages-requires-2 c = let h = c.requires.2 in (packages_there h, map_lists_there h)

pub returns-then-not-o : goal.returns-then-not-o
returns-then-not-o c =
    let o = c.args.o in
    λ k ds h f. let d = all_dropped h o c.by_packages.ensures in
    let kept = all_kept h o c.by_packages-2.ensures in
    let zero : Removes (eqb 0) c.by_packages-2.new.set.words c.remove.new.self.words = rw c.remove.ensures (removes_one _ 0 (kept.as_long ∙ d.as_long ∙ f.all_words) (omega arith)) in
    let s = decided h o f d kept zero in
    eit_dropped h o (not-true _ c.if-not-o.true) s (rw c.insert.ensures (inserts_one _ 0x8000 s.all_words (omega arith)))

pub returns-else-not-o : goal.returns-else-not-o
returns-else-not-o c =
    let o = c.args.o in
    λ k ds h f. let d = all_dropped h o c.by_packages.ensures in
    let kept = all_kept h o c.by_packages-2.ensures in
    let zero : Removes (eqb 0) c.by_packages-2.new.set.words c.remove.new.self.words = rw c.remove.ensures (removes_one _ 0 (kept.as_long ∙ d.as_long ∙ f.all_words) (omega arith)) in
    eit_kept h o (not-false _ c.if-not-o.false) (decided h o f d kept zero)
