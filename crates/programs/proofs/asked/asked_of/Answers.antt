use Rattle.programs.proofs.AskedLaws.{asked_short, asked_flags, asked_neither, asked_for}
use native.Mathlib.Omega.{arith}
use mathlib.Core.Path.{sym, ◌∙◌}
use borrow.Author.Tests.{not-true, not-false}
use Rattle.programs.proofs.asked.asked_of.Goals as goal

pub returns-then-head-lt3 : goal.returns-then-head-lt3
returns-then-head-lt3 c = let s = c.args.head.now in asked_short s c.if-head-lt3.true

pub returns-then-head-gt31 : goal.returns-then-head-gt31
returns-then-head-gt31 c = let s = c.args.head.now in asked_flags s c.if-head-gt31.true

pub returns-then-not-wants_assets : goal.returns-then-not-wants_assets
returns-then-not-wants_assets c = let s = c.args.head.now in asked_neither s (omega arith) (omega arith) c.id16.ensures c.options_of-o.ensures (sym c.wants_assets.ensures ∙ not-true _ c.if-not-wants_assets.true-raw)

pub returns : goal.returns
returns c = let s = c.args.head.now in asked_for s (omega arith) (omega arith) c.id16.ensures c.options_of-o.ensures (sym c.wants_assets.ensures ∙ not-false _ c.if-not-wants_assets.false-raw)
