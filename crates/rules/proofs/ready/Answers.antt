use Rattle.rules.proofs.KnownRules.{packages_there, map_heads_there, not_seen, all_ready, service_ready}
use mathlib.Core.Path.{◌∙◌}
use Rattle.rules.proofs.ready.Goals as goal

pub all_listed-requires : goal.all_listed-requires
all_listed-requires c =
    let h = c.requires.3 in
    (packages_there h, map_heads_there h)

pub service_listed-requires : goal.service_listed-requires
service_listed-requires c =
    let h = c.requires.3 in
    (packages_there h, map_heads_there h)

pub returns-in-Every : goal.returns-in-Every
returns-in-Every c = λ k ca map_room h. rw c.in-Every.is (c.all_listed.ensures ∙ all_ready h c.if-e.true)

pub returns-in-Only : goal.returns-in-Only
returns-in-Only c = λ k ca map_room h. rw c.in-Only.is (c.service_listed.ensures ∙ service_ready h _ c.if-e.true)

pub returns-else-e : goal.returns-else-e
returns-else-e c = λ k ca map_room h. c.if-e.false ∙ not_seen h c.args.s c.if-e.false
