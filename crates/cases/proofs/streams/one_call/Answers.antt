use Rattle.programs.proofs.LineLaws.{wrote_within}
use Rattle.cases.proofs.streams.one_call.Goals as goal

pub tell-requires : goal.tell-requires
tell-requires c = wrote_within c.push-p.ensures.written
