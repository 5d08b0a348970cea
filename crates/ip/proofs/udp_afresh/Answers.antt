use Rattle.ip.proofs.CodeLaws.{udp_steps}
use Rattle.ip.proofs.udp_afresh.Goals as goal

pub returns : goal.returns
returns c =
    udp_steps _ _ _ _ _ _ _ _ _ c.udp_length_afresh.ensures c.set16.ensures c.words.ensures.0 c.fold.ensures.0
    c.non_zero-c.ensures c.set16-2.ensures
