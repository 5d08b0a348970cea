use Rattle.fragments.proofs.GrowLaws.{put}
use Rattle.fragments.proofs.Held.put_behind.Goals as goal

pub returns : goal.returns
returns c =
    let a = c.args in
    let pre = c.requires in
    let w = c.copy in
    put a.place a.id a.flags a.body.now a.self.count a.fragment_heads.now a.bodies.now pre.0 pre.1 pre.2 pre.3 _ _ _ _ _ _ c.take_out-count.ensures.count w.auto.out c.pack.ensures w.ensures c.take_out-count.ensures.out c.fragment_head.ensures
