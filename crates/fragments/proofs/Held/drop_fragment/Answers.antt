use Rattle.fragments.proofs.RoomLaws.{some_numbers}
use Rattle.fragments.proofs.GrowLaws.{dropped}
use Rattle.fragments.proofs.Held.drop_fragment.Goals as goal

pub drop_found-requires : goal.drop_found-requires
drop_found-requires c = let a = c.args in (c.index_of-found.ensures.1, some_numbers c.requires)

pub returns : goal.returns
returns c =
    dropped c.index_of-found.ensures.0 c.drop_found.ensures
