-- Laws on fragments and on the room that holds them, one for each return of a function and each turn of a loop.
pub mod FragmentLaws
pub mod BlockLaws
pub mod RoomLaws
pub mod OnceLaws
pub mod GrowLaws
