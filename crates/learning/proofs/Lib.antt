-- Laws for packages and lists, one for each return of a function and each turn of a loop.
pub mod PairLaws
pub mod AlsoLaws
pub mod PackageLaws
pub mod PlaceForLaws
pub mod MapPairLaws
pub mod KindLaws
pub mod MapLaws
pub mod HeldLaws
