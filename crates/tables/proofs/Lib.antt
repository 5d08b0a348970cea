-- Laws for the readers, one for each return of a function.
pub mod LocationLaws
pub mod AssetLaws
pub mod PackageLaws
pub mod MessageLaws
pub mod PaLaws
pub mod WalkLaws
