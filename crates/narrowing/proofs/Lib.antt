-- Laws for narrowing, one for each return of a function and each turn of a loop.
pub mod MptLaws
pub mod PltLaws
pub mod ExactLaws
pub mod TableLaws
pub mod CountLaws
pub mod WalkLaws
pub mod PayloadLaws
pub mod FrameLaws
pub mod FoundLaws
pub mod AnswerLaws
