-- Laws that the proofs of the rules cite.
pub mod MemberLaws
pub mod WalkLaws
pub mod AssetRules
pub mod PackageRules
pub mod ReadyRules
pub mod KnownRules
