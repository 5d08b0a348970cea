-- Laws that the proofs of soundness cite, and what a sound record's parts give a caller.
pub mod SoundnessLaws
pub mod PartLaws
