-- Laws that the proofs of the tally cite.
pub mod TallyLaws
