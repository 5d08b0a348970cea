-- Laws that the proofs of the record and of its calls cite.
pub mod SlotLaws
pub mod StateLaws
pub mod FrontLaws
pub mod CallLaws
pub mod PushLaws
