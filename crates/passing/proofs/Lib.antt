-- Laws on the way of a packet, cited by the proofs of the functions.
pub mod PassLaws
pub mod SparingLaws
pub mod SignalLaws
pub mod RowLaws
pub mod PlainLaws
pub mod RunLaws
pub mod StepLaws
pub mod WholeLaws
