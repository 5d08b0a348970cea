-- Laws for tables, messages and payloads, one for each return of a function and each turn of a loop.
pub mod StepLaws
pub mod FoldLaws
pub mod TableSteps
pub mod MessageSteps
pub mod ObserveSteps
pub mod NewsLaws
