-- The laws that the proofs of functions cite, and the proofs of what is promised.
pub mod FieldSteps
pub mod BlobLaws
pub mod WalkLaws
pub mod AnswerLaws
pub mod SettleLaws
pub mod TestLaws
pub mod FieldLaws
pub mod KeyLaws
pub mod FaultLaws
pub mod AdditionLaws
