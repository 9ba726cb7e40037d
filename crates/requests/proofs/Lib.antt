-- The laws that the proofs of functions cite, and the proofs of what is promised.
pub mod OutcomeLaws
pub mod EndLaws
pub mod EndSteps
pub mod ListSteps
pub mod SignSteps
