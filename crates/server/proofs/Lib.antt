-- The laws that the proofs of functions cite, and the proofs of what is promised.
pub mod RowSteps
pub mod CallLaws
pub mod FirstSteps
pub mod Leavings
pub mod Numbers
pub mod Lists
pub mod Lift
pub mod FirstLaws
pub mod FirstRuns
pub mod InnerLaws
pub mod InnerRuns
pub mod InnerTheorem
