-- The laws that the proofs of functions cite, and the proofs of what is promised.
pub mod EntryLaws
pub mod LeastLaws
pub mod NumberLaws
pub mod ToldLaws
pub mod HeldLaws
pub mod NextLaws
