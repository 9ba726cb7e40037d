-- The laws that the proofs of functions cite.
pub mod WrittenLaws
pub mod ChangeLaws
