-- The proofs of what is promised.
pub mod Requests
pub mod Cards
pub mod Replies
