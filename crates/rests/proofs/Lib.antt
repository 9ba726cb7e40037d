-- The proof of what is promised.
pub mod RestLaws
