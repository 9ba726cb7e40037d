-- The laws that the proofs of functions cite, and the proofs of what is promised.
pub mod ByteLaws
pub mod EachLaws
pub mod CountLaws
pub mod EntryLaws
pub mod StateLaws
pub mod TestLaws
pub mod WritingLaws
pub mod SeekLaws
pub mod ReadLaws
pub mod FoundLaws
