-- The laws that the proofs of functions cite, and the proofs of what is promised.
pub mod WithinLaws
pub mod ExportLaws
pub mod AskedLaws
pub mod FirstLaws
pub mod InnerFlat
pub mod InnerLaws
