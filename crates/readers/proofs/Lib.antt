-- The laws that the proofs of functions cite, and the proofs of what is promised.
pub mod ReadSteps
pub mod ItemLaws
pub mod SignatureLaws
pub mod FormLaws
pub mod ReadRoundTrips
pub mod SignatureRoundTrips
pub mod ReadTables
pub mod ListLaws
pub mod SignatureTables
