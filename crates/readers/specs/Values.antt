-- Readers' answers in 01's words and numbers.
use Rattle.std.specs.Prelude.{ℕ, Bool, Result, Ok, Err}
use Rattle.wire.specs.Refusals.{refusal_number, refusal_place, Says, grants, refuses, wrote_says}
use Rattle.wire.specs.declared.refusal.Refusal.{Refusal}
use Rattle.readers.specs.declared.identities.Blob.{Blob}

-- the number of items, as a writer's length
abbrev pub listing_says : Result ℕ Refusal → Says ℕ
listing_says = wrote_says

-- "handed out as part of the payload, its blob only, with a certificate mark": where the blob begins, and the place behind it
pub record Identity : Type 0 where
  pub from : ℕ
  pub to : ℕ
  pub marked : Bool

abbrev pub item_says : Result Blob Refusal → Says Identity
item_says (Ok b) = grants (record { from = b.from; to = b.to; marked = b.certificate })
item_says (Err r) = refuses (refusal_number r) (refusal_place r)
