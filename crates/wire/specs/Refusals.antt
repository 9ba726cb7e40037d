-- 01's number for each refusal of a reader or writer ("When; output untouched"), its place, and what an answer then says.
use Rattle.std.specs.Prelude.{ℕ, Result, Ok, Err}
use Rattle.wire.specs.declared.refusal.Refusal.{Refusal}
use Rattle.wire.specs.declared.refusal.Refusal.TheVariants.{OutputTooShort, Malformed, UnfitType, AgentFailure, OtherReply, NoSuchItem, PayloadTooLong, TooManyConstraints}

abbrev pub refusal_number : Refusal → ℕ
refusal_number OutputTooShort = 11
refusal_number (Malformed at) = 12
refusal_number UnfitType = 13
refusal_number AgentFailure = 14
refusal_number OtherReply = 15
refusal_number NoSuchItem = 16
refusal_number PayloadTooLong = 17
refusal_number TooManyConstraints = 18

-- the place of the fault, which 12 alone has: in the bytes that were read, the reply's payload or a smartcard's id
pub data Where : Type 0 where
  no_place : Where
  at_place : ℕ → Where

abbrev pub refusal_place : Refusal → Where
refusal_place OutputTooShort = no_place
refusal_place (Malformed at) = at_place at
refusal_place UnfitType = no_place
refusal_place AgentFailure = no_place
refusal_place OtherReply = no_place
refusal_place NoSuchItem = no_place
refusal_place PayloadTooLong = no_place
refusal_place TooManyConstraints = no_place

-- what is granted, or a refusal
pub data Says (A : Type 0) : Type 0 where
  grants : A → Says A
  refuses : ℕ → Where → Says A  -- 01's number of the refusal, and the place of the fault

-- the length of what was written
abbrev pub wrote_says : Result ℕ Refusal → Says ℕ
wrote_says (Ok n) = grants n
wrote_says (Err r) = refuses (refusal_number r) (refusal_place r)
