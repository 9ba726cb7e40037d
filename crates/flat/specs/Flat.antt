-- What the flat values stand for: 01's numbers and values in the place of each enum.
use Rattle.std.specs.Prelude.{Option, Some, None, ℕ, true, false, cond, List, eqb}
use Rattle.wire.specs.declared.frame.Split.{Split}
use Rattle.wire.specs.declared.frame.Split.TheVariants.{MoreNeeded, TooLong, Frame}
use Rattle.wire.specs.Frames.{split_of}
use Rattle.requests.specs.declared.Said.{Said}
use Rattle.requests.specs.declared.Said.TheVariants as said
use Rattle.requests.specs.declared.Confirmation.{Confirmation}
use Rattle.requests.specs.declared.Signed.{Signed}
use Rattle.requests.specs.declared.Signed.TheVariants as signed
use Rattle.requests.specs.declared.Answers.{Answers}
use Rattle.requests.specs.declared.Outcome.{Outcome}
use Rattle.requests.specs.declared.Outcome.TheVariants.{Refused, Gate, Check, Confirm, Sign, Reply, Close}
use Rattle.requests.specs.Outcomes.{hash_bits}
use Rattle.server.specs.declared.first.First.{First}
use Rattle.server.specs.declared.first.First.TheVariants as first
use Rattle.flat.specs.declared.FlatAnswers.{FlatAnswers}
use Rattle.flat.specs.declared.FlatOutcome.{FlatOutcome}
use Rattle.flat.specs.declared.FlatSplit.{FlatSplit}
use Rattle.flat.specs.declared.FlatFirst.{FlatFirst}

-- ## Answers: 1 is no, 2 is yes, any other number is no answer

-- what a number comes to, of three
abbrev pub told : {A : Type 0} → ℕ → A → A → A → A
told n denied granted missing = cond (eqb n 1) denied (cond (eqb n 2) granted missing)

unfoldable pub said_of : ℕ → Said
said_of n = told n said.No said.Yes said.Missing

unfoldable pub confirmed_of : ℕ → ℕ → Option Confirmation
confirmed_of n number = told n (Some (record { number = number; granted = false })) (Some (record { number = number; granted = true })) None

unfoldable pub signed_of : ℕ → ℕ → Signed
signed_of n number = told n (signed.Nothing number) (signed.Given number) signed.Missing

unfoldable pub answers_of : FlatAnswers → Answers
answers_of a = record {
  gate = said_of a.gate;
  check = said_of a.check;
  confirmation = confirmed_of a.confirmation a.confirmation_number;
  signature = signed_of a.signature a.signature_number;
}

-- ## The outcome: its kind and values, 0 in the fields that it does not use

abbrev pub numbered : ℕ → ℕ → FlatOutcome
numbered kind n = record { kind = kind; hash = 0; number = n; from = 0; to = 0 }

abbrev pub part : ℕ → ℕ → ℕ → FlatOutcome
part kind from to = record { kind = kind; hash = 0; number = 0; from = from; to = to }

unfoldable pub flat_of : Outcome → FlatOutcome
flat_of (Refused n) = numbered 0 n
flat_of (Gate class) = numbered 1 class
flat_of (Check from to) = part 2 from to
flat_of (Confirm n) = numbered 3 n
flat_of (Sign n from to hash) = record { kind = 4; hash = hash_bits hash; number = n; from = from; to = to }
flat_of (Reply n) = part 5 0 n
flat_of Close = part 6 0 0

-- ## The split: 0 more needed, 1 too long, 2 a whole frame; where its payload lies

unfoldable pub split_as : Split → FlatSplit
split_as MoreNeeded = record { kind = 0; from = 0; to = 0 }
split_as TooLong = record { kind = 1; from = 0; to = 0 }
split_as (Frame from to) = record { kind = 2; from = from; to = to }

unfoldable pub flat_split : List ℕ → FlatSplit
flat_split s = split_as (split_of s)

-- ## The first call: 0 more needed, 1 too long, 2 refused, 3 begun; the bytes used and the outcome

-- nothing has begun: no bytes are used, and the outcome is all 0 but for the number of a refusal
abbrev pub unbegun_first : ℕ → ℕ → FlatFirst
unbegun_first kind number = record { kind = kind; used = 0; outcome = numbered 0 number }

unfoldable pub flat_first : First → FlatFirst
flat_first first.MoreNeeded = unbegun_first 0 0
flat_first first.TooLong = unbegun_first 1 0
flat_first (first.Refused n) = unbegun_first 2 n
flat_first (first.Began used o) = record { kind = 3; used = used; outcome = flat_of o }
