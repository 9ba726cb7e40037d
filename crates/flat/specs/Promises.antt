-- What the flat values promise, as statements; the proofs are in proofs/FlatLaws.antt.
use Rattle.std.specs.Prelude.{Option, Some, None, ℕ, ◌+◌, ◌≤◌, ◌≡◌, ◌⊎◌, ◌≢◌, Bool, true, false, cond, List, [], ◌∷◌, length, eqb}
use Rattle.wire.specs.Read.{cut_of}
use Rattle.wire.specs.Frames.{split_of, split_number, frame_payload}
use Rattle.wire.specs.Promises.{OneToOne}
use Rattle.requests.specs.declared.Said.{Said}
use Rattle.requests.specs.declared.Said.TheVariants as said
use Rattle.requests.specs.declared.Confirmation.{Confirmation}
use Rattle.requests.specs.declared.Signed.{Signed}
use Rattle.requests.specs.declared.Signed.TheVariants as signed
use Rattle.requests.specs.declared.Answers.{Answers}
use Rattle.requests.specs.declared.Outcome.{Outcome}
use Rattle.requests.specs.Outcomes.{outcome_values}
use Rattle.server.specs.declared.first.First.{First}
use Rattle.server.specs.First.{first_values}
use Rattle.flat.specs.declared.FlatAnswers.{FlatAnswers}
use Rattle.flat.specs.declared.FlatOutcome.{FlatOutcome}
use Rattle.flat.specs.declared.FlatFirst.{FlatFirst}
use Rattle.flat.specs.Flat.{said_of, confirmed_of, signed_of, answers_of, numbered, flat_of, flat_split, flat_first}

-- ## Answers

pub record Unspoken (n : ℕ) : Type 0 where
  pub not_no : n ≡ 1 → ⊥
  pub not_yes : n ≡ 2 → ⊥

-- whatever stands outside in the place of an answer, only 1 and 2 are one
pub record OthersMissing : Type 0 where
  pub gate_and_check : (n : ℕ) → Unspoken n → said_of n ≡ said.Missing
  pub confirmation : (n number : ℕ) → Unspoken n → confirmed_of n number ≡ None
  pub signature : (n number : ℕ) → Unspoken n → signed_of n number ≡ signed.Missing

abbrev pub said_number : Said → ℕ
said_number said.Missing = 0
said_number said.No = 1
said_number said.Yes = 2

abbrev pub grant_number : Bool → ℕ
grant_number false = 1
grant_number true = 2

abbrev pub confirmed_number : Option Confirmation → ℕ
confirmed_number None = 0
confirmed_number (Some c) = grant_number c.granted

abbrev pub confirmed_for : Option Confirmation → ℕ
confirmed_for None = 0
confirmed_for (Some c) = c.number

abbrev pub signed_number : Signed → ℕ
signed_number signed.Missing = 0
signed_number (signed.Nothing n) = 1
signed_number (signed.Given n) = 2

abbrev pub signed_for : Signed → ℕ
signed_for signed.Missing = 0
signed_for (signed.Nothing n) = n
signed_for (signed.Given n) = n

abbrev pub flat_answers : Answers → FlatAnswers
flat_answers a = record {
  gate = said_number a.gate;
  check = said_number a.check;
  confirmation = confirmed_number a.confirmation;
  signature = signed_number a.signature;
  confirmation_number = confirmed_for a.confirmation;
  signature_number = signed_for a.signature;
}

-- all answers that can be lent can be given from outside
abbrev pub EveryAnswer : Type 0
EveryAnswer = (a : Answers) → answers_of (flat_answers a) ≡ a

-- ## The outcome

-- 01's number and values of an outcome, read from the fields that its kind uses
abbrev pub flat_values : FlatOutcome → List ℕ
flat_values o =
    cond (eqb o.kind 6) (o.kind ∷ [])
    (cond (eqb o.kind 5) (o.kind ∷ o.to ∷ [])
    (cond (eqb o.kind 4) (o.kind ∷ o.number ∷ o.from ∷ o.to ∷ o.hash ∷ [])
    (cond (eqb o.kind 2) (o.kind ∷ o.from ∷ o.to ∷ []) (o.kind ∷ o.number ∷ []))))

abbrev pub SameValues : Type 0
SameValues = (o : Outcome) → flat_values (flat_of o) ≡ outcome_values o

abbrev pub FlatApart : Type 0
FlatApart = OneToOne Outcome FlatOutcome flat_of

-- a field without meaning is 0
pub record UnusedZero (o : FlatOutcome) : Type 0 where
  pub hash : (o.kind ≡ 4 → ⊥) → o.hash ≡ 0
  pub number : (o.kind ≡ 2) ⊎ (5 ≤ o.kind) → o.number ≡ 0
  pub part : (o.kind ≤ 1) ⊎ ((o.kind ≡ 3) ⊎ (o.kind ≡ 6)) → (o.from ≡ 0) × (o.to ≡ 0)
  pub reply : o.kind ≡ 5 → o.from ≡ 0

abbrev pub FlatUnused : Type 0
FlatUnused = (o : Outcome) → UnusedZero (flat_of o)

-- ## The split

-- the split's number, and the part of s that is its payload: behind the four bytes of its length, and nothing where no frame is whole
pub record SplitsAs (s : List ℕ) : Type 0 where
  pub kind : (flat_split s).kind ≡ split_number (split_of s)
  pub payload : cut_of s (flat_split s).from (flat_split s).to ≡ frame_payload s
  pub whole : (flat_split s).kind ≡ 2 → ((flat_split s).from ≡ 4) × ((flat_split s).to ≡ 4 + length (frame_payload s))
  pub not_whole : (flat_split s).kind ≢ 2 → ((flat_split s).from ≡ 0) × ((flat_split s).to ≡ 0)
  pub within : (flat_split s).to ≤ length s

abbrev pub SplitRule : Type 0
SplitRule = (s : List ℕ) → SplitsAs s

-- ## The first call

-- its number and values, read from the fields that its kind uses
abbrev pub flat_first_values : FlatFirst → List ℕ
flat_first_values x =
    cond (eqb x.kind 3) (x.kind ∷ x.used ∷ flat_values x.outcome)
    (cond (eqb x.kind 2) (x.kind ∷ x.outcome.number ∷ []) (x.kind ∷ []))

abbrev pub SameFirstValues : Type 0
SameFirstValues = (x : First) → flat_first_values (flat_first x) ≡ first_values x

abbrev pub FlatFirstApart : Type 0
FlatFirstApart = OneToOne First FlatFirst flat_first

-- a field without meaning is 0; a refusal's outcome is the one that the call would tell
pub record FirstUnusedZero (x : FlatFirst) : Type 0 where
  pub used : x.kind ≢ 3 → x.used ≡ 0
  pub outcome : x.kind ≤ 1 → x.outcome ≡ numbered 0 0
  pub refused : x.kind ≡ 2 → x.outcome ≡ numbered 0 x.outcome.number
  pub begun : x.kind ≡ 3 → UnusedZero x.outcome

abbrev pub FlatFirstUnused : Type 0
FlatFirstUnused = (x : First) → FirstUnusedZero (flat_first x)
