-- The promises of 01's table by first byte: each row's lock state and gate class, and what lands in the rows that neither list nor sign.
use Rattle.std.specs.Prelude.{ℕ, ◌≡◌, ◌⊎◌, ◌≢◌, Bool, true, false, List}
use Rattle.rule.specs.Gateway.{Gateway, locked}
use Rattle.rule.specs.Rule.{gate, Landing, FAILURE, SUCCESS, Plan, land, ask, rule}
use Rattle.rule.specs.Calls.{Call, lands, call}
use Rattle.rule.specs.Words.{Begins, payload_of}

pub data Row : ℕ → Bool → ℕ → Type 0 where
  list : Row 11 false 1
  add : Row 17 false 2
  add_constrained : Row 25 false 2
  remove : Row 18 false 3
  remove_all : Row 19 false 4
  sign : Row 13 false 5
  lock : Row 22 false 6
  unlock : Row 23 true 7

-- the first question is the row's gate class, and no means FAILURE; in the wrong lock state it is FAILURE with no question
pub record AsRow (g : Gateway) (payload : List ℕ) (needs : Bool) (class : ℕ) : Type 0 where
  pub fit : locked g ≡ needs → (onwards : Bool → Plan) × (rule g payload ≡ ask (gate class) onwards) × (onwards false ≡ land FAILURE g)
  pub unfit : locked g ≢ needs → rule g payload ≡ land FAILURE g

abbrev pub RowRule : Type 0
RowRule = (byte : ℕ) (needs : Bool) (class : ℕ) → Row byte needs class → (g : Gateway) (payload : List ℕ) → Begins byte payload → AsRow g payload needs class

-- "Empty payload, any other byte ..: FAILURE, no question."
abbrev pub NoRow : Type 0
NoRow =
    (g : Gateway) (payload : List ℕ) → ((byte : ℕ) (needs : Bool) (class : ℕ) → Row byte needs class → Begins byte payload → ⊥)
    → rule g payload ≡ land FAILURE g

-- every request but a list and a signature lands SUCCESS or FAILURE
abbrev pub SuccessOrFailure : Type 0
SuccessOrFailure =
    (g : Gateway) (c : Call) (l : Landing) → (Begins 11 (payload_of c) → ⊥) → (Begins 13 (payload_of c) → ⊥) → (call g c).outcome ≡ lands l
    → (l ≡ SUCCESS) ⊎ (l ≡ FAILURE)
