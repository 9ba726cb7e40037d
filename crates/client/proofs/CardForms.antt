-- 26 is the draft's form: it has one writing for given constraints, and what the writer grants is that writing's frame.
use Prim.Native.Nat.{ℕ, ◌+◌, ◌≤◌, ◌<◌}
use mathlib.Core.Path.{◌≡◌, refl, sym, ap, ◌∙◌}
use mathlib.Core.Bool.{Bool, true, false}
use mathlib.Core.List.{List, [], ◌∷◌, ◌++◌}
use mathlib.Core.Logic.{⊎_elim}
use native.Mathlib.Omega.{arith}
use lib.ListN.{length, take, drop}
use Rattle.wire.specs.declared.Constraint.{Constraint}
use Rattle.wire.specs.declared.Constraint.TheVariants.{KeyLifetime, Confirm}
use Rattle.wire.specs.Limits.{payload_limit}
use Rattle.wire.specs.Abnf.{Octets}
use Rattle.wire.specs.Numbers.{be32}
use Rattle.wire.specs.Utf8.{utf8, utf8_end}
use Rattle.wire.specs.Write.{string}
use Rattle.wire.specs.Constraints.{constraint_forms}
use Rattle.wire.specs.Refusals.{grants, wrote_says}
use Rattle.wire.proofs.Abnf.{utf8-rule}
use Rattle.wire.proofs.Cases.{true_not_false}
use Rattle.wire.proofs.Longest.{utf8-end}
use Rattle.wire.proofs.Reading.{le_or_lt}
use Rattle.wire.proofs.RefusalLaws.{not_granted}
use Rattle.client.specs.Forms.{ConstraintsForm, end, lifetime, confirm, CardForm, card}
use Rattle.client.specs.Requests.{constrained_smartcard, add_smartcard_answer, add_smartcard_left}
use Rattle.client.specs.Promises.{Framed, CardFormRule, AtFront, CardFits, CardWritten}
use Rattle.client.proofs.WriterTables.{add_smartcard-table}
use Rattle.client.proofs.RequestRules.{add_smartcard-rule}

-- ## The form

constraints_are : {cs : List Constraint} {s : List ℕ} → ConstraintsForm cs s → s ≡ constraint_forms cs
constraints_are end = refl
constraints_are (lifetime seconds f) = ap (λ (l : List ℕ). 1 ∷ (be32 seconds.count ++ l)) (constraints_are f)
constraints_are (confirm f) = ap (λ (l : List ℕ). 2 ∷ l) (constraints_are f)

constraints_form : (cs : List Constraint) → ConstraintsForm cs (constraint_forms cs)
constraints_form [] = end
constraints_form (KeyLifetime seconds ∷ cs) = lifetime seconds (constraints_form cs)
constraints_form (Confirm ∷ cs) = confirm (constraints_form cs)

card_is : {id pin : List ℕ} {cs : List Constraint} {payload : List ℕ} → CardForm id pin cs payload → payload ≡ constrained_smartcard id pin cs
card_is (card id pin f) = ap (λ (l : List ℕ). 26 ∷ (string id ++ (string pin ++ l))) (constraints_are f)

pub card_form_rule : CardFormRule
card_form_rule id pin cs payload = (card_is, λ e. rw e (card id pin (constraints_form cs)))

-- ## The writer

-- what is not refused has passed every test
module _ (id pin : List ℕ) (cs : List Constraint) (count : ℕ) (out : List ℕ) (n : ℕ) (some : 1 ≤ count) (granted : wrote_says (add_smartcard_answer id pin cs count out) ≡ grants n) where
  abbrev payload : List ℕ
  payload = constrained_smartcard id pin (take count cs)

  few : count ≤ 4
  few = ⊎_elim (λ (h : count ≤ 4). h) (λ (h : 4 < count). not_granted (sym ((add_smartcard-table id pin cs count out).too_many h) ∙ granted)) (le_or_lt count 4)

  pub card_text : Octets id
  card_text = by_utf8 (utf8 id) refl
    where
      by_utf8 : (b : Bool) → utf8 id ≡ b → Octets id
      by_utf8 true e = (utf8-rule id).0 e
      by_utf8 false e =
          let never : Octets id → ⊥ = λ o. true_not_false (sym ((utf8-rule id).1 o) ∙ e) in
          not_granted (sym ((add_smartcard-table id pin cs count out).no_text (utf8_end id) few never (utf8-end id)) ∙ granted)

  framed : Framed payload out (add_smartcard_answer id pin cs count out)
  framed = (add_smartcard-table id pin cs count out).constrained some few card_text

  pub card_small : length payload ≤ payload_limit
  card_small =
      ⊎_elim
      (λ (h : length payload ≤ payload_limit). h)
      (λ (h : payload_limit < length payload). not_granted (sym (framed.too_long h) ∙ granted))
      (le_or_lt (length payload) payload_limit)

  fits : 4 + length payload ≤ length out
  fits =
      ⊎_elim
      (λ (h : 4 + length payload ≤ length out). h)
      (λ (h : length out < 4 + length payload). not_granted (sym (framed.too_short card_small h) ∙ granted))
      (le_or_lt (4 + length payload) (length out))

-- the frame of what was given stands there
module _ (id pin : List ℕ) (cs : List Constraint) (count : ℕ) (out : List ℕ) (some : 1 ≤ count) where
  written : (n : ℕ) → wrote_says (add_smartcard_answer id pin cs count out) ≡ grants n
      → take n (add_smartcard_left id pin cs count out) ≡ string (constrained_smartcard id pin (take count cs))
  written n e = ((add_smartcard-rule id pin cs count out).sent n e).bytes ∙ ap string ((add_smartcard-table id pin cs count out).some_given some)

  card_fits : (payload : List ℕ) → AtFront (string payload) (add_smartcard_answer id pin cs count out) (add_smartcard_left id pin cs count out)
      → CardFits id pin cs count out payload
  card_fits payload (granted, stands) =
      let is : payload ≡ constrained_smartcard id pin (take count cs) = ap (drop 4) (sym stands ∙ written _ granted) in
      record {
        few = few id pin cs count out _ some granted;
        text = card_text id pin cs count out _ some granted;
        form = (card_form_rule id pin (take count cs) payload).1 is;
        small = rw is (card_small id pin cs count out _ some granted);
        fits = rw is (fits id pin cs count out _ some granted);
      }

  card_stands : (payload : List ℕ) → CardFits id pin cs count out payload → AtFront (string payload) (add_smartcard_answer id pin cs count out) (add_smartcard_left id pin cs count out)
  card_stands payload f =
      let given = constrained_smartcard id pin (take count cs) in
      let is : payload ≡ given = card_is f.form in
      let size : 4 + length given ≡ length (string given) = omega arith in
      let granted = ((add_smartcard-table id pin cs count out).constrained some f.few f.text).written (rw is at f.small) (rw is at f.fits) ∙ ap grants size in
      rw is (granted, written _ granted)

pub card_written : CardWritten
card_written id pin cs count out payload some = (card_fits id pin cs count out some payload, card_stands id pin cs count out some payload)
