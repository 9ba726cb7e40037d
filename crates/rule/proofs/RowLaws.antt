-- The rows of the table: past the gate a call follows its row's body, and what is no refusal, no FAILURE and no gate's question came that way.
use Prim.Native.Nat.{ℕ}
use mathlib.Core.Path.{◌≡◌, refl, sym, ap, ◌∙◌}
use mathlib.Core.Logic.{◌≢◌}
use mathlib.Core.Bool.{Bool, true, false, not, cond}
use mathlib.Core.Option.{Option, none, some}
use mathlib.Core.List.{List}
use borrow.Author.Tests.{ltb-true, lt-ltb, eqb-true}
use lib.ListN.{length, get_or}
use lib.Dec.{ltb, eqb}
use Rattle.rule.specs.declared.Millis.{Millis}
use Rattle.rule.specs.Gateway.{Gateway, locked, opened, advance, at_clock}
use Rattle.rule.specs.Rule.{Question, gate, Landing, FAILURE, SUCCESS, Plan, land, fails, listing, adding, removing, removing_all, signing, locking, unlocking, gated, row, table, rule}
use Rattle.rule.specs.Calls.{given, lent, Call, refusal, Outcome, refused, asks, lands, Result, follow, served, call}
use Rattle.rule.specs.Words.{Begins, at_call, payload_of, PastGate}
use Rattle.rule.specs.Rows.{Row, list, add, add_constrained, remove, remove_all, sign, lock, unlock, RowRule, NoRow}
use Rattle.rule.proofs.Cases.{cond_cases, given-cases, not_true}
use Rattle.rule.proofs.Plans.{asks_not_lands, refused_not_lands, refused_not_asks, EveryLanding, follow-has}
use Rattle.rule.proofs.Effects.{success_not_failure}

pub same-landing : {l m : Landing} → lands l ≡ lands m → l ≡ m
same-landing e = cc

same-question : {p q : Question} → asks p ≡ asks q → p ≡ q
same-question e = cc

-- ## The rule by its rows

-- the body of a row
abbrev pub body_of : {byte : ℕ} {needs : Bool} {class : ℕ} → Row byte needs class → Gateway → List ℕ → Plan
body_of list g payload = listing g
body_of add g payload = adding false g payload
body_of add_constrained g payload = adding true g payload
body_of remove g payload = removing g payload
body_of remove_all g payload = removing_all g
body_of sign g payload = signing g payload
body_of lock g payload = locking g payload
body_of unlock g payload = unlocking g payload

-- is the gateway in the lock state that a row needs?
abbrev pub fitting : Bool → Gateway → Bool
fitting false g = opened g
fitting true g = locked g

fitting-fit : (needs : Bool) (g : Gateway) → locked g ≡ needs → fitting needs g ≡ true
fitting-fit false g h = ap not h
fitting-fit true g h = h

fit-fitting : (needs : Bool) (g : Gateway) → fitting needs g ≡ true → locked g ≡ needs
fit-fitting false g h = not_true _ h
fit-fitting true g h = h

unfitting : (needs : Bool) (g : Gateway) → locked g ≢ needs → fitting needs g ≡ false
unfitting needs g n = by_test (fitting needs g) refl
  where
    by_test : (b : Bool) → fitting needs g ≡ b → b ≡ false
    by_test true t = absurd (n (fit-fitting needs g t))
    by_test false t = refl

rule-row : {byte : ℕ} {needs : Bool} {class : ℕ} (r : Row byte needs class) (g : Gateway) (payload : List ℕ) → Begins byte payload
    → rule g payload ≡ gated g (fitting needs g) class (body_of r g payload)
unfolding rule table row
rule-row list g payload b = rw (lt-ltb _ _ b.some_byte, b.first)
rule-row add g payload b = rw (lt-ltb _ _ b.some_byte, b.first)
rule-row add_constrained g payload b = rw (lt-ltb _ _ b.some_byte, b.first)
rule-row remove g payload b = rw (lt-ltb _ _ b.some_byte, b.first)
rule-row remove_all g payload b = rw (lt-ltb _ _ b.some_byte, b.first)
rule-row sign g payload b = rw (lt-ltb _ _ b.some_byte, b.first)
rule-row lock g payload b = rw (lt-ltb _ _ b.some_byte, b.first)
rule-row unlock g payload b = rw (lt-ltb _ _ b.some_byte, b.first)

-- a rule fails at once, or is that of a row
rule-cases : (P : Plan → Type 0) (g : Gateway) (payload : List ℕ) → P (fails g)
    → ((byte : ℕ) (needs : Bool) (class : ℕ) (r : Row byte needs class) → Begins byte payload → P (gated g (fitting needs g) class (body_of r g payload)))
    → P (rule g payload)
unfolding rule table row
rule-cases P g payload f h =
    cond_cases P (ltb 0 (length payload))
    (λ t.
    cond_cases P (eqb (get_or payload 0 0) 11) (at t list)
    (λ _. cond_cases P (eqb (get_or payload 0 0) 17) (at t add)
    (λ _. cond_cases P (eqb (get_or payload 0 0) 25) (at t add_constrained)
    (λ _. cond_cases P (eqb (get_or payload 0 0) 18) (at t remove)
    (λ _. cond_cases P (eqb (get_or payload 0 0) 19) (at t remove_all)
    (λ _. cond_cases P (eqb (get_or payload 0 0) 13) (at t sign)
    (λ _. cond_cases P (eqb (get_or payload 0 0) 22) (at t lock)
    (λ _. cond_cases P (eqb (get_or payload 0 0) 23) (at t unlock)
    (λ _. f)))))))))
    (λ _. f)
  where
    at : ltb 0 (length payload) ≡ true → {byte : ℕ} {needs : Bool} {class : ℕ} (r : Row byte needs class) → eqb (get_or payload 0 0) byte ≡ true
        → P (gated g (fitting needs g) class (body_of r g payload))
    at t {byte} {needs} {class} r e = h byte needs class r (record { some_byte = ltb-true _ _ t; first = eqb-true _ _ e })

pub row-rule : RowRule
unfolding gated
row-rule byte needs class r g payload begins =
    let is = rule-row r g payload begins in
    record {
      fit = λ h. ((λ granted. cond granted (body_of r g payload) (fails g)), rw (is, fitting-fit needs g h), refl);
      unfit = λ n. rw (is, unfitting needs g n);
    }

pub no_row : NoRow
no_row g payload none-begins = rule-cases (λ plan. plan ≡ land FAILURE g) g payload refl (λ byte needs class r begins. absurd (none-begins byte needs class r begins))

-- ## Past the gate

advance-locked : (reading : Millis) (g : Gateway) → locked (advance reading g) ≡ locked g
unfolding advance at_clock
advance-locked reading g = refl

-- the row's body, followed at the call's landing
abbrev pub body_result : {byte : ℕ} {needs : Bool} {class : ℕ} → Row byte needs class → Gateway → Call → Result
body_result r g c = follow (lent c.answers) (at_call g c) (body_of r (at_call g c) (payload_of c))

given_at : {A B : Type 0} (o : Option A) (a : A) (x : B) (f : A → B) → o ≡ some a → given o x f ≡ f a
given_at o a x f e = rw e

pub past_gate_lem : {byte : ℕ} {needs : Bool} {class : ℕ} (r : Row byte needs class) (g : Gateway) (c : Call) → PastGate g c → locked g ≡ needs → Begins byte (payload_of c)
    → call g c ≡ body_result r g c
unfolding call served gated follow lent
past_gate_lem {byte} {needs} {class} r g c past fit begins =
    let now : locked (at_call g c) ≡ needs = advance-locked c.reading g ∙ fit in
    rw (past.accepted, rule-row r (at_call g c) (payload_of c) begins, fitting-fit needs (at_call g c) now) (given_at c.answers.gate true _ _ past.gate)

-- a call is refused, fails at once, is at its row's gate, or past it
module _ (P : Result → Type 0) (g : Gateway) (c : Call) where
  gated-cases : {byte : ℕ} {needs : Bool} {class : ℕ} (r : Row byte needs class) → refusal g c ≡ none
      → P (record { outcome = lands FAILURE; gateway = at_call g c })
      → (locked g ≡ needs → c.answers.gate ≡ none → P (record { outcome = asks (gate class); gateway = at_call g c }))
      → (PastGate g c → locked g ≡ needs → P (body_result r g c))
      → P (follow (lent c.answers) (at_call g c) (gated (at_call g c) (fitting needs (at_call g c)) class (body_of r (at_call g c) (payload_of c))))
  unfolding gated follow lent
  gated-cases {byte} {needs} {class} r ok failing asking passing =
      cond_cases Follows (fitting needs (at_call g c))
      (λ fits.
      let fit : locked g ≡ needs = sym (advance-locked c.reading g) ∙ fit-fitting needs (at_call g c) fits in
      given-cases P c.answers.gate (asking fit)
      (λ granted says.
      cond_cases Follows granted (λ yes. passing (record { accepted = ok; gate = says ∙ ap some yes }) fit) (λ _. failing)))
      (λ _. failing)
    where
      Follows : Plan → Type 0
      Follows plan = P (follow (lent c.answers) (at_call g c) plan)

  -- of a row that is known
  row-cases : {byte : ℕ} {needs : Bool} {class : ℕ} (r : Row byte needs class) → Begins byte (payload_of c)
      → ((n : ℕ) → refusal g c ≡ some n → P (record { outcome = refused n; gateway = g }))
      → (refusal g c ≡ none → P (record { outcome = lands FAILURE; gateway = at_call g c }))
      → (refusal g c ≡ none → locked g ≡ needs → c.answers.gate ≡ none → P (record { outcome = asks (gate class); gateway = at_call g c }))
      → (PastGate g c → locked g ≡ needs → P (body_result r g c))
      → P (call g c)
  unfolding call served
  row-cases r begins refusing failing asking passing =
      given-cases P (refusal g c)
      (λ ok. rw (rule-row r (at_call g c) (payload_of c) begins) (gated-cases r ok (failing ok) (asking ok) passing))
      refusing

  -- of any row
  pub rows_cases :
      ((n : ℕ) → refusal g c ≡ some n → P (record { outcome = refused n; gateway = g }))
      → (refusal g c ≡ none → P (record { outcome = lands FAILURE; gateway = at_call g c }))
      → ((byte : ℕ) (needs : Bool) (class : ℕ) → Row byte needs class → Begins byte (payload_of c) → refusal g c ≡ none → locked g ≡ needs → c.answers.gate ≡ none
      → P (record { outcome = asks (gate class); gateway = at_call g c }))
      → ((byte : ℕ) (needs : Bool) (class : ℕ) (r : Row byte needs class) → Begins byte (payload_of c) → PastGate g c → locked g ≡ needs → P (body_result r g c))
      → P (call g c)
  unfolding call served follow
  rows_cases refusing failing asking passing =
      given-cases P (refusal g c)
      (λ ok.
      rule-cases (λ plan. P (follow (lent c.answers) (at_call g c) plan)) (at_call g c) (payload_of c) (failing ok) λ byte needs class r begins.
      gated-cases r ok (failing ok) (asking byte needs class r begins ok) (passing byte needs class r begins))
      refusing

-- ## What comes only from a body

-- no refusal, no FAILURE, no gate's question
pub record Beyond (o : Outcome) : Type 0 where
  pub not_refused : (n : ℕ) → o ≢ refused n
  pub not_failure : o ≢ lands FAILURE
  pub not_gate : (class : ℕ) → o ≢ asks (gate class)

pub landing_beyond : {l : Landing} → l ≢ FAILURE → Beyond (lands l)
landing_beyond {l} n = record {
  not_refused = λ m never. refused_not_lands m l (sym never);
  not_failure = λ e. n (same-landing e);
  not_gate = λ class never. asks_not_lands (gate class) l (sym never);
}

pub success_beyond : Beyond (lands SUCCESS)
success_beyond = landing_beyond (success_not_failure refl)

pub question_beyond : {q : Question} → ((class : ℕ) → q ≢ gate class) → Beyond (asks q)
question_beyond {q} n = record {
  not_refused = λ m never. refused_not_asks m q (sym never);
  not_failure = asks_not_lands q FAILURE;
  not_gate = λ class e. n class (same-question e);
}

-- the call went through its row's body
pub record Through {byte : ℕ} {needs : Bool} {class : ℕ} (r : Row byte needs class) (g : Gateway) (c : Call) : Type 0 where
  pub past : PastGate g c
  pub fit : locked g ≡ needs
  pub result : call g c ≡ body_result r g c

pub through : {byte : ℕ} {needs : Bool} {class : ℕ} (r : Row byte needs class) (g : Gateway) (c : Call) → Begins byte (payload_of c)
    → {o : Outcome} → (call g c).outcome ≡ o → Beyond o → Through r g c
through r g c begins {o} e b =
    row-cases (λ res. res.outcome ≡ o → Through r g c) g c r begins
    (λ n _ is. absurd (b.not_refused n (sym is)))
    (λ _ is. absurd (b.not_failure (sym is)))
    (λ _ _ _ is. absurd (b.not_gate _ (sym is)))
    (λ past fit _. record { past = past; fit = fit; result = past_gate_lem r g c past fit begins })
    e

-- the same where the row is not known
pub record ThroughSome (g : Gateway) (c : Call) : Type 0 where
  pub byte : ℕ
  pub needs : Bool
  pub class : ℕ
  pub row : Row byte needs class
  pub begins : Begins byte (payload_of c)
  pub through : Through row g c

pub through_some : (g : Gateway) (c : Call) {o : Outcome} → (call g c).outcome ≡ o → Beyond o → ThroughSome g c
through_some g c {o} e b =
    rows_cases (λ res. res.outcome ≡ o → ThroughSome g c) g c
    (λ n _ is. absurd (b.not_refused n (sym is)))
    (λ _ is. absurd (b.not_failure (sym is)))
    (λ byte needs class _ _ _ _ _ is. absurd (b.not_gate class (sym is)))
    (λ byte needs class r begins past fit _.
    record { byte = byte; needs = needs; class = class; row = r; begins = begins; through = record { past = past; fit = fit; result = past_gate_lem r g c past fit begins } })
    e

-- ## What SUCCESS shows

-- of the gateway after it
abbrev pub OnSuccess : (Gateway → Type 0) → Plan → Type 0
OnSuccess P = EveryLanding (λ l after. l ≡ SUCCESS → P after)

pub failure_shows : {X : Type 0} → FAILURE ≡ SUCCESS → X
failure_shows never = absurd (success_not_failure never refl)

-- what SUCCESS shows in a row's body, it shows of the row's call
pub success_shows : (P : Gateway → Type 0) {byte : ℕ} {needs : Bool} {class : ℕ} (r : Row byte needs class) (g : Gateway) (c : Call) → Begins byte (payload_of c)
    → OnSuccess P (body_of r (at_call g c) (payload_of c)) → (call g c).outcome ≡ lands SUCCESS → P (call g c).gateway
success_shows P r g c begins h e =
    let result = (through r g c begins e success_beyond).result in
    rw result (follow-has (λ l after. l ≡ SUCCESS → P after) (lent c.answers) (at_call g c) _ SUCCESS h (rw result at e) refl)
