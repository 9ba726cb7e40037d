-- The rows of the first byte: each row of the code is the rule's, since both go by the same tests in the same order.
use Prim.Native.Nat.{ℕ}
use mathlib.Core.Path.{◌≡◌, refl, sym, ap, ◌∙◌, subst}
use mathlib.Core.Bool.{Bool, true, false, not, cond}
use mathlib.Core.Option.{Option}
use mathlib.Core.List.{List}
use borrow.Author.Rules.{rules}
use borrow.Author.Tests.{not-true, not-false}
use lib.Dec.{eqb, ltb}
use lib.ListN.{length, get_or}
use Rattle.wire.proofs.Steps.{steps}
use Rattle.rule.specs.Gateway.{Gateway, locked, opened}
use Rattle.rule.specs.Rule.{gate, FAILURE, Plan, fails, gated, row, table, rule, listing, adding, removing, removing_all, signing, locking, unlocking}
use Rattle.rule.specs.Calls as rule
use Rattle.rule.specs.Calls.{given, lent, lent_length, asks, lands, follow, served}
use Rattle.table.specs.declared.State.{State}
use Rattle.table.specs.Meaning.{gateway_of}
use Rattle.table.specs.Soundness.{Sound}
use Rattle.requests.specs.declared.Said.{Said}
use Rattle.requests.specs.declared.Said.TheVariants.{Missing, No, Yes}
use Rattle.requests.specs.declared.Signed.{Signed}
use Rattle.requests.specs.declared.Signed.TheVariants as signed
use Rattle.requests.specs.declared.Answers.{Answers}
use Rattle.server.specs.declared.call.Row.{Row}
use Rattle.server.specs.declared.call.Row.TheVariants as rows
use Rattle.requests.specs.declared.Called.{Called}
use Rattle.requests.specs.declared.Outcome.TheVariants.{Gate}
use Rattle.requests.specs.Outcomes.{grant_of, signature_of, lent_of, code}
use Rattle.requests.specs.Ends.{Ends}
use Rattle.server.specs.Rows.{by_said, gated_row, row_of, row_in}
use Rattle.requests.proofs.EndSteps.{asked-ends}

-- ## The code's tests

pub said_missing : (s : Said) (asking go : Row) → s ≡ Missing → asking ≡ by_said s asking go
unfolding by_said
said_missing s asking go e = rw e

pub said_no : (s : Said) (asking go : Row) → s ≡ No → rows.Fails ≡ by_said s asking go
unfolding by_said
said_no s asking go e = rw e

pub said_yes : (s : Said) (asking go : Row) → s ≡ Yes → go ≡ by_said s asking go
unfolding by_said
said_yes s asking go e = rw e

pub not_fit : (b : Bool) → not b ≡ true → false ≡ b
not_fit b e = sym (not-true b e)

pub fit : (b : Bool) → not b ≡ false → true ≡ b
fit b e = sym (not-false b e)

-- a byte that is one number is no other
pub other : (b n m : ℕ) → b ≡ n → false ≡ eqb n m → false ≡ eqb b m
other b n m e f = rw e f

pub ruleset rowing = (steps, said_missing, said_no, said_yes, not_fit, fit, other, rules)

-- ## A row's result

module _ (a : rule.Answers) (g : Gateway) (p : List ℕ) where
  abbrev pub result_of : Row → rule.Result
  result_of rows.Fails = record { outcome = lands FAILURE; gateway = g }
  result_of (rows.Asks class) = record { outcome = asks (gate class); gateway = g }
  result_of rows.List = follow (lent a) g (listing g)
  result_of (rows.Add constrained) = follow (lent a) g (adding constrained g p)
  result_of rows.Remove = follow (lent a) g (removing g p)
  result_of rows.RemoveAll = follow (lent a) g (removing_all g)
  result_of rows.Sign = follow (lent a) g (signing g p)
  result_of rows.Lock = follow (lent a) g (locking g p)
  result_of rows.Unlock = follow (lent a) g (unlocking g p)

  module _ (s : Said) (says : a.gate ≡ grant_of s) where
    said_row : (class : ℕ) (body : Plan) (go : Row) → follow (lent a) g body ≡ result_of go → (v : Said)
        → given (grant_of v) (record { outcome = asks (gate class); gateway = g }) (λ granted. follow (lent a) g (cond granted body (fails g))) ≡ result_of (by_said v (rows.Asks class) go)
    unfolding follow by_said
    said_row class body go e Missing = refl
    said_row class body go e No = refl
    said_row class body go e Yes = e

    gate_row : (fit : Bool) (class : ℕ) (body : Plan) (go : Row) → follow (lent a) g body ≡ result_of go → follow (lent a) g (gated g fit class body) ≡ result_of (gated_row go class fit s)
    unfolding gated follow lent gated_row
    gate_row false class body go e = refl
    gate_row true class body go e = ap (λ (o : Option Bool). given o (record { outcome = asks (gate class); gateway = g }) (λ granted. follow (lent a) g (cond granted body (fails g)))) says ∙ said_row class body go e s

    none_fits : follow (lent a) g (fails g) ≡ result_of rows.Fails
    unfolding follow
    none_fits = refl

    cond-row : (b : Bool) (z q : Plan) (y w : Row) → follow (lent a) g z ≡ result_of y → follow (lent a) g q ≡ result_of w → follow (lent a) g (cond b q z) ≡ result_of (cond b w y)
    cond-row true z q y w e f = f
    cond-row false z q y w e f = e

    table-row : (first : ℕ) → follow (lent a) g (table g p first) ≡ result_of (row_of first (locked g) s)
    unfolding table row row_of
    table-row first =
        cond-row (eqb first 11) _ _ _ _
        (cond-row (eqb first 17) _ _ _ _
        (cond-row (eqb first 25) _ _ _ _
        (cond-row (eqb first 18) _ _ _ _
        (cond-row (eqb first 19) _ _ _ _
        (cond-row (eqb first 13) _ _ _ _
        (cond-row (eqb first 22) _ _ _ _
        (cond-row (eqb first 23) _ _ _ _
        none_fits
        (gate_row (locked g) 7 (unlocking g p) rows.Unlock refl))
        (gate_row (opened g) 6 (locking g p) rows.Lock refl))
        (gate_row (opened g) 5 (signing g p) rows.Sign refl))
        (gate_row (opened g) 4 (removing_all g) rows.RemoveAll refl))
        (gate_row (opened g) 3 (removing g p) rows.Remove refl))
        (gate_row (opened g) 2 (adding true g p) (rows.Add true) refl))
        (gate_row (opened g) 2 (adding false g p) (rows.Add false) refl))
        (gate_row (opened g) 1 (listing g) rows.List refl)

    rule-row : follow (lent a) g (rule g p) ≡ result_of (row_in p (locked g) s)
    unfolding rule row_in
    rule-row = cond-row (ltb 0 (length p)) _ _ _ _ none_fits (table-row (get_or p 0 0))

-- ## What is served

pub check_lent : (answers : Answers) (bytes : List ℕ) → (lent_of answers bytes).check ≡ grant_of answers.check
unfolding lent_of
check_lent answers bytes = refl

module _ (s : State) (x p : List ℕ) (answers : Answers) (bytes buffer : List ℕ) (r : Called) (y out : List ℕ) where
  abbrev g : Gateway
  g = gateway_of s x

  abbrev a : rule.Answers
  a = lent_of answers bytes

  abbrev Serves : Type 0
  Serves = Ends buffer r y out (served g (record { payload = p }) a)

  module _ (w : Row) (b : Bool) (known : b ≡ locked (gateway_of s x)) (by : w ≡ row_in p b answers.gate) where
    says : a.gate ≡ grant_of answers.gate
    unfolding lent_of
    says = refl

    pub served-row : (v : Row) → w ≡ v → Ends buffer r y out (result_of a g p v) → Serves
    unfolding served
    served-row v e h =
        let q : result_of a g p v ≡ follow (lent a) g (rule g p) =
        ap (result_of a g p) (sym e ∙ by ∙ ap (λ (k : Bool). row_in p k answers.gate) known) ∙ sym (rule-row a g p answers.gate says) in
        subst (Ends buffer r y out) q h

    pub served-asks : (class : ℕ) → w ≡ rows.Asks class → r ≡ record { outcome = Gate class; state = s } → y ≡ x → out ≡ buffer → Sound s x → Serves
    unfolding code
    served-asks class e f o q h = served-row (rows.Asks class) e (rw (f, o, q) (asked-ends buffer x (Gate class) s (gate class) refl h))

-- ## The signature that is lent

pub lent-missing : (s : Signed) (bytes : List ℕ) → s ≡ signed.Missing → 0 ≡ lent_length (signature_of s bytes)
unfolding lent_length
lent-missing s bytes e = rw e

pub lent_nothing : (s : Signed) (bytes : List ℕ) (n : ℕ) → s ≡ signed.Nothing n → 0 ≡ lent_length (signature_of s bytes)
unfolding lent_length
lent_nothing s bytes n e = rw e

pub lent-given : (s : Signed) (bytes : List ℕ) (n : ℕ) → s ≡ signed.Given n → length bytes ≡ lent_length (signature_of s bytes)
unfolding lent_length
lent-given s bytes n e = rw e

pub ruleset lending = (lent-missing, lent_nothing, lent-given, rules)
