-- The one-at-a-time rule asks at most three questions, by walking the table; a call asks exactly what is needed and not lent, by following the plan.
use Prim.Native.Nat.{ℕ, suc, ◌-◌, ◌≤◌, zero-le, suc-le-suc}
use native.Mathlib.Nat.{le_step}
use mathlib.Core.Path.{◌≡◌, sym, subst}
use mathlib.Core.Bool.{Bool, true, false, cond}
use mathlib.Core.Option.{Option, none, some}
use mathlib.Core.List.{List}
use lib.ListN.{length}
use lib.Dec.{leb, ltb, eqb}
use Rattle.wire.specs.Limits.{passphrase_limit, last_number}
use Rattle.wire.specs.Read.{cut_of, same, string_at, number_at}
use Rattle.keys.specs.Kinds.{blob_of}
use Rattle.keys.specs.Additions.{addition_at}
use Rattle.rule.specs.Gateway.{Entry, Gateway, locked, opened, advance, seek, holds, entry_with, place_for}
use Rattle.rule.specs.Soundness.{fit}
use Rattle.rule.specs.Rule.{Question, gate, check, confirmation, signature, Answer, Landing, Plan, land, ask, fails, listing, removing, removing_all, locking, unlocking, hash_of, signed, signing_data, confirming, signing, entry_of, storing, adding, gated, row, table, rule}
use Rattle.rule.specs.Calls.{given, lent, asks, Result, follow, served, refusal, call}
use Rattle.rule.specs.Runs.{Oracle}
use Rattle.rule.specs.Order.{Needs, here, behind, QuestionRule, questions, AtMostThree}
use Rattle.rule.proofs.Cases.{cond_cases, part-cases, number_cases, found-cases, added-cases, given-cases}
use Rattle.rule.proofs.Plans.{asks_not_lands, refused_not_asks}

-- ## How many

module _ (oracle : Oracle) (g : Gateway) where
  abbrev AtMost : ℕ → Plan → Type 0
  AtMost n plan = questions oracle plan ≤ n

  land_asks : (n : ℕ) (l : Landing) (after : Gateway) → AtMost n (land l after)
  unfolding questions
  land_asks n l after = zero-le

  ask_asks : (n : ℕ) (q : Question) (onwards : Answer q → Plan) → ((a : Answer q) → AtMost n (onwards a)) → AtMost (suc n) (ask q onwards)
  unfolding questions
  ask_asks n q onwards h = suc-le-suc (h (oracle q))

  cond-asks : (n : ℕ) (b : Bool) (plan : Plan) → AtMost n plan → AtMost n (cond b plan (fails g))
  cond-asks n b plan h = cond_cases (AtMost n) b (λ _. h) (λ _. land_asks n _ g)

  data_asks : (payload : List ℕ) (n at : ℕ) → AtMost 1 (signing_data g payload n at)
  unfolding signing_data signed
  data_asks payload n at =
      part-cases (AtMost 1) (string_at payload at) (λ _ _. land_asks 1 _ g) λ f t k _.
      number_cases (AtMost 1) (number_at payload k.at) (λ _ _. land_asks 1 _ g) λ flags end _.
      ask_asks 0 (signature n f t (hash_of flags)) (signed g) signed-asks
    where
      signed-asks : (a : Option (List ℕ)) → AtMost 0 (signed g a)
      signed-asks none = land_asks 0 _ g
      signed-asks (some blob) = land_asks 0 _ g

  signing-asks : (payload : List ℕ) → AtMost 2 (signing g payload)
  unfolding signing confirming
  signing-asks payload =
      part-cases (AtMost 2) (string_at payload 1) (λ _ _. land_asks 2 _ g) λ f t k _.
      by_key (entry_with (cut_of payload f t) g.entries) k.at
    where
      by_key : (o : Option Entry) (at : ℕ) → AtMost 2 (confirming g payload o at)
      by_key none at = land_asks 2 _ g
      by_key (some e) at =
          let signer = data_asks payload e.number at in
          cond_cases (AtMost 2) e.confirm (λ _. ask_asks 1 (confirmation e.number) _ (λ granted. cond-asks 1 granted _ signer)) (λ _. le_step signer)

  adding-asks : (constrained : Bool) (payload : List ℕ) → AtMost 2 (adding constrained g payload)
  unfolding adding storing
  adding-asks constrained payload =
      added-cases (AtMost 2) (addition_at payload 1 constrained) (land_asks 2 _ g) λ c _.
      let e = entry_of g payload c (blob_of payload 1 c.places) in
      cond-asks 2 (fit e.blob e.fields e.comment) _
      (cond-asks 2 (ltb g.next last_number) _
      (found-cases (AtMost 2) (place_for e g.entries) (λ _. land_asks 2 _ g) λ i _.
      ask_asks 1 (check 1 c.places.end) _ (λ granted. cond-asks 1 granted _ (land_asks 1 _ _))))

  removing-asks : (payload : List ℕ) → AtMost 2 (removing g payload)
  unfolding removing
  removing-asks payload =
      part-cases (AtMost 2) (string_at payload 1) (λ _ _. land_asks 2 _ g) λ f t k _.
      found-cases (AtMost 2) (seek (holds (cut_of payload f t)) 0 g.entries) (λ _. land_asks 2 _ g) (λ i _. land_asks 2 _ _)

  locking-asks : (payload : List ℕ) → AtMost 2 (locking g payload)
  unfolding locking
  locking-asks payload =
      part-cases (AtMost 2) (string_at payload 1) (λ _ _. land_asks 2 _ g) λ f t k _.
      cond-asks 2 (leb (t - f) passphrase_limit) _ (land_asks 2 _ _)

  unlocking-asks : (payload : List ℕ) → AtMost 2 (unlocking g payload)
  unfolding unlocking
  unlocking-asks payload =
      part-cases (AtMost 2) (string_at payload 1) (λ _ _. land_asks 2 _ g) λ f t k _.
      cond-asks 2 (same g.lock (cut_of payload f t)) _ (land_asks 2 _ _)

  row-asks : (first byte : ℕ) (fit : Bool) (class : ℕ) (body below : Plan) → AtMost 2 body → AtMost 3 below → AtMost 3 (row g first byte fit class body below)
  unfolding row gated
  row-asks first byte fit class body below h k =
      cond_cases (AtMost 3) (eqb first byte) (λ _. cond-asks 3 fit _ (ask_asks 2 (gate class) _ (λ granted. cond-asks 2 granted body h))) (λ _. k)

  rule-asks : (payload : List ℕ) → AtMost 3 (rule g payload)
  unfolding rule table listing removing_all
  rule-asks payload =
      cond-asks 3 (ltb 0 (length payload)) _
      (row-asks _ 11 (opened g) 1 _ _ (land_asks 2 _ g)
      (row-asks _ 17 (opened g) 2 _ _ (adding-asks false payload)
      (row-asks _ 25 (opened g) 2 _ _ (adding-asks true payload)
      (row-asks _ 18 (opened g) 3 _ _ (removing-asks payload)
      (row-asks _ 19 (opened g) 4 _ _ (land_asks 2 _ _)
      (row-asks _ 13 (opened g) 5 _ _ (signing-asks payload)
      (row-asks _ 22 (opened g) 6 _ _ (locking-asks payload)
      (row-asks _ 23 (locked g) 7 _ _ (unlocking-asks payload)
      (land_asks 3 _ g)))))))))

pub at_most_three : AtMostThree
at_most_three = rule-asks

-- ## Which

module _ (lent : (q : Question) → Option (Answer q)) (g : Gateway) (q : Question) where
  same-question : (p : Question) → asks p ≡ asks q → p ≡ q
  same-question p e = cc

  -- what is asked is needed and not lent
  asked-needed : (plan : Plan) → (follow lent g plan).outcome ≡ asks q → Needs lent plan q × (lent q ≡ none)
  unfolding follow
  asked-needed (land l after) = λ never. absurd (asks_not_lands q l (sym never))
  asked-needed (ask p onwards) =
      given-cases (λ (r : Result). r.outcome ≡ asks q → Needs lent (ask p onwards) q × (lent q ≡ none)) (lent p)
      (λ unlent e. subst (λ q. Needs lent (ask p onwards) q × (lent q ≡ none)) (same-question p e) (here p onwards, unlent))
      (λ a given e. let (needed, unlent) = asked-needed (onwards a) e in (behind p onwards a q given needed, unlent))

-- and what is needed and not lent is asked
needed_asked : {lent : (q : Question) → Option (Answer q)} (g : Gateway) {plan : Plan} {q : Question}
    → Needs lent plan q → lent q ≡ none → (follow lent g plan).outcome ≡ asks q
unfolding follow
needed_asked g (here q onwards) unlent = rw unlent
needed_asked g (behind p onwards a q given needed) unlent = rw given (needed_asked g needed unlent)

pub question_rule : QuestionRule
unfolding call served
question_rule g c q =
    let now = advance c.reading g in
    let plan = rule now c.frame.payload in (
      given-cases (λ (r : Result). r.outcome ≡ asks q → (refusal g c ≡ none) × Needs (lent c.answers) plan q × (lent c.answers q ≡ none)) (refusal g c)
          (λ ok e. let (needed, unlent) = asked-needed (lent c.answers) now q plan e in (ok, needed, unlent))
          (λ n _ never. absurd (refused_not_asks n q never)),
      (λ (ok, needed, unlent). rw ok (needed_asked now needed unlent)),
    )
