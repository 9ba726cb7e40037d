-- A first call by what the splitter says: more needed and too long leave all as it was; a whole frame is the call on its payload, whose laws carry over.
-- Assumed: a first call that meets the contract of `first_call` (`ByFirst`).
use Prim.Native.Nat.{ℕ, ◌+◌, ◌≤◌, ◌<◌}
use mathlib.Core.Path.{◌≡◌, refl, sym, ap, ◌∙◌, subst}
use mathlib.Core.Logic.{◌⊎◌, inl, inr}
use mathlib.Core.Bool.{Bool, true, false, not, cond}
use mathlib.Core.Option.{Option, none, some}
use mathlib.Core.List.{List, [], ◌∷◌}
use native.Mathlib.Omega.{arith}
use borrow.Author.Tests.{le-ltb, ltb-true, ltb-false, eqb-true, eqb-false}
use lib.Dec.{eqb, ltb}
use lib.ListN.{length, get_or, drop}
use lib.Seq.{drop_at}
use Rattle.wire.specs.declared.frame.Split.{Split}
use Rattle.wire.specs.declared.frame.Split.TheVariants as split
use Rattle.wire.specs.Limits.{payload_limit, store_size, signature_limit, reply_room}
use Rattle.wire.specs.Write.{string, write}
use Rattle.wire.specs.Frames.{split_of, split_number, frame_payload}
use Rattle.wire.proofs.FrameLaws.{WholeFrame, whole_frame, splits}
use Rattle.rule.specs.declared.Millis.{Millis}
use Rattle.rule.specs.Gateway.{Gateway, advance}
use Rattle.rule.specs.Rule.{gate, FAILURE}
use Rattle.rule.specs.Calls as rule
use Rattle.rule.specs.Calls.{given, lent_length, refusal_of, refused, asks, lands, Result, served, call}
use Rattle.rule.proofs.Cases.{cond_cases, true_not_false}
use Rattle.rule.proofs.PositionLaws.{some_not_none}
use Rattle.rule.proofs.RowLaws.{rows_cases}
use Rattle.table.specs.declared.State.{State}
use Rattle.table.specs.Meaning.{gateway_of}
use Rattle.table.specs.Soundness.{sound_state}
use Rattle.table.proofs.TestLaws.{sound_state-rule}
use Rattle.requests.specs.declared.Signed.TheVariants.{Missing, Given}
use Rattle.requests.specs.declared.Answers.{Answers}
use Rattle.requests.specs.declared.Outcome.{Outcome}
use Rattle.requests.specs.declared.Outcome.TheVariants.{Gate, Check, Confirm, Sign, Reply, Close}
use Rattle.requests.specs.declared.Outcome.TheVariants as outcome
use Rattle.requests.specs.Ends.{Done, laid_out}
use Rattle.requests.specs.Outcomes.{lent_of, code, written, outcome_values}
use Rattle.requests.proofs.OutcomeLaws.{word_in, word_in_lem}
use Rattle.server.specs.declared.first.First.{First}
use Rattle.server.specs.declared.first.First.TheVariants.{MoreNeeded, TooLong, Refused, Began}
use Rattle.server.specs.Calls.{call_of}
use Rattle.server.specs.First.{first_values, nothing_lent, first_in, FirstDone, first_by, first_of}
use Rattle.server.specs.Runs.{Gave, Step, ByCall, EndedWith, Unchanged, EndsAs, as_call, giving}
use Rattle.server.specs.FirstPromises.{FirstsApart, FirstStep, first_giving, ByFirst, FirstEnded, Whole, payload_in, FirstUnchanged, OnPayload, AsCalled}
use Rattle.server.specs.FirstPromises.{GateOrFailure, ended_in, step_in, is_made, steps_in}
use Rattle.server.specs.FirstPromises.{FirstNoSecondAnswer, FirstIsTwoSteps, FirstRefusals, FirstRefusedRule, FirstUses, FirstUsesFrame, FirstAsks, FirstBegun, FirstMade}
use Rattle.server.proofs.Leavings.{gave_of, call-gives, refused_first, code-refusals, code-refusal_leaves, step-ends}

-- ## Its number and values

first_for : ℕ → ℕ → Outcome → First
first_for kind n o = cond (eqb kind 0) MoreNeeded (cond (eqb kind 1) TooLong (cond (eqb kind 2) (Refused n) (Began n o)))

first_from : List ℕ → First
first_from vs = first_for (get_or vs 0 0) (get_or vs 1 0) (word_in (drop 2 vs))

first_from_lem : (x : First) → first_from (first_values x) ≡ x
unfolding first_for first_from
first_from_lem MoreNeeded = refl
first_from_lem TooLong = refl
first_from_lem (Refused n) = refl
first_from_lem (Began used o) = ap (Began used) (word_in_lem o)

pub firsts_apart : FirstsApart
firsts_apart a b e = sym (first_from_lem a) ∙ ap first_from e ∙ first_from_lem b

-- an outcome that is a refusal, or none
refusal-said : (used n : ℕ) (o : Outcome) → outcome_values o ≡ 0 ∷ n ∷ [] → first_values (first_in used o) ≡ 2 ∷ n ∷ []
unfolding first_in
refusal-said used n (outcome.Refused m) e = ap (λ (vs : List ℕ). 2 ∷ get_or vs 1 0 ∷ []) e
refusal-said used n (Gate class) e = absurd (omega (arith, ap (λ (vs : List ℕ). get_or vs 0 0) e))
refusal-said used n (Check from to) e = absurd (omega (arith, ap (λ (vs : List ℕ). get_or vs 0 0) e))
refusal-said used n (Confirm m) e = absurd (omega (arith, ap (λ (vs : List ℕ). get_or vs 0 0) e))
refusal-said used n (Sign m from to hash) e = absurd (omega (arith, ap (λ (vs : List ℕ). get_or vs 0 0) e))
refusal-said used n (Reply m) e = absurd (omega (arith, ap (λ (vs : List ℕ). get_or vs 0 0) e))
refusal-said used n Close e = absurd (omega (arith, ap (λ (vs : List ℕ). get_or vs 0 0) e))

-- what is said of an outcome with the bytes that its frame takes
record Values (used : ℕ) (o : Outcome) (values : List ℕ) : Type 0 where
  made : ltb 1 (get_or values 0 0) ≡ true
  ended : ended_in values ≡ outcome_values o
  number : (n : ℕ) → values ≡ 2 ∷ n ∷ [] → outcome_values o ≡ 0 ∷ n ∷ []
  begun : ((n : ℕ) → ¬ (outcome_values o ≡ 0 ∷ n ∷ [])) → values ≡ 3 ∷ used ∷ outcome_values o
  uses : get_or values 0 0 ≡ 3 → get_or values 1 0 ≡ used

began : (used : ℕ) (o : Outcome) → Values used o (3 ∷ used ∷ outcome_values o)
began used o = record { made = refl; ended = refl; number = λ n e. absurd (omega (arith, ap (λ (vs : List ℕ). get_or vs 0 0) e)); begun = λ _. refl; uses = λ _. refl }

said : (used : ℕ) (o : Outcome) → Values used o (first_values (first_in used o))
unfolding first_in
said used (outcome.Refused n) = record {
  made = refl;
  ended = refl;
  number = λ m e. ap (λ (vs : List ℕ). 0 ∷ get_or vs 1 0 ∷ []) e;
  begun = λ never. absurd (never n refl);
  uses = λ never. absurd (omega (arith, never));
}
said used (Gate class) = began used (Gate class)
said used (Check from to) = began used (Check from to)
said used (Confirm n) = began used (Confirm n)
said used (Sign n from to hash) = began used (Sign n from to hash)
said used (Reply n) = began used (Reply n)
said used Close = began used Close

-- ## The contract

abbrev gave_first : FirstDone → Gave
gave_first d = record { ended = first_values d.first; state = d.state; store = d.store; reply = d.reply }

-- as one equation
first_gives : (state : State) (store : List ℕ) (f : FirstStep) → ByFirst state store f → f.gave ≡ gave_first (first_of state store f.bytes f.reading f.buffer)
first_gives state store f m =
    let values = m.ended_is ∙ ap first_values m.meets.first_is in
    λ j. record { ended = values j; state = m.meets.state_is j; store = m.meets.store_is j; reply = m.meets.reply_is j }

pub no_second_first : FirstNoSecondAnswer ByFirst
no_second_first state store f other m n = first_gives state store f m ∙ sym (first_gives state store (first_giving f other) n)

-- what answers and signature are lent is all that a call knows of them
module _ (state : State) (store payload : List ℕ) (reading : Millis) (buffer : List ℕ) where
  lent-decides : (a b : Answers) (s t : List ℕ) → lent_of a s ≡ lent_of b t → call_of state store payload reading a s buffer ≡ call_of state store payload reading b t buffer
  unfolding call_of
  lent-decides a b s t e =
      ap (λ (l : rule.Answers). given (refusal_of (length buffer) (length store) (sound_state state store) (length payload) (lent_length l.signature))
      (laid_out buffer (served (advance reading (gateway_of state store)) (record { payload = payload }) l))
      (λ n. record { called = record { outcome = outcome.Refused n; state = state }; store = store; reply = buffer })) e

pub nothing-is_lent : lent_of nothing_lent [] ≡ rule.nothing_lent
unfolding lent_of
nothing-is_lent = refl

-- ## By what the splitter says

module _ (state : State) (store : List ℕ) (f : FirstStep) (m : ByFirst state store f) where
  -- the call on its payload
  abbrev on_payload : Done
  on_payload = call_of state store (payload_in f) f.reading nothing_lent [] f.buffer

  abbrev frame_end : ℕ
  frame_end = 4 + length (payload_in f)

  gave_by : (x : Split) → split_of f.bytes ≡ x → f.gave ≡ gave_first (first_by state store f.bytes f.reading f.buffer x)
  unfolding first_of
  gave_by x e = first_gives state store f m ∙ ap (λ (y : Split). gave_first (first_by state store f.bytes f.reading f.buffer y)) e

  -- nothing was done
  record NoneMade (n : ℕ) : Type 0 where
    told : FirstEnded (n ∷ []) f
    untouched : FirstUnchanged state store f

  nothing-done : (x : First) → f.gave ≡ record { ended = first_values x; state = state; store = store; reply = f.buffer } → FirstUnchanged state store f
  nothing-done x e = record { state_stays = ap (λ (g : Gave). g.state) e; store_stays = ap (λ (g : Gave). g.store) e; buffer_stays = ap (λ (g : Gave). g.reply) e }

  -- a call was made
  record Made : Type 0 where
    whole : WholeFrame f.bytes
    gave_is : f.gave ≡ record { ended = first_values (first_in frame_end on_payload.called.outcome); state = on_payload.called.state; store = on_payload.store; reply = on_payload.reply }

  when_more : split_number (split_of f.bytes) ≡ 0 → NoneMade 0
  unfolding first_by
  when_more few = by (split_of f.bytes) refl few
    where
      by : (x : Split) → split_of f.bytes ≡ x → split_number x ≡ 0 → NoneMade 0
      by split.MoreNeeded e _ = record { told = ap (λ (g : Gave). g.ended) (gave_by split.MoreNeeded e); untouched = nothing-done MoreNeeded (gave_by split.MoreNeeded e) }
      by split.TooLong e never = absurd (omega (arith, never))
      by (split.Frame from to) e never = absurd (omega (arith, never))

  when_long : split_number (split_of f.bytes) ≡ 1 → NoneMade 1
  unfolding first_by
  when_long long = by (split_of f.bytes) refl long
    where
      by : (x : Split) → split_of f.bytes ≡ x → split_number x ≡ 1 → NoneMade 1
      by split.MoreNeeded e never = absurd (omega (arith, never))
      by split.TooLong e _ = record { told = ap (λ (g : Gave). g.ended) (gave_by split.TooLong e); untouched = nothing-done TooLong (gave_by split.TooLong e) }
      by (split.Frame from to) e never = absurd (omega (arith, never))

  when_whole : Whole f → Made
  unfolding first_by
  when_whole whole = let w = whole_frame f.bytes whole in record { whole = w; gave_is = gave_by (split.Frame 4 frame_end) w.is }

  -- one of the three
  by_split : {X : Type 0} → (NoneMade 0 → X) → (NoneMade 1 → X) → (Whole f → X) → X
  by_split {X} more long whole = by (split_of f.bytes) refl
    where
      by : (x : Split) → split_of f.bytes ≡ x → X
      by split.MoreNeeded e = more (when_more (ap split_number e))
      by split.TooLong e = long (when_long (ap split_number e))
      by (split.Frame from to) e = whole (ap split_number e)

  -- a number above 1 comes of a whole frame alone
  pub whole_told : (n : ℕ) (values : List ℕ) → 1 < n → FirstEnded (n ∷ values) f → Whole f
  whole_told n values above e =
      by_split
      (λ o. absurd (omega (arith, ap (λ (vs : List ℕ). get_or vs 0 0) (sym o.told ∙ e))))
      (λ o. absurd (omega (arith, ap (λ (vs : List ℕ). get_or vs 0 0) (sym o.told ∙ e))))
      (λ whole. whole)

  -- the call that was made, as a step
  abbrev made : Step
  made = giving (step_in f) (gave_of on_payload)

  made_by-call : ByCall state store made
  made_by-call = record { outcome = on_payload.called.outcome; ended_is = refl; meets = record { outcome_is = refl; state_is = refl; store_is = refl; reply_is = refl } }

  -- what it said of it
  made-said : Whole f → Values frame_end on_payload.called.outcome f.gave.ended
  made-said whole = subst (Values frame_end on_payload.called.outcome) (sym (ap (λ (g : Gave). g.ended) (when_whole whole).gave_is)) (said frame_end on_payload.called.outcome)

  -- ## Two steps

  same-call : (k : Step) → OnPayload f k → call_of state store k.payload k.reading k.answers k.signature k.buffer ≡ on_payload
  same-call k on =
      rw (on.payload_is, on.reading_is, on.buffer_is)
      (lent-decides state store (payload_in f) f.reading f.buffer k.answers nothing_lent k.signature [] (on.nothing_lent ∙ sym nothing-is_lent))

  as_called : Whole f → (k : Step) → ByCall state store k → OnPayload f k → AsCalled f k
  as_called whole k by on =
      let gives : k.gave ≡ gave_of on_payload = call-gives state store k by ∙ ap gave_of (same-call k on) in
      let ends : k.gave.ended ≡ outcome_values on_payload.called.outcome = ap (λ (g : Gave). g.ended) gives in
      let told : f.gave.ended ≡ first_values (first_in frame_end on_payload.called.outcome) = ap (λ (g : Gave). g.ended) (when_whole whole).gave_is in
      let says = made-said whole in
      record {
        refused = λ n e. told ∙ refusal-said frame_end n on_payload.called.outcome (sym ends ∙ e);
        begun = λ never. says.begun (λ n e. never n (ends ∙ e)) ∙ ap (λ (vs : List ℕ). 3 ∷ frame_end ∷ vs) (sym ends);
        state_is = ap (λ (g : Gave). g.state) (when_whole whole).gave_is ∙ sym (ap (λ (g : Gave). g.state) gives);
        store_is = ap (λ (g : Gave). g.store) (when_whole whole).gave_is ∙ sym (ap (λ (g : Gave). g.store) gives);
        reply_is = ap (λ (g : Gave). g.reply) (when_whole whole).gave_is ∙ sym (ap (λ (g : Gave). g.reply) gives);
      }

  -- the call that was made is such a one
  made-called : Whole f → AsCalled f made
  made-called whole = as_called whole made made_by-call (record { payload_is = refl; reading_is = refl; nothing_lent = nothing-is_lent; buffer_is = refl })

pub first_is_two_steps : FirstIsTwoSteps ByFirst ByCall
first_is_two_steps state store f m = record {
  more_needed = λ few. let o = when_more state store f m few in (o.told, o.untouched);
  too_long = λ long. let o = when_long state store f m long in (o.told, o.untouched);
  whole = as_called state store f m;
}

-- ## Refusals

missing_not_given : (i : ℕ) → Missing ≡ Given i → ⊥
missing_not_given i never = let z : ◌≡◌ {A = ℕ} 0 1 = cc in omega arith

-- with a payload and a signature within their limits, one of the first three
first_three : (buffer store payload lent n : ℕ) (is_sound : Bool) → payload ≤ payload_limit → lent ≤ signature_limit → refusal_of buffer store is_sound payload lent ≡ some n
    → (1 ≤ n) × (n ≤ 3)
unfolding refusal_of
first_three buffer store payload lent n is_sound short few =
    cond_cases Within (ltb buffer reply_room) (λ _. is 1 (omega arith) (omega arith))
    (λ _. cond_cases Within (not (eqb store store_size)) (λ _. is 2 (omega arith) (omega arith))
    (λ _. cond_cases Within (not is_sound) (λ _. is 3 (omega arith) (omega arith))
    (λ _. rw (le-ltb payload_limit payload short, le-ltb signature_limit lent few) (λ never. absurd (some_not_none (sym never))))))
  where
    Within : Option ℕ → Type 0
    Within o = o ≡ some n → (1 ≤ n) × (n ≤ 3)

    is : (i : ℕ) → 1 ≤ i → i ≤ 3 → Within (some i)
    is i low high e = let same : i ≡ n = cc in (omega arith, omega arith)

module _ (state : State) (store : List ℕ) (f : FirstStep) (m : ByFirst state store f) where
  -- how the call that was made ended where it was refused
  refused_made : Whole f → (n : ℕ) → FirstEnded (2 ∷ n ∷ []) f → EndedWith (0 ∷ n ∷ []) (made state store f m)
  refused_made whole n e = (made-said state store f m whole).number n e

  untouched_by : Whole f → (n : ℕ) → FirstEnded (2 ∷ n ∷ []) f → FirstUnchanged state store f
  untouched_by whole n e =
      let alike = made-called state store f m whole in
      let stays : Unchanged state store (made state store f m) = code-refusal_leaves state store (made state store f m) n (made_by-call state store f m) (refused_made whole n e) in
      record {
        state_stays = alike.state_is ∙ stays.state_stays;
        store_stays = alike.store_is ∙ stays.store_stays;
        buffer_stays = alike.reply_is ∙ stays.buffer_stays;
      }

  one_to_three : Whole f → (n : ℕ) → FirstEnded (2 ∷ n ∷ []) f → (1 ≤ n) × (n ≤ 3)
  unfolding lent_of lent_length
  one_to_three whole n e =
      first_three (length f.buffer) (length store) (length (payload_in f)) 0 n (sound_state state store) (whole_frame f.bytes whole).limit (omega arith)
      (refused_first state store (made state store f m) n (made_by-call state store f m) (refused_made whole n e))

pub first_refused : FirstRefusedRule ByFirst
first_refused state store f n m e =
    let whole = whole_told state store f m 2 (n ∷ []) (omega arith) e in
    let within = one_to_three state store f m whole n e in
    record {
      only_whole = whole;
      from_1 = within.0;
      to_3 = within.1;
      leaves = untouched_by state store f m whole n e;
    }

pub first_refusals : FirstRefusals ByFirst
first_refusals state store f m =
    let k = made state store f m in
    let calls = code-refusals state store k (made_by-call state store f m) in
    record {
      first = λ whole a. (made-called state store f m whole).refused 1 (calls.first a);
      second = λ whole a b. (made-called state store f m whole).refused 2 (calls.second a b);
      third = λ whole a b never. (made-called state store f m whole).refused 3 (calls.third a b never);
      accepted = λ a S n e.
          let whole = whole_told state store f m 2 (n ∷ []) (omega arith) e in
          calls.accepted a S (whole_frame f.bytes whole).limit (λ i never. absurd (missing_not_given i never)) n (refused_made state store f m whole n e);
    }

-- ## The bytes used

pub first_uses : FirstUses ByFirst
first_uses state store f used ended m e =
    let whole = whole_told state store f m 3 (used ∷ ended) (omega arith) e in
    let w = whole_frame f.bytes whole in
    let is : used ≡ 4 + length (payload_in f) =
    sym (ap (λ (vs : List ℕ). get_or vs 1 0) e) ∙ (made-said state store f m whole).uses (ap (λ (vs : List ℕ). get_or vs 0 0) e) in
    record { used_is = is; payload_is = rw is w.payload; within = rw is w.within }

pub first_uses_frame : FirstUsesFrame ByFirst
first_uses_frame state store f payload rest used ended m short bytes e =
    let uses = first_uses state store f used ended m e in
    let holds : frame_payload f.bytes ≡ payload = ap frame_payload bytes ∙ ((splits payload short).followed rest).payload_is in
    let end : used ≡ 4 + length payload = uses.used_is ∙ ap (λ (p : List ℕ). 4 + length p) holds in
    let size : used ≡ length (string payload) = omega arith in
    record { frame_only = size; rest-is = ap (drop used) bytes ∙ drop_at (string payload) rest used (sym size) }

-- ## The first outcome

-- nothing is lent: the rule asks for the gate or fails
abbrev FirstWord : rule.Outcome → Type 0
FirstWord o = ((n : ℕ) × (o ≡ refused n)) ⊎ (((class : ℕ) × (o ≡ asks (gate class))) ⊎ (o ≡ lands FAILURE))

first_word : (g : Gateway) (c : rule.Call) → c.answers.gate ≡ none → FirstWord (call g c).outcome
first_word g c missing =
    rows_cases (λ r. FirstWord r.outcome) g c
    (λ n _. inl (n, refl))
    (λ _. inr (inr refl))
    (λ byte needs class _ _ _ _ _. inr (inl (class, refl)))
    (λ byte needs class _ _ past _. absurd (some_not_none (sym past.gate ∙ missing)))

pub first_asks : FirstAsks ByFirst
unfolding code written write lent_of
first_asks state store f S m whole room =
    let k = made state store f m in
    let by = made_by-call state store f m in
    let alike = made-called state store f m whole in
    let calls = code-refusals state store k by in
    let never = calls.accepted room S (whole_frame f.bytes whole).limit (λ i never. absurd (missing_not_given i never)) in
    by_word (step-ends state store S k by) never (alike.begun never) alike.reply_is (first_word (gateway_of state store) (as_call k) refl)
  where
    ruled : Result
    ruled = call (gateway_of state store) (as_call (made state store f m))

    by_word : EndsAs (made state store f m) ruled → ((n : ℕ) → ¬ (EndedWith (0 ∷ n ∷ []) (made state store f m)))
        → FirstEnded (3 ∷ (4 + length (payload_in f)) ∷ (made state store f m).gave.ended) f → f.gave.reply ≡ (made state store f m).gave.reply → FirstWord ruled.outcome
        → GateOrFailure f
    by_word ends never told wrote (inl (n, is)) = absurd (never n (ends.ended ∙ ap (λ (o : rule.Outcome). outcome_values (code o)) is))
    by_word ends never told wrote (inr (inl (class, is))) =
        inl (class, told ∙ ap (λ (vs : List ℕ). 3 ∷ (4 + length (payload_in f)) ∷ vs) (ends.ended ∙ ap (λ (o : rule.Outcome). outcome_values (code o)) is))
    by_word ends never told wrote (inr (inr is)) =
        inr (
          told ∙ ap (λ (vs : List ℕ). 3 ∷ (4 + length (payload_in f)) ∷ vs) (ends.ended ∙ ap (λ (o : rule.Outcome). outcome_values (code o)) is),
          wrote ∙ ends.bytes ∙ ap (λ (o : rule.Outcome). written o f.buffer) is,
        )

pub first_begun : FirstBegun ByFirst
first_begun state store f used ended m e = by_room (ltb (length f.buffer) reply_room) refl
  where
    never : (n : ℕ) → FirstEnded (2 ∷ n ∷ []) f → ⊥
    never n is = omega (arith, ap (λ (vs : List ℕ). get_or vs 0 0) (sym is ∙ e))

    whole : Whole f
    whole = whole_told state store f m 3 (used ∷ ended) (omega arith) e

    by_sound : reply_room ≤ length f.buffer → length store ≡ store_size → (b : Bool) → sound_state state store ≡ b → GateOrFailure f
    by_sound room size true is = first_asks state store f ((sound_state-rule state store).0 is) m whole room
    by_sound room size false is =
        absurd (never 3 ((first_refusals state store f m).third whole room size (λ S. true_not_false (sym ((sound_state-rule state store).1 S) ∙ is))))

    by_size : reply_room ≤ length f.buffer → (b : Bool) → eqb (length store) store_size ≡ b → GateOrFailure f
    by_size room true is = by_sound room (eqb-true (length store) store_size is) (sound_state state store) refl
    by_size room false is = absurd (never 2 ((first_refusals state store f m).second whole room (eqb-false (length store) store_size is)))

    by_room : (b : Bool) → ltb (length f.buffer) reply_room ≡ b → GateOrFailure f
    by_room true is = absurd (never 1 ((first_refusals state store f m).first whole (ltb-true (length f.buffer) reply_room is)))
    by_room false is = by_size (ltb-false (length f.buffer) reply_room is) (eqb (length store) store_size) refl

-- ## In a run

pub first_made : FirstMade ByFirst
unfolding steps_in
first_made state store f cs m = record {
  whole = λ whole. ap (λ (b : Bool). cond b (step_in f ∷ steps_in cs) (steps_in cs)) (made-said state store f m whole).made;
  other = λ other.
      ap (λ (b : Bool). cond b (step_in f ∷ steps_in cs) (steps_in cs))
      (by_split state store f m (λ o. ap (λ (vs : List ℕ). ltb 1 (get_or vs 0 0)) o.told) (λ o. ap (λ (vs : List ℕ). ltb 1 (get_or vs 0 0)) o.told)
      (λ whole. absurd (other whole)));
  later-too = λ k. refl;
}

-- a first call that made a call is that call; one that made none left all as it was
pub record ByMade (state : State) (store : List ℕ) (f : FirstStep) : Type 0 where
  pub step : is_made f ≡ true → ByCall state store (step_in f)
  pub stays : is_made f ≡ false → FirstUnchanged state store f

pub by_made : (state : State) (store : List ℕ) (f : FirstStep) → ByFirst state store f → ByMade state store f
by_made state store f m =
    by_split state store f m
    (λ o. record { step = λ never. absurd (true_not_false (sym never ∙ ap (λ (vs : List ℕ). ltb 1 (get_or vs 0 0)) o.told)); stays = λ _. o.untouched })
    (λ o. record { step = λ never. absurd (true_not_false (sym never ∙ ap (λ (vs : List ℕ). ltb 1 (get_or vs 0 0)) o.told)); stays = λ _. o.untouched })
    (λ whole. record {
      step = λ _. record {
        outcome = (on_payload state store f m).called.outcome;
        ended_is = (made-said state store f m whole).ended;
        meets = record {
          outcome_is = refl;
          state_is = ap (λ (g : Gave). g.state) (when_whole state store f m whole).gave_is;
          store_is = ap (λ (g : Gave). g.store) (when_whole state store f m whole).gave_is;
          reply_is = ap (λ (g : Gave). g.reply) (when_whole state store f m whole).gave_is;
        };
      };
      stays = λ never. absurd (true_not_false (sym (made-said state store f m whole).made ∙ never));
    })
