-- On a sound state and store an inner call is an outer one and leaves a sound one, so is every call of its run; and no second answer satisfies the outer
-- call's contract, so outer calls give the same. An outer call that was not refused has tested state and store. Assumed: outer calls that meet the
-- contracts of `first_call` and `call`, and inner ones of which `InnerCall` and `InnerFirstCall` hold.
use Prim.Native.Nat.{ℕ, ◌≤◌, ◌<◌}
use mathlib.Core.Path.{◌≡◌, refl, sym, ap, ◌∙◌, subst}
use mathlib.Core.Logic.{◌≢◌}
use mathlib.Core.Bool.{Bool, true, false}
use mathlib.Core.List.{List, [], ◌∷◌}
use native.Mathlib.Omega.{arith}
use borrow.Author.Tests.{ltb-true, ltb-false, eqb-true, eqb-false}
use lib.Dec.{eqb, ltb}
use lib.ListN.{length, get_or}
use Rattle.wire.specs.Limits.{store_size, reply_room}
use Rattle.rule.specs.Runs.{is_accepted}
use Rattle.rule.proofs.Cases.{true_not_false}
use Rattle.table.specs.declared.State.{State}
use Rattle.table.specs.Soundness.{sound_state, Sound}
use Rattle.table.proofs.TestLaws.{sound_state-rule}
use Rattle.table.proofs.WritingLaws.{fresh-means}
use Rattle.requests.specs.Outcomes.{outcome_for, outcome_in}
use Rattle.server.specs.Runs.{Gave, Step, ByCall, EndedWith, Accepted, giving}
use Rattle.server.specs.FirstPromises.{FirstStep, ByFirst, FirstEnded, first_giving, Whole, AnyCall, first, later, AnyRun, any_end_state, any_end_store}
use Rattle.server.specs.InnerPromises.{SameCalls, LikeOuter, InnerPromises}
use Rattle.server.proofs.Leavings.{no_second_answer, code-refusals}
use Rattle.server.proofs.FirstLaws.{whole_told}
use Rattle.server.proofs.FirstRuns.{call-first_promises}

-- ## What was not refused was tested

tested : (state : State) (store buffer : List ℕ) → (length buffer < reply_room → ⊥) → (reply_room ≤ length buffer → length store ≢ store_size → ⊥)
    → (reply_room ≤ length buffer → length store ≡ store_size → (Sound state store → ⊥) → ⊥) → Sound state store
tested state store buffer never-1 never_2 never_3 = by_room (ltb (length buffer) reply_room) refl
  where
    by_sound : reply_room ≤ length buffer → length store ≡ store_size → (b : Bool) → sound_state state store ≡ b → Sound state store
    by_sound room size true is = (sound_state-rule state store).0 is
    by_sound room size false is = absurd (never_3 room size (λ S. true_not_false (sym ((sound_state-rule state store).1 S) ∙ is)))

    by_size : reply_room ≤ length buffer → (b : Bool) → eqb (length store) store_size ≡ b → Sound state store
    by_size room true is = by_sound room (eqb-true (length store) store_size is) (sound_state state store) refl
    by_size room false is = absurd (never_2 room (eqb-false (length store) store_size is))

    by_room : (b : Bool) → ltb (length buffer) reply_room ≡ b → Sound state store
    by_room true is = absurd (never-1 (ltb-true (length buffer) reply_room is))
    by_room false is = by_size (ltb-false (length buffer) reply_room is) (eqb (length store) store_size) refl

call-tested : (state : State) (store : List ℕ) (k : Step) → ByCall state store k → Accepted k → Sound state store
unfolding is_accepted outcome_for
call-tested state store k m accepted =
    let r = code-refusals state store k m in
    tested state store k.buffer (λ a. never 1 (r.first a)) (λ a b. never 2 (r.second a b)) (λ a b c. never 3 (r.third a b c))
  where
    never : (n : ℕ) → EndedWith (0 ∷ n ∷ []) k → ⊥
    never n e = true_not_false (sym accepted ∙ ap (λ (vs : List ℕ). is_accepted (outcome_in vs k.gave.reply)) e)

first_tested : (state : State) (store : List ℕ) (f : FirstStep) (used : ℕ) (ended : List ℕ) → ByFirst state store f → FirstEnded (3 ∷ used ∷ ended) f → Sound state store
first_tested state store f used ended m e =
    let r = call-first_promises.refusals state store f m in
    tested state store f.buffer (λ a. never 1 (r.first whole a)) (λ a b. never 2 (r.second whole a b)) (λ a b c. never 3 (r.third whole a b c))
  where
    whole : Whole f
    whole = whole_told state store f m 3 (used ∷ ended) (omega arith) e

    never : (n : ℕ) → FirstEnded (2 ∷ n ∷ []) f → ⊥
    never n is = omega (arith, ap (λ (vs : List ℕ). get_or vs 0 0) (sym is ∙ e))

-- ## Of any kinds of calls

-- what has to be known of an inner call on a sound state and store
pub record InnerCall (Outer : State → List ℕ → Step → Type 0) (state : State) (store : List ℕ) (k : Step) : Type 0 where
  pub outer : Outer state store k
  pub sound : Sound k.gave.state k.gave.store
  pub never_2 : ¬ (EndedWith (0 ∷ 2 ∷ []) k)
  pub never_3 : ¬ (EndedWith (0 ∷ 3 ∷ []) k)

pub record InnerFirstCall (OuterFirst : State → List ℕ → FirstStep → Type 0) (state : State) (store : List ℕ) (f : FirstStep) : Type 0 where
  pub outer : OuterFirst state store f
  pub sound : Sound f.gave.state f.gave.store
  pub never_2 : ¬ (FirstEnded (2 ∷ 2 ∷ []) f)
  pub never_3 : ¬ (FirstEnded (2 ∷ 3 ∷ []) f)

module _ (OuterFirst : State → List ℕ → FirstStep → Type 0) (by_first : (state : State) (store : List ℕ) (f : FirstStep) → OuterFirst state store f → ByFirst state store f)
    (Outer : State → List ℕ → Step → Type 0) (by_call : (state : State) (store : List ℕ) (k : Step) → Outer state store k → ByCall state store k) where
  abbrev OuterRun : State → List ℕ → List AnyCall → Type 0
  OuterRun = AnyRun OuterFirst Outer

  -- two runs of the same calls give the same, if those behind the first call do
  no_calls : (ds : List AnyCall) → SameCalls [] ds → [] ≡ ds
  no_calls [] _ = refl
  no_calls (d ∷ ds) never = absurd never

  module _ (state : State) (store : List ℕ) (cs ds : List AnyCall) where
    same-calls : (k j : Step) → Outer state store k → Outer state store j → giving k j.gave ≡ j
        → OuterRun j.gave.state j.gave.store ds
        → (OuterRun k.gave.state k.gave.store ds → cs ≡ ds) → later k ∷ cs ≡ later j ∷ ds
    same-calls k j m n is run rest =
        let gave : k.gave ≡ j.gave = no_second_answer state store k j.gave (by_call state store k m) (subst (ByCall state store) (sym is) (by_call state store j n)) in
        let step : k ≡ j = ap (giving k) gave ∙ is in
        let behind = rest (subst (λ (g : Gave). OuterRun g.state g.store ds) (sym gave) run) in
        λ i. later (step i) ∷ behind i

    same-firsts : (f e : FirstStep) → OuterFirst state store f → OuterFirst state store e → first_giving f e.gave ≡ e
        → OuterRun e.gave.state e.gave.store ds
        → (OuterRun f.gave.state f.gave.store ds → cs ≡ ds) → first f ∷ cs ≡ first e ∷ ds
    same-firsts f e m n is run rest =
        let gave : f.gave ≡ e.gave = call-first_promises.no_second_answer state store f e.gave (by_first state store f m) (subst (ByFirst state store) (sym is) (by_first state store e n)) in
        let step : f ≡ e = ap (first_giving f) gave ∙ is in
        let behind = rest (subst (λ (g : Gave). OuterRun g.state g.store ds) (sym gave) run) in
        λ i. first (step i) ∷ behind i

  module _ (InnerFirst : State → List ℕ → FirstStep → Type 0) (inner_first : (state : State) (store : List ℕ) (f : FirstStep) → Sound state store → InnerFirst state store f → InnerFirstCall OuterFirst state store f)
      (Inner : State → List ℕ → Step → Type 0) (inner : (state : State) (store : List ℕ) (k : Step) → Sound state store → Inner state store k → InnerCall Outer state store k)
      (first_too : (state : State) (store : List ℕ) (f : FirstStep) → OuterFirst state store f → InnerFirst state store f)
      (call-too : (state : State) (store : List ℕ) (k : Step) → Outer state store k → Inner state store k) where
    abbrev Like : State → List ℕ → List AnyCall → Type 0
    Like = LikeOuter OuterFirst Outer InnerFirst Inner

    behind-call : (state : State) (store : List ℕ) (k : Step) (cs : List AnyCall) → InnerCall Outer state store k → Like k.gave.state k.gave.store cs → Like state store (later k ∷ cs)
    unfolding any_end_state any_end_store
    behind-call state store k cs c rest = record {
      is_outer = (c.outer, rest.is_outer);
      same_bytes = same;
      never_2 = (c.never_2, rest.never_2);
      never_3 = (c.never_3, rest.never_3);
      end_sound = rest.end_sound;
    }
      where
        same : (ds : List AnyCall) → OuterRun state store ds → SameCalls (later k ∷ cs) ds → later k ∷ cs ≡ ds
        same [] run never = absurd never
        same (first e ∷ ds) run never = absurd never
        same (later j ∷ ds) run alike = same-calls state store cs ds k j c.outer run.0 alike.0 run.1 (λ r. rest.same_bytes ds r alike.1)

    behind-first : (state : State) (store : List ℕ) (f : FirstStep) (cs : List AnyCall) → InnerFirstCall OuterFirst state store f → Like f.gave.state f.gave.store cs → Like state store (first f ∷ cs)
    unfolding any_end_state any_end_store
    behind-first state store f cs c rest = record {
      is_outer = (c.outer, rest.is_outer);
      same_bytes = same;
      never_2 = (c.never_2, rest.never_2);
      never_3 = (c.never_3, rest.never_3);
      end_sound = rest.end_sound;
    }
      where
        same : (ds : List AnyCall) → OuterRun state store ds → SameCalls (first f ∷ cs) ds → first f ∷ cs ≡ ds
        same [] run never = absurd never
        same (first e ∷ ds) run alike = same-firsts state store cs ds f e c.outer run.0 alike.0 run.1 (λ r. rest.same_bytes ds r alike.1)
        same (later j ∷ ds) run never = absurd never

    like_outer : (cs : List AnyCall) (state : State) (store : List ℕ) → Sound state store → AnyRun InnerFirst Inner state store cs → Like state store cs
    unfolding any_end_state any_end_store
    like_outer [] state store S run = record { is_outer = tt; same_bytes = λ ds _. no_calls ds; never_2 = tt; never_3 = tt; end_sound = S }
    like_outer (later k ∷ cs) state store S run =
        let c = inner state store k S run.0 in
        behind-call state store k cs c (like_outer cs k.gave.state k.gave.store c.sound run.1)
    like_outer (first f ∷ cs) state store S run =
        let c = inner_first state store f S run.0 in
        behind-first state store f cs c (like_outer cs f.gave.state f.gave.store c.sound run.1)

    pub inner_promises : InnerPromises OuterFirst Outer InnerFirst Inner
    inner_promises = record {
      from_sound = λ state store cs S run. like_outer cs state store S run;
      from_fresh = λ cs run. like_outer cs _ _ fresh-means.sound run;
      after_test = λ state store cs is run. like_outer cs state store ((sound_state-rule state store).0 is) run;
      after_call = λ state store k cs m accepted run.
          like_outer (later k ∷ cs) state store (call-tested state store k (by_call state store k m) accepted) (call-too state store k m, run);
      after_first = λ state store f used ended cs m begun run.
          like_outer (first f ∷ cs) state store (first_tested state store f used ended (by_first state store f m) begun) (first_too state store f m, run);
      call-too = call-too;
      first_too = first_too;
    }
