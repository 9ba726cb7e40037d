-- What a refusal and its absence say, and that a call is refused by nothing but a refusal.
use Prim.Native.Nat.{ℕ, ◌≤◌}
use native.Mathlib.Omega.{arith}
use mathlib.Core.Path.{◌≡◌, sym, ◌∙◌}
use mathlib.Core.Logic.{◌≢◌}
use mathlib.Core.Bool.{true, false, not}
use mathlib.Core.Option.{Option, none, some}
use borrow.Author.Tests.{eqb-true, ltb-false, not-false, not-true}
use lib.Dec.{eqb, ltb}
use lib.ListN.{length}
use Rattle.wire.specs.Limits.{payload_limit, store_size, signature_limit, reply_room}
use Rattle.rule.specs.Gateway.{Gateway, advance}
use Rattle.rule.specs.Soundness.{sound}
use Rattle.rule.specs.Rule.{Question, Answer, Plan, land, ask, rule}
use Rattle.rule.specs.Calls.{lent, lent_length, refusal_of, Call, refused, Result, follow, served, refusal, call}
use Rattle.rule.proofs.Cases.{cond_cases, given-cases}
use Rattle.rule.proofs.Plans.{refused_not_lands, refused_not_asks}
use Rattle.rule.proofs.PositionLaws.{some_not_none}

-- what holds of a call that no refusal meets
pub record Accepted (g : Gateway) (c : Call) : Type 0 where
  pub buffer : reply_room ≤ c.buffer
  pub store : c.store ≡ store_size
  pub state : sound g ≡ true
  pub payload : length c.frame.payload ≤ payload_limit
  pub lent-short : lent_length c.answers.signature ≤ signature_limit

pub accepted : (g : Gateway) (c : Call) → refusal g c ≡ none → Accepted g c
unfolding refusal refusal_of
accepted g c =
    cond_cases None (ltb c.buffer reply_room) (λ _. some_refusal 1) λ buffer.
    cond_cases None (not (eqb c.store store_size)) (λ _. some_refusal 2) λ store.
    cond_cases None (not (sound g)) (λ _. some_refusal 3) λ state.
    cond_cases None (ltb payload_limit (length c.frame.payload)) (λ _. some_refusal 4) λ payload.
    cond_cases None (ltb signature_limit (lent_length c.answers.signature)) (λ _. some_refusal 5) λ short _.
    record {
      buffer = ltb-false _ _ buffer;
      store = eqb-true _ _ (not-false _ store);
      state = not-false _ state;
      payload = ltb-false _ _ payload;
      lent-short = ltb-false _ _ short;
    }
  where
    None : Option ℕ → Type 0
    None o = o ≡ none → Accepted g c

    some_refusal : (n : ℕ) → None (some n)
    some_refusal n never = absurd (some_not_none never)

-- refusal 3 is of a state that is not sound
pub refusal-3 : (g : Gateway) (c : Call) → refusal g c ≡ some 3 → sound g ≡ false
unfolding refusal refusal_of
refusal-3 g c =
    cond_cases Third (ltb c.buffer reply_room) (λ _. other 1 (omega arith)) λ _.
    cond_cases Third (not (eqb c.store store_size)) (λ _. other 2 (omega arith)) λ _.
    cond_cases Third (not (sound g)) (λ f _. not-true (sound g) f) λ _.
    cond_cases Third (ltb payload_limit (length c.frame.payload)) (λ _. other 4 (omega arith)) λ _.
    cond_cases Third (ltb signature_limit (lent_length c.answers.signature)) (λ _. other 5 (omega arith)) λ _ never.
    absurd (some_not_none (sym never))
  where
    Third : Option ℕ → Type 0
    Third o = o ≡ some 3 → sound g ≡ false

    other : (n : ℕ) → n ≢ 3 → Third (some n)
    other n d e = let is : n ≡ 3 = cc in absurd (d is)

-- a plan refuses nothing
pub follow-not_refused : (lent : (q : Question) → Option (Answer q)) (g : Gateway) (plan : Plan) (n : ℕ) → (follow lent g plan).outcome ≢ refused n
unfolding follow
follow-not_refused lent g (land l after) n = λ never. refused_not_lands n l (sym never)
follow-not_refused lent g (ask q onwards) n =
    given-cases (λ (r : Result). r.outcome ≢ refused n) (lent q) (λ _ never. refused_not_asks n q (sym never)) (λ a _. follow-not_refused lent g (onwards a) n)

pub refused_by : (g : Gateway) (c : Call) (n : ℕ) → (call g c).outcome ≡ refused n → refusal g c ≡ some n
unfolding call served
refused_by g c n =
    given-cases (λ (r : Result). r.outcome ≡ refused n → refusal g c ≡ some n) (refusal g c)
    (λ _ never. absurd (follow-not_refused (lent c.answers) (advance c.reading g) (rule (advance c.reading g) c.frame.payload) n never))
    (λ m e is. e ∙ same_number m is)
  where
    same_number : (m : ℕ) → refused m ≡ refused n → ◌≡◌ {A = Option ℕ} (some m) (some n)
    same_number m is = cc
