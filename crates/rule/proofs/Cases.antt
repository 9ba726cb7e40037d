-- One case lemma for each way in which a definition goes on; those of the wire are passed on.
use Prim.Native.Nat.{ℕ}
use mathlib.Core.Path.{◌≡◌, refl}
use mathlib.Core.Option.{Option, none, some}
pub use Rattle.wire.proofs.Cases.{cond_cases, part-cases, number_cases, true_not_false, and_left, and_right, both_true, not_true}
use Rattle.std.proofs.Common.{Err, None, Ok, Some}
use Rattle.keys.specs.declared.addition.Carried.{Carried}
use Rattle.keys.specs.Additions.{Addition}
use Rattle.rule.specs.Gateway.{Found, found}
use Rattle.rule.specs.Rule.{added}
use Rattle.rule.specs.Calls.{given}

module _ {A : Type 0} (P : A → Type 0) where
  pub found-cases : (f : Found) {z : A} {next : ℕ → A} → (f ≡ None → P z) → ((i : ℕ) → f ≡ Some i → P (next i)) → P (found z f next)
  unfolding found
  found-cases (Some i) g h = h i refl
  found-cases None g h = g refl

  pub added-cases : (a : Addition) {z : A} {next : Carried → A} → P z → ((c : Carried) → a ≡ Ok c → P (next c)) → P (added z a next)
  unfolding added
  added-cases (Ok c) g h = h c refl
  added-cases (Err e) g h = g

  pub given-cases : {B : Type 0} (o : Option B) {z : A} {f : B → A} → (o ≡ none → P z) → ((b : B) → o ≡ some b → P (f b)) → P (given o z f)
  given-cases none g h = g refl
  given-cases (some b) g h = h b refl
