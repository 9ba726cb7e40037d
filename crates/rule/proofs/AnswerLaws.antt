-- Numbered answers count for their own number alone.
use Prim.Native.Nat.{ℕ}
use mathlib.Core.Path.{refl}
use mathlib.Core.Option.{Option}
use borrow.Author.Tests.{eq-eqb, ne_eqb}
use Rattle.rule.specs.Calls.{Numbered, for_number, lent}
use Rattle.rule.specs.Refusals.{CountsFor, NumberedAnswers}

counts_for : {A : Type 0} (given : Option (Numbered A)) (n : ℕ) → CountsFor given n (for_number n given)
unfolding for_number
counts_for given n = record {
  own = λ a e. rw (e, eq-eqb n n refl);
  other = λ m a d e. rw (e, ne_eqb m n d);
  missing = λ e. rw e;
}

pub numbered-answers : NumberedAnswers
unfolding lent
numbered-answers answers = record {
  gates = λ class. refl;
  checks = λ from to. refl;
  confirmations = counts_for answers.confirmation;
  signatures = λ n from to hash. counts_for answers.signature n;
}
