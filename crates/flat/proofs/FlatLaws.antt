-- The flat values say what they stand for: answers, outcomes, the split and first calls case by case. Assumes nothing.
use Prim.Native.Nat.{ℕ, ◌≤◌, ◌<◌}
use mathlib.Core.Path.{◌≡◌, refl, sym, ap, ◌∙◌}
use mathlib.Core.Bool.{Bool, true, false}
use mathlib.Core.List.{List, ◌∷◌}
use mathlib.Core.Logic.{◌⊎◌, inl, inr}
use native.Mathlib.Omega.{arith}
use Rattle.wire.specs.declared.frame.Split.{Split}
use Rattle.wire.specs.declared.frame.Split.TheVariants.{MoreNeeded, TooLong, Frame}
use Rattle.wire.specs.Frames.{split_of, frame_payload}
use Rattle.wire.proofs.Format.{part_length}
use Rattle.wire.proofs.FrameLaws.{frame_read}
use Rattle.requests.specs.declared.Said.{Said}
use Rattle.requests.specs.declared.Said.TheVariants as said
use Rattle.requests.specs.declared.Confirmation.{Confirmation}
use Rattle.std.specs.Prelude.{Option, Some, None}
use Rattle.requests.specs.declared.Signed.{Signed}
use Rattle.requests.specs.declared.Signed.TheVariants as signed
use Rattle.requests.specs.declared.Outcome.TheVariants.{Refused, Gate, Check, Confirm, Sign, Reply, Close}
use Rattle.requests.proofs.OutcomeLaws.{outcomes_apart}
use Rattle.server.specs.declared.first.First.TheVariants as first
use Rattle.server.proofs.FirstLaws.{firsts_apart}
use Rattle.flat.specs.Flat.{said_of, confirmed_of, signed_of, answers_of, flat_of, flat_split, split_as, flat_first}
use Rattle.flat.specs.Promises.{grant_number, OthersMissing, said_number, confirmed_number, confirmed_for, signed_number, signed_for, EveryAnswer, flat_values, SameValues, FlatApart, FlatUnused, SplitsAs, SplitRule, flat_first_values, SameFirstValues, FlatFirstApart, FlatFirstUnused}
use Rattle.flat.proofs.FlatSteps.{told-nothing}

-- ## Answers

pub others-missing : OthersMissing
unfolding said_of confirmed_of signed_of
others-missing = record {
  gate_and_check = λ n u. sym (told-nothing n _ _ _ u.not_no u.not_yes);
  confirmation = λ n number u. sym (told-nothing n _ _ _ u.not_no u.not_yes);
  signature = λ n number u. sym (told-nothing n _ _ _ u.not_no u.not_yes);
}

said_back : (x : Said) → said_of (said_number x) ≡ x
unfolding said_of
said_back said.Missing = refl
said_back said.No = refl
said_back said.Yes = refl

confirmed_back : (x : Option Confirmation) → confirmed_of (confirmed_number x) (confirmed_for x) ≡ x
unfolding confirmed_of
confirmed_back None = refl
confirmed_back (Some c) = back c.granted refl
  where
    back : (b : Bool) → c.granted ≡ b → confirmed_of (grant_number c.granted) c.number ≡ Some c
    back true e = rw e refl
    back false e = rw e refl

signed_back : (x : Signed) → signed_of (signed_number x) (signed_for x) ≡ x
unfolding signed_of
signed_back signed.Missing = refl
signed_back (signed.Nothing n) = refl
signed_back (signed.Given n) = refl

pub every_answer : EveryAnswer
unfolding answers_of
every_answer a = rw (said_back a.gate, said_back a.check, confirmed_back a.confirmation, signed_back a.signature)

-- ## The outcome

pub same-values : SameValues
unfolding flat_of
same-values (Refused n) = refl
same-values (Gate class) = refl
same-values (Check from to) = refl
same-values (Confirm n) = refl
same-values (Sign n from to hash) = refl
same-values (Reply n) = refl
same-values Close = refl

pub flat_apart : FlatApart
flat_apart a b e = outcomes_apart a b (sym (same-values a) ∙ ap flat_values e ∙ same-values b)

-- a kind that is none of these
beyond : (kind : ℕ) → (kind ≡ 2) ⊎ (5 ≤ kind) → (kind ≡ 2 → ⊥) → kind < 5 → ⊥
beyond kind (inl is) other below = other is
beyond kind (inr is) other below = omega arith

between : (kind : ℕ) → (kind ≤ 1) ⊎ ((kind ≡ 3) ⊎ (kind ≡ 6)) → 1 < kind → (kind ≡ 3 → ⊥) → (kind ≡ 6 → ⊥) → ⊥
between kind (inl is) above third sixth = omega arith
between kind (inr (inl is)) above third sixth = third is
between kind (inr (inr is)) above third sixth = sixth is

pub flat_unused : FlatUnused
unfolding flat_of
flat_unused (Refused n) = record { hash = λ _. refl; number = λ never. absurd (beyond _ never (omega arith) (omega arith)); part = λ _. (refl, refl); reply = λ _. refl }
flat_unused (Gate class) = record { hash = λ _. refl; number = λ never. absurd (beyond _ never (omega arith) (omega arith)); part = λ _. (refl, refl); reply = λ _. refl }
flat_unused (Check from to) = record { hash = λ _. refl; number = λ _. refl; part = λ never. absurd (between _ never (omega arith) (omega arith) (omega arith)); reply = λ never. absurd (omega (arith, never)) }
flat_unused (Confirm n) = record { hash = λ _. refl; number = λ never. absurd (beyond _ never (omega arith) (omega arith)); part = λ _. (refl, refl); reply = λ _. refl }
flat_unused (Sign n from to hash) = record {
  hash = λ never. absurd (never refl);
  number = λ never. absurd (beyond _ never (omega arith) (omega arith));
  part = λ never. absurd (between _ never (omega arith) (omega arith) (omega arith));
  reply = λ never. absurd (omega (arith, never));
}
flat_unused (Reply n) = record { hash = λ _. refl; number = λ _. refl; part = λ never. absurd (between _ never (omega arith) (omega arith) (omega arith)); reply = λ _. refl }
flat_unused Close = record { hash = λ _. refl; number = λ _. refl; part = λ _. (refl, refl); reply = λ _. refl }

-- ## The split

split_cases : (s : List ℕ) (x : Split) → split_of s ≡ x → SplitsAs s
unfolding flat_split split_as frame_payload
split_cases s MoreNeeded e = record { kind = rw e; payload = rw e; whole = rw e (λ never. absurd (omega (arith, never))); not_whole = rw e (λ _. (refl, refl)); within = rw e (omega arith) }
split_cases s TooLong e = record { kind = rw e; payload = rw e; whole = rw e (λ never. absurd (omega (arith, never))); not_whole = rw e (λ _. (refl, refl)); within = rw e (omega arith) }
split_cases s (Frame from to) e =
    let w = frame_read s from to e in
    let l = part_length s from to (omega (arith, w.start, w.end)) w.within in
    record {
      kind = rw e;
      payload = rw e;
      whole = rw e (λ _. (w.start, omega (arith, w.start, w.end, l)));
      not_whole = rw e (λ never. absurd (never refl));
      within = rw e w.within;
    }

pub split_rule : SplitRule
split_rule s = split_cases s (split_of s) refl

-- ## The first call

pub same-first_values : SameFirstValues
unfolding flat_first
same-first_values first.MoreNeeded = refl
same-first_values first.TooLong = refl
same-first_values (first.Refused n) = refl
same-first_values (first.Began used o) = ap (λ (vs : List ℕ). 3 ∷ used ∷ vs) (same-values o)

pub flat_first-apart : FlatFirstApart
flat_first-apart a b e = firsts_apart a b (sym (same-first_values a) ∙ ap flat_first_values e ∙ same-first_values b)

pub flat_first-unused : FlatFirstUnused
unfolding flat_first
flat_first-unused first.MoreNeeded = record { used = λ _. refl; outcome = λ _. refl; refused = λ never. absurd (omega (arith, never)); begun = λ never. absurd (omega (arith, never)) }
flat_first-unused first.TooLong = record { used = λ _. refl; outcome = λ _. refl; refused = λ never. absurd (omega (arith, never)); begun = λ never. absurd (omega (arith, never)) }
flat_first-unused (first.Refused n) = record { used = λ _. refl; outcome = λ never. absurd (omega (arith, never)); refused = λ _. refl; begun = λ never. absurd (omega (arith, never)) }
flat_first-unused (first.Began used o) = record { used = λ never. absurd (never refl); outcome = λ never. absurd (omega (arith, never)); refused = λ never. absurd (omega (arith, never)); begun = λ _. flat_unused o }
