-- The walk over constraints: one law for each thing that the next byte can be.
use Prim.Native.Nat.{ℕ, ◌+◌, ◌-◌, ◌<◌, ◌≤◌}
use mathlib.Core.Path.{◌≡◌, refl, sym, ap, ◌∙◌}
use mathlib.Core.List.{List, [], ◌∷◌}
use mathlib.Core.Bool.{Bool, true, false}
use native.Mathlib.Omega.{arith}
use native.Mathlib.Numerals.{add-one}
use borrow.Author.Rules.{rules}
use borrow.Author.Tests.{ne_eqb}
use lib.ListN.{length, get_or, drop, length-drop, drop_of_length-le}
use lib.Seq.{drop-cons}
use Rattle.std.specs.Option.{is_some}
use Rattle.std.proofs.Common.{Result, Err, Some, None}
use Rattle.wire.specs.declared.read.Cursor.{Cursor}
use Rattle.wire.specs.declared.read.Fault.{Fault}
use Rattle.wire.specs.Numbers.{be_at}
use Rattle.wire.specs.Steps.{got}
use Rattle.wire.specs.Read.{number_at}
use Rattle.wire.proofs.Reading.{fault_one, number_read, number_short, number_cut}
use Rattle.wire.proofs.Cases.{true_not_false}
use Rattle.wire.proofs.Format.{four}
use Rattle.keys.specs.declared.constraints.Walk.{Walk}
use Rattle.keys.specs.declared.constraints.Walk.TheVariants.{Done, Duplicate, Unknown, Cut}
use Rattle.keys.specs.Constraints.{Lifetime, walk_of, seconds_of}

pub cut_short : (at : ℕ) (s : List ℕ) (c : Bool) → length s < 4 → seconds_of at s c ≡ Cut at
unfolding seconds_of
cut_short at [] c h = refl
cut_short at (w ∷ []) c h = refl
cut_short at (w ∷ x ∷ []) c h = refl
cut_short at (w ∷ x ∷ y ∷ []) c h = refl
cut_short at (w ∷ x ∷ y ∷ z ∷ s) c h = absurd (omega arith)

next : (s : List ℕ) (at : ℕ) → at < length s → drop at s ≡ get_or s at 0 ∷ drop (at + 1) s
next s at h = rw (add-one, drop-cons s at 0)

none_of : (l : Lifetime) → is_some l ≡ false → l ≡ None
none_of None e = refl
none_of (Some seconds) e = absurd (true_not_false e)

-- what is left to walk yields w: `search walk` closes each need of the loop
module _ (s : List ℕ) (at : ℕ) (l : Lifetime) (c : Bool) (w : Walk) (e : walk_of at (drop at s) l c ≡ w) where
  pub ended : length s ≤ at → Done l c ≡ w
  unfolding walk_of
  ended h = rw (← e, drop_of_length-le s h)

  module _ (h : at < length s) where
    pub confirmed : get_or s at 0 ≡ 2 → walk_of (at + 1) (drop (at + 1) s) l true ≡ w
    unfolding walk_of
    confirmed two = rw (← e, next s at h, two)

    pub unknown : (get_or s at 0 ≡ 1 → ⊥) → (get_or s at 0 ≡ 2 → ⊥) → Unknown at ≡ w
    unfolding walk_of
    unknown one two = rw (← e, next s at h, ne_eqb _ _ one, ne_eqb _ _ two)

    module _ (one : get_or s at 0 ≡ 1) where
      pub twice : (b : Bool) → b ≡ is_some l → b ≡ true → Duplicate at ≡ w
      unfolding walk_of
      twice b f t = by l refl (sym f ∙ t)
        where
          by : (m : Lifetime) → l ≡ m → is_some m ≡ true → Duplicate at ≡ w
          by None k never = absurd (true_not_false (sym never))
          by (Some seconds) k _ = rw (← e, k, next s at h, one)

      at_seconds : l ≡ None → seconds_of (at + 1) (drop (at + 1) s) c ≡ w
      unfolding walk_of
      at_seconds k = rw (← e, k, next s at h, one)

      module _ (n : Result (ℕ × Cursor) Fault) (b : Bool) (i : b ≡ is_some l) (none : b ≡ false) (f : n ≡ number_at s (at + 1)) where
        -- a fault of the seconds is where they begin
        pub cut : (d : Fault) → n ≡ Err d → Cut d.at ≡ w
        cut d g =
            let past = number_short s (at + 1) d.at (sym f ∙ g) in
            let there = number_cut s (at + 1) past in
            let p : d.at ≡ at + 1 = fault_one (sym g ∙ f ∙ sym there) in
            ap Cut p ∙ sym (cut_short (at + 1) (drop (at + 1) s) c (simp length-drop (omega arith))) ∙ at_seconds (none_of l (sym i ∙ none))

        pub limited : (count : ℕ) (next : Cursor) → n ≡ got count next → walk_of next.at (drop next.at s) (Some (record { count = count })) c ≡ w
        unfolding seconds_of be_at
        limited count next g =
            let r = number_read s (at + 1) count next (sym f ∙ g) in
            rw (r.number, r.place) (rw (four s (at + 1) r.within) at (at_seconds (none_of l (sym i ∙ none))))

-- behind the seconds less is left
pub less : (s : List ℕ) (at : ℕ) (n : Result (ℕ × Cursor) Fault) (count : ℕ) (next : Cursor) → at < length s → n ≡ number_at s (at + 1) → n ≡ got count next → length s - next.at < length s - at
less s at n count next h f g = let r = number_read s (at + 1) count next (sym f ∙ g) in omega arith

pub ruleset walk = (ended, confirmed, unknown, twice, cut, limited, less, rules)
