-- The place of a number among those of the keys is where the search for its key ends.
use Prim.Native.Nat.{ℕ, suc, ◌+◌}
use mathlib.Core.Path.{◌≡◌, refl, sym, ap, ◌∙◌}
use mathlib.Core.Bool.{Bool, true, false, not, cond}
use mathlib.Core.List.{List, [], ◌∷◌, map}
use native.Mathlib.Omega.{arith}
use borrow.Author.Tests.{ltb-true, ltb-false, lt-ltb, le-ltb}
use lib.Dec.{ltb, eqb}
use lib.ListN.{length, take}
use Rattle.std.specs.List.{position, position_or_len}
use Rattle.std.specs.declared.option.Option.{Option}
use Rattle.std.specs.declared.option.Option.TheVariants.{Some, None}
use Rattle.rule.specs.Gateway.{Found}
use Rattle.std.specs.Prelude.{Some, None}
use Rattle.rule.specs.Gateway.{Entry as Key, seek}
use Rattle.table.specs.declared.State.{State}
use Rattle.table.specs.Entries.{count_of}
use Rattle.table.specs.Meaning.{gateway_of}
use Rattle.soundness.proofs.ApartLaws.{number_of, numbers_listed}
use Rattle.lookups.specs.Told.{has_number}

-- behind the first i keys
abbrev placed : ℕ → Option ℕ → Found
placed i None = None
placed i (Some j) = Some (i + j)

-- a place among those behind the first key
behind : (i place len : ℕ) (t : Bool) → ltb place len ≡ t → placed (suc i) (cond t (Some place) None) ≡ placed i (cond (ltb (1 + place) (suc len)) (Some (1 + place)) None)
behind i place len true e = let h = ltb-true place len e in rw (lt-ltb (1 + place) (suc len) (omega arith)) (ap Some (omega arith))
behind i place len false e = let h = ltb-false place len e in rw (le-ltb (1 + place) (suc len) (omega arith))

seek_by : (n : ℕ) (ks : List Key) (i : ℕ) → seek (has_number n) i ks ≡ placed i (position (λ m. eqb m n) (map number_of ks))
seek_by n [] i = refl
seek_by n (k ∷ ks) i = by_test (eqb k.number n) (seek_by n ks (suc i))
  where
    by_test : (t : Bool) → seek (has_number n) (suc i) ks ≡ placed (suc i) (position (λ m. eqb m n) (map number_of ks))
        → cond t (Some i) (seek (has_number n) (suc i) ks) ≡ placed i (let at : ℕ = cond (not t) (1 + position_or_len (λ m. eqb m n) (map number_of ks)) 0 in cond (ltb at (suc (length (map number_of ks)))) (Some at) None)
    by_test true rest = rw (lt-ltb 0 (suc (length (map number_of ks))) (omega arith)) (ap Some (omega arith))
    by_test false rest = rest ∙ behind i (position_or_len (λ m. eqb m n) (map number_of ks)) (length (map number_of ks)) _ refl

-- .. by the column of numbers
pub seek_listed : (s : State) (x : List ℕ) (number n : ℕ) (r : Option ℕ) → n ≡ count_of s.columns.numbers → r ≡ position (λ m. eqb m number) (take n s.columns.numbers)
    → seek (has_number number) 0 (gateway_of s x).entries ≡ placed 0 r
seek_listed s x number n r counted e =
    let listed = numbers_listed s x _ _ _ _ (record { numbers_are = refl; blobs_are = refl; fields_are = refl; comments_are = refl }) in
    seek_by number (gateway_of s x).entries 0 ∙ ap (λ (ns : List ℕ). placed 0 (position (λ m. eqb m number) ns)) (listed ∙ ap (λ (m : ℕ). take m s.columns.numbers) (sym counted)) ∙ ap (placed 0) (sym e)

module _ (s : State) (x : List ℕ) (number n : ℕ) (r : Option ℕ) (counted : n ≡ count_of s.columns.numbers) (e : r ≡ position (λ m. eqb m number) (take n s.columns.numbers)) where
  pub number_at : (i : ℕ) → r ≡ Some i → seek (has_number number) 0 (gateway_of s x).entries ≡ Some i
  number_at i is = let from_first : 0 + i ≡ i = omega arith in seek_listed s x number n r counted e ∙ ap (placed 0) is ∙ ap Some from_first

  pub number_nowhere : r ≡ None → seek (has_number number) 0 (gateway_of s x).entries ≡ None
  number_nowhere is = seek_listed s x number n r counted e ∙ ap (placed 0) is
