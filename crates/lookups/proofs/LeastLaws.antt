-- The least of the numbers above another is what the definition goes for entry by entry.
use Prim.Native.Nat.{ℕ, ◌<◌, min}
use mathlib.Core.Path.{◌≡◌, refl, sym, ap, ◌∙◌}
use mathlib.Core.Bool.{Bool, true, false, cond}
use mathlib.Core.List.{List, [], ◌∷◌, map}
use native.Mathlib.Omega.{arith}
use borrow.Author.Tests.{ltb-true, ltb-false, le-leb, lt-leb, ne_eqb}
use lib.Dec.{leb, ltb, eqb}
use lib.ListN.{take}
use Rattle.std.specs.List.{filter, fold, reduce}
use Rattle.std.specs.Option.{unwrap_or}
use Rattle.rule.specs.Gateway.{Entry as Key}
use Rattle.table.specs.declared.State.{State}
use Rattle.table.specs.Entries.{count_of}
use Rattle.table.specs.Meaning.{gateway_of}
use Rattle.soundness.proofs.ApartLaws.{number_of, numbers_listed}
use Rattle.lookups.specs.Told.{nearer, least_above}

abbrev above : ℕ → List ℕ → List ℕ
above after = filter (λ n. ltb after n)

abbrev least : List ℕ → ℕ
least ns = unwrap_or (reduce min ns) 0

fold_min : (n m : ℕ) (ns : List ℕ) → fold min (min n m) ns ≡ min n (fold min m ns)
fold_min n m [] = refl
fold_min n m (x ∷ ns) =
    let order : min (min n m) x ≡ min n (min m x) = omega arith in
    ap (λ (k : ℕ). fold min k ns) order ∙ fold_min n (min m x) ns

-- what is above stays so
fold_above : (after n : ℕ) (ns : List ℕ) → after < n → after < fold min n (above after ns)
fold_above after n [] h = h
fold_above after n (m ∷ ns) h = by_test (ltb after m) refl (λ k. fold_above after k ns)
  where
    by_test : (t : Bool) → ltb after m ≡ t → ((k : ℕ) → after < k → after < fold min k (above after ns)) → after < fold min n (cond t (m ∷ above after ns) (above after ns))
    by_test true e rest = let over = ltb-true after m e in rest (min n m) (omega arith)
    by_test false e rest = rest n h

module _ (after n : ℕ) where
  -- n before some that are above, least m
  before : (m : ℕ) → after < m → min n m ≡ cond (eqb m 0) n (cond (ltb n m) n m)
  before m h = rw (ne_eqb m 0 (λ z. omega arith)) (by_test (ltb n m) refl)
    where
      by_test : (t : Bool) → ltb n m ≡ t → min n m ≡ cond t n m
      by_test true e = let lower = ltb-true n m e in omega arith
      by_test false e = let not_lower = ltb-false n m e in omega arith

  more : (ns : List ℕ) → fold min n (above after ns) ≡ cond (eqb (least (above after ns)) 0) n (cond (ltb n (least (above after ns))) n (least (above after ns)))
  more [] = refl
  more (m ∷ ns) = by_test (ltb after m) refl (more ns)
    where
      by_test : (t : Bool) → ltb after m ≡ t
          → fold min n (above after ns) ≡ cond (eqb (least (above after ns)) 0) n (cond (ltb n (least (above after ns))) n (least (above after ns)))
          → let ms : List ℕ = cond t (m ∷ above after ns) (above after ns) in fold min n ms ≡ cond (eqb (least ms) 0) n (cond (ltb n (least ms)) n (least ms))
      by_test true e _ = fold_min n m (above after ns) ∙ before (fold min m (above after ns)) (fold_above after m ns (ltb-true after m e))
      by_test false e rest = rest

  one_more : (ns : List ℕ) → least (above after (n ∷ ns)) ≡ nearer after n (least (above after ns))
  unfolding nearer
  one_more ns = by_test (ltb after n) refl
    where
      by_test : (t : Bool) → ltb after n ≡ t
          → least (cond t (n ∷ above after ns) (above after ns)) ≡ cond (leb n after) (least (above after ns)) (cond (eqb (least (above after ns)) 0) n (cond (ltb n (least (above after ns))) n (least (above after ns))))
      by_test true e = rw (lt-leb n after (ltb-true after n e)) (more ns)
      by_test false e = rw (le-leb n after (ltb-false after n e))

least_of : (after : ℕ) (ks : List Key) → least (above after (map number_of ks)) ≡ least_above after ks
unfolding least_above
least_of after [] = refl
least_of after (k ∷ ks) = one_more after k.number (map number_of ks) ∙ ap (nearer after k.number) (least_of after ks)

-- .. by the column of numbers
pub least_listed : (s : State) (x : List ℕ) (after n : ℕ) → n ≡ count_of s.columns.numbers → least (above after (take n s.columns.numbers)) ≡ least_above after (gateway_of s x).entries
least_listed s x after n counted =
    let listed = numbers_listed s x _ _ _ _ (record { numbers_are = refl; blobs_are = refl; fields_are = refl; comments_are = refl }) in
    ap (λ (m : ℕ). least (above after (take m s.columns.numbers))) counted ∙ ap (λ (ns : List ℕ). least (above after ns)) (sym listed) ∙ least_of after (gateway_of s x).entries
