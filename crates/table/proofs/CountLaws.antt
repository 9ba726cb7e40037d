-- Laws of the count: the numbers that are not 0, up to the first 0.
use Prim.Native.Nat.{ℕ, zero, suc, ◌+◌, ◌≤◌, ◌<◌}
use mathlib.Core.Path.{◌≡◌, refl, ap}
use mathlib.Core.Logic.{◌≢◌}
use mathlib.Core.List.{List, [], ◌∷◌}
use native.Mathlib.Omega.{arith}
use native.Mathlib.Nat.{not-suc-le-zero, le_of_suc-le-suc}
use borrow.Author.Tests.{eqb-true, eqb-false, eq-eqb, ne_eqb}
use lib.ListN.{length, get_or}
use lib.Dec.{eqb}
use Rattle.rule.proofs.Cases.{cond_cases}
use Rattle.table.specs.Entries.{count_of}

pub count_within : (ns : List ℕ) → count_of ns ≤ length ns
unfolding count_of
count_within [] = omega arith
count_within (n ∷ ns) = cond_cases (λ c. c ≤ suc (length ns)) (eqb n 0) (λ _. omega arith) (λ _. let r = count_within ns in omega arith)

pub count_held : (ns : List ℕ) (i : ℕ) → i < count_of ns → get_or ns i 0 ≢ 0
unfolding count_of
count_held [] i = λ h. absurd (not-suc-le-zero h)
count_held (n ∷ ns) i = cond_cases (λ c. i < c → get_or (n ∷ ns) i 0 ≢ 0) (eqb n 0) (λ _ h. absurd (not-suc-le-zero h)) (λ f. by_index i (count_held ns) (eqb-false n 0 f))
  where
    by_index : (i : ℕ) → ((i : ℕ) → i < count_of ns → get_or ns i 0 ≢ 0) → n ≢ 0 → i < suc (count_of ns) → get_or (n ∷ ns) i 0 ≢ 0
    by_index zero rest f h = f
    by_index (suc i) rest f h = rest i (le_of_suc-le-suc h)

pub count_unused : (ns : List ℕ) → get_or ns (count_of ns) 0 ≡ 0
unfolding count_of
count_unused [] = refl
count_unused (n ∷ ns) = cond_cases (λ c. get_or (n ∷ ns) c 0 ≡ 0) (eqb n 0) (λ t. eqb-true n 0 t) (λ _. count_unused ns)

-- n numbers that are not 0, and then a 0 or the end
pub count_is : (ns : List ℕ) (n : ℕ) → n ≤ length ns → ((i : ℕ) → i < n → get_or ns i 0 ≢ 0) → get_or ns n 0 ≡ 0 → count_of ns ≡ n
unfolding count_of
count_is [] zero h held end = refl
count_is [] (suc n) h held end = absurd (not-suc-le-zero h)
count_is (m ∷ ns) zero h held end = rw (eq-eqb m 0 end)
count_is (m ∷ ns) (suc n) h held end = rw (ne_eqb m 0 (held 0 (omega arith))) (ap suc (count_is ns n (le_of_suc-le-suc h) (λ i k. held (suc i) (omega arith)) end))

-- a turn of the count, and its end
pub count_step : (ns : List ℕ) (i : ℕ) → i ≤ count_of ns → get_or ns i 0 ≢ 0 → i + 1 ≤ count_of ns
unfolding count_of
count_step [] zero = λ h f. absurd (f refl)
count_step [] (suc i) = λ h f. absurd (not-suc-le-zero h)
count_step (n ∷ ns) i = cond_cases (λ c. i ≤ c → get_or (n ∷ ns) i 0 ≢ 0 → i + 1 ≤ c) (eqb n 0) (λ t h f. absurd (by_zero i h (eqb-true n 0 t) f)) (λ _. by_index i (count_step ns))
  where
    by_zero : (i : ℕ) → i ≤ 0 → n ≡ 0 → get_or (n ∷ ns) i 0 ≢ 0 → ⊥
    by_zero zero h z f = f z
    by_zero (suc i) h z f = not-suc-le-zero h

    by_index : (i : ℕ) → ((i : ℕ) → i ≤ count_of ns → get_or ns i 0 ≢ 0 → i + 1 ≤ count_of ns) → i ≤ suc (count_of ns) → get_or (n ∷ ns) i 0 ≢ 0 → i + 1 ≤ suc (count_of ns)
    by_index zero rest h f = omega arith
    by_index (suc i) rest h f = let r = rest i (le_of_suc-le-suc h) f in omega arith
