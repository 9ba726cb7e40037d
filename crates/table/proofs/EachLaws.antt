-- Laws of entries that share a store: how many there are, what is said at each, where its bytes begin.
use Prim.Native.Nat.{ℕ, zero, suc, ◌+◌, ◌≤◌, ◌<◌}
use mathlib.Core.Path.{◌≡◌, refl, ap, ◌∙◌}
use mathlib.Core.List.{List, [], ◌∷◌}
use native.Mathlib.Omega.{arith}
use native.Mathlib.Nat.{not-suc-le-zero, le_of_suc-le-suc}
use lib.ListN.{length, drop, get_or}
use lib.Seq.{drop-drop}
use Rattle.table.specs.Each.{each, offset, share}

module _ {E : Type 0} (size : E → ℕ) where
  pub offset_step : (es : List E) (i : ℕ) (e₀ : E) → i < length es → offset size es (suc i) ≡ offset size es i + size (get_or es i e₀)
  unfolding offset
  offset_step [] i e₀ h = absurd (not-suc-le-zero h)
  offset_step (e ∷ es) zero e₀ h = omega arith
  offset_step (e ∷ es) (suc i) e₀ h = let r = offset_step es i e₀ (le_of_suc-le-suc h) in omega arith

  -- an entry's bytes end before those of all do
  pub offset-within : (es : List E) (i : ℕ) (e₀ : E) → i < length es → offset size es i + size (get_or es i e₀) ≤ offset size es (length es)
  unfolding offset
  offset-within [] i e₀ h = absurd (not-suc-le-zero h)
  offset-within (e ∷ es) zero e₀ h = omega arith
  offset-within (e ∷ es) (suc i) e₀ h = let r = offset-within es i e₀ (le_of_suc-le-suc h) in omega arith

  module _ {A : Type 0} (f : E → List ℕ → A) where
    pub each-length : (es : List E) (s : List ℕ) → length (each f size es s) ≡ length es
    unfolding each
    each-length [] s = refl
    each-length (e ∷ es) s = ap suc (each-length es (drop (size e) s))

    pub each_at : (es : List E) (s : List ℕ) (i : ℕ) (e₀ : E) (d : A) → i < length es → get_or (each f size es s) i d ≡ f (get_or es i e₀) (share size es s i e₀)
    unfolding each offset
    each_at [] s i e₀ d h = absurd (not-suc-le-zero h)
    each_at (e ∷ es) s zero e₀ d h = refl
    each_at (e ∷ es) s (suc i) e₀ d h = each_at es (drop (size e) s) i e₀ d (le_of_suc-le-suc h) ∙ rw (drop-drop (offset size es i) (size e) s)
