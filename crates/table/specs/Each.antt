-- How entries share a store: each has a size, and its bytes lie behind those of the entries before it.
use Rattle.std.specs.Prelude.{ℕ, zero, suc, ◌+◌, List, [], ◌∷◌, take, drop, get_or}

-- what f says of each entry and its bytes
unfoldable pub each : {E A : Type 0} → (E → List ℕ → A) → (E → ℕ) → List E → List ℕ → List A
each f size [] s = []
each f size (e ∷ es) s = f e (take (size e) s) ∷ each f size es (drop (size e) s)

-- where the bytes of entry i begin
unfoldable pub offset : {E : Type 0} → (E → ℕ) → List E → ℕ → ℕ
offset size es zero = 0
offset size [] (suc i) = 0
offset size (e ∷ es) (suc i) = size e + offset size es i

-- the bytes of entry i, or of e₀ where there is none
abbrev pub share : {E : Type 0} → (E → ℕ) → List E → List ℕ → ℕ → E → List ℕ
share size es s i e₀ = take (size (get_or es i e₀)) (drop (offset size es i) s)
