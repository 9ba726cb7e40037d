-- Lists of numbers: zeros, the greatest, sums, a list that zeros fill up.
use Rattle.std.specs.Prelude.{ℕ, ◌+◌, ◌-◌, max, ◌≡◌, Bool, true, false, ◌&&◌, ◌||◌, List, [], ◌∷◌, ◌++◌, length, replicate, eqb}

unfoldable pub all_zero : List ℕ → Bool
all_zero [] = true
all_zero (b ∷ bs) = eqb b 0 && all_zero bs

abbrev pub Zeros : List ℕ → Type 0
Zeros bs = bs ≡ replicate (length bs) 0

-- 0 where there is none
unfoldable pub greatest_byte : List ℕ → ℕ
greatest_byte [] = 0
greatest_byte (b ∷ bs) = max b (greatest_byte bs)

unfoldable pub sum_of : List ℕ → ℕ
sum_of [] = 0
sum_of (n ∷ ns) = n + sum_of ns

-- n stands among these
unfoldable pub among : ℕ → List ℕ → Bool
among n [] = false
among n (m ∷ ms) = eqb m n || among n ms

-- n numbers: these, and zeros behind them
unfoldable pub padded : ℕ → List ℕ → List ℕ
padded n bs = bs ++ replicate (n - length bs) 0
