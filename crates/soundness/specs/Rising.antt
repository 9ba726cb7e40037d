-- Numbers that rise.
use Rattle.std.specs.Prelude.{ℕ, Bool, true, ◌&&◌, List, [], ◌∷◌, ltb}

-- below the first of these, where there is one
abbrev pub below_first : ℕ → List ℕ → Bool
below_first n [] = true
below_first n (m ∷ ms) = ltb n m

-- each number is below the one behind it
unfoldable pub rising : List ℕ → Bool
rising [] = true
rising (n ∷ ns) = below_first n ns && rising ns
