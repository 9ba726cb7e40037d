-- A positive mpint (RFC 4251, section 5): two's complement, the highest byte first, with no needless leading byte.
use Rattle.std.specs.Prelude.{ℕ, ◌+◌, ◌*◌, ◌^◌, ◌≤◌, ◌<◌, ◌≡◌, List, [], ◌∷◌, Bool, ◌&&◌, ◌||◌, length, get_or, ltb, leb}
use Rattle.wire.specs.Numbers.{Bytes}

-- the first byte's top bit is clear, and where the first byte is 0 the second one's is set. (A byte that is not there reads as 0.)
unfoldable pub mpint : List ℕ → Bool
mpint v = ltb (get_or v 0 0) 128 && (ltb 0 (get_or v 0 0) || leb 128 (get_or v 1 0))

-- the number that bytes spell, the highest first
unfoldable pub value : List ℕ → ℕ
value [] = 0
value (a ∷ v) = a * 256 ^ length v + value v

-- v spells n without a sign: its top bit is clear
pub record Spells (v : List ℕ) (n : ℕ) : Type 0 where
  pub bytes : Bytes v
  pub sign : get_or v 0 0 < 128
  pub spells : value v ≡ n

-- v is the shortest list that does
pub record Shortest (v : List ℕ) (n : ℕ) : Type 0 where
  pub form : Spells v n
  pub shortest : (w : List ℕ) → Spells w n → length v ≤ length w

-- the contents of a positive mpint: the shortest form of a number above zero
abbrev pub Positive : List ℕ → Type 0
Positive v = (n : ℕ) × (0 < n) × Shortest v n
