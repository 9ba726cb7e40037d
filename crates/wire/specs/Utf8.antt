-- UTF-8 as RFC 3629, section 4, has it: a first byte says how many bytes follow and what the first of these may be; all others are 80 to BF.
use Rattle.std.specs.Prelude.{ℕ, zero, suc, ◌-◌, List, [], ◌∷◌, Bool, false, cond, Option, Some, None, length, take, eqb, leb}
use Rattle.wire.specs.declared.utf8.Tails.{Tails}
use Rattle.wire.specs.Numbers.{within}

-- the state: what must follow, or no UTF-8 at all
abbrev pub wants : ℕ → ℕ → ℕ → Option Tails
wants left low high = Some (record { left = left; low = low; high = high })

unfoldable pub lead_of : ℕ → Option Tails
lead_of b =
    cond (within 0x00 0x7F b) (wants 0 0x80 0xBF)
    (cond (within 0xC2 0xDF b) (wants 1 0x80 0xBF)
    (cond (within 0xE0 0xE0 b) (wants 2 0xA0 0xBF)
    (cond (within 0xE1 0xEC b) (wants 2 0x80 0xBF)
    (cond (within 0xED 0xED b) (wants 2 0x80 0x9F)
    (cond (within 0xEE 0xEF b) (wants 2 0x80 0xBF)
    (cond (within 0xF0 0xF0 b) (wants 3 0x90 0xBF)
    (cond (within 0xF1 0xF3 b) (wants 3 0x80 0xBF)
    (cond (within 0xF4 0xF4 b) (wants 3 0x80 0x8F)
    None))))))))

unfoldable pub step_of : Option Tails → ℕ → Option Tails
step_of None b = None
step_of (Some t) b = cond (eqb t.left 0) (lead_of b) (cond (within t.low t.high b) (wants (t.left - 1) 0x80 0xBF) None)

unfoldable pub steps_of : Option Tails → List ℕ → Option Tails
steps_of u [] = u
steps_of u (b ∷ s) = steps_of (step_of u b) s

-- a character ends here
unfoldable pub ended : Option Tails → Bool
ended None = false
ended (Some t) = eqb t.left 0

abbrev pub start : Option Tails
start = wants 0 0x80 0xBF

unfoldable pub utf8 : List ℕ → Bool
utf8 s = ended (steps_of start s)

-- how many bytes at the start are characters of their own
unfoldable pub ascii_end : List ℕ → ℕ
ascii_end [] = zero
ascii_end (b ∷ s) = cond (leb b 0x7F) (suc (ascii_end s)) zero

-- the greatest number up to n of bytes from the start that are UTF-8
unfoldable pub longest : ℕ → List ℕ → ℕ
longest zero s = zero
longest (suc n) s = cond (utf8 (take (suc n) s)) (suc n) (longest n s)

-- where the longest part from the start that is UTF-8 ends
unfoldable pub utf8_end : List ℕ → ℕ
utf8_end s = longest (length s) s
