-- Single fields of a key: a string that passes a test; one that does not is a fault at its length.
use Rattle.std.specs.Prelude.{ℕ, ◌-◌, List, Bool, ◌&&◌, ◌||◌, cond, Result, length, get_or, leb, eqb}
use Rattle.wire.specs.declared.read.Fault.{Fault}
use Rattle.wire.specs.declared.read.Part.{Part}
use Rattle.wire.specs.Mpint.{mpint}
use Rattle.wire.specs.Read.{cut_of, same, string_at}
use Rattle.wire.specs.Steps.{part_of, faulted, part}

-- a string whose bytes pass the test p
unfoldable pub passing_at : List ℕ → ℕ → (List ℕ → Bool) → Result Part Fault
passing_at s at p =
    part faulted (string_at s at) λ f t k.
    cond (p (cut_of s f t)) (part_of f t k) (faulted at)

unfoldable pub sized_at : List ℕ → ℕ → ℕ → Result Part Fault
sized_at s at n =
    part faulted (string_at s at) λ f t k.
    cond (eqb (t - f) n) (part_of f t k) (faulted at)

unfoldable pub named_at : List ℕ → ℕ → List ℕ → Result Part Fault
named_at s at name =
    part faulted (string_at s at) λ f t k.
    cond (same (cut_of s f t) name) (part_of f t k) (faulted at)

-- "string Q of 65, 97 or 133 bytes starting 04"
unfoldable pub uncompressed : List ℕ → ℕ → Bool
uncompressed v n = eqb (length v) n && eqb (get_or v 0 0) 4

unfoldable pub point_at : List ℕ → ℕ → ℕ → Result Part Fault
point_at s at n =
    part faulted (string_at s at) λ f t k.
    cond (uncompressed (cut_of s f t) n) (part_of f t k) (faulted at)

-- "mpint d of at most 32, 48 or 66 bytes without sign byte"
unfoldable pub scalar : List ℕ → ℕ → Bool
scalar v n = mpint v && (leb (length v) n || (leb (length v - 1) n && eqb (get_or v 0 0) 0))

unfoldable pub scalar_at : List ℕ → ℕ → ℕ → Result Part Fault
scalar_at s at n =
    part faulted (string_at s at) λ f t k.
    cond (scalar (cut_of s f t) n) (part_of f t k) (faulted at)
