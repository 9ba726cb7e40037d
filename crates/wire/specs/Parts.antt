-- A returned reference is a part of the lent bytes, and not only bytes equal to theirs: it points into them.
use Rattle.std.specs.Prelude.{ℕ, ◌+◌, ◌≡◌, List}
use Rattle.std.specs.Borrow.{Bor}

-- r holds the bytes v, and is that part of s which begins `from` bytes behind the start of s
pub record PartOf (s : Bor (List ℕ)) (from : ℕ) (v : List ℕ) (r : Bor (List ℕ)) : Type 0 where
  pub bytes : r.now ≡ v
  pub block : r.ref_ptr.0 ≡ s.ref_ptr.0
  pub place : r.ref_ptr.1 ≡ s.ref_ptr.1 + from
