-- What a writer leaves.
use Rattle.std.specs.Prelude.{ℕ, ◌+◌, List, ◌++◌, length, take, drop}
use Rattle.wire.specs.Numbers.{be32}

-- the list with v from `at` on
unfoldable pub write : List ℕ → ℕ → List ℕ → List ℕ
write out at v = take at out ++ v ++ drop (at + length v) out

-- a string (RFC 4251, section 5): its length and its bytes
abbrev pub string : List ℕ → List ℕ
string v = be32 (length v) ++ v
