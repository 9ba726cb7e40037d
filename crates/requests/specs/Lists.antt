-- What one entry adds to a list reply, by where its bytes lie: its blob of n bytes, and its comment of c bytes behind m bytes of fields.
use Rattle.std.specs.Prelude.{ℕ, ◌+◌, List, ◌++◌, take, drop}
use Rattle.wire.specs.Write.{string}

abbrev pub item_in : List ℕ → ℕ → ℕ → ℕ → ℕ → List ℕ
item_in x from n m c = string (take n (drop from x)) ++ string (take c (drop (from + (n + m)) x))
