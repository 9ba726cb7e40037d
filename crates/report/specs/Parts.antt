-- What a flag, a place and a change are read as, and what a change makes of a base.
use Rattle.std.specs.Prelude.{ℕ, Bool, true, false, cond, List, Option, Some, None, length, ◌==◌, nat_le, nat_lt, slice_set}
use Rattle.std.specs.Option.{option_map_or}
use Rattle.std.specs.Result.{result_ok}
use Rattle.wire.specs.declared.read.Cursor.{Cursor}
use Rattle.wire.specs.Read.{byte_at, number_at}
use Rattle.wire.specs.Write.{write}
use Rattle.report.specs.declared.parts.Change.{Change}

-- going on with what was read, as the library's `map_or`
abbrev pub going : {A B : Type 0} → A → Option B → (B → A) → A
going z o next = option_map_or next o z

-- a byte that is 0 or 1
abbrev pub flag_at : List ℕ → ℕ → Option (Bool × Cursor)
flag_at s at =
    going None (result_ok (byte_at s at)) λ b.
    cond (b.0 == 0) (Some (false, b.1)) (cond (b.0 == 1) (Some (true, b.1)) None)

abbrev pub place_at : List ℕ → ℕ → Option (ℕ × Cursor)
place_at s at = result_ok (number_at s at)

abbrev pub change_at : List ℕ → ℕ → Option (Change × Cursor)
change_at s at =
    going None (place_at s at) λ n.
    going None (place_at s n.1.at) λ i.
    going None (result_ok (byte_at s i.1.at)) λ v.
    Some (record { length = n.0; place = i.0; value = v.0 }, v.1)

-- the length that counts of a base that fits in the room, and is changed inside
abbrev pub changed_at : List ℕ → ℕ → List ℕ → List ℕ → Option (ℕ × Cursor)
changed_at s at base room =
    going None (change_at s at) λ c.
    cond (nat_le (length base) (length room))
    (cond (nat_lt c.0.place (length base)) (Some (c.0.length, c.1)) None)
    None

abbrev pub changed_left : List ℕ → ℕ → List ℕ → List ℕ → List ℕ
changed_left s at base room =
    going room (change_at s at) λ c.
    cond (nat_le (length base) (length room))
    (cond (nat_lt c.0.place (length base)) (slice_set (write room 0 base) c.0.place c.0.value) room)
    room
