-- What a request comes to by its first byte, the lock and the gate's answer: 01's table, row by row.
use Rattle.std.specs.Prelude.{ℕ, Bool, true, false, not, cond, List, eqb, ltb, length, get_or}
use Rattle.requests.specs.declared.Said.{Said}
use Rattle.requests.specs.declared.Said.TheVariants as said
use Rattle.server.specs.declared.call.Row.{Row}
use Rattle.server.specs.declared.call.Row.TheVariants as row

-- "Then the gate; no means FAILURE."
unfoldable pub by_said : Said → Row → Row → Row
by_said said.Missing asking onwards = asking
by_said said.No asking onwards = row.Fails
by_said said.Yes asking onwards = onwards

-- "wrong lock state: FAILURE, no question"
unfoldable pub gated_row : Row → ℕ → Bool → Said → Row
gated_row onwards class fit gate = cond fit (by_said gate (row.Asks class) onwards) row.Fails

unfoldable pub row_of : ℕ → Bool → Said → Row
row_of first locked gate =
    cond (eqb first 11) (gated_row row.List 1 (not locked) gate)
    (cond (eqb first 17) (gated_row (row.Add false) 2 (not locked) gate)
    (cond (eqb first 25) (gated_row (row.Add true) 2 (not locked) gate)
    (cond (eqb first 18) (gated_row row.Remove 3 (not locked) gate)
    (cond (eqb first 19) (gated_row row.RemoveAll 4 (not locked) gate)
    (cond (eqb first 13) (gated_row row.Sign 5 (not locked) gate)
    (cond (eqb first 22) (gated_row row.Lock 6 (not locked) gate)
    (cond (eqb first 23) (gated_row row.Unlock 7 locked gate) row.Fails)))))))

-- "Empty payload ..: FAILURE, no question."
unfoldable pub row_in : List ℕ → Bool → Said → Row
row_in payload locked gate = cond (ltb 0 (length payload)) (row_of (get_or payload 0 0) locked gate) row.Fails
