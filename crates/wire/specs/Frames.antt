-- The splitter: "under 4 bytes, or fewer than length announces: more needed. Length above 262,144: too long, tested once 4 bytes are there.
-- Else the splitter gives back the payload as that part of the lent bytes."
use Rattle.std.specs.Prelude.{cond, ℕ, ◌+◌, List, length, ltb}
use Rattle.wire.specs.Limits.{payload_limit}
use Rattle.wire.specs.declared.frame.Split.{Split}
use Rattle.wire.specs.declared.frame.Split.TheVariants.{MoreNeeded, TooLong, Frame}
use Rattle.wire.specs.Steps.{number}
use Rattle.wire.specs.Read.{cut_of, cut_from, number_at}
use Rattle.wire.specs.Values.{Span}

unfoldable pub split_of : List ℕ → Split
split_of s =
    number (λ _. MoreNeeded) (number_at s 0) λ n k.
    cond (ltb payload_limit n) TooLong
    (cond (ltb (length s) (k.at + n)) MoreNeeded (Frame k.at (k.at + n)))

-- the answers in the order of 01's words: 0 more needed, 1 too long, 2 a whole frame
abbrev pub split_number : Split → ℕ
split_number MoreNeeded = 0
split_number TooLong = 1
split_number (Frame from to) = 2

-- where the payload lies; from 0 up to 0 unless a frame is whole
abbrev pub split_span : Split → Span
split_span MoreNeeded = record { from = 0; to = 0 }
split_span TooLong = record { from = 0; to = 0 }
split_span (Frame from to) = record { from = from; to = to }

-- the payload: that part of the bytes
unfoldable pub frame_payload : List ℕ → List ℕ
frame_payload s = cut_of s (split_span (split_of s)).from (split_span (split_of s)).to

-- where in the bytes the part begins
unfoldable pub payload_from : List ℕ → ℕ
payload_from s = cut_from s (split_span (split_of s)).from (split_span (split_of s)).to
