-- What a reading place finds in a list of bytes.
use Rattle.std.specs.Prelude.{ℕ, ◌+◌, ◌-◌, List, [], Bool, cond, Result, length, get_or, take, drop, ltb, leb, eqb}
use Rattle.std.specs.Str.{bytes_eq}
use Rattle.wire.specs.declared.read.Cursor.{Cursor}
use Rattle.wire.specs.declared.read.Fault.{Fault}
use Rattle.wire.specs.declared.read.Part.{Part}
use Rattle.wire.specs.declared.read.Span.{Span}
use Rattle.wire.specs.Numbers.{be_at}
use Rattle.wire.specs.Utf8.{utf8_end}
use Rattle.wire.specs.Mpint.{mpint}
use Rattle.wire.specs.Steps.{got, part_of, faulted, part}

-- a string's contents
abbrev pub span_of : Part → Span
span_of p = record { from = p.from; to = p.to }

-- the bytes from f up to t, none where they are not all there
unfoldable pub cut_of : List ℕ → ℕ → ℕ → List ℕ
cut_of s f t = cond (leb f t) (cond (leb t (length s)) (take (t - f) (drop f s)) []) []

-- where they begin; none that are not all there lie at the start
unfoldable pub cut_from : List ℕ → ℕ → ℕ → ℕ
cut_from s f t = cond (leb f t) (cond (leb t (length s)) f 0) 0

-- the two lists are equal
unfoldable pub same : List ℕ → List ℕ → Bool
same a b = bytes_eq a b

-- the byte at `at`
unfoldable pub byte_at : List ℕ → ℕ → Result (ℕ × Cursor) Fault
byte_at s at = cond (ltb at (length s)) (got (get_or s at 0) (record { at = at + 1 })) (faulted at)

-- four bytes at `at`: their number and the place behind them
unfoldable pub number_at : List ℕ → ℕ → Result (ℕ × Cursor) Fault
number_at s at = cond (leb (at + 4) (length s)) (got (be_at s at) (record { at = at + 4 })) (faulted at)

-- a number n at `at` and n bytes behind it: where they lie and the place behind them
unfoldable pub string_at : List ℕ → ℕ → Result Part Fault
string_at s at =
    cond (leb (at + 4 + be_at s at) (length s))
    (part_of (at + 4) (at + 4 + be_at s at) (record { at = at + 4 + be_at s at }))
    (faulted at)

-- a string of UTF-8
unfoldable pub text_at : List ℕ → ℕ → Result Part Fault
text_at s at =
    part faulted (string_at s at) λ f t k.
    cond (eqb (utf8_end (cut_of s f t)) (t - f)) (part_of f t k) (faulted (f + utf8_end (cut_of s f t)))

-- a string that is a positive mpint
unfoldable pub mpint_at : List ℕ → ℕ → Result Part Fault
mpint_at s at =
    part faulted (string_at s at) λ f t k.
    cond (mpint (cut_of s f t)) (part_of f t k) (faulted at)
