-- Requests as the draft writes them, and what a writer answers and leaves.
use Rattle.std.specs.Prelude.{cond, ℕ, ◌+◌, List, [], ◌∷◌, ◌++◌, Result, Ok, Err, length, take, eqb, ltb}
use Rattle.wire.specs.Limits.{payload_limit}
use Rattle.wire.specs.declared.Constraint.{Constraint}
use Rattle.wire.specs.Numbers.{be32}
use Rattle.wire.specs.Utf8.{utf8_end}
use Rattle.wire.specs.Write.{write, string}
use Rattle.wire.specs.Constraints.{constraint_forms}
use Rattle.wire.specs.declared.refusal.Refusal.{Refusal}
use Rattle.wire.specs.declared.refusal.Refusal.TheVariants.{OutputTooShort, Malformed, PayloadTooLong, TooManyConstraints}

-- ## The messages

abbrev pub request_identities : List ℕ
request_identities = 11 ∷ []

abbrev pub sign_request : List ℕ → List ℕ → ℕ → List ℕ
sign_request blob bytes flags = 13 ∷ (string blob ++ (string bytes ++ be32 flags))

abbrev pub lock_request : List ℕ → List ℕ
lock_request passphrase = 22 ∷ string passphrase

abbrev pub unlock_request : List ℕ → List ℕ
unlock_request passphrase = 23 ∷ string passphrase

abbrev pub plain_smartcard : List ℕ → List ℕ → List ℕ
plain_smartcard id pin = 20 ∷ (string id ++ string pin)

-- "one to four (lifetime or Confirm, given order) give 26"; #102: "the constraints of type 26 straight after the PIN"
abbrev pub constrained_smartcard : List ℕ → List ℕ → List Constraint → List ℕ
constrained_smartcard id pin cs = 26 ∷ (string id ++ (string pin ++ constraint_forms cs))

abbrev pub remove_smartcard : List ℕ → List ℕ → List ℕ
remove_smartcard id pin = 21 ∷ (string id ++ string pin)

-- ## Frames

-- the room for a payload of n bytes, and its first bytes written: a payload over 262,144 bytes is refused, and an output too short for its frame
unfoldable pub head_answer : ℕ → List ℕ → List ℕ → Result ℕ Refusal
head_answer n head out =
    cond (ltb payload_limit n) (Err PayloadTooLong)
    (cond (ltb (length out) (4 + n)) (Err OutputTooShort) (Ok (4 + length head)))

unfoldable pub head_left : ℕ → List ℕ → List ℕ → List ℕ
head_left n head out = cond (ltb payload_limit n) out (cond (ltb (length out) (4 + n)) out (write out 0 (be32 n ++ head)))

-- a payload written whole: the frame stands at the front of the output, or the output is untouched
abbrev pub answered : List ℕ → List ℕ → Result ℕ Refusal
answered payload out = head_answer (length payload) payload out

abbrev pub filled : List ℕ → List ℕ → List ℕ
filled payload out = head_left (length payload) payload out

-- ## Smartcards: "writers 18, 12, 17, 11"

unfoldable pub remove_smartcard_answer : List ℕ → List ℕ → List ℕ → Result ℕ Refusal
remove_smartcard_answer id pin out = cond (eqb (utf8_end id) (length id)) (answered (remove_smartcard id pin) out) (Err (Malformed (utf8_end id)))

unfoldable pub remove_smartcard_left : List ℕ → List ℕ → List ℕ → List ℕ
remove_smartcard_left id pin out = cond (eqb (utf8_end id) (length id)) (filled (remove_smartcard id pin) out) out

-- "no constraints gives 20"
unfoldable pub add_smartcard : List ℕ → List ℕ → List Constraint → ℕ → List ℕ
add_smartcard id pin cs count = cond (eqb count 0) (plain_smartcard id pin) (constrained_smartcard id pin (take count cs))

unfoldable pub add_smartcard_answer : List ℕ → List ℕ → List Constraint → ℕ → List ℕ → Result ℕ Refusal
add_smartcard_answer id pin cs count out =
    cond (ltb 4 count) (Err TooManyConstraints)
    (cond (eqb (utf8_end id) (length id)) (answered (add_smartcard id pin cs count) out) (Err (Malformed (utf8_end id))))

unfoldable pub add_smartcard_left : List ℕ → List ℕ → List Constraint → ℕ → List ℕ → List ℕ
add_smartcard_left id pin cs count out = cond (ltb 4 count) out (cond (eqb (utf8_end id) (length id)) (filled (add_smartcard id pin cs count) out) out)
