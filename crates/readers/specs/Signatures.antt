-- The signature reader: "type 14, string; inside it string t (UTF-8). .. Then string sig, and if t starts `sk-` one byte and a u32."
use Rattle.std.specs.Prelude.{ℕ, ◌+◌, List, Result, Ok, Err, Bool, true, false, cond, length, get_or, leb, ltb, eqb}
use Rattle.wire.specs.Texts.{bytes}
use Rattle.wire.specs.Read.{cut_of, same, byte_at, number_at, string_at, text_at}
use Rattle.wire.specs.Steps.{faulted, number, part}
use Rattle.wire.specs.Write.{write, string}
use Rattle.wire.specs.declared.read.Fault.{Fault}
use Rattle.wire.specs.declared.refusal.Refusal.{Refusal}
use Rattle.wire.specs.declared.refusal.Refusal.TheVariants.{OutputTooShort, Malformed, UnfitType, AgentFailure, OtherReply}
use Rattle.wire.specs.declared.read.Span.{Span}
use Rattle.readers.specs.Reaches.{reach}

-- "Hash 2 needs t `rsa-sha2-256`, 4 needs `rsa-sha2-512`, 0 any, other values never."
unfoldable pub fits : ℕ → List ℕ → Bool
fits hash t =
    cond (eqb hash 0) true
    (cond (eqb hash 2) (same t (bytes "rsa-sha2-256"))
    (cond (eqb hash 4) (same t (bytes "rsa-sha2-512")) false))

unfoldable pub starts_in : List ℕ → List ℕ → Bool
starts_in v start = same (cut_of v 0 (length start)) start

-- the signature from f up to t
abbrev pub signature_of : ℕ → ℕ → Result Span Refusal
signature_of f t = Ok (record { from = f; to = t })

unfoldable pub touched_end : List ℕ → ℕ → Result ℕ Fault
touched_end s at =
    number (λ _. faulted at) (byte_at s at) λ flags k.
    number (λ _. faulted k.at) (number_at s k.at) λ counter l.
    Ok l.at

unfoldable pub signature_end : List ℕ → ℕ → Bool → Result ℕ Fault
signature_end s at touched = part (λ _. faulted at) (string_at s at) λ f t k. cond touched (touched_end s t) (Ok t)

unfoldable pub signature_at : List ℕ → ℕ → ℕ → Result Span Refusal
signature_at s at hash =
    part (λ place. Err (Malformed place)) (text_at s at) λ f t k.
    cond (fits hash (cut_of s f t))
    (reach (λ place. Err (Malformed place)) (signature_end s k.at (starts_in (cut_of s f t) (bytes "sk-"))) λ end.
    signature_of at end)
    (Err UnfitType)

-- "signature 14, 15, 12 (up to t), 13, 12"; inside the string, up to its end
unfoldable pub reply_at : List ℕ → ℕ → Result Span Refusal
reply_at payload hash =
    cond (ltb 0 (length payload))
    (cond (eqb (get_or payload 0 0) 5) (Err AgentFailure)
    (cond (eqb (get_or payload 0 0) 14)
    (part (λ _. Err (Malformed 1)) (string_at payload 1) λ f t k.
    signature_at (cut_of payload 0 t) f hash)
    (Err OtherReply)))
    (Err OtherReply)

-- a string written to the front of an output that it fits in
unfoldable pub string_answer : List ℕ → List ℕ → Result ℕ Refusal
string_answer v out = cond (leb (4 + length v) (length out)) (Ok (4 + length v)) (Err OutputTooShort)

unfoldable pub string_left : List ℕ → List ℕ → List ℕ
string_left v out = cond (leb (4 + length v) (length out)) (write out 0 (string v)) out

abbrev pub wrote_of : List ℕ → List ℕ → Result Span Refusal → Result ℕ Refusal
wrote_of payload out (Ok p) = string_answer (cut_of payload p.from p.to) out
wrote_of payload out (Err r) = Err r

abbrev pub left_of : List ℕ → List ℕ → Result Span Refusal → List ℕ
left_of payload out (Ok p) = string_left (cut_of payload p.from p.to) out
left_of payload out (Err r) = out

-- "It writes u32 (lengths of t and sig, plus 8, plus 5 for `sk-`), t, sig and those five bytes; output behind them stays."
unfoldable pub signature_answer : List ℕ → ℕ → List ℕ → Result ℕ Refusal
signature_answer payload hash out = wrote_of payload out (reply_at payload hash)

unfoldable pub signature_left : List ℕ → ℕ → List ℕ → List ℕ
signature_left payload hash out = left_of payload out (reply_at payload hash)
