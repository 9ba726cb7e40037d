-- The promises of the writers: the splitter finds what one wrote, and any reader finds in a request what was given.
use Rattle.wire.specs.Utf8.{utf8_end}
use Rattle.wire.specs.declared.refusal.Refusal.TheVariants.{Malformed, TooManyConstraints}
use lib.Dec.{ltb, eqb}
use Prim.Native.Nat.{ℕ, ◌+◌, ◌^◌, ◌<◌}
use mathlib.Core.Path.{◌≡◌, refl, ap, subst, ◌∙◌}
use mathlib.Core.List.{List, [], ◌∷◌, ◌++◌, append-nil}
use mathlib.Core.Bool.{Bool, true, false, cond}
use native.Mathlib.Omega.{arith}
use lib.ListN.{length, take, drop}
use lib.Seq.{take_at, drop_at}
use Rattle.wire.specs.declared.Constraint.{Constraint}
use Rattle.wire.specs.declared.Constraint.TheVariants.{KeyLifetime, Confirm}
use Rattle.wire.specs.Numbers.{Bytes, be32}
use Rattle.wire.specs.Write.{write, string}
use Rattle.wire.specs.Constraints.{constraint_form, constraint_forms}
use Rattle.wire.specs.declared.refusal.Refusal.{Refusal}
use Rattle.std.specs.Prelude.{Result, Err}
use Rattle.wire.proofs.Laws.{byte_rule, string-rule}
use Rattle.wire.proofs.FrameLaws.{splits}
use Rattle.wire.proofs.ByteLaws.{bytes-none, bytes-cons, bytes-append, be32-bytes, bytes-string}
use Rattle.wire.proofs.RefusalLaws.{not_granted, wrote_written, wrote_refused}
use Rattle.client.specs.Requests.{remove_smartcard_answer, remove_smartcard_left, add_smartcard_answer, add_smartcard_left, add_smartcard}
use Rattle.client.specs.Promises.{Sent, Writes, WriterRule, RemoveSmartcardRule, AddSmartcardRule, Strings, none, one, RequestReads, ListFound, LockFound, UnlockFound, SignFound, SmartcardRead}
use Rattle.client.proofs.WriteLaws.{Met, Stage, stage, untouched}

-- ## Writers

module _ (p out : List ℕ) (n : ℕ) (left : List ℕ) (s : Stage (length p) p out n left) where
  end : length (string p) ≡ n
  end = omega (arith, s.place)

  written : left ≡ string p ++ drop n out
  unfolding write
  written = let q : 0 + length (string p) ≡ n = omega (arith, end) in s.holds ∙ ap (λ (i : ℕ). string p ++ drop i out) q

  first : take n left ≡ string p
  first = rw written (take_at (string p) (drop n out) n end)

  sent : Sent p out left n
  sent =
      record {
        bytes = first;
        behind = rw written (drop_at (string p) (drop n out) n end);
        splits = rw first (splits p s.small).alone;
      }

module _ (p out : List ℕ) (answer : Result ℕ Refusal) (left : List ℕ) (e : Met (length p) p out answer left) where
  writes : Writes p out answer left
  writes = record {
    sent = λ n f. sent p out n left (stage (length p) p out answer left e n (wrote_written answer n f));
    untouched = λ n w f. let (r, g, _) = wrote_refused answer n w f in untouched (length p) p out answer left e r g;
  }

pub writer_rule : WriterRule
writer_rule p out = writes p out _ _ (refl, refl)

-- a test before a writer
tested : (p out : List ℕ) (r : Refusal) (b : Bool) (answer : Result ℕ Refusal) (left : List ℕ) → Writes p out answer left → Writes p out (cond b answer (Err r)) (cond b left out)
tested p out r true answer left w = w
tested p out r false answer left w = record { sent = λ n e. not_granted e; untouched = λ n w e. refl }

pub remove_smartcard-rule : RemoveSmartcardRule
unfolding remove_smartcard_answer remove_smartcard_left
remove_smartcard-rule id pin out = tested _ out (Malformed (utf8_end id)) (eqb (utf8_end id) (length id)) _ _ (writer_rule _ out)

pub add_smartcard-rule : AddSmartcardRule
unfolding add_smartcard_answer add_smartcard_left
add_smartcard-rule id pin cs count out =
    unless_many (ltb 4 count) (tested _ out (Malformed (utf8_end id)) (eqb (utf8_end id) (length id)) _ _ (writer_rule _ out))
  where
    unless_many : (b : Bool) {answer : Result ℕ Refusal} {left : List ℕ} → Writes (add_smartcard id pin cs count) out answer left
        → Writes (add_smartcard id pin cs count) out (cond b (Err TooManyConstraints) answer) (cond b out left)
    unless_many true w = record { sent = λ n e. not_granted e; untouched = λ n w e. refl }
    unless_many false w = w

-- ## What any reader finds

-- strings one behind the other, and then rest
abbrev in_row : List (List ℕ) → List ℕ → List ℕ
in_row [] rest = rest
in_row (v ∷ vs) rest = string v ++ in_row vs rest

-- each of bytes, and short enough for a length of four of them
abbrev Short : List (List ℕ) → Type 0
Short [] = Unit {0}
Short (v ∷ vs) = Bytes v × (length v < 2 ^ 32) × Short vs

row-bytes : (vs : List (List ℕ)) (rest : List ℕ) → Short vs → Bytes rest → Bytes (in_row vs rest)
row-bytes [] rest h r = r
row-bytes (v ∷ vs) rest (b, l, h) r = bytes-string v (in_row vs rest) b (row-bytes vs rest h r)

module _ (s : List ℕ) (all : Bytes s) where
  strings : (at : ℕ) (vs : List (List ℕ)) (rest : List ℕ) → Short vs → drop at s ≡ in_row vs rest → (end : ℕ) × Strings s at vs end × (drop end s ≡ rest)
  strings at [] rest h e = (at, none at, e)
  strings at (v ∷ vs) rest (b, l, h) e =
      let r = (string-rule s at v (in_row vs rest) all l).0 e in
      let (end, there, behind) = strings (at + 4 + length v) vs rest h r.2 in
      (end, one at _ _ _ end v vs r.0 r.1 there, behind)

request_reads : (byte : ℕ) (vs : List (List ℕ)) (rest : List ℕ) → byte < 256 → Short vs → Bytes rest → RequestReads byte (byte ∷ in_row vs rest) vs rest
request_reads byte vs rest b h r =
    let s = byte ∷ in_row vs rest in
    let (end, there, behind) = strings s (bytes-cons byte (in_row vs rest) b (row-bytes vs rest h r)) 1 vs rest h refl in
    record { first = ((byte_rule s 0 byte (in_row vs rest)).0 refl).0; end = end; strings = there; behind = behind }

pub list_found : ListFound
list_found = request_reads 11 [] [] (omega arith) tt bytes-none

-- one string, and nothing behind it
one_string : (byte : ℕ) (v : List ℕ) → byte < 256 → Bytes v → length v < 2 ^ 32 → RequestReads byte (byte ∷ string v) (v ∷ []) []
one_string byte v b h l = rw (append-nil (string v)) at (request_reads byte (v ∷ []) [] b (h, l, tt) bytes-none)

pub lock_found : LockFound
lock_found v h l = one_string 22 v (omega arith) h l

pub unlock_found : UnlockFound
unlock_found v h l = one_string 23 v (omega arith) h l

pub sign_found : SignFound
sign_found blob bytes flags hb hd lb ld = request_reads 13 (blob ∷ bytes ∷ []) (be32 flags) (omega arith) (hb, lb, (hd, ld, tt)) (be32-bytes flags)

-- ## Smartcards

-- with nothing behind the PIN
plain-reads : (byte : ℕ) (id pin : List ℕ) → byte < 256 → Short (id ∷ pin ∷ []) → RequestReads byte (byte ∷ (string id ++ string pin)) (id ∷ pin ∷ []) []
plain-reads byte id pin b h =
    subst (λ (s : List ℕ). RequestReads byte (byte ∷ (string id ++ s)) (id ∷ pin ∷ []) []) (append-nil (string pin)) (request_reads byte (id ∷ pin ∷ []) [] b h bytes-none)

form_bytes : (c : Constraint) → Bytes (constraint_form c)
form_bytes (KeyLifetime seconds) = bytes-cons 1 (be32 seconds.count) (omega arith) (be32-bytes seconds.count)
form_bytes Confirm = bytes-cons 2 [] (omega arith) bytes-none

pub forms_bytes : (cs : List Constraint) → Bytes (constraint_forms cs)
forms_bytes [] = bytes-none
forms_bytes (c ∷ cs) = bytes-append (constraint_form c) (constraint_forms cs) (form_bytes c) (forms_bytes cs)

pub smartcard_read : SmartcardRead
smartcard_read id pin hi hp li lp = record {
  add = plain-reads 20 id pin (omega arith) (hi, li, (hp, lp, tt));
  remove = plain-reads 21 id pin (omega arith) (hi, li, (hp, lp, tt));
  constrained = λ cs.
      request_reads 26 (id ∷ pin ∷ []) (constraint_forms cs) (omega arith) (hi, li, (hp, lp, tt)) (forms_bytes cs);
}
