-- When each answer of a writer comes: each test decides once those before it have passed; how long payloads are. Nothing is assumed of the bytes.
use Prim.Native.Nat.{ℕ, ◌+◌}
use mathlib.Core.Path.{◌≡◌, refl}
use mathlib.Core.List.{List}
use native.Mathlib.Omega.{arith}
use borrow.Author.Tests.{eq-eqb, ne_eqb, le-ltb, lt-ltb}
use lib.ListN.{length, take, length-append}
use Rattle.wire.specs.Limits.{payload_limit}
use Rattle.wire.specs.Abnf.{Octets}
use Rattle.wire.specs.Utf8.{utf8_end}
use Rattle.wire.specs.Promises.{Longest}
use Rattle.wire.proofs.Abnf.{utf8-rule}
use Rattle.wire.proofs.Longest.{utf8_end-whole, utf8-end, longest-one}
use Rattle.client.specs.Requests.{head_answer, plain_smartcard, constrained_smartcard, remove_smartcard, add_smartcard, remove_smartcard_answer, add_smartcard_answer}
use Rattle.client.specs.Promises.{WriterTable, PayloadSizes, RemoveSmartcardTable, AddSmartcardTable}

-- ## Frames

pub writer_table : WriterTable
unfolding head_answer
writer_table p out = record {
  too_long = λ h. rw (lt-ltb payload_limit (length p) h);
  too_short = λ h k. rw (le-ltb payload_limit (length p) h, lt-ltb (length out) (4 + length p) k);
  written = λ h k. rw (le-ltb payload_limit (length p) h, le-ltb (length out) (4 + length p) k);
}

-- ## Sizes

pub payload_sizes : PayloadSizes
payload_sizes = record {
  list = refl;
  sign = λ blob bytes flags. simp length-append (omega arith);
  lock = λ v. omega arith;
  unlock = λ v. omega arith;
  plain = λ id pin. simp length-append (omega arith);
  remove = λ id pin. simp length-append (omega arith);
  constrained = λ id pin cs. simp length-append (omega arith);
}

-- ## Smartcards

-- what the ABNF derives is UTF-8 up to its end, and nothing else is
module _ (id : List ℕ) where
  text_whole : Octets id → utf8_end id ≡ length id
  text_whole o = (utf8_end-whole id).1 ((utf8-rule id).1 o)

  no_text_whole : (Octets id → ⊥) → utf8_end id ≡ length id → ⊥
  no_text_whole never e = never ((utf8-rule id).0 ((utf8_end-whole id).0 e))

  -- there is one longest part
  longest-end : (n : ℕ) → Longest id n → utf8_end id ≡ n
  longest-end n l = longest-one id (utf8_end id) n (utf8-end id) l

pub remove_smartcard-table : RemoveSmartcardTable
unfolding remove_smartcard_answer
remove_smartcard-table id pin out = record {
  no_text = λ n never l. rw (ne_eqb (utf8_end id) (length id) (no_text_whole id never), longest-end id n l);
  framed = λ o. rw (eq-eqb (utf8_end id) (length id) (text_whole id o)) (writer_table (remove_smartcard id pin) out);
}

pub add_smartcard-table : AddSmartcardTable
unfolding add_smartcard_answer add_smartcard
add_smartcard-table id pin cs count out = record {
  none_given = λ z. rw (eq-eqb count 0 z);
  some_given = λ s. rw (ne_eqb count 0 (λ z. omega arith));
  too_many = λ h. rw (lt-ltb 4 count h);
  no_text = λ n h never l. rw (le-ltb 4 count h, ne_eqb (utf8_end id) (length id) (no_text_whole id never), longest-end id n l);
  plain = λ z o. rw (le-ltb 4 count (omega arith), eq-eqb (utf8_end id) (length id) (text_whole id o), eq-eqb count 0 z) (writer_table (plain_smartcard id pin) out);
  constrained = λ s h o.
      rw (le-ltb 4 count h, eq-eqb (utf8_end id) (length id) (text_whole id o), ne_eqb count 0 (λ z. omega arith)) (writer_table (constrained_smartcard id pin (take count cs)) out);
}
