-- Signing: whom the signer is asked for and with what, that a signature goes out only so, and that it goes out where gate, confirmation and signer say yes.
use Prim.Native.Nat.{ℕ, ◌+◌, ◌/◌, ◌%◌}
use native.Mathlib.Omega.{arith}
use mathlib.Core.Path.{◌≡◌, refl, sym, ◌∙◌}
use mathlib.Core.Bool.{Bool, true, false}
use mathlib.Core.Option.{Option, none, some}
use mathlib.Core.List.{List, ◌∷◌}
use borrow.Author.Tests.{eq-eqb, ne_eqb, eqb-true}
use lib.Dec.{eqb}
use lib.ListN.{length}
use Rattle.wire.specs.Numbers.{Bytes}
use Rattle.wire.specs.Read.{cut_of}
use Rattle.wire.specs.Steps.{part, number}
use Rattle.wire.specs.Write.{string}
use Rattle.rule.specs.Gateway.{Entry, Gateway, locked}
use Rattle.rule.specs.Rule.{Question, gate, confirmation, signature, Answer, reply, hash_of, signature_reply, signed, signing_data, confirming, signing}
use Rattle.rule.specs.Calls.{Numbered, for_number, lent, Call, asks, lands, Result, follow, call}
use Rattle.rule.specs.Words.{Begins, Carries, HeldAt, Held, at_call, payload_of, PastGate}
use Rattle.rule.specs.Rows.{sign}
use Rattle.rule.specs.Signing.{SignRequest, HashTable, Confirmed, SignatureAsks, ConfirmationAsks, SignsOnly, SignsAlways}
use Rattle.rule.proofs.Cases.{cond_cases}
use Rattle.rule.proofs.PositionLaws.{some_not_none, held_found, entry_found}
use Rattle.rule.proofs.RefusalLaws.{accepted}
use Rattle.rule.proofs.SoundLaws.{sound-advance, sound-rule}
use Rattle.rule.proofs.AnswerLaws.{numbered-answers}
use Rattle.rule.proofs.RowLaws.{same-landing, past_gate_lem, landing_beyond, through}
use Rattle.rule.proofs.Plans.{asks_not_lands}
use Rattle.rule.proofs.RequestLaws.{Ordered, sign_in, data_places, sign_out}
use Rattle.rule.proofs.BodyLaws.{Allowed, adding-cases, signing-cases, AsksIn, in_add, in_sign, silent, asks_in}

-- ## Hash and answers

hash_table : (flags : ℕ) → HashTable flags (hash_of flags)
unfolding hash_of
hash_table flags = record {
  flag_2 = λ h. let two : flags / 2 % 2 ≡ 1 = omega arith in rw (eq-eqb _ _ two);
  flag_4 = λ h k. let four : flags / 4 % 2 ≡ 1 = omega arith in rw (ne_eqb (flags / 2 % 2) 1 (λ two. omega arith), eq-eqb _ _ four);
  neither = λ h k. rw (ne_eqb (flags / 2 % 2) 1 (λ two. omega arith), ne_eqb (flags / 4 % 2) 1 (λ four. omega arith));
}

-- an answer that counts for a number carries it
pub own_number : {A : Type 0} (n : ℕ) (o : Option (Numbered A)) (a : A) → for_number n o ≡ some a → o ≡ some (record { number = n; answer = a })
unfolding for_number
own_number n none a = λ never. absurd (some_not_none (sym never))
own_number {A} n (some x) a =
    cond_cases (λ (r : Option A). r ≡ some a → some x ≡ some (record { number = n; answer = a })) (eqb x.number n)
    (λ t e. let same_number = eqb-true _ _ t in let same_answer : x.answer ≡ a = cc in λ i. some (record { number = same_number i; answer = same_answer i }))
    (λ _ never. absurd (some_not_none (sym never)))

pub allowed_confirmed : (c : Call) (e : Entry) → Allowed (lent c.answers) e → Confirmed c e
unfolding lent
allowed_confirmed c e allowed confirm = own_number e.number c.answers.confirmation true (allowed confirm)

-- ## What the signer is asked

pub signature_asks : SignatureAsks
signature_asks g c n from to hash bytes e = by_row (asks_in g c (signature n from to hash) (λ class never. signature_not_gate never) e)
  where
    Asked : Type 0
    Asked =
        PastGate g c × (locked g ≡ false) × (e : Entry) × (bytes : List ℕ) × (flags : ℕ) × Held (at_call g c) e × (e.number ≡ n)
        × SignRequest (payload_of c) e.blob bytes flags × (from ≡ 1 + length (string e.blob) + 4) × (to ≡ from + length bytes)
        × HashTable flags hash × Confirmed c e

    signature_not_gate : {class : ℕ} → signature n from to hash ≡ gate class → ⊥
    signature_not_gate never = let z : ◌≡◌ {A = ℕ} 0 1 = cc in omega arith

    Asks : Result → Type 0
    Asks r = r.outcome ≡ asks (signature n from to hash) → Asked

    by_row : AsksIn g c (signature n from to hash) → Asked
    by_row (in_add past state constrained begins is) =
        adding-cases (lent c.answers) (at_call g c) (payload_of c) Asks silent constrained
        (λ k i _ _ never. let z : ◌≡◌ {A = ℕ} 0 1 = cc in absurd (omega arith))
        (λ k i _ _ _. silent)
        is
    by_row (in_sign past state begins is) =
        signing-cases (lent c.answers) (at_call g c) (payload_of c) Asks (λ _. silent) (λ _. silent)
        (λ i x _ _ never. let z : ◌≡◌ {A = ℕ} 0 1 = cc in absurd (omega arith))
        (λ i x f t flags key order allowed same.
        let same_from : from ≡ f = cc in
        let same-to : to ≡ t = cc in
        let same-hash : hash_of flags ≡ hash = cc in
        let places = data_places key.carries order in (
          past,
          state,
          x,
          cut_of (payload_of c) f t,
          flags,
          (i, key.there),
          (cc),
          sign_in bytes begins key.carries order,
          same_from ∙ places.start,
          same-to ∙ places.end ∙ rw same_from refl,
          rw (← same-hash) (hash_table flags),
          allowed_confirmed c x allowed,
        ))
        (λ i x f t flags blob _ _ _ _. silent)
        is

-- ## What goes out

pub signs_only : SignsOnly
unfolding signature_reply lent
signs_only g c bytes begins e other =
    let result = (through sign g c begins e (landing_beyond other)).result in
    signing-cases (lent c.answers) (at_call g c) (payload_of c) Out
    (λ _ is. absurd (other (sym (same-landing is))))
    (λ _ never. let z : ◌≡◌ {A = ℕ} 0 1 = cc in absurd (omega arith))
    (λ i x _ _ never. absurd (asks_not_lands _ _ never))
    (λ i x f t flags _ _ _ never. absurd (asks_not_lands _ _ never))
    (λ i x f t flags blob key order allowed says is.
    (x, blob, (i, key.there), key.carries, own_number x.number c.answers.signature (some blob) says, same_bytes is, allowed_confirmed c x allowed))
    (rw result at e)
  where
    Out : Result → Type 0
    Out r =
        r.outcome ≡ lands (reply bytes) → (e : Entry) × (blob : List ℕ) × Held (at_call g c) e × Carries e.blob (payload_of c)
        × (c.answers.signature ≡ some (record { number = e.number; answer = some blob })) × (bytes ≡ string (14 ∷ string blob)) × Confirmed c e

    same_bytes : {sent : List ℕ} → lands (reply sent) ≡ lands (reply bytes) → bytes ≡ sent
    same_bytes is = cc

-- ## A held key past the gate

data_signed : (answer : (q : Question) → Option (Answer q)) (g : Gateway) (payload : List ℕ) (n : ℕ) {at from to flags : ℕ} → Ordered payload at from to flags
    → (a : Option (List ℕ)) → answer (signature n from to (hash_of flags)) ≡ some a → follow answer g (signing_data g payload n at) ≡ follow answer g (signed g a)
unfolding signing_data part number follow
data_signed answer g payload n order a says = rw (order.message, order.choice, says)

module _ (g : Gateway) (c : Call) (past : PastGate g c) (state : locked g ≡ false) (i : ℕ) (e : Entry) (held : HeldAt (at_call g c) i e) where
  module _ (begins : Begins 13 (payload_of c)) (s : Carries e.blob (payload_of c)) where
    -- the request comes to the key that it names
    pub comes_to_key : call g c ≡ follow (lent c.answers) (at_call g c) (confirming (at_call g c) (payload_of c) (some e) s.next.at)
    unfolding signing part
    comes_to_key =
        let sound = (sound-rule g).0 (accepted g c past.accepted).state in
        let at = held_found (at_call g c).entries (sound-advance c.reading g sound).distinct i e held in
        rw (past_gate_lem sign g c past state begins, s.read, s.is, entry_found e.blob (at_call g c).entries i at, held)

    -- and, with the yes that the key needs, to its data
    pub comes_to_data : Confirmed c e → call g c ≡ follow (lent c.answers) (at_call g c) (signing_data (at_call g c) (payload_of c) e.number s.next.at)
    unfolding confirming follow
    comes_to_data confirmed = comes_to_key ∙ by_confirm e.confirm refl
      where
        by_confirm : (b : Bool) → e.confirm ≡ b
            → follow (lent c.answers) (at_call g c) (confirming (at_call g c) (payload_of c) (some e) s.next.at)
            ≡ follow (lent c.answers) (at_call g c) (signing_data (at_call g c) (payload_of c) e.number s.next.at)
        by_confirm true is = rw (is, ((numbered-answers c.answers).confirmations e.number).own true (confirmed is))
        by_confirm false is = rw is

  -- and, well-formed, to what the signer says
  pub comes_to_signer : {bytes : List ℕ} {flags : ℕ} (a : Option (List ℕ)) → Bytes (payload_of c) → SignRequest (payload_of c) e.blob bytes flags → Confirmed c e
      → c.answers.signature ≡ some (record { number = e.number; answer = a })
      → call g c ≡ follow (lent c.answers) (at_call g c) (signed (at_call g c) a)
  comes_to_signer {flags = flags} a is-bytes request confirmed says =
      let fits = (accepted g c past.accepted).payload in
      let r = sign_out is-bytes (omega arith) request in
      comes_to_data r.begins r.carries confirmed
      ∙ data_signed (lent c.answers) (at_call g c) (payload_of c) e.number r.order a
      (((numbered-answers c.answers).signatures e.number r.from r.to (hash_of flags)).own a says)

pub signs_always : SignsAlways
unfolding signed signature_reply follow
signs_always g c e bytes blob flags is-bytes past state (i, held) request confirmed says =
    rw (comes_to_signer g c past state i e held (some blob) is-bytes request confirmed says)

-- ## What is confirmed

pub confirmation_asks : ConfirmationAsks
confirmation_asks g c n e = by_row (asks_in g c (confirmation n) (λ class never. confirmation_not_gate never) e)
  where
    Asked : Type 0
    Asked =
        PastGate g c × (locked g ≡ false) × Begins 13 (payload_of c)
        × (e : Entry) × Held (at_call g c) e × (e.number ≡ n) × (e.confirm ≡ true) × Carries e.blob (payload_of c)

    confirmation_not_gate : {class : ℕ} → confirmation n ≡ gate class → ⊥
    confirmation_not_gate never = let z : ◌≡◌ {A = ℕ} 0 1 = cc in omega arith

    Asks : Result → Type 0
    Asks r = r.outcome ≡ asks (confirmation n) → Asked

    by_row : AsksIn g c (confirmation n) → Asked
    by_row (in_add past state constrained begins is) =
        adding-cases (lent c.answers) (at_call g c) (payload_of c) Asks silent constrained
        (λ k i _ _ never. let z : ◌≡◌ {A = ℕ} 0 1 = cc in absurd (omega arith))
        (λ k i _ _ _. silent)
        is
    by_row (in_sign past state begins is) =
        signing-cases (lent c.answers) (at_call g c) (payload_of c) Asks (λ _. silent) (λ _. silent)
        (λ i x key confirm same. (past, state, begins, x, (i, key.there), (cc), confirm, key.carries))
        (λ i x f t flags _ _ _ never. let z : ◌≡◌ {A = ℕ} 0 1 = cc in absurd (omega arith))
        (λ i x f t flags blob _ _ _ _. silent)
        is
