-- The sign request: the answers that count for an insertion number, the signature's reply, and each end of `sign_data` and `try_sign`.
use Prim.Native.Nat.{ℕ, ◌+◌, ◌≤◌, ◌<◌}
use mathlib.Core.Path.{◌≡◌, refl, sym, ap, ◌∙◌}
use mathlib.Core.Bool.{Bool, true, false, cond}
use mathlib.Core.Option.{Option, none, some}
use mathlib.Core.List.{List, [], ◌∷◌, ◌++◌}
use native.Mathlib.Omega.{arith}
use lib.ListN.{length, get_or}
use Rattle.wire.specs.Limits.{entries_limit}
use Rattle.wire.specs.Numbers.{be32}
use Rattle.wire.specs.Write.{string, write}
use Rattle.wire.proofs.Writing.{write-behind}
use Rattle.rule.specs.declared.Hash.{Hash}
use Rattle.rule.specs.Gateway.{Found}
use Rattle.std.specs.Prelude.{Some, None}
use Rattle.rule.specs.Gateway.{Entry as Key, Gateway, entry_at, seek, holds, entry_with}
use Rattle.rule.specs.Rule.{Question, Answer, Plan, ask, close, FAILURE, fails, confirmation, signature, signature_reply, signed, signing_data, confirming}
use Rattle.rule.specs.Calls.{lands, for_number, lent, lent_length, follow}
use Rattle.rule.proofs.PositionLaws.{found_at as found-entry, entry_found, entry_absent}
use Rattle.rule.proofs.SignLaws.{own_number}
use Rattle.table.specs.declared.State.{State}
use Rattle.table.specs.Entries.{count_of}
use Rattle.table.specs.Meaning.{is_set, gateway_of}
use Rattle.table.specs.Soundness.{Sound, Housed}
use Rattle.table.specs.Shown.{SoundOf, ShowsKeys}
use Rattle.table.proofs.ReadLaws.{state_housed, state_few, held_number, held-confirm}
use Rattle.requests.specs.declared.Said.{Said}
use Rattle.requests.specs.declared.Said.TheVariants.{Missing, No, Yes}
use Rattle.requests.specs.declared.Answers.{Answers}
use Rattle.requests.specs.declared.Called.{Called}
use Rattle.requests.specs.declared.Outcome.TheVariants.{Confirm, Sign, Reply}
use Rattle.requests.specs.Outcomes.{grant_of, confirmation_of, agreed, signature_of, lent_of, handed, code}
use Rattle.requests.specs.Ends.{Ends}
use Rattle.requests.proofs.EndSteps.{ends, cond_yes, cond_no, landed, asked, answered, replied, asked-ends, means_itself}

-- ## The reply

-- the length, 14, and the blob as a string
pub signature_written : (blob o m₁ m₂ m₃ : List ℕ) (k at end : ℕ) → m₁ ≡ write o 0 (be32 (length blob + 5)) → k ≡ 0 + 4 → m₂ ≡ write m₁ k (14 ∷ []) → at ≡ k + 1
    → m₃ ≡ write m₂ at (string blob) → end ≡ at + 4 + length blob → 9 + length blob ≤ length o
    → (end ≡ length (signature_reply blob)) × (m₃ ≡ write o 0 (signature_reply blob))
unfolding signature_reply
signature_written blob o m₁ m₂ m₃ k at end e₁ ek e₂ ea e₃ ee h =
    let s₁ = write-behind o 0 (be32 (length blob + 5)) m₁ k (14 ∷ []) m₂ e₁ e₂ (omega arith) (omega arith) in
    let s₂ = write-behind o 0 (be32 (length blob + 5) ++ (14 ∷ [])) m₂ at (string blob) m₃ s₁ e₃ (omega arith) (omega arith) in
    let q : length blob + 5 ≡ length (14 ∷ string blob) = omega arith in
    (omega arith, s₂ ∙ (λ j. write o 0 ((be32 (q j) ++ (14 ∷ [])) ++ string blob)))

-- ## The signer's answer

module _ (answers : Answers) (bytes : List ℕ) (n : ℕ) (w : Said) (says : (b : List ℕ) → for_number n (signature_of answers.signature b) ≡ handed w b) where
  -- a signature that counts is a lent one
  pub signature_short : (m : ℕ) → w ≡ Yes → lent_length (lent_of answers bytes).signature ≤ m → length bytes ≤ m
  unfolding lent_of lent_length
  signature_short m e h =
      let own = own_number n (signature_of answers.signature bytes) (some bytes) (says bytes ∙ ap (λ (w : Said). handed w bytes) e) in
      rw own at h

  module _ (f t : ℕ) (hash : Hash) where
    signer_says : (v : Said) → w ≡ v → lent (lent_of answers bytes) (signature n f t hash) ≡ handed v bytes
    unfolding lent lent_of
    signer_says v e = says bytes ∙ ap (λ (w : Said). handed w bytes) e

    module _ (s : State) (x buffer : List ℕ) where
      abbrev Signs : Called → List ℕ → Type 0
      Signs r out = Ends buffer r x out (follow (lent (lent_of answers bytes)) (gateway_of s x) (ask (signature n f t hash) (signed (gateway_of s x))))

      pub signer_asked : (k : Hash) → w ≡ Missing → k ≡ hash → Sound s x → Signs (record { outcome = Sign n f t k; state = s }) buffer
      unfolding code
      signer_asked k e q h = asked _ _ _ _ _ _ _ _ (signer_says Missing e) (asked-ends _ _ _ _ _ (ap (λ (k : Hash). Sign n f t k) q) h)

      pub signer_silent : (r : Called) → w ≡ No → Ends buffer r x buffer (record { outcome = lands close; gateway = gateway_of s x }) → Signs r buffer
      unfolding signed
      signer_silent r e h = answered _ _ _ _ _ _ _ _ none (signer_says No e) (landed _ _ _ _ _ _ _ _ h)

      pub signer_signs : (len : ℕ) (out : List ℕ) → w ≡ Yes → len ≡ length (signature_reply bytes) → out ≡ write buffer 0 (signature_reply bytes) → Sound s x
          → Signs (record { outcome = Reply len; state = s }) out
      unfolding signed
      signer_signs len out e l b h =
          answered _ _ _ _ _ _ _ _ (some bytes) (signer_says Yes e) (landed _ _ _ _ _ _ _ _ (replied _ _ _ _ _ _ _ _ refl l b (means_itself _ _ h)))

-- ## The confirmation

module _ (answers : Answers) (bytes : List ℕ) (s : State) (x buffer : List ℕ) (r : Called) (out payload : List ℕ) (e : Key) (at n flag : ℕ) (number : e.number ≡ n) (confirm : e.confirm ≡ is_set flag)
    (w : Said) (says : agreed n (is_set flag) (confirmation_of answers.confirmation) ≡ grant_of w) where
  abbrev Confirms : Plan → Type 0
  Confirms plan = Ends buffer r x out (follow (lent (lent_of answers bytes)) (gateway_of s x) plan)

  abbrev here : Plan
  here = confirming (gateway_of s x) payload (some e) at

  abbrev onwards : Plan
  onwards = signing_data (gateway_of s x) payload n at

  abbrev asking : Plan
  asking = ask (confirmation n) λ granted. cond granted onwards (fails (gateway_of s x))

  own : n ≡ e.number
  own = sym number

  said : agreed e.number e.confirm (confirmation_of answers.confirmation) ≡ grant_of w
  said = rw (number, confirm) says

  -- with Confirm the confirmation that counts is what is said
  confirmer_says : (v : Said) → e.confirm ≡ true → w ≡ v → lent (lent_of answers bytes) (confirmation n) ≡ grant_of v
  unfolding agreed lent lent_of
  confirmer_says v must is = rw own ((rw must at said) ∙ ap grant_of is)

  confirmer_next : e.confirm ≡ true → Confirms asking → Confirms here
  unfolding confirming
  confirmer_next must h = rw (← own) (cond_yes _ _ _ _ _ _ _ _ _ (sym must) h)

  -- without it, yes is said
  unconfirmed_says : e.confirm ≡ false → grant_of w ≡ some true
  unfolding agreed
  unconfirmed_says free = sym (rw free at said)

  pub confirmer_asked : w ≡ Missing → r ≡ record { outcome = Confirm n; state = s } → out ≡ buffer → Sound s x → Confirms here
  unfolding code
  confirmer_asked is f o h = by_confirm e.confirm refl
    where
      by_confirm : (b : Bool) → e.confirm ≡ b → Confirms here
      by_confirm true must =
          confirmer_next must (asked _ _ _ _ _ _ _ _ (confirmer_says Missing must is) (rw (f, o) (asked-ends buffer x (Confirm n) s (confirmation n) refl h)))
      by_confirm false free = let never = rw is at (unconfirmed_says free) in let z : ◌≡◌ {A = ℕ} 0 1 = cc in absurd (omega arith)

  pub confirmer_denies : w ≡ No → Ends buffer r x out (record { outcome = lands FAILURE; gateway = gateway_of s x }) → Confirms here
  confirmer_denies is h = by_confirm e.confirm refl
    where
      by_confirm : (b : Bool) → e.confirm ≡ b → Confirms here
      by_confirm true must =
          confirmer_next must (answered _ _ _ _ _ _ _ _ false (confirmer_says No must is) (landed _ _ _ _ _ _ _ _ h))
      by_confirm false free = let never = rw is at (unconfirmed_says free) in let z : ◌≡◌ {A = ℕ} 0 1 = cc in absurd (omega arith)

  pub confirmer_grants : w ≡ Yes → Confirms onwards → Confirms here
  unfolding confirming
  confirmer_grants is h = by_confirm e.confirm refl
    where
      by_confirm : (b : Bool) → e.confirm ≡ b → Confirms here
      by_confirm true must = confirmer_next must (answered _ _ _ _ _ _ _ _ true (confirmer_says Yes must is) h)
      by_confirm false free = rw (← own) (cond_no _ _ _ _ _ _ _ _ _ (sym free) h)

-- ## The key

-- position i has a number and a flag
pub record Inside (ns cs : List ℕ) (i : ℕ) : Type 0 where
  pub few : i < entries_limit
  pub number : i < length ns
  pub flag : i < length cs

module _ (ns cs bs fs ms x : List ℕ) (keys : SoundOf (ShowsKeys ns cs bs fs ms) x) where
  -- the entries' bytes lie in the store
  pub keys_housed : Housed ns bs fs ms x
  keys_housed = state_housed keys.state x keys.sound ns bs fs ms keys.shows.parts

  -- number and flag of an entry that was found are lent
  pub keys_inside : (i : ℕ) → i < count_of keys.state.columns.numbers → Inside ns cs i
  keys_inside i h =
      let few = state_few keys.state x keys.sound in
      let numbers = sym (ap length keys.shows.parts.numbers_are) ∙ keys.sound.long.numbers in
      let confirm = sym (ap length keys.shows.confirm_is) ∙ keys.sound.long.confirm in
      record { few = omega arith; number = omega arith; flag = omega arith }

-- number and Confirm of a key that was found are those of its index
pub key-told : (ns cs bs fs ms x : List ℕ) (s : State) → ShowsKeys ns cs bs fs ms s → (i : ℕ) (k : Key) → entry_at (gateway_of s x).entries i ≡ some k
    → (k.number ≡ get_or ns i 0) × (k.confirm ≡ is_set (get_or cs i 0))
key-told ns cs bs fs ms x s shows i k held =
    (held_number s x i k held ∙ ap (λ (l : List ℕ). get_or l i 0) shows.parts.numbers_are, held-confirm s x i k held ∙ ap (λ (l : List ℕ). is_set (get_or l i 0)) shows.confirm_is)

-- where the search for a blob ended says which entry the rule goes on with
module _ (buffer : List ℕ) (r : Called) (store out : List ℕ) (answers : (q : Question) → Option (Answer q)) (g : Gateway) (payload : List ℕ) (at : ℕ) where
  abbrev Keyed : Option Key → Type 0
  Keyed o = Ends buffer r store out (follow answers g (confirming g payload o at))

  pub key-absent : (v : List ℕ) (w : Found) → w ≡ None → w ≡ seek (holds v) 0 g.entries → Ends buffer r store out (follow answers g (fails g))
      → Keyed (entry_with v g.entries)
  unfolding confirming
  key-absent v w e f h = rw (entry_absent v g.entries (sym f ∙ e)) h

  pub key-found : (v : List ℕ) (w : Found) (i : ℕ) → w ≡ Some i → w ≡ seek (holds v) 0 g.entries → ((k : Key) → entry_at g.entries i ≡ some k → Keyed (some k))
      → Keyed (entry_with v g.entries)
  key-found v w i e f h =
      let at_i : seek (holds v) 0 g.entries ≡ Some i = sym f ∙ e in
      let held = found-entry v g.entries i at_i in
      rw (entry_found v g.entries i at_i, held.there) (h held.entry held.there)

-- .. by its number and its flag for Confirm
pub key-signed : (buffer : List ℕ) (r : Called) (x out : List ℕ) (answers : (q : Question) → Option (Answer q)) (payload : List ℕ) (at : ℕ) (ns cs bs fs ms : List ℕ) (s : State)
    → ShowsKeys ns cs bs fs ms s → (v : List ℕ) (w : Found) (i : ℕ) → w ≡ Some i → w ≡ seek (holds v) 0 (gateway_of s x).entries
    → ((k : Key) → k.number ≡ get_or ns i 0 → k.confirm ≡ is_set (get_or cs i 0) → Keyed buffer r x out answers (gateway_of s x) payload at (some k))
    → Keyed buffer r x out answers (gateway_of s x) payload at (entry_with v (gateway_of s x).entries)
key-signed buffer r x out answers payload at ns cs bs fs ms s shows v w i e f h =
    key-found buffer r x out answers (gateway_of s x) payload at v w i e f λ k there.
    let told = key-told ns cs bs fs ms x s shows i k there in h k told.0 told.1

pub ruleset signs = (ends, key-absent, key-signed, signer_asked, signer_silent, signer_signs, confirmer_asked, confirmer_denies, confirmer_grants)
