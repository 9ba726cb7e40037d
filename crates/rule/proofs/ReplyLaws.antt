-- Every reply fits the buffer that refusal 1 asks for: the longest is a list of 24 blobs of 1,024 bytes, each with a comment of 255; refusal 5 bounds a lent signature.
use Prim.Native.Nat.{ℕ, ◌-◌, ◌*◌, ◌≤◌}
use native.Mathlib.Omega.{arith}
use mathlib.Core.Path.{◌≡◌, refl, sym, ap, ◌∙◌, subst}
use mathlib.Core.Bool.{Bool, true, false, cond}
use mathlib.Core.Option.{Option, none, some}
use mathlib.Core.List.{List, [], ◌∷◌}
use lib.ListN.{length, length-append}
use lib.Dec.{leb, ltb, eqb}
use Rattle.wire.specs.Limits.{entries_limit, passphrase_limit, signature_limit, reply_room, item_room, last_number}
use Rattle.wire.specs.Read.{cut_of, same, string_at, number_at}
use Rattle.wire.specs.Write.{string}
use Rattle.keys.specs.Kinds.{blob_of}
use Rattle.keys.specs.Additions.{addition_at}
use Rattle.rule.specs.declared.Millis.{Millis}
use Rattle.rule.specs.declared.Hash.{Hash}
use Rattle.rule.specs.Gateway.{Entry, Gateway, locked, opened, advance, seek, holds, entry_with, place_for, with_entry}
use Rattle.rule.specs.Soundness.{EveryEntry, SoundEntry, Sound, fit}
use Rattle.rule.specs.Rule.{Question, gate, check, confirmation, signature, Answer, Landing, reply, close, FAILURE, SUCCESS, Plan, land, ask, fails, closes, items, listed, listing, removing, removing_all, locking, unlocking, hash_of, signature_reply, signed, signing_data, confirming, signing, entry_of, storing, adding, gated, row, table, rule}
use Rattle.rule.specs.Calls.{given, Numbered, for_number, lent, lent_length, Call, lands, Result, follow, served, refusal, call}
use Rattle.rule.specs.Order.{RepliesFit}
use Rattle.rule.proofs.Cases.{cond_cases, part-cases, number_cases, found-cases, added-cases, given-cases}
use Rattle.rule.proofs.Plans.{asks_not_lands, refused_not_lands}
use Rattle.rule.proofs.PositionLaws.{some_not_none}
use Rattle.rule.proofs.RefusalLaws.{accepted}
use Rattle.rule.proofs.SoundLaws.{sound-advance}

abbrev size : Landing → ℕ
size (reply bytes) = length bytes
size close = 0

-- ## The longest list

items-length : (clock : Millis) (next : ℕ) (es : List Entry) → EveryEntry (SoundEntry clock next) es → length (items es) ≤ item_room * length es
unfolding items
items-length clock next [] h = omega arith
items-length clock next (e ∷ es) h =
    let r = items-length clock next es h.1 in
    let blob = h.0.lengths.blob_fits in
    let comment = h.0.lengths.comment_fits in
    simp length-append (omega arith)

list_size : (g : Gateway) → Sound g → length (listed g.entries) ≤ reply_room
unfolding listed
list_size g s =
    let l = items-length g.clock g.next g.entries s.entries in
    let few : length g.entries ≤ entries_limit = s.few in
    omega arith

-- ## What a plan lands with, where lent signatures are short

module _ (lent : (q : Question) → Option (Answer q)) (g : Gateway)
    (short : (n from to : ℕ) (hash : Hash) (blob : List ℕ) → lent (signature n from to hash) ≡ some (some blob) → length blob ≤ signature_limit) where
  record Fits (plan : Plan) : Type 0 where
    fits : (l : Landing) → (follow lent g plan).outcome ≡ lands l → size l ≤ reply_room

  land_fits : (l : Landing) (after : Gateway) → size l ≤ reply_room → Fits (land l after)
  unfolding follow
  land_fits l after h = record { fits = λ l' e. subst (λ l. size l ≤ reply_room) (same-landing l l' e) h }
    where
      same-landing : (l l' : Landing) → lands l ≡ lands l' → l ≡ l'
      same-landing l l' e = cc

  ask_fits : (q : Question) (onwards : Answer q → Plan) → ((a : Answer q) → lent q ≡ some a → Fits (onwards a)) → Fits (ask q onwards)
  unfolding follow
  ask_fits q onwards f = record {
    fits = λ l. given-cases (λ (r : Result). r.outcome ≡ lands l → size l ≤ reply_room) (lent q) (λ _ never. absurd (asks_not_lands q l never)) (λ a e. (f a e).fits l);
  }

  fails-fits : Fits (fails g)
  fails-fits = land_fits FAILURE g (omega arith)

  success_fits : (after : Gateway) → Fits (land SUCCESS after)
  success_fits after = land_fits SUCCESS after (omega arith)

  closes-fits : Fits (closes g)
  closes-fits = land_fits close g (omega arith)

  cond-fits : (b : Bool) (plan : Plan) → Fits plan → Fits (cond b plan (fails g))
  cond-fits b plan h = cond_cases Fits b (λ _. h) (λ _. fails-fits)

  signed-fits : (a : Option (List ℕ)) → ((blob : List ℕ) → a ≡ some blob → length blob ≤ signature_limit) → Fits (signed g a)
  unfolding signed signature_reply
  signed-fits none h = closes-fits
  signed-fits (some blob) h = let b = h blob refl in land_fits (reply (string (14 ∷ string blob))) g (omega arith)

  data_fits : (payload : List ℕ) (n at : ℕ) → Fits (signing_data g payload n at)
  unfolding signing_data
  data_fits payload n at =
      part-cases Fits (string_at payload at) (λ _ _. closes-fits) λ f t k _.
      number_cases Fits (number_at payload k.at) (λ _ _. closes-fits) λ flags end _.
      ask_fits (signature n f t (hash_of flags)) (signed g) λ a e.
      signed-fits a (λ blob is. short n f t (hash_of flags) blob (e ∙ ap some is))

  signing-fits : (payload : List ℕ) → Fits (signing g payload)
  unfolding signing confirming
  signing-fits payload =
      part-cases Fits (string_at payload 1) (λ _ _. closes-fits) λ f t k _.
      by_key (entry_with (cut_of payload f t) g.entries) k.at
    where
      by_key : (o : Option Entry) (at : ℕ) → Fits (confirming g payload o at)
      by_key none at = fails-fits
      by_key (some e) at =
          let signer = data_fits payload e.number at in
          cond_cases Fits e.confirm (λ _. ask_fits (confirmation e.number) _ (λ granted _. cond-fits granted _ signer)) (λ _. signer)

  adding-fits : (constrained : Bool) (payload : List ℕ) → Fits (adding constrained g payload)
  unfolding adding storing
  adding-fits constrained payload =
      added-cases Fits (addition_at payload 1 constrained) fails-fits λ c _.
      let e = entry_of g payload c (blob_of payload 1 c.places) in
      cond-fits (fit e.blob e.fields e.comment) _
      (cond-fits (ltb g.next last_number) _
      (found-cases Fits (place_for e g.entries) (λ _. fails-fits) λ i _.
      ask_fits (check 1 c.places.end) _ (λ granted _. cond-fits granted _ (success_fits (with_entry i e g)))))

  removing-fits : (payload : List ℕ) → Fits (removing g payload)
  unfolding removing
  removing-fits payload =
      part-cases Fits (string_at payload 1) (λ _ _. fails-fits) λ f t k _.
      found-cases Fits (seek (holds (cut_of payload f t)) 0 g.entries) (λ _. fails-fits) (λ i _. success_fits _)

  locking-fits : (payload : List ℕ) → Fits (locking g payload)
  unfolding locking
  locking-fits payload =
      part-cases Fits (string_at payload 1) (λ _ _. fails-fits) λ f t k _.
      cond-fits (leb (t - f) passphrase_limit) _ (success_fits _)

  unlocking-fits : (payload : List ℕ) → Fits (unlocking g payload)
  unfolding unlocking
  unlocking-fits payload =
      part-cases Fits (string_at payload 1) (λ _ _. fails-fits) λ f t k _.
      cond-fits (same g.lock (cut_of payload f t)) _ (success_fits _)

  row_fits : (first byte : ℕ) (fit : Bool) (class : ℕ) (body below : Plan) → Fits body → Fits below → Fits (row g first byte fit class body below)
  unfolding row gated
  row_fits first byte fit class body below h k =
      cond_cases Fits (eqb first byte) (λ _. cond-fits fit _ (ask_fits (gate class) _ (λ granted _. cond-fits granted body h))) (λ _. k)

  rule_fits : Sound g → (payload : List ℕ) → Fits (rule g payload)
  unfolding rule table listing removing_all
  rule_fits s payload =
      cond-fits (ltb 0 (length payload)) _
      (row_fits _ 11 (opened g) 1 _ _ (land_fits _ g (list_size g s))
      (row_fits _ 17 (opened g) 2 _ _ (adding-fits false payload)
      (row_fits _ 25 (opened g) 2 _ _ (adding-fits true payload)
      (row_fits _ 18 (opened g) 3 _ _ (removing-fits payload)
      (row_fits _ 19 (opened g) 4 _ _ (success_fits _)
      (row_fits _ 13 (opened g) 5 _ _ (signing-fits payload)
      (row_fits _ 22 (opened g) 6 _ _ (locking-fits payload)
      (row_fits _ 23 (locked g) 7 _ _ (unlocking-fits payload)
      fails-fits))))))))

-- ## A call

lent_length_lem : (n : ℕ) (o : Option (Numbered (Option (List ℕ)))) (blob : List ℕ) → for_number n o ≡ some (some blob) → lent_length o ≡ length blob
unfolding for_number lent_length
lent_length_lem n none blob = λ never. absurd (some_not_none (sym never))
lent_length_lem n (some a) blob =
    cond_cases (λ (o : Option (Option (List ℕ))). o ≡ some (some blob) → given a.answer 0 length ≡ length blob) (eqb a.number n)
    (λ _ e. let is : a.answer ≡ some blob = cc in ap (λ (o : Option (List ℕ)). given o 0 length) is)
    (λ _ never. absurd (some_not_none (sym never)))

lent-short : (g : Gateway) (c : Call) → refusal g c ≡ none → (n from to : ℕ) (hash : Hash) (blob : List ℕ)
    → lent c.answers (signature n from to hash) ≡ some (some blob) → length blob ≤ signature_limit
unfolding lent
lent-short g c ok n from to hash blob e = rw (lent_length_lem n c.answers.signature blob e) at (accepted g c ok).lent-short

pub replies_fit : RepliesFit
unfolding call served
replies_fit g c bytes s =
    let now = advance c.reading g in
    given-cases (λ (r : Result). r.outcome ≡ lands (reply bytes) → length bytes ≤ reply_room) (refusal g c)
    (λ ok. (rule_fits (lent c.answers) now (lent-short g c ok) (sound-advance c.reading g s) c.frame.payload).fits (reply bytes))
    (λ n _ never. absurd (refused_not_lands n (reply bytes) never))
