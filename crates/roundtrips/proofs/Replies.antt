-- The agent's list is one as it is written, its comments UTF-8, so the reader takes it; lengths are those of a sound gateway.
use Prim.Native.Nat.{ℕ, zero, suc, ◌+◌, ◌^◌, ◌<◌}
use mathlib.Core.Path.{◌≡◌, refl, sym, ap, ap₂, subst, ◌∙◌}
use mathlib.Core.List.{List, [], ◌∷◌, ◌++◌, map}
use native.Mathlib.Omega.{arith}
use lib.ListN.{length, get_or, take, length-map}
use Rattle.wire.specs.Numbers.{Bytes, be32}
use Rattle.wire.specs.Abnf.{Octets}
use Rattle.wire.specs.Write.{string}
use Rattle.wire.specs.Refusals.{grants}
use Rattle.wire.proofs.FrameLaws.{splits}
use Rattle.rule.specs.Gateway.{Entry, fresh}
use Rattle.rule.specs.Soundness.{EveryEntry, SoundEntry}
use Rattle.rule.specs.Rule.{reply, signature_reply}
use Rattle.rule.specs.Calls.{lands}
use Rattle.rule.specs.Runs.{end_of}
use Rattle.rule.specs.Words.{at_call}
use Rattle.rule.specs.Rows.{list}
use Rattle.rule.specs.Listing.{item_forms}
use Rattle.rule.proofs.PositionLaws.{every_at, every_of}
use Rattle.rule.proofs.RefusalLaws.{accepted}
use Rattle.rule.proofs.SoundLaws.{sound-rule, sound-advance}
use Rattle.rule.proofs.ReplyLaws.{replies_fit}
use Rattle.rule.proofs.RowLaws.{landing_beyond, through}
use Rattle.rule.proofs.ListLaws.{list_rule}
use Rattle.rule.proofs.CommentLaws.{advance-has, text_from_fresh, bytes-from_fresh}
use Rattle.readers.specs.Values.{listing_says}
use Rattle.readers.specs.Identities.{count_of}
use Rattle.readers.specs.Promises.{HandsOut, listed_forms, list_payload, listed_blobs, Listable, Each}
use Rattle.readers.proofs.ListLaws.{written-list_read}
use Rattle.roundtrips.specs.Promises.{list_reply, blobs_of, listed, ListReplyRead, AgentListRead, FreshListRead, SignatureReplyIs}

-- ## The reader

forms_same : (es : List Entry) → listed_forms (map listed es) ≡ item_forms es
forms_same [] = refl
forms_same (e ∷ es) = ap (λ (t : List ℕ). string e.blob ++ (string e.comment ++ t)) (forms_same es)

blobs_same : (es : List Entry) → listed_blobs (map listed es) ≡ blobs_of es
blobs_same [] = refl
blobs_same (e ∷ es) = ap (λ (t : List (List ℕ)). e.blob ∷ t) (blobs_same es)

front_same : (i : ℕ) (es : List Entry) → listed_forms (take i (map listed es)) ≡ item_forms (take i es)
front_same zero es = refl
front_same (suc i) [] = refl
front_same (suc i) (e ∷ es) = ap (λ (t : List ℕ). string e.blob ++ (string e.comment ++ t)) (front_same i es)

each-listed : (es : List Entry) → Each (λ e. Listable (listed e)) es → Each Listable (map listed es)
each-listed [] h = tt
each-listed (e ∷ es) (l, h) = (l, each-listed es h)

hands_as : {p q : List ℕ} {i : ℕ} {b c : List ℕ} {m n : ℕ} → p ≡ q → b ≡ c → m ≡ n → HandsOut p i b m → HandsOut q i c n
hands_as e f g x = rw (← e, ← f, ← g) x

pub list_reply-read : ListReplyRead
list_reply-read es h few =
    let n : length (map listed es) ≡ length es = length-map es listed in
    let is : list_payload (map listed es) ≡ list_reply es = ap₂ (λ (i : ℕ) (l : List ℕ). 12 ∷ (be32 i ++ l)) n (forms_same es) in
    let r = written-list_read (map listed es) (each-listed es h) (omega (arith, n)) in
    record {
      count = subst (λ (p : List ℕ). listing_says (count_of p) ≡ grants (length es)) is (r.count ∙ ap grants n);
      items = λ i l.
          hands_as is (ap (λ (bs : List (List ℕ)). get_or bs i []) (blobs_same es)) (ap (λ (t : List ℕ). 5 + length t + 4) (front_same i es)) (r.items i (omega (arith, n)));
    }

-- ## What the agent sends

every_each : (P : Entry → Type 0) (es : List Entry) → EveryEntry P es → Each P es
every_each P [] h = tt
every_each P (e ∷ es) (p, h) = (p, every_each P es h)

same-reply : {a b : List ℕ} → lands (reply a) ≡ lands (reply b) → a ≡ b
same-reply e = cc

pub agent_list_read : AgentListRead
agent_list_read g c text blobs sent begins e answers =
    let way = through list g c begins e (landing_beyond answers) in
    let sound = (sound-rule g).0 (accepted g c way.past.accepted).state in
    let now = at_call g c in
    let sound-now = sound-advance c.reading g sound in
    let text-now = advance-has (λ e. Octets e.comment) c.reading g text in
    let blobs-now = advance-has (λ e. Bytes e.blob) c.reading g blobs in
    let es = now.entries in
    let is : sent ≡ string (list_reply es) = same-reply (sym e ∙ list_rule g c es way.past way.fit begins refl) in
    let fits = replies_fit g c sent sound e in
    let size = ap length is in
    let listable : EveryEntry (λ e. Listable (listed e)) es =
    every_of (λ e. Listable (listed e)) es (λ i x there.
    let lengths = (every_at (SoundEntry now.clock now.next) es sound-now.entries i x there).lengths in
    record {
      bytes = every_at (λ e. Bytes e.blob) es blobs-now i x there;
      text = every_at (λ e. Octets e.comment) es text-now i x there;
      blob_small = omega (arith, lengths.blob_fits);
      comment_small = omega (arith, lengths.comment_fits);
    }) in
    let few : length es < 2 ^ 32 = omega (arith, sound-now.few) in
    record {
      payload = list_reply es;
      splits = rw is (splits (list_reply es) (omega arith)).alone;
      reads = list_reply-read es (every_each (λ e. Listable (listed e)) es listable) few;
    }

pub fresh-list_read : FreshListRead
fresh-list_read cs c small = agent_list_read (end_of fresh cs) c (text_from_fresh cs small) (bytes-from_fresh cs small)

-- ## Signatures

pub signature_reply-is : SignatureReplyIs
unfolding signature_reply
signature_reply-is signature = refl
