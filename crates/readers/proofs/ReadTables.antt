-- When each answer of the identities reader comes: what does not have the draft's form is refused, as what is read has it; bytes are below 256.
use Prim.Native.Nat.{ℕ, suc, ◌+◌, ◌≤◌, ◌<◌}
use mathlib.Core.Path.{◌≡◌, refl, ap, ap₂, ◌∙◌}
use mathlib.Core.List.{List, [], ◌∷◌, ◌++◌}
use mathlib.Core.Logic.{◌⊎◌, inl, inr, ⊎_elim}
use native.Mathlib.Omega.{arith}
use borrow.Author.Tests.{lt-ltb, le-ltb, ne_eqb}
use lib.Dec.{ltb, eqb}
use lib.ListN.{length, get_or}
use Rattle.wire.specs.Numbers.{Bytes, be32}
use Rattle.wire.specs.Read.{number_at}
use Rattle.std.specs.Prelude.{Result, Ok, Err}
use Rattle.wire.specs.Steps.{part}
use Rattle.wire.specs.declared.refusal.Refusal.{Refusal}
use Rattle.wire.specs.Refusals.{Where, no_place, at_place, grants, refuses}
use Rattle.wire.proofs.Reading.{from_there}
use Rattle.wire.proofs.Format.{number_form}
use Rattle.wire.proofs.Strings.{lies_cut, behind, inside}
use Rattle.wire.proofs.Cases.{cond_cases, number_cases}
use Rattle.wire.proofs.RefusalLaws.{granted, not_granted, why, refusals_apart, wrote_written, wrote_refused, wrote_apart}
use Rattle.readers.specs.declared.identities.Blob.{Blob}
use Rattle.readers.specs.Reaches.{reach}
use Rattle.readers.specs.Values.{listing_says, Identity, item_says}
use Rattle.readers.specs.Identities.{items_at, count_of, counted, item_at, item_of, item_blob, item_from, blob_of_item, blob_from, certificate}
use Rattle.readers.specs.Promises.{ListForm, ItemLies, HandsOut, ListTable, ItemTable, ListingsApart}
use Rattle.readers.proofs.ReadSteps.{reach-cases}
use Rattle.readers.proofs.ReadRoundTrips.{some_there, forms_at, lists_counted, lists_fault, count_rule}

-- ## Values

item-one : (a b : Result Blob Refusal) → item_says a ≡ item_says b → a ≡ b
item-one (Ok a) (Ok b) e =
    let q : ◌≡◌ {A = Identity} (record { from = a.from; to = a.to; marked = a.certificate }) (record { from = b.from; to = b.to; marked = b.certificate }) = cc in
    ap (λ (x : Identity). Ok (record { from = x.from; to = x.to; certificate = x.marked })) q
item-one (Ok a) (Err r) e = granted e
item-one (Err r) (Ok a) e = not_granted e
item-one (Err r) (Err q) e = let y = why r e in ap Err (refusals_apart r q y.number y.place)

pub listings_apart : ListingsApart
listings_apart = record { listings = wrote_apart; items = item-one }

-- ## The list of keys

bytes-tail : (b : ℕ) (p : List ℕ) → Bytes (b ∷ p) → Bytes p
bytes-tail b p small i = small (suc i)

-- no other refusal comes
count_or_fault : (payload : List ℕ)
    → ((n : ℕ) × (listing_says (count_of payload) ≡ grants n)) ⊎ ((place : ℕ) × (listing_says (count_of payload) ≡ refuses 12 (at_place place)))
unfolding count_of
count_or_fault payload =
    let P : Result ℕ Refusal → Type 0 = λ r. ((n : ℕ) × (listing_says r ≡ grants n)) ⊎ ((place : ℕ) × (listing_says r ≡ refuses 12 (at_place place))) in
    cond_cases P (ltb 0 (length payload))
    (λ _. cond_cases P (eqb (get_or payload 0 0) 12)
    (λ _. number_cases P (number_at payload 1) (λ _ _. inr (_, refl)) λ n k _.
    reach-cases P (items_at n payload k.at) (λ at. inr (at, refl)) λ _ _. inl (n, refl))
    (λ _. inl (0, refl)))
    (λ _. inl (0, refl))

other_type : (payload : List ℕ) → ((p : List ℕ) → payload ≡ 12 ∷ p → ⊥) → listing_says (count_of payload) ≡ grants 0
unfolding count_of
other_type [] never = refl
other_type (b ∷ p) never = rw (some_there b p, ne_eqb b 12 (λ e. never p (ap (λ (c : ℕ). c ∷ p) e)))

faulty_list : (p : List ℕ) → Bytes p → ((blobs : List (List ℕ)) → ListForm p blobs → ⊥)
    → (place : ℕ) × (listing_says (count_of (12 ∷ p)) ≡ refuses 12 (at_place place))
faulty_list p small never =
    ⊎_elim (λ (n, e). let (blobs, l, _) = (count_rule p n small).0 e in absurd (never blobs l)) (λ e. e) (count_or_fault (12 ∷ p))

pub list_table : ListTable
list_table payload small = record {
  other = other_type payload;
  faulty = λ p e never. rw e (faulty_list p (bytes-tail 12 p (rw e at small)) never);
  fault_at = λ p place e f. rw e (ap listing_says (lists_fault p place (bytes-tail 12 p (rw e at small)) f));
  counts = λ p blobs e l. rw e (ap listing_says (lists_counted p blobs (bytes-tail 12 p (rw e at small)) l));
}

-- ## An item

item_refused : (payload : List ℕ) (i n : ℕ) (w : Where) → listing_says (count_of payload) ≡ refuses n w → item_says (item_of payload i) ≡ refuses n w
unfolding item_of counted
item_refused payload i n w e = let (r, q, y) = wrote_refused (count_of payload) n w e in rw q (ap₂ refuses y.number y.place)

item-beyond : (payload : List ℕ) (i n : ℕ) → listing_says (count_of payload) ≡ grants n → n ≤ i → item_says (item_of payload i) ≡ refuses 16 no_place
unfolding item_of counted
item-beyond payload i n e h = rw (wrote_written (count_of payload) n e, le-ltb i n h)

item-there : (p : List ℕ) (blobs : List (List ℕ)) (i : ℕ) → Bytes (12 ∷ p) → ListForm p blobs → i < length blobs
    → (from : ℕ) × ItemLies p blobs i from × HandsOut (12 ∷ p) i (get_or blobs i []) from
unfolding item_of counted reach item_at part blob_of_item blob_from
item-there p blobs i small l h =
    let s : List ℕ = 12 ∷ p in
    let (e, r) = (number_form s 1 (length blobs) (l.forms ++ l.rest) small l.few).0 l.shape in
    let x = forms_at s small 5 l.rest l.whole r i h in
    let blob = get_or blobs i [] in
    let from = 5 + length x.before + 4 in
    let a = inside x.here in
    let c = lists_counted p blobs (bytes-tail 12 p small) l in
    let end : behind (5 + length x.before) blob ≡ from + length blob = omega arith in (
      from,
      record { forms = x.before; rest = x.after; before = x.items; shape = l.shape ∙ ap (λ (t : List ℕ). be32 (length blobs) ++ t) x.split; behind = refl },
      record {
        says = rw (c, lt-ltb i (length blobs) h, x.passed, x.here.read, lies_cut a) (ap (λ (n : ℕ). grants (record { from = from; to = n; marked = certificate blob })) end);
        bytes = rw (c, lt-ltb i (length blobs) h, x.passed, x.here.read) (lies_cut a);
        place = rw (c, lt-ltb i (length blobs) h, x.passed, x.here.read) (from_there s from (behind (5 + length x.before) blob) (omega arith) a.within);
      },
    )

-- no part is handed out of a refused item
module _ (payload : List ℕ) (i n : ℕ) (w : Where) where
  item-empty : item_says (item_of payload i) ≡ refuses n w → blob_of_item payload i ≡ []
  unfolding blob_of_item
  item-empty = go (item_of payload i)
    where
      go : (r : Result Blob Refusal) → item_says r ≡ refuses n w → item_blob payload r ≡ []
      go (Ok b) e = granted e
      go (Err why) e = refl

  item-start : item_says (item_of payload i) ≡ refuses n w → blob_from payload i ≡ 0
  unfolding blob_from
  item-start = go (item_of payload i)
    where
      go : (r : Result Blob Refusal) → item_says r ≡ refuses n w → item_from payload r ≡ 0
      go (Ok b) e = granted e
      go (Err why) e = refl

pub item-table : ItemTable
item-table payload i small = record {
  faulty = λ place. item_refused payload i 12 (at_place place);
  beyond = item-beyond payload i;
  item = λ p blobs e l h. rw e (item-there p blobs i (rw e at small) l h);
  else_empty = item-empty payload i;
  else_start = item-start payload i;
}
