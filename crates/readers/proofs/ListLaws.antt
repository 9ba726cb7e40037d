-- A list as it is written has the draft's form where its comments are UTF-8, so the reader takes it.
use Prim.Native.Nat.{ℕ, zero, suc, ◌+◌, ◌^◌, ◌<◌}
use mathlib.Core.Path.{◌≡◌, refl, sym, ap, subst, ◌∙◌}
use mathlib.Core.List.{List, [], ◌∷◌, ◌++◌, append_assoc, append-nil}
use native.Mathlib.Omega.{arith}
use lib.ListN.{length, get_or, take, drop, length-map}
use lib.Seq.{length-take-le}
use Rattle.wire.specs.Numbers.{Bytes, be32}
use Rattle.wire.specs.Write.{string}
use Rattle.wire.proofs.ByteLaws.{bytes-none, bytes-cons, bytes-append, be32-bytes, bytes-string, octets_bytes}
use Rattle.std.specs.Prelude.{Result, Ok}
use Rattle.wire.specs.declared.read.Fault.{Fault}
use Rattle.readers.specs.Identities.{items_at}
use Rattle.readers.specs.Promises.{ItemForms, item, ListForm, HandsOut, Listed, listed_forms, list_payload, listed_blobs, listed_place, Listable, Each, WrittenListRead}
use Rattle.readers.proofs.ReadRoundTrips.{forms_passed}
use Rattle.readers.proofs.ReadTables.{list_table, item-table}

-- ## The form of a list

items-form : (es : List Listed) → Each Listable es → ItemForms (listed_blobs es) (listed_forms es)
items-form [] h = ItemForms.none
items-form (e ∷ es) (l, h) = item e.blob e.comment l.blob_small l.comment_small l.text (items-form es h)

items-bytes : (es : List Listed) → Each Listable es → Bytes (listed_forms es)
items-bytes [] h = bytes-none
items-bytes (e ∷ es) (l, h) =
    bytes-string e.blob (string e.comment ++ listed_forms es) l.bytes
    (bytes-string e.comment (listed_forms es) (octets_bytes l.text) (items-bytes es h))

each_take : (i : ℕ) (es : List Listed) → Each Listable es → Each Listable (take i es)
each_take zero es h = tt
each_take (suc i) [] h = tt
each_take (suc i) (e ∷ es) (l, h) = (l, each_take i es h)

-- the items before entry i, and those from it on
items-split : (i : ℕ) (es : List Listed) → listed_forms es ≡ listed_forms (take i es) ++ listed_forms (drop i es)
items-split zero es = refl
items-split (suc i) [] = refl
items-split (suc i) (e ∷ es) =
    let blob = string e.blob in
    let comment = string e.comment in
    let front = listed_forms (take i es) in
    let rest = listed_forms (drop i es) in
    ap (λ (t : List ℕ). blob ++ (comment ++ t)) (items-split i es)
    ∙ ap (λ (t : List ℕ). blob ++ t) (sym (append_assoc comment front rest))
    ∙ sym (append_assoc blob (comment ++ front) rest)

same_end : {a b : ℕ} → ◌≡◌ {A = Result ℕ Fault} (Ok a) (Ok b) → a ≡ b
same_end e = cc

-- ## The reader

module _ (es : List Listed) (h : Each Listable es) (few : length es < 2 ^ 32) where
  abbrev behind_type_lem : List ℕ
  behind_type_lem = be32 (length es) ++ listed_forms es

  small : Bytes (list_payload es)
  small = bytes-cons 12 behind_type_lem (omega arith) (bytes-append (be32 (length es)) (listed_forms es) (be32-bytes (length es)) (items-bytes es h))

  as_many : length (listed_blobs es) ≡ length es
  as_many = length-map es (λ e. e.blob)

  form : ListForm behind_type_lem (listed_blobs es)
  form = record { forms = listed_forms es; rest = []; few = omega (arith, as_many); whole = items-form es h; shape = rw (as_many, append-nil) refl }

  -- items that stand from the first one on end where their forms do
  passed : {blobs : List (List ℕ)} {forms : List ℕ} (i : ℕ) (rest : List ℕ) → i ≡ length blobs → ItemForms blobs forms → listed_forms es ≡ forms ++ rest
      → items_at i (list_payload es) 5 ≡ Ok (5 + length forms)
  unfolding items_at
  passed i rest z whole e = forms_passed (list_payload es) small 5 i 0 rest (omega arith) whole e

  handed : (i : ℕ) → i < length es → HandsOut (list_payload es) i (get_or (listed_blobs es) i []) (listed_place es i)
  handed i l =
      let (from, lies, hands) = (item-table (list_payload es) i small).item behind_type_lem (listed_blobs es) refl form (omega (arith, as_many)) in
      let before : List Listed = take i es in
      let i-blobs : i ≡ length (listed_blobs before) = sym (length-map before (λ e. e.blob) ∙ length-take-le i es (omega arith)) in
      let here = passed i (listed_forms (drop i es)) i-blobs (items-form before (each_take i es h)) (items-split i es) in
      let i-before : i ≡ length (take i (listed_blobs es)) = sym (length-take-le i (listed_blobs es) (omega (arith, as_many))) in
      let there = passed i (string (get_or (listed_blobs es) i []) ++ lies.rest) i-before lies.before (ap (drop 4) lies.shape) in
      let same : 5 + length lies.forms ≡ 5 + length (listed_forms before) = same_end (sym there ∙ here) in
      subst (HandsOut (list_payload es) i (get_or (listed_blobs es) i [])) (lies.behind ∙ ap (λ (n : ℕ). n + 4) same) hands

pub written-list_read : WrittenListRead
written-list_read es h few = record {
  count = rw (as_many es h few) at ((list_table (list_payload es) (small es h few)).counts (behind_type_lem es h few) (listed_blobs es) refl (form es h few));
  items = handed es h few;
}
