-- The promises of the identities reader: what is read has the draft's form and what has the form is read, string by string from a place on.
use Prim.Native.Nat.{ℕ, zero, suc, ◌+◌, ◌-◌, ◌^◌, ◌≤◌, ◌<◌}
use mathlib.Core.Path.{◌≡◌, refl, sym, ap, ap₂, ◌∙◌}
use mathlib.Core.List.{List, [], ◌∷◌, ◌++◌, append_assoc}
use mathlib.Core.Bool.{Bool, true}
use native.Mathlib.Omega.{arith}
use borrow.Author.Tests.{lt-ltb}
use lib.Dec.{ltb}
use lib.ListN.{length, get_or, take, drop, length-append}
use Rattle.wire.specs.Numbers.{Bytes, be32, be_at}
use Rattle.wire.specs.Abnf.{Octets}
use Rattle.wire.specs.Read.{number_at, string_at, text_at}
use Rattle.wire.specs.Steps.{number, part}
use Rattle.wire.specs.Write.{string}
use Rattle.wire.specs.declared.refusal.Refusal.{Refusal}
use Rattle.wire.specs.declared.refusal.Refusal.TheVariants.{Malformed}
use Rattle.wire.specs.Refusals.{grants}
use Rattle.wire.proofs.Reading.{number_read, number_cut}
use Rattle.wire.proofs.Format.{be-small, be-shape, number_form}
use Rattle.wire.proofs.ByteLaws.{bytes-cons}
use Rattle.wire.proofs.Strings.{Lies, lies_at, lies_none, lies_cut, behind, found, At, inside, string-stands, string-reads, lies_next, text_reads, took, string-missing, text_missing, no_text}
use Rattle.wire.proofs.Cases.{part-cases, number_cases}
use Rattle.wire.proofs.RefusalLaws.{not_granted}
use Rattle.std.specs.Prelude.{Result, Ok, Err}
use Rattle.wire.specs.declared.read.Fault.{Fault}
use Rattle.wire.specs.Steps.{faulted}
use Rattle.readers.specs.Reaches.{reach}
use Rattle.readers.specs.Values.{listing_says}
use Rattle.readers.specs.Identities.{items_at, count_of, counted, item_at, item_of, blob_of_item, certificate, certificate_end}
use Rattle.readers.specs.Promises.{ItemForms, item, ListForm, ItemFault, blob_cut, comment_cut, comment_no_text, ListFault, count_cut, item-cut, CountRule, ItemRule, Marked, MarkRule}
use Rattle.readers.proofs.ReadSteps.{reach-cases, fault}
use Rattle.readers.proofs.FormLaws.{ends_rule}

-- ## Items

-- an item stands at a place, and then rest
record First (s : List ℕ) (at : ℕ) (blob comment rest : List ℕ) : Type 0 where
  here : At s at blob
  passed : (n : ℕ) → items_at (suc n) s at ≡ items_at n s (behind (behind at blob) comment)
  next : drop (behind (behind at blob) comment) s ≡ rest

-- item i of items that stand at a place: what stands before it, and behind its blob
pub record Standing (s : List ℕ) (at : ℕ) (blobs : List (List ℕ)) (all : List ℕ) (i : ℕ) : Type 0 where
  pub before : List ℕ
  pub after : List ℕ
  pub items : ItemForms (take i blobs) before
  pub split : all ≡ before ++ (string (get_or blobs i []) ++ after)
  pub passed : items_at i s at ≡ Ok (at + length before)
  pub here : At s (at + length before) (get_or blobs i [])

join : (a b c d e : List ℕ) → b ++ c ≡ d ++ e → (a ++ b) ++ c ≡ (a ++ d) ++ e
join a b c d e h = append_assoc a b c ∙ ap (λ (t : List ℕ). a ++ t) h ∙ sym (append_assoc a d e)

module _ (s : List ℕ) (small : Bytes s) where
  first : (at : ℕ) (blob comment forms rest : List ℕ) → length blob < 2 ^ 32 → length comment < 2 ^ 32 → Octets comment
      → drop at s ≡ (string blob ++ (string comment ++ forms)) ++ rest → First s at blob comment (forms ++ rest)
  unfolding items_at part
  first at blob comment forms rest h k o e =
      let (a, r) = string-stands small blob ((string comment ++ forms) ++ rest) h (e ∙ append_assoc (string blob) (string comment ++ forms) rest) in
      let (b, q) = string-stands small comment (forms ++ rest) k (r ∙ append_assoc (string comment) forms rest) in
      let c : text_at s (behind at blob) ≡ found (behind at blob) comment = (text_reads small).takes b o in
      record { here = a; passed = λ n. rw (a.read, c); next = q }

  -- what has the form is gone over
  pub forms_passed : {blobs : List (List ℕ)} {forms : List ℕ} (at m n : ℕ) (rest : List ℕ) → m ≡ length blobs + n → ItemForms blobs forms
      → drop at s ≡ forms ++ rest → items_at m s at ≡ items_at n s (at + length forms)
  forms_passed at m n rest z ItemForms.none e = let q : m ≡ n = omega arith in rw q (ap (items_at n s) (omega arith))
  forms_passed at m n rest z (item {blobs} {forms} blob comment h k o r) e =
      let x = first at blob comment forms rest h k o e in
      let q : m ≡ suc (length blobs + n) = omega arith in
      let place : behind (behind at blob) comment + length forms ≡ at + length (string blob ++ (string comment ++ forms)) = simp length-append (omega arith) in
      rw q
      (x.passed (length blobs + n)
      ∙ forms_passed (behind (behind at blob) comment) (length blobs + n) n rest refl r x.next
      ∙ ap (items_at n s) place)

  -- and each blob stands where the items before it end
  module _ (at : ℕ) (blob comment forms rest : List ℕ) (h : length blob < 2 ^ 32) (k : length comment < 2 ^ 32) (o : Octets comment)
      (x : First s at blob comment (forms ++ rest)) (blobs : List (List ℕ)) where
    stands_first : Standing s at (blob ∷ blobs) ((string blob ++ (string comment ++ forms)) ++ rest) 0
    unfolding items_at
    stands_first =
        let start : at + 0 ≡ at = omega arith in
        record {
          before = [];
          after = (string comment ++ forms) ++ rest;
          items = ItemForms.none;
          split = append_assoc (string blob) (string comment ++ forms) rest;
          passed = ap Ok (sym start);
          here = rw start x.here;
        }

    stands_next : (i : ℕ) → Standing s (behind (behind at blob) comment) blobs (forms ++ rest) i
        → Standing s at (blob ∷ blobs) ((string blob ++ (string comment ++ forms)) ++ rest) (suc i)
    stands_next i y =
        let front = y.before in
        let tail = string (get_or blobs i []) ++ y.after in
        let place : behind (behind at blob) comment + length front ≡ at + length (string blob ++ (string comment ++ front)) = simp length-append (omega arith) in
        record {
          before = string blob ++ (string comment ++ front);
          after = y.after;
          items = item blob comment h k o y.items;
          split = join (string blob) (string comment ++ forms) rest (string comment ++ front) tail (join (string comment) forms rest front tail y.split);
          passed = x.passed i ∙ y.passed ∙ ap Ok place;
          here = rw (← place) y.here;
        }

  pub forms_at : {blobs : List (List ℕ)} {forms : List ℕ} (at : ℕ) (rest : List ℕ) → ItemForms blobs forms → drop at s ≡ forms ++ rest
      → (i : ℕ) → i < length blobs → Standing s at blobs (forms ++ rest) i
  forms_at at rest ItemForms.none e i h = absurd (omega arith)
  forms_at at rest (item {blobs} {forms} blob comment h k o r) e zero l = stands_first at blob comment forms rest h k o (first at blob comment forms rest h k o e) blobs
  forms_at at rest (item {blobs} {forms} blob comment h k o r) e (suc i) l =
      let x = first at blob comment forms rest h k o e in
      stands_next at blob comment forms rest h k o x blobs i (forms_at (behind (behind at blob) comment) rest r x.next i (omega arith))

  -- where no item stands, going over items stops
  item-fault : (at n : ℕ) {rest : List ℕ} {place : ℕ} → ItemFault at rest place → drop at s ≡ rest → items_at (suc n) s at ≡ faulted place
  unfolding items_at part
  item-fault at n (blob_cut rest never) e = rw (string-missing s small at (rw e never))
  item-fault at n (comment_cut blob rest h never) e =
      let (a, r) = string-stands small {at = at} blob rest h e in
      let place : behind at blob ≡ at + 4 + length blob = omega arith in
      rw (a.read, text_missing s small (behind at blob) (rw r never)) (ap faulted place)
  item-fault at n (comment_no_text blob comment rest m h k never l) e =
      let (a, r) = string-stands small {at = at} blob (string comment ++ rest) h e in
      let b = (string-stands small {at = behind at blob} comment rest k r).0 in
      let place : behind at blob + 4 + m ≡ at + 4 + length blob + 4 + m = omega arith in
      rw (a.read, no_text b never l) (ap faulted place)

-- items lie in s from a place up to another
record Walked (s : List ℕ) (n at end : ℕ) : Type 0 where
  blobs : List (List ℕ)
  forms : List ℕ
  as_many : length blobs ≡ n
  whole : ItemForms blobs forms
  lies : Lies s at forms end

-- what was gone over has the form
walked_forms : (s : List ℕ) → Bytes s → (n at end : ℕ) → at ≤ length s → items_at n s at ≡ Ok end → Walked s n at end
unfolding items_at
walked_forms s small zero at end h = λ e.
    let p : at ≡ end = cc in
    record { blobs = []; forms = []; as_many = refl; whole = ItemForms.none; lies = rw (← p) (lies_none at h) }
walked_forms s small (suc n) at end h =
    let P : Result ℕ Fault → Type 0 = λ r. r ≡ Ok end → Walked s (suc n) at end in
    part-cases P (string_at s at) (λ _ _. fault) λ f t k e.
    part-cases P (text_at s k.at) (λ _ _. fault) λ g u l d q.
    let x = took small {at = at} (string-reads small) f t k e in
    let y = took small {at = k.at} (text_reads small) g u l d in
    let r = walked_forms s small n l.at end (omega (arith, y.lies.within)) q in
    record {
      blobs = x.v ∷ r.blobs;
      forms = string x.v ++ (string y.v ++ r.forms);
      as_many = ap suc r.as_many;
      whole = item x.v y.v x.small y.small y.holds r.whole;
      lies = lies_next x.lies x.place (lies_next y.lies y.place r.lies);
    }

twelve : (p : List ℕ) → Bytes p → Bytes (12 ∷ p)
twelve p small = bytes-cons 12 p (omega arith) small

pub some_there : (b : ℕ) (p : List ℕ) → ltb 0 (length (b ∷ p)) ≡ true
some_there b p = lt-ltb 0 (length (b ∷ p)) (omega arith)

counted-lists : (p : List ℕ) (n : ℕ) → Bytes p → listing_says (count_of (12 ∷ p)) ≡ grants n → (blobs : List (List ℕ)) × ListForm p blobs × (length blobs ≡ n)
unfolding count_of
counted-lists p n small =
    let s : List ℕ = 12 ∷ p in
    let P : Result ℕ Refusal → Type 0 = λ r. listing_says r ≡ grants n → (blobs : List (List ℕ)) × ListForm p blobs × (length blobs ≡ n) in
    rw (some_there 12 p)
    (number_cases P (number_at s 1) (λ _ _. not_granted) λ m k e.
    reach-cases P (items_at m s k.at) (λ _. not_granted) λ end d q.
    let w = number_read s 1 m k e in
    let r = walked_forms s (twelve p small) m 5 end (omega arith) (rw w.place at d) in
    let many : length r.blobs ≡ n = (let c : m ≡ n = cc in r.as_many ∙ c) in
    let is : be_at s 1 ≡ length r.blobs = (let c = w.number in let e = r.as_many in omega arith) in (
      r.blobs,
      record {
        forms = r.forms;
        rest = drop end s;
        few = omega (arith, be-small s 1 (twelve p small));
        whole = r.whole;
        shape = be-shape s 1 (twelve p small) w.within ∙ ap₂ (λ (c : ℕ) (l : List ℕ). be32 c ++ l) is r.lies.shape;
      },
      many,
    ))

pub lists_counted : (p : List ℕ) (blobs : List (List ℕ)) → Bytes p → ListForm p blobs → count_of (12 ∷ p) ≡ Ok (length blobs)
unfolding count_of items_at number reach
lists_counted p blobs small l =
    let s : List ℕ = 12 ∷ p in
    let (e, r) = (number_form s 1 (length blobs) (l.forms ++ l.rest) (twelve p small) l.few).0 l.shape in
    rw (some_there 12 p, e, forms_passed s (twelve p small) 5 (length blobs) 0 l.rest (omega arith) l.whole r)

-- a list that is malformed, by where
pub lists_fault : (p : List ℕ) (place : ℕ) → Bytes p → ListFault p place → count_of (12 ∷ p) ≡ Err (Malformed place)
unfolding count_of number reach
lists_fault p place small (count_cut q h) = rw (some_there 12 q, ← number_cut (12 ∷ q) 1 (omega arith))
lists_fault p place small (item-cut {blobs} {forms} {rest} n at l few whole f) =
    let q : List ℕ = be32 n ++ (forms ++ rest) in
    let s : List ℕ = 12 ∷ q in
    let (e, r) = (number_form s 1 n (forms ++ rest) (twelve q small) l).0 refl in
    let left : ℕ = n - length blobs - 1 in
    let passed = forms_passed s (twelve q small) 5 n (suc left) rest (omega arith) whole r in
    let behind = (lies_at s 5 forms rest (omega arith) r).1 in
    rw (some_there 12 q, e, passed, item-fault s (twelve q small) (5 + length forms) left f behind)

pub count_rule : CountRule
count_rule p n small = (counted-lists p n small, λ (blobs, l, e). rw (← e) (ap listing_says (lists_counted p blobs small l)))

pub item-rule : ItemRule
unfolding blob_of_item item_of counted reach item_at part
item-rule p blobs small l i h =
    let s : List ℕ = 12 ∷ p in
    let (e, r) = (number_form s 1 (length blobs) (l.forms ++ l.rest) (twelve p small) l.few).0 l.shape in
    let x = forms_at s (twelve p small) 5 l.rest l.whole r i h in
    rw (lists_counted p blobs small l, lt-ltb i (length blobs) h, x.passed, x.here.read) (lies_cut (inside x.here))

-- ## The mark

pub mark_rule : MarkRule
unfolding certificate part
mark_rule blob small = (
  part-cases (λ (b : Bool). b ≡ true → Marked blob) (text_at blob 0) (λ _ _ never. let z : ◌≡◌ {A = ℕ} 0 1 = cc in absurd (omega arith)) (λ f t k e q.
      let x = took small (text_reads small) f t k e in
      let (w, is) = (ends_rule x.v certificate_end).0 (rw x.part at q) in
      record { front = w; rest = drop t blob; small = rw is at x.small; text = rw is at x.holds; shape = x.lies.shape ∙ ap (λ (v : List ℕ). string v ++ drop t blob) is }),
  (λ m.
      let v = m.front ++ certificate_end in
      let a = (string-stands small v m.rest m.small m.shape).0 in
      let r : text_at blob 0 ≡ found 0 v = (text_reads small).takes a m.text in
      rw (r, lies_cut (inside a)) ((ends_rule v certificate_end).1 (m.front, refl))),
)
