-- The add requests: the limits as the code tests them, the key check, the place that may take the key, and the blob that was derived beside the table.
use Rattle.std.specs.Prelude.{Ok, Err}
use Rattle.wire.specs.declared.read.Fault.{Fault}
use Prim.Native.Nat.{ℕ, ◌+◌, ◌≤◌, ◌<◌}
use mathlib.Core.Path.{◌≡◌, refl, sym, ap, subst, ◌∙◌}
use mathlib.Core.Logic.{⊎_elim}
use mathlib.Core.Bool.{Bool, true, false, ◌&&◌, and-false, cond}
use mathlib.Core.List.{List, [], append-nil}
use native.Mathlib.Omega.{arith}
use borrow.Author.Tests.{eqb-true, lt-leb, leb-true, leb-false}
use lib.Dec.{eqb, leb, ltb}
use lib.ListN.{length, take, drop}
use lib.Seq.{take_at}
use Rattle.wire.specs.Limits.{store_size, blob_limit, last_number}
use Rattle.wire.specs.Read.{cut_of}
use Rattle.wire.specs.Write.{write}
use Rattle.wire.proofs.Reading.{le_or_lt, cut_empty}
use Rattle.wire.proofs.Steps.{ltb_yes, ltb_no}
use Rattle.wire.proofs.Writing.{length-write}
use Rattle.keys.specs.declared.kinds.Places.{Places}
use Rattle.keys.specs.Kinds.{Blob}
use Rattle.keys.specs.declared.addition.Carried.{Carried}
use Rattle.keys.specs.Additions.{Addition}
use Rattle.keys.specs.Additions.{addition_at}
use Rattle.keys.specs.Kinds.{blob_of, blob_answer, blob_left}
use Rattle.rule.specs.Gateway.{Found}
use Rattle.std.specs.Prelude.{Some, None}
use Rattle.rule.specs.Gateway.{Entry as Key, Gateway, lengths_of, place_for, NewKey, with_entry}
use Rattle.rule.specs.Soundness.{fit}
use Rattle.rule.specs.Rule.{Plan, SUCCESS, land, fails, ask, check, brought, entry_of, storing, adding}
use Rattle.rule.specs.Calls as rule
use Rattle.rule.specs.Calls.{lent, follow}
use Rattle.rule.proofs.Cases.{and_left, and_right}
use Rattle.rule.proofs.SoundLaws.{fit-says}
use Rattle.table.specs.declared.Columns.{Columns}
use Rattle.table.specs.declared.Kept.{Kept}
use Rattle.table.specs.declared.State.{State}
use Rattle.table.specs.Meaning.{gateway_of, held}
use Rattle.table.specs.Soundness.{Sound, Means}
use Rattle.table.specs.Changes.{made, MayPut, MayPutWith}
use Rattle.table.specs.Shown.{SoundOf, ShowsParts, SoundWith}
use Rattle.requests.specs.declared.Said.{Said}
use Rattle.requests.specs.declared.Said.TheVariants.{Missing, No, Yes}
use Rattle.requests.specs.declared.Called.{Called}
use Rattle.requests.specs.declared.Outcome.{Outcome}
use Rattle.requests.specs.declared.Outcome.TheVariants.{Check}
use Rattle.requests.specs.Outcomes.{grant_of, code}
use Rattle.requests.specs.Ends.{Ends, Answered}
use Rattle.requests.proofs.EndSteps.{cond_yes, cond_no, found_at, found_nothing, added-whole, added-fault, landed, asked, answered, answering, asked-ends, means_itself}

-- ## The limits

-- a test of parts that calls gave is the test of what they are
pub fits-as : (b : Bool) (blob part fields text comment : List ℕ) → b ≡ fit blob part text → part ≡ fields → text ≡ comment → b ≡ fit blob fields comment
fits-as b blob part fields text comment tested is says = tested ∙ (λ j. fit blob (is j) (says j))

-- a blob over its limit is enough
pub blob_unfit : (blob fields comment : List ℕ) → blob_limit < length blob → false ≡ fit blob fields comment
unfolding fit
blob_unfit blob fields comment h = rw (lt-leb (length blob) blob_limit h, and-false (leb 1 (length blob)))

module _ (s : State) (x : List ℕ) where
  last_or_less : Sound s x → (s.next ≡ last_number → ⊥) → (gateway_of s x).next < last_number
  unfolding gateway_of
  last_or_less S h = ⊎_elim (λ (k : last_number ≤ s.next). absurd (h (omega arith))) (λ (k : s.next < last_number). k) (le_or_lt last_number s.next)

  pub numbers_left : Sound s x → (s.next ≡ last_number → ⊥) → true ≡ ltb (gateway_of s x).next last_number
  numbers_left S h = ltb_yes _ _ (last_or_less S h)

  pub numbers_gone : s.next ≡ last_number → false ≡ ltb (gateway_of s x).next last_number
  unfolding gateway_of
  numbers_gone e = ltb_no s.next last_number (omega arith)

  -- the place for a key within the limits may take it
  pub may_put : (i : ℕ) (k : NewKey) (w : Found) → Sound s x → w ≡ Some i → w ≡ place_for (made s k) (gateway_of s x).entries → true ≡ fit k.blob k.fields k.comment
      → (s.next ≡ last_number → ⊥) → MayPut s x i k
  unfolding gateway_of
  may_put i k w S e f fits h = record {
    sound = S;
    numbers_left = last_or_less S h;
    lengths = (fit-says k.blob k.fields k.comment).0 (sym fits);
    place = sym f ∙ e;
  }

-- what a new key takes of the store
abbrev pub lengths_new : NewKey → ℕ
lengths_new k = length k.blob + (length k.fields + length k.comment)

-- within the limits it is less than the store has
pub new_short : (k : NewKey) (size : ℕ) → lengths_new k ≡ size → true ≡ fit k.blob k.fields k.comment → size ≤ store_size
new_short k size sized fits = let f = (fit-says k.blob k.fields k.comment).0 (sym fits) in omega arith

-- ## The key check

module _ (a : rule.Answers) (w : Said) (said : a.check ≡ grant_of w) (buffer : List ℕ) (r : Called) (x out : List ℕ) (from to : ℕ) (F : Bool → Plan) where
  checker_says : (v : Said) → w ≡ v → lent a (check from to) ≡ grant_of v
  unfolding lent
  checker_says v e = said ∙ ap grant_of e

  pub checker_asked : (s : State) → w ≡ Missing → r ≡ record { outcome = Check from to; state = s } → out ≡ buffer → Sound s x
      → Ends buffer r x out (follow (lent a) (gateway_of s x) (ask (check from to) F))
  unfolding code
  checker_asked s e f o h = asked _ _ _ _ _ _ _ _ (checker_says Missing e) (rw (f, o) (asked-ends buffer x (Check from to) s (check from to) refl h))

  module _ (g : Gateway) where
    abbrev Checks : Plan → Type 0
    Checks plan = Ends buffer r x out (follow (lent a) g plan)

    pub checker_denies : w ≡ No → Checks (F false) → Checks (ask (check from to) F)
    checker_denies e h = answered _ _ _ _ _ _ _ _ false (checker_says No e) h

    pub checker_grants : w ≡ Yes → Checks (F true) → Checks (ask (check from to) F)
    checker_grants e h = answered _ _ _ _ _ _ _ _ true (checker_says Yes e) h

-- ## The blob beside the table

-- the blob stands in the first n bytes
pub record Stands (s : List ℕ) (at : ℕ) (p : Places) (n : ℕ) (left : List ℕ) : Type 0 where
  pub inside : n ≤ length left
  pub size : n ≡ length (take n left)
  pub blob : take n left ≡ blob_of s at p

module _ (s : List ℕ) (at : ℕ) (p : Places) (room : List ℕ) (w : Blob) (answer : w ≡ blob_answer s at p room) where
  -- a blob that has no room is over the room's length
  pub blob_over : (n : ℕ) → length room ≡ n → w ≡ None → n < length (blob_of s at p)
  unfolding blob_answer
  blob_over n l e = rw (← l) (go (leb (length (blob_of s at p)) (length room)) refl (sym answer ∙ e))
    where
      go : (b : Bool) → leb (length (blob_of s at p)) (length room) ≡ b → cond b (Some (length (blob_of s at p))) None ≡ None → length room < length (blob_of s at p)
      go true t h = let z : ◌≡◌ {A = ℕ} 0 1 = cc in absurd (omega arith)
      go false t h = leb-false _ _ t

  -- one that has room stands at its front
  pub blob_stands : (n : ℕ) (left : List ℕ) → left ≡ blob_left s at p room → w ≡ Some n → Stands s at p n left
  unfolding blob_answer blob_left write
  blob_stands n left f e = go (leb (length (blob_of s at p)) (length room)) refl (sym answer ∙ e) f
    where
      blob : List ℕ
      blob = blob_of s at p

      there : length blob ≤ length room → length blob ≡ n → left ≡ write room 0 blob → Stands s at p n left
      there h q k =
          let l : length left ≡ length room = ap length k ∙ length-write room 0 blob (omega arith) in
          let t : take n left ≡ blob = rw k (take_at blob (drop (0 + length blob) room) n q) in
          record { inside = omega arith; size = rw t (sym q); blob = t }

      go : (b : Bool) → leb (length blob) (length room) ≡ b → cond b (Some (length blob)) None ≡ Some n → left ≡ cond b (write room 0 blob) room → Stands s at p n left
      go true t h k = let q : length blob ≡ n = cc in there (leb-true _ _ t) q k
      go false t h k = let z : ◌≡◌ {A = ℕ} 0 1 = cc in absurd (omega arith)

-- where nothing lies between, the blob is what lies before `front`
pub in_one : (s : List ℕ) (p : Places) (b : Bool) → b ≡ eqb p.swap p.front && eqb p.back p.front → b ≡ true → cut_of s 1 p.front ≡ blob_of s 1 p
unfolding blob_of
in_one s p b e t =
    let swap : p.swap ≡ p.front = eqb-true _ _ (and_left (eqb p.swap p.front) (eqb p.back p.front) (sym e ∙ t)) in
    let back : p.back ≡ p.front = eqb-true _ _ (and_right (eqb p.swap p.front) (eqb p.back p.front) (sym e ∙ t)) in
    let none : [] ≡ cut_of s p.front p.front = cut_empty s p.front p.front (omega arith) in
    rw (swap, back, ← none) (sym (append-nil _))

-- ## How an addition ends

module _ (t : Columns) (x : List ℕ) (kept : Kept) where
  -- of every state that has these columns: the place for a key with this blob and of this size is f
  abbrev pub PlaceFor : Found → List ℕ → ℕ → Type 0
  PlaceFor f blob size = (s : State) (e : Key) → ShowsParts t.numbers t.blob_lens t.fields_lens t.comment_lens s → Sound s x → e.blob ≡ blob → lengths_of e ≡ size
      → f ≡ place_for e (gateway_of s x).entries

  its_own : (b : List ℕ) → ShowsParts t.numbers t.blob_lens t.fields_lens t.comment_lens (held t b kept)
  its_own b = record { numbers_are = refl; blobs_are = refl; fields_are = refl; comments_are = refl }

  -- what `place_for` asks for
  pub with_parts : SoundWith t kept x → SoundOf (ShowsParts t.numbers t.blob_lens t.fields_lens t.comment_lens) x
  with_parts h = record { state = held t h.bytes kept; shows = its_own h.bytes; sound = h.sound }

  -- what `put` asks for
  pub with_place : SoundWith t kept x → (i : ℕ) (k : NewKey) (f : Found) (size : ℕ) → lengths_new k ≡ size → f ≡ Some i → PlaceFor f k.blob size → true ≡ fit k.blob k.fields k.comment
      → (kept.next ≡ last_number → ⊥) → MayPutWith t kept x i k
  unfolding lengths_of
  with_place h i k f size sized at is fits left =
      let s = held t h.bytes kept in
      record { bytes = h.bytes; may = may_put s x i k f h.sound at (is s (made s k) (its_own h.bytes) h.sound refl sized) fits left }

  module _ (w : Said) (buffer : List ℕ) where
    -- columns, store and kept values have become u, y and `after`: of every sound state that has them, the plan ended so
    abbrev pub AddEnds : (Gateway → Plan) → (o : Outcome) (out : List ℕ) (u : Columns) (y : List ℕ) (after : Kept) → Type 0
    AddEnds plan o out u y after = (b : List ℕ) → Sound (held t b kept) x → (a : rule.Answers) → a.check ≡ grant_of w
        → let g = gateway_of (held t b kept) x in Ends buffer (record { outcome = o; state = held u b after }) y out (follow (lent a) g (plan g))

    -- FAILURE alters nothing
    failing : (o : Outcome) (out : List ℕ) → Answered 5 buffer o out → AddEnds fails o out t x kept
    failing o out done b S a e = landed _ _ _ _ _ _ _ _ (answering done _ _ _ (means_itself _ _ S))

    module _ (payload : List ℕ) where
      abbrev pub stores : Carried → List ℕ → Gateway → Plan
      stores c blob g = storing g (entry_of g payload c blob) c.places.end

      module _ (c : Carried) (blob : List ℕ) (o : Outcome) (out : List ℕ) where
        abbrev fitting : Bool
        fitting = fit blob (cut_of payload 1 c.places.end) (cut_of payload c.comment.from c.comment.to)

        pub unfit_ends : false ≡ fitting → Answered 5 buffer o out → AddEnds (stores c blob) o out t x kept
        unfolding storing
        unfit_ends over done b S a e = cond_no _ _ _ _ _ _ _ _ _ over (failing o out done b S a e)

        module _ (fits : true ≡ fitting) where
          pub last_ends : kept.next ≡ last_number → Answered 5 buffer o out → AddEnds (stores c blob) o out t x kept
          unfolding storing
          last_ends last done b S a e =
              cond_yes _ _ _ _ _ _ _ _ _ fits (cond_no _ _ _ _ _ _ _ _ _ (numbers_gone (held t b kept) x last) (failing o out done b S a e))

          module _ (left : kept.next ≡ last_number → ⊥) (size : ℕ) (sized : lengths_new (brought payload c blob) ≡ size) (f : Found) (is : PlaceFor f blob size) where
            goes : (b : List ℕ) → Sound (held t b kept) x → f ≡ place_for (made (held t b kept) (brought payload c blob)) (gateway_of (held t b kept) x).entries
            unfolding lengths_of
            goes b S = is (held t b kept) (made (held t b kept) (brought payload c blob)) (its_own b) S refl sized

            pub full_ends : f ≡ None → Answered 5 buffer o out → AddEnds (stores c blob) o out t x kept
            unfolding storing gateway_of
            full_ends none_free done b S a e =
                cond_yes _ _ _ _ _ _ _ _ _ fits
                (cond_yes _ _ _ _ _ _ _ _ _ (numbers_left (held t b kept) x S left)
                (found_nothing _ _ _ _ _ _ _ _ f _ none_free (goes b S) (failing o out done b S a e)))

            module _ (i : ℕ) (at : f ≡ Some i) where
              -- the check decides
              module _ (b : List ℕ) (S : Sound (held t b kept) x) (a : rule.Answers) (r : Called) (y : List ℕ) where
                abbrev g : Gateway
                g = gateway_of (held t b kept) x

                to_check : Ends buffer r y out (follow (lent a) g (ask (check 1 c.places.end) λ granted. cond granted (land SUCCESS (with_entry i (entry_of g payload c blob) g)) (fails g)))
                    → Ends buffer r y out (follow (lent a) g (stores c blob g))
                unfolding storing gateway_of
                to_check h =
                    cond_yes _ _ _ _ _ _ _ _ _ fits
                    (cond_yes _ _ _ _ _ _ _ _ _ (numbers_left (held t b kept) x S left)
                    (found_at _ _ _ _ _ _ _ _ f _ i at (goes b S) h))

              pub check_asked : w ≡ Missing → o ≡ Check 1 c.places.end → out ≡ buffer → AddEnds (stores c blob) o out t x kept
              check_asked says asks same b S a e = to_check b S a _ _
                  (checker_asked a w e _ _ _ _ _ _ _ (held t b kept) says (ap (λ (q : Outcome). record { outcome = q; state = held t b kept }) asks) same S)

              pub check_denied : w ≡ No → Answered 5 buffer o out → AddEnds (stores c blob) o out t x kept
              check_denied says done b S a e = to_check b S a _ _ (checker_denies a w e _ _ _ _ _ _ _ _ says (failing o out done b S a e))

              pub key-stored : w ≡ Yes → (u : Columns) (y : List ℕ) (after : Kept)
                  → ((b : List ℕ) → let s = held t b kept in let g = gateway_of s x in MayPut s x i (brought payload c blob) → Means (held u b after) y (with_entry i (entry_of g payload c blob) g))
                  → Answered 6 buffer o out → AddEnds (stores c blob) o out u y after
              key-stored says u y after put done b S a e =
                  let s = held t b kept in
                  let may = may_put s x i (brought payload c blob) f S at (goes b S) fits left in
                  to_check b S a _ _ (checker_grants a w e _ _ _ _ _ _ _ _ says (landed _ _ _ _ _ _ _ _ (answering done _ _ _ (put b may))))

      -- the entry of a blob that a call gave is the entry of what it is
      pub stored_as : (c : Carried) (blob other : List ℕ) (o : Outcome) (out : List ℕ) (u : Columns) (y : List ℕ) (after : Kept) → blob ≡ other → AddEnds (stores c blob) o out u y after
          → AddEnds (stores c other) o out u y after
      stored_as c blob other o out u y after e = subst (λ (z : List ℕ). AddEnds (stores c z) o out u y after) e

      module _ (constrained : Bool) (v : Addition) (read : v ≡ addition_at payload 1 constrained) (o : Outcome) (out : List ℕ) where
        pub fault_ends : (w : Fault) → v ≡ Err w → Answered 5 buffer o out → AddEnds (λ g. adding constrained g payload) o out t x kept
        unfolding adding
        fault_ends w fault done b S a e = added-fault _ _ _ _ _ _ _ _ v _ w fault read (failing o out done b S a e)

        pub whole_ends : (u : Columns) (y : List ℕ) (after : Kept) (c : Carried) → v ≡ Ok c → AddEnds (stores c (blob_of payload 1 c.places)) o out u y after
            → AddEnds (λ g. adding constrained g payload) o out u y after
        unfolding adding
        whole_ends u y after c whole h b S a e = added-whole _ _ _ _ _ _ _ _ v _ c whole read (h b S a e)
