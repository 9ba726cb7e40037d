-- The removals: what they ask of lent columns, and how they end. A key goes, or all do, and the plan lands there.
use Rattle.wire.specs.declared.read.Fault.{Fault}
use Rattle.std.specs.Prelude.{Result, Ok, Err}
use Prim.Native.Nat.{ℕ, ◌<◌}
use mathlib.Core.Path.{◌≡◌, ap, subst}
use mathlib.Core.List.{List}
use native.Mathlib.Omega.{arith}
use Rattle.wire.specs.Limits.{entries_limit}
use Rattle.wire.specs.declared.read.Cursor.{Cursor}
use Rattle.wire.specs.declared.read.Part.{Part}
use Rattle.wire.specs.Read.{cut_of, string_at}
use Rattle.rule.specs.Gateway.{Found}
use Rattle.std.specs.Prelude.{Some, None}
use Rattle.rule.specs.Gateway.{Gateway, seek, holds, without, without_all}
use Rattle.rule.specs.Rule.{Plan, removing, removing_all}
use Rattle.rule.specs.Calls as rule
use Rattle.rule.specs.Calls.{lent, follow}
use Rattle.table.specs.declared.Columns.{Columns}
use Rattle.table.specs.declared.State.{State}
use Rattle.table.specs.Meaning.{gateway_of, with_table}
use Rattle.table.specs.Soundness.{Sound, Means, Housed}
use Rattle.table.specs.Shown.{SoundOf, ShowsParts, ShowsTable}
use Rattle.table.proofs.ReadLaws.{state_housed, state_few}
use Rattle.requests.specs.declared.Outcome.{Outcome}
use Rattle.requests.specs.Ends.{Ends, Answered}
use Rattle.requests.proofs.EndSteps.{landed, answering, part-fault, part-whole, found_at, found_nothing, sought, means_itself, place-within}

-- of every sound state that has columns t with store x: columns u with store y mean f of what they meant
abbrev Changes : (Gateway → Gateway) → Columns → List ℕ → Columns → List ℕ → Type 0
Changes f t x u y = (s : State) → s.columns ≡ t → Sound s x → Means (with_table u s) y (f (gateway_of s x))

module _ (t : Columns) (x : List ℕ) where
  abbrev Shown : State → Type 0
  Shown s = ShowsParts t.numbers t.blob_lens t.fields_lens t.comment_lens s

  shown_parts : (s : State) → ShowsTable t s → Shown s
  shown_parts s shows = record {
    numbers_are = ap (λ (u : Columns). u.numbers) shows;
    blobs_are = ap (λ (u : Columns). u.blob_lens) shows;
    fields_are = ap (λ (u : Columns). u.fields_lens) shows;
    comments_are = ap (λ (u : Columns). u.comment_lens) shows;
  }

  -- of every state that has these columns: the search's result is f
  abbrev pub Sought : Found → List ℕ → Type 0
  Sought f blob = (s : State) → Shown s → f ≡ seek (holds blob) 0 (gateway_of s x).entries

  -- ## What is asked

  module _ (h : SoundOf (ShowsTable t) x) where
    pub shown_housed : Housed t.numbers t.blob_lens t.fields_lens t.comment_lens x
    shown_housed = state_housed h.state x h.sound _ _ _ _ (shown_parts h.state h.shows)

    -- a search ends at one of 24
    pub shown_within : (f : Found) (blob : List ℕ) (i : ℕ) → Sought f blob → f ≡ Some i → i < entries_limit
    shown_within f blob i is at =
        let inside = place-within h.state x (holds blob) f i at (is h.state (shown_parts h.state h.shows)) in
        let few = state_few h.state x h.sound in
        omega arith

  -- ## How it ends

  module _ (buffer : List ℕ) (o : Outcome) (out : List ℕ) where
    -- columns and store have become u, y: of every sound state that has them, the plan ended so
    abbrev pub TableEnds : (Gateway → Plan) → (u : Columns) (y : List ℕ) → Type 0
    TableEnds plan u y = (s : State) → ShowsTable t s → Sound s x → (a : rule.Answers)
        → Ends buffer (record { outcome = o; state = with_table u s }) y out (follow (lent a) (gateway_of s x) (plan (gateway_of s x)))

    -- what is not written means what it meant
    stays : (s : State) → ShowsTable t s → Sound s x → Means (with_table t s) x (gateway_of s x)
    stays s shows S =
        let same : s ≡ with_table t s = λ j. with_table (shows j) s in
        subst (λ (z : State). Means z x (gateway_of s x)) same (means_itself s x S)

    pub all-removed : (u : Columns) (y : List ℕ) → Changes without_all t x u y → Answered 6 buffer o out → TableEnds removing_all u y
    unfolding removing_all
    all-removed u y gone done s shows S a = landed _ _ _ _ _ _ _ _ (answering done _ _ _ (gone s shows S))

    module _ (payload : List ℕ) (w : Result Part Fault) (read : w ≡ string_at payload 1) where
      pub unread : (v : Fault) → w ≡ Err v → Answered 5 buffer o out → TableEnds (λ g. removing g payload) t x
      unfolding removing
      unread v fault done s shows S a = part-fault _ _ _ _ _ _ _ _ w _ v fault read (landed _ _ _ _ _ _ _ _ (answering done _ _ _ (stays s shows S)))

      module _ (v : Part) (whole : w ≡ Ok v) (f : Found) (blob : List ℕ) (cut : blob ≡ cut_of payload v.from v.to) (is : Sought f blob) where
        found_in : (s : State) → ShowsTable t s → f ≡ seek (holds (cut_of payload v.from v.to)) 0 (gateway_of s x).entries
        found_in s shows = sought blob (cut_of payload v.from v.to) (gateway_of s x).entries f cut (is s (shown_parts s shows))

        pub one_removed : (u : Columns) (y : List ℕ) (i : ℕ) → f ≡ Some i → Changes (without i) t x u y → Answered 6 buffer o out → TableEnds (λ g. removing g payload) u y
        unfolding removing
        one_removed u y i at gone done s shows S a =
            part-whole _ _ _ _ _ _ _ _ w _ v whole read
            (found_at _ _ _ _ _ _ _ _ f _ i at (found_in s shows)
            (landed _ _ _ _ _ _ _ _ (answering done _ _ _ (gone s shows S))))

        pub none_held : f ≡ None → Answered 5 buffer o out → TableEnds (λ g. removing g payload) t x
        unfolding removing
        none_held at done s shows S a =
            part-whole _ _ _ _ _ _ _ _ w _ v whole read
            (found_nothing _ _ _ _ _ _ _ _ f _ at (found_in s shows)
            (landed _ _ _ _ _ _ _ _ (answering done _ _ _ (stays s shows S))))
