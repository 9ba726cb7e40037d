-- The splitter's answers told apart, and when each comes: four bytes are there or not, and their number is what stands in front. Nothing is assumed of the bytes.
use mathlib.Core.Bool.{cond}
use Prim.Native.Nat.{ℕ, ◌+◌, ◌-◌, ◌^◌, ◌≤◌, ◌<◌}
use mathlib.Core.Path.{◌≡◌, refl, sym, ap, ap₂, ◌∙◌}
use mathlib.Core.List.{List, [], ◌++◌, append-nil}
use native.Mathlib.Omega.{arith}
use native.Mathlib.Nat.{add-sub_cancel_left}
use borrow.Author.Tests.{le-ltb, lt-ltb, ltb-false}
use lib.Dec.{eqb, ltb}
use lib.ListN.{length, take, drop, length-append, length-drop}
use lib.Seq.{take_at, length-take-le, take-append-le, drop-append-le, drop-drop}
use Rattle.wire.specs.Limits.{payload_limit}
use Rattle.wire.specs.declared.frame.Split.{Split}
use Rattle.wire.specs.declared.frame.Split.TheVariants.{MoreNeeded, TooLong, Frame}
use Rattle.wire.specs.Numbers.{be32, be_at}
use Rattle.wire.specs.Read.{cut_of, number_at}
use Rattle.wire.specs.Steps.{got, number}
use Rattle.wire.specs.Values.{Span}
use Rattle.wire.specs.Write.{string}
use Rattle.wire.specs.Frames.{split_of, split_number, split_span, frame_payload, payload_from}
use Rattle.wire.specs.Promises.{SplitsApart, Holds, Splits, SplitTable, FrameParts}
use Rattle.wire.proofs.Cases.{cond_cases, number_cases}
use Rattle.wire.proofs.Reading.{number_there, number_cut, number_read, cut_there, cut_none, from_there, from_none}
use Rattle.wire.proofs.Format.{be-written, part-shape, part_length}

-- ## Values

split_for : ℕ → Span → Split
split_for n v = cond (eqb n 2) (Frame v.from v.to) (cond (eqb n 1) TooLong MoreNeeded)

split_for_lem : (x : Split) → split_for (split_number x) (split_span x) ≡ x
unfolding split_for
split_for_lem MoreNeeded = refl
split_for_lem TooLong = refl
split_for_lem (Frame from to) = refl

pub splits_apart : SplitsApart
splits_apart a b e f = sym (split_for_lem a) ∙ ap₂ split_for e f ∙ split_for_lem b

-- ## Where the payload lies

-- what it says that a frame is whole
pub record IsFrame (s : List ℕ) (f t : ℕ) : Type 0 where
  pub start : f ≡ 4
  pub end : t ≡ 4 + be_at s 0
  pub within : t ≤ length s
  pub limit : t ≤ 4 + payload_limit

module _ (s : List ℕ) (f t : ℕ) where
  abbrev IfWhole : Split → Type 0
  IfWhole x = x ≡ Frame f t → IsFrame s f t

  other : (x : Split) → (split_number x ≡ 2 → ⊥) → IfWhole x
  other x never e = absurd (never (ap split_number e))

  pub frame_read : split_of s ≡ Frame f t → IsFrame s f t
  unfolding split_of
  frame_read =
      number_cases IfWhole (number_at s 0) (λ _ _. other MoreNeeded (λ z. omega arith)) λ n k read.
      let is = number_read s 0 n k read in
      cond_cases IfWhole (ltb payload_limit n)
      (λ _. other TooLong (λ z. omega arith))
      (λ fits. cond_cases IfWhole (ltb (length s) (k.at + n))
      (λ _. other MoreNeeded (λ z. omega arith))
      (λ h e.
      let q : k.at ≡ f = cc in
      let r : k.at + n ≡ t = cc in
      let l = ltb-false (length s) (k.at + n) h in
      let m = ltb-false payload_limit n fits in
      record { start = omega (arith, is.place); end = omega (arith, is.place, is.number); within = omega arith; limit = omega (arith, is.place) }))

-- unless a frame is whole, nothing is named
else_none : (x : Split) → (split_number x ≡ 2 → ⊥) → split_span x ≡ record { from = 0; to = 0 }
else_none MoreNeeded never = refl
else_none TooLong never = refl
else_none (Frame from to) never = absurd (never refl)

-- ## The table

-- a length and what stands behind it
module _ (n : ℕ) (rest : List ℕ) (small : n < 2 ^ 32) where
  length-read : number_at (be32 n ++ rest) 0 ≡ got n (record { at = 4 })
  length-read = sym (number_there (be32 n ++ rest) 0 (omega arith)) ∙ ap (λ (i : ℕ). got i (record { at = 4 })) (be-written (be32 n ++ rest) 0 n rest small refl)

  split_long : payload_limit < n → split_number (split_of (be32 n ++ rest)) ≡ 1
  unfolding split_of number
  split_long h = rw (length-read, lt-ltb payload_limit n h)

  module _ (h : n ≤ payload_limit) where
    split_short : length rest < n → split_number (split_of (be32 n ++ rest)) ≡ 0
    unfolding split_of number
    split_short l = rw (length-read, le-ltb payload_limit n h, lt-ltb (length (be32 n ++ rest)) (4 + n) (omega arith))

    module _ (l : n ≤ length rest) where
      split_is : split_of (be32 n ++ rest) ≡ Frame 4 (4 + n)
      unfolding split_of number
      split_is = rw (length-read, le-ltb payload_limit n h, le-ltb (length (be32 n ++ rest)) (4 + n) (omega arith))

      split_whole : Holds (be32 n ++ rest) (take n rest)
      unfolding frame_payload payload_from
      split_whole = record {
        frame = rw split_is;
        lies = rw (split_is, length-take-le n rest l);
        payload_is = rw split_is (sym (cut_there (be32 n ++ rest) 4 (4 + n) (omega arith) (omega arith)) ∙ rw (add-sub_cancel_left 4 n));
        from = rw split_is (from_there (be32 n ++ rest) 4 (4 + n) (omega arith) (omega arith));
      }

module _ (s : List ℕ) where
  split_few : length s < 4 → split_number (split_of s) ≡ 0
  unfolding split_of number
  split_few h = rw (← number_cut s 0 h)

  split_empty : (split_number (split_of s) ≡ 2 → ⊥) → frame_payload s ≡ []
  unfolding frame_payload
  split_empty never = rw (else_none (split_of s) never) (sym (cut_none s))

  split_start : (split_number (split_of s) ≡ 2 → ⊥) → payload_from s ≡ 0
  unfolding payload_from
  split_start never = rw (else_none (split_of s) never) (from_none s)

pub split_table : SplitTable
split_table s = record {
  few = split_few s;
  long = λ n rest e small h. rw e (split_long n rest small h);
  short = λ n rest e h l. rw e (split_short n rest (omega arith) h l);
  whole = λ n rest e h l. rw e (split_whole n rest (omega arith) h l);
  else_empty = split_empty s;
  else_start = split_start s;
}

-- ## A whole frame

-- of any bytes that hold one
pub record WholeFrame (s : List ℕ) : Type 0 where
  pub is : split_of s ≡ Frame 4 (4 + length (frame_payload s))
  pub payload : frame_payload s ≡ cut_of s 4 (4 + length (frame_payload s))
  pub within : 4 + length (frame_payload s) ≤ length s
  pub limit : length (frame_payload s) ≤ payload_limit

pub whole_frame : (s : List ℕ) → split_number (split_of s) ≡ 2 → WholeFrame s
unfolding frame_payload
whole_frame s whole = by (split_of s) refl whole
  where
    by : (x : Split) → split_of s ≡ x → split_number x ≡ 2 → WholeFrame s
    by MoreNeeded e never = absurd (omega (arith, never))
    by TooLong e never = absurd (omega (arith, never))
    by (Frame from to) e _ =
        let w = frame_read s from to e in
        let p : frame_payload s ≡ cut_of s from to = rw e in
        let l : length (frame_payload s) ≡ to - from = ap length p ∙ part_length s from to (omega (arith, w.start, w.end)) w.within in
        let end : to ≡ 4 + length (frame_payload s) = omega (arith, w.start, w.end) in
        record {
          is = e ∙ ap₂ Frame w.start end;
          payload = p ∙ ap₂ (cut_of s) w.start end;
          within = omega (arith, w.within);
          limit = omega (arith, w.limit);
        }

-- a part of a part
cut_in : (s : List ℕ) (n from to : ℕ) → 4 + n ≤ length s → from ≤ to → to ≤ n → cut_of (cut_of s 4 (4 + n)) from to ≡ cut_of s (4 + from) (4 + to)
cut_in s n from to within ordered inside =
    let p = cut_of s 4 (4 + n) in
    let size : length p ≡ 4 + n - 4 = part_length s 4 (4 + n) (omega arith) within in
    let shape : drop 4 s ≡ p ++ drop (4 + n) s = part-shape s 4 (4 + n) (omega arith) within in
    let behind : drop (4 + from) s ≡ drop from p ++ drop (4 + n) s = sym (drop-drop from 4 s) ∙ ap (drop from) shape ∙ drop-append-le from p (drop (4 + n) s) (omega arith) in
    let more : to - from ≤ length (drop from p) = simp length-drop (omega arith) in
    let gap : 4 + to - (4 + from) ≡ to - from = omega arith in
    sym (cut_there p from to ordered (omega arith)) ∙ sym (take-append-le (to - from) (drop from p) (drop (4 + n) s) more) ∙ ap (take (to - from)) (sym behind)
    ∙ ap (λ (i : ℕ). take i (drop (4 + from) s)) (sym gap) ∙ cut_there s (4 + from) (4 + to) (omega arith) (omega arith)

pub frame_parts : FrameParts
frame_parts s from to whole ordered inside =
    let w = whole_frame s whole in
    record {
      bytes = ap (λ (p : List ℕ). cut_of p from to) w.payload ∙ cut_in s (length (frame_payload s)) from to w.within ordered inside;
      within = omega (arith, w.within);
    }

-- ## What was written

found : (p rest : List ℕ) → length p ≤ payload_limit → Holds (string p ++ rest) p
found p rest h = rw (take_at p rest (length p) refl) at ((split_table (string p ++ rest)).whole (length p) (p ++ rest) refl h (simp length-append (omega arith)))

pub splits : Splits
splits p h = record { alone = rw (append-nil (string p)) at (found p [] h); followed = λ rest. found p rest h }
