-- The stages of a request writer: nothing is written where the room is refused, and each further part makes a longer head.
use Prim.Native.Nat.{ℕ, ◌+◌, ◌≤◌, ◌<◌}
use mathlib.Core.Path.{◌≡◌, refl, sym, ap, ◌∙◌}
use mathlib.Core.List.{List, ◌∷◌, ◌++◌, append_assoc}
use mathlib.Core.Logic.{⊎_elim}
use native.Mathlib.Omega.{arith}
use borrow.Author.Tests.{le-ltb, lt-ltb}
use lib.ListN.{length, length-append}
use Rattle.wire.specs.Limits.{payload_limit}
use Rattle.wire.specs.Numbers.{be32}
use Rattle.wire.specs.Write.{write, string}
use Rattle.wire.specs.declared.refusal.Refusal.{Refusal}
use Rattle.wire.specs.declared.refusal.Refusal.TheVariants.{OutputTooShort, PayloadTooLong}
use Rattle.std.specs.Prelude.{Result, Ok, Err}
use Rattle.std.specs.Result.{IsErrAnd}
use Rattle.std.proofs.lemmas.Result.{err_from_is_err_and}
use Rattle.wire.proofs.Reading.{le_or_lt}
use Rattle.wire.proofs.Writing.{length-write, write-behind}
use Rattle.client.specs.Requests.{head_answer, head_left}

-- what a writer ensures of its answer and of the output
abbrev pub Met : ℕ → List ℕ → List ℕ → Result ℕ Refusal → List ℕ → Type 0
Met n head out r m = (r ≡ head_answer n head out) × (m ≡ head_left n head out)

-- the room was there, and m is the output with the head of a payload of n bytes written up to `at`
pub record Stage (n : ℕ) (head out : List ℕ) (at : ℕ) (m : List ℕ) : Type 0 where
  pub small : n ≤ payload_limit
  pub fits : 4 + n ≤ length out
  pub place : at ≡ 4 + length head
  pub holds : m ≡ write out 0 (be32 n ++ head)

module _ (n : ℕ) (head out : List ℕ) where
  pub too_long : payload_limit < n → Met n head out (Err PayloadTooLong) out
  unfolding head_answer head_left
  too_long h = rw (lt-ltb payload_limit n h) (refl, refl)

  pub too_short : n ≤ payload_limit → length out < 4 + n → Met n head out (Err OutputTooShort) out
  unfolding head_answer head_left
  too_short h k = rw (le-ltb payload_limit n h, lt-ltb (length out) (4 + n) k) (refl, refl)

  -- a stage is what the writer so far ensures
  pub met : (at : ℕ) (m : List ℕ) → Stage n head out at m → Met n head out (Ok at) m
  unfolding head_answer head_left
  met at m s = rw (le-ltb payload_limit n s.small, le-ltb (length out) (4 + n) s.fits) (ap Ok s.place, s.holds)

-- the three ways out of a writer
data Way (n : ℕ) (head out : List ℕ) : Result ℕ Refusal → List ℕ → Type 0 where
  long : payload_limit < n → Way n head out (Err PayloadTooLong) out
  short : n ≤ payload_limit → length out < 4 + n → Way n head out (Err OutputTooShort) out
  wrote : (at : ℕ) (m : List ℕ) → Stage n head out at m → Way n head out (Ok at) m

way : (n : ℕ) (head out : List ℕ) (r : Result ℕ Refusal) (m : List ℕ) → Met n head out r m → Way n head out r m
way n head out r m e =
    ⊎_elim
    (λ (h : n ≤ payload_limit).
    ⊎_elim
    (λ (k : 4 + n ≤ length out).
    let s : Stage n head out (4 + length head) (write out 0 (be32 n ++ head)) = record { small = h; fits = k; place = refl; holds = refl } in
    let w = met n head out _ _ s in
    rw (e.0 ∙ sym w.0, e.1 ∙ sym w.1) (wrote _ _ s))
    (λ (k : length out < 4 + n). let w = too_short n head out h k in rw (e.0 ∙ sym w.0, e.1 ∙ sym w.1) (short h k))
    (le_or_lt (4 + n) (length out)))
    (λ (h : payload_limit < n). let w = too_long n head out h in rw (e.0 ∙ sym w.0, e.1 ∙ sym w.1) (long h))
    (le_or_lt n payload_limit)

module _ (n : ℕ) (head out : List ℕ) where
  staged : (r : Result ℕ Refusal) (m : List ℕ) → Way n head out r m → (at : ℕ) → r ≡ Ok at → Stage n head out at m
  staged _ _ (long h) at g = let z : ◌≡◌ {A = ℕ} 0 1 = cc in absurd (omega arith)
  staged _ _ (short h k) at g = let z : ◌≡◌ {A = ℕ} 0 1 = cc in absurd (omega arith)
  staged _ _ (wrote from m s) at g = let q : from ≡ at = cc in rw q at s

  stopped : (r : Result ℕ Refusal) (m : List ℕ) → Way n head out r m → (k : Refusal) → r ≡ Err k → (p : ℕ) (longer : List ℕ) → n ≡ p → Met p longer out r m × (m ≡ out)
  stopped _ _ (long h) k g p longer q = (too_long p longer out (omega arith), refl)
  stopped _ _ (short h l) k g p longer q = (too_short p longer out (omega arith) (omega arith), refl)
  stopped _ _ (wrote at m s) k g p longer q = let z : ◌≡◌ {A = ℕ} 0 1 = cc in absurd (omega arith)

  module _ (r : Result ℕ Refusal) (m : List ℕ) (e : Met n head out r m) where
    -- a writer that wrote came to a stage
    pub stage : (at : ℕ) → r ≡ Ok at → Stage n head out at m
    stage at g = staged r m (way n head out r m e) at g

    module _ (k : Refusal) (g : r ≡ Err k) where
      -- a refusal of a head, handed on, is that of every other of the same room
      pub refused : (p : ℕ) (longer : List ℕ) → n ≡ p → (q : Result ℕ Refusal) → IsErrAnd q (λ y. y ≡ k) → Met p longer out q m
      refused p longer h q d =
          let (y, is, same) = err_from_is_err_and q d in
          rw (is, same, ← g) (stopped r m (way n head out r m e) k g p longer h).0

      pub untouched : m ≡ out
      untouched = (stopped r m (way n head out r m e) k g n head refl).1

module _ {n : ℕ} {head out : List ℕ} {at : ℕ} {m : List ℕ} (s : Stage n head out at m) where
  -- a stage keeps the output's length
  pub stage_size : length head ≤ n → length m ≡ length out
  stage_size h = rw s.holds (length-write out 0 (be32 n ++ head) (omega (arith, s.fits)))

  -- one part more behind the head
  pub more : (v o : List ℕ) (end : ℕ) (longer : List ℕ) → o ≡ write m at v → end ≡ at + length v → head ++ v ≡ longer → length longer ≤ n
      → Stage n longer out end o
  more v o end longer e f g h =
      let l : length head + length v ≡ length longer = sym (length-append head v) ∙ ap length g in
      record {
        small = s.small;
        fits = s.fits;
        place = omega (arith, s.place);
        holds = write-behind out 0 (be32 n ++ head) m at v o s.holds e (omega (arith, s.place)) (omega (arith, s.fits))
            ∙ ap (λ (x : List ℕ). write out 0 (be32 n ++ x)) g;
      }

  -- a string more
  pub string-more : (v o : List ℕ) (end : ℕ) (longer : List ℕ) → o ≡ write m at (string v) → end ≡ at + 4 + length v → head ++ string v ≡ longer
      → length longer ≤ n → Stage n longer out end o
  string-more v o end longer e f g h = more (string v) o end longer e (omega arith) g h

-- a part behind two strings
pub behind-two : (kind : ℕ) (a b v : List ℕ) → (kind ∷ (string a ++ string b)) ++ v ≡ kind ∷ (string a ++ (string b ++ v))
behind-two kind a b v = ap (λ (l : List ℕ). kind ∷ l) (append_assoc (string a) (string b) v)

-- a head as long as was counted is the payload
pub counted : (n : ℕ) (payload out : List ℕ) (r : Result ℕ Refusal) (m : List ℕ) → Met n payload out r m → n ≡ length payload → Met (length payload) payload out r m
counted n payload out r m e q = rw (← q) e

pub whole : (n : ℕ) (payload out : List ℕ) (at : ℕ) (m : List ℕ) → Stage n payload out at m → n ≡ length payload → Met (length payload) payload out (Ok at) m
whole n payload out at m s q = counted n payload out (Ok at) m (met n payload out at m s) q
