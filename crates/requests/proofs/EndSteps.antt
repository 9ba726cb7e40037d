-- How a request's function follows its plan: one law for each step of a plan, and one for each way to land. `search ends` goes by them.
use Rattle.std.specs.Prelude.{Result, Ok, Err}
use Rattle.wire.specs.declared.read.Fault.{Fault}
use Prim.Native.Nat.{ℕ, ◌+◌, ◌-◌, ◌≤◌, ◌<◌}
use mathlib.Core.Path.{◌≡◌, refl, sym, ap, ◌∙◌}
use mathlib.Core.Bool.{Bool, true, false, cond}
use mathlib.Core.Logic.{⊎_elim}
use mathlib.Core.Option.{Option, none, some}
use mathlib.Core.List.{List, [], ◌∷◌}
use native.Mathlib.Omega.{arith}
use borrow.Author.Rules.{rules}
use borrow.Author.Tests.{le-leb}
use lib.ListN.{length, take, length-take}
use Rattle.wire.specs.declared.read.Cursor.{Cursor}
use Rattle.wire.specs.declared.read.Part.{Part}
use Rattle.wire.specs.Numbers.{be32}
use Rattle.wire.specs.Read.{cut_of, same}
use Rattle.wire.specs.Steps.{part, number}
use Rattle.wire.specs.Write.{string, write}
use Rattle.wire.proofs.Reading.{cut_there, cut_past, cut_back, le_or_lt}
use Rattle.wire.proofs.Writing.{write-behind}
use Rattle.wire.proofs.Steps.{leb_yes, leb_no, plain, string-order}
use Rattle.keys.specs.declared.addition.Carried.{Carried}
use Rattle.keys.specs.Additions.{Addition}
use Rattle.rule.specs.declared.Millis.{Millis}
use Rattle.rule.specs.Gateway.{Found}
use Rattle.std.specs.Prelude.{Some, None}
use Rattle.rule.specs.Gateway.{Entry as Key, Gateway, seek, holds, found}
use Rattle.rule.specs.Rule.{Question, Answer, Landing, reply, close, Plan, land, ask, added}
use Rattle.rule.specs.Calls.{asks, lands, follow}
use Rattle.rule.proofs.PositionLaws.{seek-first}
use Rattle.table.specs.declared.State.{State}
use Rattle.table.specs.Entries.{count_of}
use Rattle.table.specs.Meaning.{gateway_of}
use Rattle.table.specs.Soundness.{Sound, Means}
use Rattle.table.proofs.StateLaws.{state_count}
use Rattle.requests.specs.declared.Called.{Called}
use Rattle.requests.specs.declared.Outcome.{Outcome}
use Rattle.requests.specs.declared.Outcome.TheVariants.{Reply, Close}
use Rattle.requests.specs.Outcomes.{code, written}
use Rattle.requests.specs.Ends.{Ends, Answered}

-- ## The steps of a plan

module _ (buffer : List ℕ) (r : Called) (store out : List ℕ) (answers : (q : Question) → Option (Answer q)) (g : Gateway) where
  abbrev E : Plan → Type 0
  E plan = Ends buffer r store out (follow answers g plan)

  pub cond_yes : (z : Plan) (b : Bool) (p : Plan) → true ≡ b → E p → E (cond b p z)
  cond_yes z b p e h = rw (← e) h

  pub cond_no : (z : Plan) (b : Bool) (p : Plan) → false ≡ b → E z → E (cond b p z)
  cond_no z b p e h = rw (← e) h

  pub part-fault : (z : ℕ → Plan) (p w : Result Part Fault) (F : ℕ → ℕ → Cursor → Plan) (v : Fault) → w ≡ Err v → w ≡ p → E (z v.at) → E (part z p F)
  unfolding part
  part-fault z p w F v q e h = rw (← e, q) h

  pub part-whole : (z : ℕ → Plan) (p w : Result Part Fault) (F : ℕ → ℕ → Cursor → Plan) (v : Part) → w ≡ Ok v → w ≡ p → E (F v.from v.to v.next) → E (part z p F)
  unfolding part
  part-whole z p w F v q e h = rw (← e, q) h

  pub number_fault : (z : ℕ → Plan) (p w : Result (ℕ × Cursor) Fault) (F : ℕ → Cursor → Plan) (v : Fault) → w ≡ Err v → w ≡ p → E (z v.at) → E (number z p F)
  unfolding number
  number_fault z p w F v q e h = rw (← e, q) h

  pub number_value : (z : ℕ → Plan) (p w : Result (ℕ × Cursor) Fault) (F : ℕ → Cursor → Plan) (v : ℕ × Cursor) → w ≡ Ok v → w ≡ p → E (F v.0 v.1) → E (number z p F)
  unfolding number
  number_value z p w F v q e h = rw (← e, q) h

  pub found_at : (z : Plan) (p w : Found) (F : ℕ → Plan) (i : ℕ) → w ≡ Some i → w ≡ p → E (F i) → E (found z p F)
  unfolding found
  found_at z p w F i q e h = rw (← e, q) h

  pub found_nothing : (z : Plan) (p w : Found) (F : ℕ → Plan) → w ≡ None → w ≡ p → E z → E (found z p F)
  unfolding found
  found_nothing z p w F q e h = rw (← e, q) h

  pub added-whole : (z : Plan) (p w : Addition) (F : Carried → Plan) (c : Carried) → w ≡ Ok c → w ≡ p → E (F c) → E (added z p F)
  unfolding added
  added-whole z p w F c q e h = rw (← e, q) h

  pub added-fault : (z : Plan) (p w : Addition) (F : Carried → Plan) (v : Fault) → w ≡ Err v → w ≡ p → E z → E (added z p F)
  unfolding added
  added-fault z p w F v q e h = rw (← e, q) h

  pub landed : (l : Landing) (after : Gateway) → Ends buffer r store out (record { outcome = lands l; gateway = after }) → E (land l after)
  unfolding follow
  landed l after h = h

  -- the answer is missing, and the question is the outcome
  pub asked : (q : Question) (F : Answer q → Plan) → answers q ≡ none → Ends buffer r store out (record { outcome = asks q; gateway = g }) → E (ask q F)
  unfolding follow
  asked q F e h = rw e h

  pub answered : (q : Question) (F : Answer q → Plan) (a : Answer q) → answers q ≡ some a → E (F a) → E (ask q F)
  unfolding follow
  answered q F a e h = rw e h

-- ## Landings

-- bytes written at the front of the buffer, and their number, are a reply
pub replied : (buffer : List ℕ) (r : Called) (store out bytes : List ℕ) (s : State) (n : ℕ) (g : Gateway) → r ≡ record { outcome = Reply n; state = s } → n ≡ length bytes
    → out ≡ write buffer 0 bytes → Means s store g → Ends buffer r store out (record { outcome = lands (reply bytes); gateway = g })
unfolding code written
replied buffer r store out bytes s n g e l w m = rw (e, l) (record { outcome = refl; means = m; bytes = w })

pub answering : {kind : ℕ} {buffer out : List ℕ} {r : Outcome} → Answered kind buffer r out → (s : State) (store : List ℕ) (g : Gateway) → Means s store g
    → Ends buffer (record { outcome = r; state = s }) store out (record { outcome = lands (reply (string (kind ∷ []))); gateway = g })
answering h s store g m = replied _ _ _ _ _ s _ _ (ap (λ (o : Outcome). record { outcome = o; state = s }) h.0) refl h.1 m

-- nothing is written, and the state stays
pub closing : (s : State) (store buffer : List ℕ) (g : Gateway) → Means s store g
    → Ends buffer (record { outcome = Close; state = s }) store buffer (record { outcome = lands close; gateway = g })
unfolding code written
closing s store buffer g m = record { outcome = refl; means = m; bytes = refl }

-- a question as the outcome: nothing is written
pub asked-ends : (buffer store : List ℕ) (o : Outcome) (s : State) (q : Question) → o ≡ code (asks q) → Sound s store
    → Ends buffer (record { outcome = o; state = s }) store buffer (record { outcome = asks q; gateway = gateway_of s store })
unfolding written
asked-ends buffer store o s q e m = record { outcome = e; means = record { gateway = refl; sound = m }; bytes = refl }

-- the length of one byte, and the byte
pub five : (o m out : List ℕ) (k at n : ℕ) → m ≡ write o 0 (be32 1) → at ≡ 0 + 4 → out ≡ write m at (k ∷ []) → n ≡ at + 1 → 5 ≤ length o
    → (Reply n ≡ Reply 5) × (out ≡ write o 0 (string (k ∷ [])))
five o m out k at n e a f l h =
    let five : n ≡ 5 = omega arith in
    (ap (λ (n : ℕ). Reply n) five, write-behind o 0 (be32 1) m at (k ∷ []) out e f (omega arith) (omega arith))

-- ## What a request's function hands on

pub means_itself : (s : State) (x : List ℕ) → Sound s x → Means s x (gateway_of s x)
means_itself s x h = record { gateway = refl; sound = h }

abbrev with_lock_lem : List ℕ → List Key → Millis → ℕ → Gateway
with_lock_lem p ks clock next = record { entries = ks; lock = p; clock = clock; next = next }

-- the lock is bytes that a call gave
pub lock_means : (s : State) (x p q : List ℕ) (ks : List Key) (clock : Millis) (next : ℕ) → p ≡ q → Means s x (with_lock_lem p ks clock next) → Means s x (with_lock_lem q ks clock next)
lock_means s x p q ks clock next e m = rw (← e) m

-- an empty part opens
pub open_means : (s : State) (x p l : List ℕ) (ks : List Key) (clock : Millis) (next : ℕ) → p ≡ cut_of l 0 0 → Means s x (with_lock_lem p ks clock next)
    → Means s x (with_lock_lem [] ks clock next)
unfolding cut_of
open_means s x p l ks clock next e m = lock_means s x p [] ks clock next (rw (le-leb 0 (length l) (omega arith)) at e) m

-- a search for bytes that a call gave
pub sought : (p q : List ℕ) (ks : List Key) (w : Found) → p ≡ q → w ≡ seek (holds p) 0 ks → w ≡ seek (holds q) 0 ks
sought p q ks w e f = rw (← e) f

-- the passphrase is tested with bytes that a call gave
pub passphrase-of : (s : State) (x p q : List ℕ) (v b : Bool) → p ≡ q → b ≡ v → b ≡ same (take s.lock.len s.lock.bytes) p → v ≡ same (gateway_of s x).lock q
unfolding gateway_of
passphrase-of s x p q v b e f h = sym f ∙ h ∙ ap (same (gateway_of s x).lock) e

pub cut_fits : (s p : List ℕ) (f t n : ℕ) → p ≡ cut_of s f t → t - f ≤ n → length p ≤ n
cut_fits s p f t n e h = rw e (⊎_elim (λ a. ⊎_elim (there a) (past a) (le_or_lt t (length s))) back (le_or_lt f t))
  where
    there : f ≤ t → t ≤ length s → length (cut_of s f t) ≤ n
    there a b = rw (← cut_there s f t a b, length-take) (omega arith)

    past : f ≤ t → length s < t → length (cut_of s f t) ≤ n
    past a b = rw (← cut_past s f t a b) (omega arith)

    back : t < f → length (cut_of s f t) ≤ n
    back a = rw (← cut_back s f t a) (omega arith)

-- ## Positions

-- a search over the entries ends at one of them
pub place-within : (s : State) (x : List ℕ) (test : Key → Bool) (w : Found) (i : ℕ) → w ≡ Some i → w ≡ seek test 0 (gateway_of s x).entries → i < count_of s.columns.numbers
place-within s x test w i e f =
    let inside = (seek-first test (gateway_of s x).entries i (sym f ∙ e)).inside in
    let many = state_count s x in
    omega arith

pub ruleset ends = (cond_yes, cond_no, part-fault, part-whole, number_fault, number_value, found_at, found_nothing, landed, means_itself, sought, passphrase-of, cut_fits, place-within, leb_yes, leb_no, plain, string-order, rules)
