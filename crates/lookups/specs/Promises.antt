-- What the lookups promise, as statements; the proofs are in proofs/HeldLaws.antt and NextLaws.antt.
use Rattle.std.specs.Prelude.{ℕ, ◌+◌, ◌≤◌, ◌<◌, ◌≡◌, ◌↔◌, ◌≢◌, true, false, List, length, take, drop, replicate}
use Rattle.wire.specs.declared.Seconds.{Seconds}
use Rattle.wire.specs.Limits.{comment_limit}
use Rattle.wire.specs.Read.{cut_of}
use Rattle.std.specs.Prelude.{Some, None}
use Rattle.rule.specs.declared.Millis.{Millis}
use Rattle.rule.specs.Gateway.{Entry as Key, Gateway, zero_millis, advance}
use Rattle.rule.specs.Words.{Held}
use Rattle.table.specs.declared.State.{State}
use Rattle.table.specs.Meaning.{gateway_of}
use Rattle.table.specs.Soundness.{Sound}
use Rattle.lookups.specs.declared.Comment.{Comment}
use Rattle.lookups.specs.declared.HeldKey.{HeldKey}
use Rattle.lookups.specs.Told.{key_told, next_told}

-- ## Words

-- a key with this number is held
pub record HeldUnder (g : Gateway) (n : ℕ) : Type 0 where
  pub key : Key
  pub held : Held g key
  pub number : key.number ≡ n

-- ## One key

-- a text and the zeros behind it
pub record Says (c : Comment) (text : List ℕ) : Type 0 where
  pub long : c.len ≡ length text
  pub text_is : take c.len c.bytes ≡ text
  pub rest : drop c.len c.bytes ≡ replicate (length (drop c.len c.bytes)) 0
  pub whole : length c.bytes ≡ comment_limit

-- what is told is of this key: its number, its Confirm, whether it has a lifetime, its own bytes of the store, its comment
pub record Tells (x : List ℕ) (k : Key) (r : HeldKey) : Type 0 where
  pub number : r.number ≡ k.number
  pub confirm : k.confirm ≡ true → r.confirm ≡ 1
  pub no_confirm : k.confirm ≡ false → r.confirm ≡ 0
  pub limited : (seconds : Seconds) → k.lifetime ≡ Some seconds → r.limited ≡ 1
  pub unlimited : k.lifetime ≡ None → r.limited ≡ 0
  pub blob : cut_of x r.blob_from r.blob_to ≡ k.blob
  pub fields : cut_of x r.fields_from r.fields_to ≡ k.fields
  pub comment : Says r.comment k.comment

abbrev pub KeyRule : Type 0
KeyRule = (s : State) (x : List ℕ) (k : Key) → Sound s x → Held (gateway_of s x) k → Tells x k (key_told s x k.number)

-- An accepted call first advances the gateway to its reading. At the kept clock and t more that lets a key with a lifetime go exactly where no more
-- than t is left; one without a lifetime has nothing left, and never goes.
pub record LeftSays (g : Gateway) (k : Key) (left : Millis) : Type 0 where
  pub goes : (seconds : Seconds) (t : ℕ) → k.lifetime ≡ Some seconds → (¬ Held (advance (record { count = g.clock.count + t }) g) k) ↔ (left.count ≤ t)
  pub none_left : k.lifetime ≡ None → left ≡ zero_millis
  pub stays : k.lifetime ≡ None → (reading : Millis) → Held (advance reading g) k

abbrev pub LeftRule : Type 0
LeftRule =
    (s : State) (x : List ℕ) (k : Key) → Sound s x → Held (gateway_of s x) k
    → LeftSays (gateway_of s x) k (key_told s x k.number).left

-- every field is zero
pub record AllZero (r : HeldKey) : Type 0 where
  pub number : r.number ≡ 0
  pub confirm : r.confirm ≡ 0
  pub limited : r.limited ≡ 0
  pub left : r.left ≡ zero_millis
  pub blob : (r.blob_from ≡ 0) × (r.blob_to ≡ 0)
  pub fields : (r.fields_from ≡ 0) × (r.fields_to ≡ 0)
  pub comment : (r.comment.bytes ≡ replicate comment_limit 0) × (r.comment.len ≡ 0)

-- nothing is told where no key has the number, for the number 0, and where state and store are not sound
abbrev pub NothingRule : Type 0
NothingRule = (s : State) (x : List ℕ) (n : ℕ) → (Sound s x → HeldUnder (gateway_of s x) n → ⊥) → AllZero (key_told s x n)

-- and only there
abbrev pub ToldRule : Type 0
ToldRule = (s : State) (x : List ℕ) (n : ℕ) → ((key_told s x n).number ≢ 0) ↔ (Sound s x × HeldUnder (gateway_of s x) n)

-- whatever state and store are, the parts lie in the store
pub record PartsWithin (x : List ℕ) (r : HeldKey) : Type 0 where
  pub blob_ordered : r.blob_from ≤ r.blob_to
  pub blob_within : r.blob_to ≤ length x
  pub fields_ordered : r.fields_from ≤ r.fields_to
  pub fields_within : r.fields_to ≤ length x
  pub comment_within : r.comment.len ≤ comment_limit

abbrev pub PartsRule : Type 0
PartsRule = (s : State) (x : List ℕ) (n : ℕ) → PartsWithin x (key_told s x n)

-- ## The next number

-- held, above `after`, and no held number lies between
pub record Next (g : Gateway) (after m : ℕ) : Type 0 where
  pub held : HeldUnder g m
  pub above : after < m
  pub least : (n : ℕ) → HeldUnder g n → after < n → m ≤ n

abbrev pub NextRule : Type 0
NextRule = (s : State) (x : List ℕ) (after m : ℕ) → m ≢ 0 → (next_told s x after ≡ m) ↔ (Sound s x × Next (gateway_of s x) after m)

-- none is told exactly where none is held above `after`, or state and store are not sound
abbrev pub NoNextRule : Type 0
NoNextRule = (s : State) (x : List ℕ) (after : ℕ) → (next_told s x after ≡ 0) ↔ (Sound s x → (n : ℕ) → HeldUnder (gateway_of s x) n → n ≤ after)

-- the numbers that are met when one asks for the next, from 0 on
pub data Reached (s : State) (x : List ℕ) : ℕ → Type 0 where
  start : Reached s x 0
  on : (n : ℕ) → Reached s x n → Reached s x (next_told s x n)

abbrev pub EveryReached : Type 0
EveryReached = (s : State) (x : List ℕ) (n : ℕ) → Sound s x → HeldUnder (gateway_of s x) n → Reached s x n
