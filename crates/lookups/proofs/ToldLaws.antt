-- What a lookup finds, by the soundness test and the search for the number.
use Prim.Native.Nat.{ℕ, ◌<◌}
use mathlib.Core.Path.{◌≡◌}
use mathlib.Core.Bool.{true, false}
use mathlib.Core.List.{List}
use native.Mathlib.Omega.{arith}
use borrow.Author.Tests.{eqb-true}
use Rattle.std.specs.Prelude.{Some, None}
use Rattle.rule.specs.Gateway.{Entry as Key, seek, found}
use Rattle.rule.specs.Words.{HeldAt}
use Rattle.rule.proofs.PositionLaws.{Holds, seek-first}
use Rattle.table.specs.declared.State.{State}
use Rattle.table.specs.Entries.{count_of}
use Rattle.table.specs.Meaning.{gateway_of}
use Rattle.table.specs.Soundness.{sound_state}
use Rattle.table.proofs.StateLaws.{state_count}
use Rattle.lookups.specs.Told.{has_number, nothing, told_of, key_told, least_above, next_told}

-- ## A key with the number

pub record Numbered (n : ℕ) (ks : List Key) (i : ℕ) : Type 0 where
  pub key : Key
  pub there : Holds ks i key
  pub is : key.number ≡ n

pub number_there : (n : ℕ) (ks : List Key) (i : ℕ) → seek (has_number n) 0 ks ≡ Some i → Numbered n ks i
number_there n ks i e =
    let f = seek-first (has_number n) ks i e in
    record { key = f.entry; there = f.there; is = eqb-true f.entry.number n f.passes }

-- ## One key

module _ (s : State) (x : List ℕ) (n : ℕ) where
  pub key-unsound : sound_state s x ≡ false → nothing ≡ key_told s x n
  unfolding key_told
  key-unsound e = rw e

  module _ (sound : sound_state s x ≡ true) where
    pub key-absent : seek (has_number n) 0 (gateway_of s x).entries ≡ None → nothing ≡ key_told s x n
    unfolding key_told found
    key-absent e = rw (sound, e)

    pub key-found : (i : ℕ) (k : Key) → seek (has_number n) 0 (gateway_of s x).entries ≡ Some i → HeldAt (gateway_of s x) i k → told_of s i k ≡ key_told s x n
    unfolding key_told found
    key-found i k e there = rw (sound, e, there)

  pub numbered-at : (i : ℕ) → seek (has_number n) 0 (gateway_of s x).entries ≡ Some i → Numbered n (gateway_of s x).entries i
  numbered-at i e = number_there n (gateway_of s x).entries i e

  pub position_within : (i : ℕ) → seek (has_number n) 0 (gateway_of s x).entries ≡ Some i → i < count_of s.columns.numbers
  position_within i e =
      let inside = (seek-first (has_number n) (gateway_of s x).entries i e).inside in
      let long = state_count s x in
      omega arith

-- ## The next number

module _ (s : State) (x : List ℕ) (after : ℕ) where
  pub next_unsound : sound_state s x ≡ false → 0 ≡ next_told s x after
  unfolding next_told
  next_unsound e = rw e

  pub next_sound : sound_state s x ≡ true → least_above after (gateway_of s x).entries ≡ next_told s x after
  unfolding next_told
  next_sound e = rw e
