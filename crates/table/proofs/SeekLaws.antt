-- The search over entries, one by one: one law for a turn, for a turn that leaves, and for the end.
use Prim.Native.Nat.{ℕ, zero, suc, ◌+◌, ◌≤◌}
use mathlib.Core.Path.{◌≡◌, sym, ap}
use mathlib.Core.Bool.{Bool, true, false}
use mathlib.Core.Option.{some}
use mathlib.Core.List.{List, [], ◌∷◌}
use native.Mathlib.Numerals.{add-one}
use lib.ListN.{length, drop, drop_of_length-le}
use Rattle.std.specs.Prelude.{Some, None}
use Rattle.rule.specs.Gateway.{Entry as Key, entry_at, seek}
use Rattle.rule.proofs.PositionLaws.{some_not_none, same-entry}

pub drop-entry : (ks : List Key) (i : ℕ) (k : Key) → entry_at ks i ≡ some k → drop i ks ≡ k ∷ drop (suc i) ks
drop-entry [] i k e = absurd (some_not_none (sym e))
drop-entry (x ∷ ks) zero k e = ap (λ (y : Key). y ∷ ks) (same-entry e)
drop-entry (x ∷ ks) (suc i) k e = drop-entry ks i k e

module _ (test : Key → Bool) (ks : List Key) (i : ℕ) where
  pub seek-step : (k : Key) → entry_at ks i ≡ some k → test k ≡ false → seek test i (drop i ks) ≡ seek test (i + 1) (drop (i + 1) ks)
  seek-step k e t = rw (add-one, drop-entry ks i k e, t)

  pub seek_stop : (k : Key) → entry_at ks i ≡ some k → test k ≡ true → seek test i (drop i ks) ≡ Some i
  seek_stop k e t = rw (drop-entry ks i k e, t)

  pub seek-end : length ks ≤ i → seek test i (drop i ks) ≡ None
  seek-end h = rw (drop_of_length-le ks h)
