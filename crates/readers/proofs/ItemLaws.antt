-- Items one by one: what is left to go over yields what the whole does.
use Prim.Native.Nat.{ℕ, suc}
use mathlib.Core.Path.{◌≡◌, refl, sym, ◌∙◌}
use mathlib.Core.List.{List}
use Rattle.std.specs.Prelude.{Result, Ok, Err}
use Rattle.wire.specs.declared.read.Fault.{Fault}
use Rattle.wire.specs.declared.read.Part.{Part}
use Rattle.wire.specs.Read.{string_at, text_at}
use Rattle.wire.specs.Steps.{faulted, part}
use Rattle.readers.specs.Reaches.{reach}
use Rattle.readers.specs.Identities.{items_at}

-- one item, and the items behind it
items-suc : (n : ℕ) (s : List ℕ) (at : ℕ) → items_at (suc n) s at ≡ reach faulted (items_at 1 s at) (items_at n s)
unfolding items_at part reach
items-suc n s at = go _ (string_at s at)
  where
    text : (q : Result Part Fault) → part faulted q (λ g u l. items_at n s l.at) ≡ reach faulted (part faulted q (λ g u l. Ok l.at)) (items_at n s)
    text (Ok q) = refl
    text (Err e) = refl

    go : (z : ℕ → ℕ) (p : Result Part Fault)
        → part (λ x. faulted (z x)) p (λ f t k. part faulted (text_at s k.at) (λ g u l. items_at n s l.at))
        ≡ reach faulted (part (λ x. faulted (z x)) p (λ f t k. part faulted (text_at s k.at) (λ g u l. Ok l.at))) (items_at n s)
    go z (Ok p) = text (text_at s p.next.at)
    go z (Err e) = refl

-- with an item there are as many as are left, and one
module _ (s : List ℕ) (at left : ℕ) (w : Result ℕ Fault) (e : items_at (suc left) s at ≡ w) where
  pub stopped : (place : Fault) → Err place ≡ items_at 1 s at → Err place ≡ w
  unfolding reach
  stopped place f = rw (← f) at (sym (items-suc left s at)) ∙ e

  pub passed : (next : ℕ) → Ok next ≡ items_at 1 s at → items_at left s next ≡ w
  unfolding reach
  passed next f = rw (← f) at (sym (items-suc left s at)) ∙ e
