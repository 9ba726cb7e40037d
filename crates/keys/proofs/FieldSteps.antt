-- What `search all` is handed here: the wire's steps, and the room behind a part of known size; where a field ends, and its fault is.
use Prim.Native.Nat.{ℕ, ◌+◌, ◌-◌, ◌≤◌}
use mathlib.Core.Path.{◌≡◌, sym}
use mathlib.Core.List.{List}
use mathlib.Core.Bool.{Bool}
use native.Mathlib.Omega.{arith}
use borrow.Author.Tests.{eqb-true}
use lib.Dec.{eqb}
use lib.ListN.{length}
use Rattle.std.proofs.Common.{Result, Ok, Err}
use Rattle.wire.specs.declared.read.Fault.{Fault}
use Rattle.wire.specs.declared.read.Part.{Part}
use Rattle.wire.specs.Mpint.{mpint}
use Rattle.wire.specs.Read.{cut_of, same, string_at, mpint_at}
use Rattle.wire.proofs.Reading.{string-read}
use Rattle.wire.proofs.Laws.{tested, Tested, tested_fault, tested-end}
use Rattle.wire.proofs.Steps.{all as wire-all}
use mir.Val.{Fits}
use mir.Syntax.{w64}
use Rattle.keys.specs.Fields.{sized_at, named_at, uncompressed, point_at, scalar, scalar_at}

-- p is read at a place: a part ends where the next one begins, and a fault is at the place
pub record Field (at : ℕ) (p : Result Part Fault) : Type 0 where
  pub fault : (e : Fault) → Err e ≡ p → e.at ≡ at
  pub end : (q : Part) → Ok q ≡ p → q.next.at ≡ q.to

module _ (s : List ℕ) (at : ℕ) where
  field : (test : ℕ → ℕ → Bool) → Field at (Tested s at test)
  field test = record { fault = λ e h. tested_fault s at test e.at (sym h); end = λ q h. tested-end s at test q (sym h) }

  pub sized_field : (n : ℕ) → Field at (sized_at s at n)
  unfolding sized_at
  sized_field n = field (λ f t. eqb (t - f) n)

  pub named_field : (name : List ℕ) → Field at (named_at s at name)
  unfolding named_at
  named_field name = field (λ f t. same (cut_of s f t) name)

  pub point_field : (n : ℕ) → Field at (point_at s at n)
  unfolding point_at
  point_field n = field (λ f t. uncompressed (cut_of s f t) n)

  pub scalar-field : (n : ℕ) → Field at (scalar_at s at n)
  unfolding scalar_at
  scalar-field n = field (λ f t. scalar (cut_of s f t) n)

  pub mpint-field : Field at (mpint_at s at)
  unfolding mpint_at
  mpint-field = field (λ f t. mpint (cut_of s f t))

-- a place within a part of n bytes, or right behind it, is a place
pub sized_room : (s : List ℕ) (at : ℕ) (p : Part) (n m : ℕ) → Ok p ≡ sized_at s at n → Fits w64 (length s) → m ≤ n → Fits w64 (p.from + m)
unfolding sized_at
sized_room s at p n m e l h =
    let q = (tested (string_at s at) (λ f t. eqb (t - f) n) (λ f t. at) p.from p.to p.next).0 (sym e) in
    let w = string-read s at p.from p.to p.next q.0 in
    let z = eqb-true (p.to - p.from) n q.1 in
    omega arith

pub ruleset all = (wire-all, sized_room)
