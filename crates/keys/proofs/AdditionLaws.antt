-- Add requests at fault: the reader goes through key fields, comment and constraints in this order, and hands on the first fault.
use Prim.Native.Nat.{ℕ}
use mathlib.Core.Path.{◌≡◌, ap}
use mathlib.Core.Option.{some}
use native.Mathlib.Omega.{arith}
use Rattle.wire.specs.Read.{text_at}
use Rattle.wire.specs.Steps.{faulted, part}
use Rattle.wire.proofs.Laws.{answers_apart, whole_of}
use Rattle.keys.specs.declared.kinds.Places.{Places}
use Rattle.keys.specs.declared.constraints.Walk.{Walk}
use Rattle.keys.specs.declared.constraints.Walk.TheVariants.{Done, Duplicate, Unknown, Cut}
use Rattle.wire.specs.declared.read.Span.{Span}
use Rattle.keys.specs.Kinds.{key_at}
use Rattle.keys.specs.Additions.{limits_of, commented_at, key, addition_at}
use Rattle.keys.specs.Values.{walk_says, fault_of}
use Rattle.keys.specs.Promises.{AdditionFault}
use Rattle.keys.proofs.KeyLaws.{read_whole}
use Rattle.keys.proofs.FaultLaws.{fault_so}

limits_fault : (p : Places) (comment : Span) (w : Walk) (place : ℕ) → fault_of (walk_says w) ≡ some place → limits_of p comment w ≡ faulted place
unfolding limits_of
limits_fault p comment (Done l c) place e = let z : ◌≡◌ {A = ℕ} 0 1 = cc in absurd (omega arith)
limits_fault p comment (Duplicate at) place e = let h : at ≡ place = cc in ap faulted h
limits_fault p comment (Unknown at) place e = let h : at ≡ place = cc in ap faulted h
limits_fault p comment (Cut at) place e = let h : at ≡ place = cc in ap faulted h

pub addition_fault : AdditionFault
unfolding addition_at key commented_at part
addition_fault s at constrained place = record {
  key = λ k. rw (fault_so s at (key_at s at) place k);
  comment = λ blob end k c.
      let (p, whole, _, is) = read_whole s at (key_at s at) blob end k in
      rw (whole, is, answers_apart.parts (text_at s end) (faulted place) c);
  constraints = λ blob end text next k c yes w.
      let (p, whole, _, is) = read_whole s at (key_at s at) blob end k in
      rw (whole, is, whole_of (text_at s end) text next c, yes, limits_fault p _ _ place w);
}
