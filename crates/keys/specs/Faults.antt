-- Where key fields are at fault: what the draft asks of each string, by the strings before it, and where the first one stands that is not so.
use Rattle.std.specs.Prelude.{ℕ, ◌+◌, ◌<◌, ◌≡◌, List, [], ◌∷◌, ◌++◌, length, drop}
use Rattle.std.proofs.Math.Option.{some}
use Rattle.wire.specs.Mpint.{Positive}
use Rattle.wire.specs.Write.{string}
use Rattle.keys.specs.declared.kinds.Kind.{Kind}
use Rattle.keys.specs.Values.{type_of}
use Rattle.keys.specs.Forms.{Curve, Point, Scalar, nistp256, nistp384, nistp521}

-- the curve's name, Q that starts with 04, and d
abbrev pub AskedOn : Curve → List (List ℕ) → List ℕ → Type 0
AskedOn curve [] v = v ≡ curve.name
AskedOn curve (name ∷ []) v = Point curve.point v
AskedOn curve (name ∷ point ∷ []) v = Scalar curve.scalar v
AskedOn curve (name ∷ point ∷ d ∷ vs) v = ⊥

-- what is asked of the next string, by the strings between the type and it
abbrev pub Asked : Kind → List (List ℕ) → List ℕ → Type 0
Asked Kind.Ed25519 [] v = length v ≡ 32
Asked Kind.Ed25519 (a ∷ []) v = (seed : List ℕ) × (length seed ≡ 32) × (v ≡ seed ++ a)
Asked Kind.Ed25519 (a ∷ pair ∷ vs) v = ⊥
Asked Kind.Nistp256 vs v = AskedOn nistp256 vs v
Asked Kind.Nistp384 vs v = AskedOn nistp384 vs v
Asked Kind.Nistp521 vs v = AskedOn nistp521 vs v
Asked Kind.Rsa vs v = (length vs < 6) × Positive v
Asked Kind.Other vs v = ⊥

-- strings stand from one place up to another, each as it is asked behind those before it
pub data Stands (k : Kind) (s : List ℕ) : List (List ℕ) → ℕ → List (List ℕ) → ℕ → Type 0 where
  all : (vs : List (List ℕ)) (place : ℕ) → Stands k s vs place vs place
  next : (before : List (List ℕ)) (at : ℕ) (v rest : List ℕ) (vs : List (List ℕ)) (place : ℕ) → Asked k before v → drop at s ≡ string v ++ rest
      → Stands k s (before ++ (v ∷ [])) (at + length (string v)) vs place → Stands k s before at vs place

-- up to `place` strings stand as they are asked, and there none does
pub record FieldStops (k : Kind) (s : List ℕ) (before : List (List ℕ)) (at place : ℕ) : Type 0 where
  pub vs : List (List ℕ)
  pub stand : Stands k s before at vs place
  pub none_there : (v rest : List ℕ) → Asked k vs v → drop place s ≡ string v ++ rest → ⊥

-- key fields are at fault in their type, or in a string behind it
pub data KeyStops (s : List ℕ) (at : ℕ) : ℕ → Type 0 where
  at_type : ((k : Kind) (name rest : List ℕ) → type_of k ≡ some name → drop at s ≡ string name ++ rest → ⊥) → KeyStops s at at
  at_field : (k : Kind) (name rest : List ℕ) (place : ℕ) → type_of k ≡ some name → drop at s ≡ string name ++ rest
      → FieldStops k s [] (at + length (string name)) place → KeyStops s at place
