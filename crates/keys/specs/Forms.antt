-- Key fields as the draft lays them out (draft-ietf-sshm-ssh-agent, "Adding keys to the agent"), each beside the public blob of that key
-- (RFC 4253, section 6.6; RFC 5656, section 3.1; RFC 8709, section 4), and constraints.
use Rattle.std.specs.Prelude.{ℕ, ◌^◌, ◌<◌, ◌≡◌, List, [], ◌∷◌, ◌++◌, Bool, true, Some, None, length}
use Rattle.wire.specs.declared.Seconds.{Seconds}
use Rattle.wire.specs.declared.Constraint.{Constraint}
use Rattle.wire.specs.declared.Constraint.TheVariants.{KeyLifetime, Confirm}
use Rattle.wire.specs.Texts.{bytes}
use Rattle.wire.specs.Mpint.{Shortest, Positive}
use Rattle.wire.specs.Write.{string}
use Rattle.keys.specs.Constraints.{Lifetime}
pub use Rattle.wire.specs.Constraints.{constraint_forms}

-- ## Keys

-- type, A of 32 bytes, and 64 bytes whose last 32 are A
pub data Ed25519 : List ℕ → List ℕ → Type 0 where
  ed25519_key : (a seed : List ℕ) → length a ≡ 32 → length seed ≡ 32
      → Ed25519
      (string (bytes "ssh-ed25519") ++ (string a ++ string (seed ++ a)))
      (string (bytes "ssh-ed25519") ++ string a)

pub record Curve : Type 0 where
  pub name : List ℕ
  pub point : ℕ  -- bytes of Q
  pub scalar : ℕ  -- bytes of d at the most, without its sign byte

abbrev pub nistp256 : Curve
nistp256 = record { name = bytes "nistp256"; point = 65; scalar = 32 }

abbrev pub nistp384 : Curve
nistp384 = record { name = bytes "nistp384"; point = 97; scalar = 48 }

abbrev pub nistp521 : Curve
nistp521 = record { name = bytes "nistp521"; point = 133; scalar = 66 }

abbrev pub ecdsa_type : Curve → List ℕ
ecdsa_type curve = bytes "ecdsa-sha2-" ++ curve.name

-- the contents of Q: n bytes, the first of them 04
abbrev pub Point : ℕ → List ℕ → Type 0
Point n v = (q : List ℕ) × (v ≡ 4 ∷ q) × (length (4 ∷ q) ≡ n)

-- the contents of d: a positive mpint of at most n bytes without its sign byte, as the number that it is
abbrev pub Scalar : ℕ → List ℕ → Type 0
Scalar n v = (m : ℕ) × (0 < m) × Shortest v m × (m < 256 ^ n)

-- type, curve name, Q that starts with 04, and d
pub data Ecdsa (curve : Curve) : List ℕ → List ℕ → Type 0 where
  ecdsa_key : (q d : List ℕ) (n : ℕ) → length (4 ∷ q) ≡ curve.point → 0 < n → Shortest d n → n < 256 ^ curve.scalar
      → Ecdsa curve
      (string (ecdsa_type curve) ++ (string curve.name ++ (string (4 ∷ q) ++ string d)))
      (string (ecdsa_type curve) ++ (string curve.name ++ string (4 ∷ q)))

-- type, n, e, d, iqmp, p, q; in the blob e stands before n
pub data Rsa : List ℕ → List ℕ → Type 0 where
  rsa_key : (n e d iqmp p q : List ℕ) → Positive n → Positive e → Positive d → Positive iqmp → Positive p → Positive q
      → Rsa
      (string (bytes "ssh-rsa") ++ (string n ++ (string e ++ (string d ++ (string iqmp ++ (string p ++ string q))))))
      (string (bytes "ssh-rsa") ++ (string e ++ string n))

-- key fields of one of the five kinds, and their blob
pub data KeyFields : List ℕ → List ℕ → Type 0 where
  as_ed25519 : {fields blob : List ℕ} → Ed25519 fields blob → KeyFields fields blob
  as_nistp256 : {fields blob : List ℕ} → Ecdsa nistp256 fields blob → KeyFields fields blob
  as_nistp384 : {fields blob : List ℕ} → Ecdsa nistp384 fields blob → KeyFields fields blob
  as_nistp521 : {fields blob : List ℕ} → Ecdsa nistp521 fields blob → KeyFields fields blob
  as_rsa : {fields blob : List ℕ} → Rsa fields blob → KeyFields fields blob

-- ## Constraints

-- constraints take a lifetime and Confirm to others: a lifetime once only, Confirm as often as it comes
pub data Adds : Lifetime → Bool → List Constraint → Lifetime → Bool → Type 0 where
  none : (l : Lifetime) (c : Bool) → Adds l c [] l c
  lifetime : {c : Bool} {cs : List Constraint} {l : Lifetime} {c' : Bool} (seconds : Seconds) → seconds.count < 2 ^ 32
      → Adds (Some seconds) c cs l c' → Adds None c (KeyLifetime seconds ∷ cs) l c'
  confirm : {l : Lifetime} (c : Bool) {cs : List Constraint} {l' : Lifetime} {c' : Bool} → Adds l true cs l' c' → Adds l c (Confirm ∷ cs) l' c'
