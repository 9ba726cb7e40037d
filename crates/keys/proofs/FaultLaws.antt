-- Key fields at fault: the reader goes from string to string, and stops at the first that is not as it is asked.
use Prim.Native.Nat.{ℕ, ◌+◌, ◌^◌, ◌<◌}
use mathlib.Core.Path.{◌≡◌, refl, sym, ap, subst, ◌∙◌}
use mathlib.Core.List.{List, [], ◌∷◌, ◌++◌}
use mathlib.Core.Bool.{Bool, true, false, cond}
use mathlib.Core.Logic.{◌≢◌, ◌⊎◌, inl, inr}
use mathlib.Core.Option.{some}
use native.Mathlib.Omega.{arith}
use lib.ListN.{length, drop, length-append, length-drop}
use Rattle.wire.specs.declared.read.Cursor.{Cursor}
use Rattle.std.proofs.Common.{Result, Ok, Err}
use Rattle.wire.specs.declared.read.Fault.{Fault}
use Rattle.wire.specs.declared.read.Part.{Part}
use Rattle.wire.specs.Numbers.{Bytes}
use Rattle.wire.specs.Values.{fault, part_reads}
use Rattle.wire.specs.Read.{cut_of, string_at, mpint_at, same}
use Rattle.wire.specs.Steps.{faulted, part}
use Rattle.wire.specs.Write.{string}
use Rattle.wire.proofs.Laws.{mpint-fault}
use Rattle.wire.proofs.Reading.{part_one, fault_one}
use Rattle.wire.proofs.Strings.{lies_cut, behind, found, At, inside, Reads, string-stands, string-reads, mpint-reads}
use Rattle.keys.specs.declared.kinds.Kind.{Kind}
use Rattle.keys.specs.declared.kinds.Places.{Places}
use Rattle.keys.specs.Kinds.{Key, kind_of, ed25519_at, ecdsa_at, rsa_secrets_at, rsa_at, behind_type, key_at}
use Rattle.keys.specs.Forms.{Curve, nistp256, nistp384, nistp521}
use Rattle.keys.specs.Faults.{AskedOn, Asked, all, next, FieldStops, KeyStops, at_type, at_field}
use Rattle.keys.specs.Values.{type_of, key_reads}
use Rattle.keys.specs.Promises.{KeyFault}
use Rattle.keys.proofs.FieldLaws.{sized_reads, named_reads, point_reads, scalar-reads}
use Rattle.keys.proofs.KeyLaws.{part-part, pair_rule, key-typed, named, kind_in, kind_out}

same_place : {p q : ℕ} → ◌≡◌ {A = Key} (faulted p) (faulted q) → p ≡ q
same_place e = fault_one e

-- a string that stands at a place, where the bytes are not too many
module _ {s : List ℕ} (bytes : Bytes s) (small : length s < 2 ^ 32) where
  at_of : {at : ℕ} (v rest : List ℕ) → drop at s ≡ string v ++ rest → At s at v
  at_of v rest e =
      let n = simp (length-drop, length-append) at (ap length e) in
      (string-stands bytes v rest (omega arith) e).0

  module _ (k : Kind) {place : ℕ} where
    -- none that fits is at this place
    stops_here : (before : List (List ℕ)) (at : ℕ) → ((v : List ℕ) → At s at v → Asked k before v → ⊥) → at ≡ place → FieldStops k s before at place
    stops_here before at unfit is = subst (FieldStops k s before at) is (record { vs = before; stand = all before at; none_there = λ v rest asked e. unfit v (at_of v rest e) asked })

    -- one that fits is at this place
    goes_on : (before : List (List ℕ)) (at : ℕ) (v : List ℕ) → At s at v → Asked k before v → FieldStops k s (before ++ (v ∷ [])) (behind at v) place
        → FieldStops k s before at place
    goes_on before at v a asked x = record { vs = x.vs; stand = next before at v _ x.vs place asked a.lies.shape x.stand; none_there = x.none_there }

    -- a chain that came to a fault stopped at its first part, or went on
    field : {T : List ℕ → Type 0} (before : List (List ℕ)) (at : ℕ) {r : Result Part Fault} → Reads T s at r → ((v : List ℕ) → Asked k before v → T v)
        → (z : ℕ → ℕ) (F : ℕ → ℕ → Cursor → Key) → ((i : ℕ) → r ≡ faulted i → z i ≡ at) → part (λ i. faulted (z i)) r F ≡ faulted place
        → ((v : List ℕ) → At s at v → T v → F (at + 4) (behind at v) (record { at = behind at v }) ≡ faulted place → FieldStops k s before at place)
        → FieldStops k s before at place
    unfolding part
    field before at {r} reads fits z F start e then = go r refl
      where
        go : (q : Result Part Fault) → r ≡ q → FieldStops k s before at place
        go (Ok q) h = let (v, a, passed) = reads.taken q.from q.to q.next h in then v a passed (rw (reads.takes a passed) at e)
        go (Err d) h =
            stops_here before at
            (λ v a asked. let taken = reads.takes a (fits v asked) in let x : ◌≡◌ {A = ℕ} 0 1 = cc in omega arith)
            (sym (start d.at h) ∙ same_place (rw h at e))

-- an mpint that is none is a fault at its start
mpint-start : (s : List ℕ) (at place : ℕ) → mpint_at s at ≡ faulted place → place ≡ at
mpint-start s at place e = mpint-fault s at place (ap part_reads e)

-- ## Ed25519

-- two strings at a place are one
same-string : {s : List ℕ} {at : ℕ} {v w : List ℕ} → At s at v → At s at w → v ≡ w
same-string {s} {at} {v} {w} a b =
    let ends : behind at v ≡ behind at w = (part_one (sym a.read ∙ b.read)).to in
    sym (lies_cut (inside a)) ∙ ap (cut_of s (at + 4)) ends ∙ lies_cut (inside b)

not_cond : (q : Bool) (x place : ℕ) (y : Places) → cond q (Ok y) (faulted x) ≡ faulted place → (q ≢ true) × (x ≡ place)
not_cond true x place y e = let z : ◌≡◌ {A = ℕ} 0 1 = cc in absurd (omega arith)
not_cond false x place y e = ((λ never. let z : ◌≡◌ {A = ℕ} 0 1 = cc in omega arith), same_place e)

pair_size : (a v : List ℕ) → length a ≡ 32 → Asked Kind.Ed25519 (a ∷ []) v → length v ≡ 64
pair_size a v size (seed, seed-size, is) = rw is (simp length-append (omega arith))

module _ {s : List ℕ} (bytes : Bytes s) (small : length s < 2 ^ 32) (at place : ℕ) where
  ed25519_stops : ed25519_at s at ≡ faulted place → FieldStops Kind.Ed25519 s [] at place
  unfolding ed25519_at
  ed25519_stops e =
      field bytes small Kind.Ed25519 [] at (sized_reads bytes 32) (λ v h. h) (λ _. at) _ (λ _ _. refl) e λ a a_at a-size e.
      goes_on bytes small Kind.Ed25519 [] at a a_at a-size
      (field bytes small Kind.Ed25519 (a ∷ []) (behind at a) (sized_reads bytes 64) (λ v. pair_size a v a-size) (λ _. behind at a) _ (λ _ _. refl) e λ x x-at x-size e.
      let (differs, is) = not_cond (same (cut_of s (behind at a + 4 + 32) (behind (behind at a) x)) (cut_of s (at + 4) (behind at a))) (behind at a) place _ e in
      stops_here bytes small Kind.Ed25519 (a ∷ []) (behind at a)
      (λ v v-at (seed, size, shape).
      differs (rw (lies_cut (inside a_at)) ((pair_rule a x a-size x-at).1 (seed, size, same-string x-at v-at ∙ shape)).1))
      is)

  -- ## ECDSA, over every curve

  module _ (k : Kind) (c : Curve) (asked : (before : List (List ℕ)) (v : List ℕ) → Asked k before v ≡ AskedOn c before v) where
    ecdsa_stops : ecdsa_at s at c.name c.point c.scalar ≡ faulted place → FieldStops k s [] at place
    unfolding ecdsa_at
    ecdsa_stops e =
        field bytes small k [] at (named_reads bytes c.name) (λ v h. rw (asked [] v) at h) (λ _. at) _ (λ _ _. refl) e λ v v-at v-name e.
        goes_on bytes small k [] at v v-at (rw (asked [] v) v-name)
        (field bytes small k (v ∷ []) (behind at v) (point_reads bytes c.point) (λ w h. rw (asked (v ∷ []) w) at h) (λ _. behind at v) _ (λ _ _. refl) e λ q q-at q-point e.
        goes_on bytes small k (v ∷ []) (behind at v) q q-at (rw (asked (v ∷ []) q) q-point)
        (field bytes small k (v ∷ q ∷ []) (behind (behind at v) q) (scalar-reads bytes c.scalar) (λ w h. rw (asked (v ∷ q ∷ []) w) at h) (λ _. behind (behind at v) q) _ (λ _ _. refl) e λ d d-at d-scalar e.
        let z : ◌≡◌ {A = ℕ} 0 1 = cc in absurd (omega arith)))

  -- ## RSA

  rsa_stops : rsa_at s at ≡ faulted place → FieldStops Kind.Rsa s [] at place
  unfolding rsa_at rsa_secrets_at
  rsa_stops r =
      field bytes small Kind.Rsa [] at (mpint-reads bytes) (λ v h. h.1) (λ _. at) _ (λ _ _. refl) r λ n n-at n-mpint r.
      goes_on bytes small Kind.Rsa [] at n n-at (omega arith, n-mpint)
      (field bytes small Kind.Rsa (n ∷ []) _ (mpint-reads bytes) (λ v h. h.1) (λ _. behind at n) _ (λ _ _. refl) r λ e e-at e-mpint r.
      goes_on bytes small Kind.Rsa (n ∷ []) _ e e-at (omega arith, e-mpint)
      (field bytes small Kind.Rsa (n ∷ e ∷ []) _ (mpint-reads bytes) (λ v h. h.1) (λ i. i) _ (mpint-start s _) (sym (part-part _ _ _) ∙ r) λ d d-at d-mpint r.
      goes_on bytes small Kind.Rsa (n ∷ e ∷ []) _ d d-at (omega arith, d-mpint)
      (field bytes small Kind.Rsa (n ∷ e ∷ d ∷ []) _ (mpint-reads bytes) (λ v h. h.1) (λ i. i) _ (mpint-start s _) (sym (part-part _ _ _) ∙ r) λ iqmp iqmp-at iqmp-mpint r.
      goes_on bytes small Kind.Rsa (n ∷ e ∷ d ∷ []) _ iqmp iqmp-at (omega arith, iqmp-mpint)
      (field bytes small Kind.Rsa (n ∷ e ∷ d ∷ iqmp ∷ []) _ (mpint-reads bytes) (λ v h. h.1) (λ i. i) _ (mpint-start s _) (sym (part-part _ _ _) ∙ r) λ p p-at p-mpint r.
      goes_on bytes small Kind.Rsa (n ∷ e ∷ d ∷ iqmp ∷ []) _ p p-at (omega arith, p-mpint)
      (field bytes small Kind.Rsa (n ∷ e ∷ d ∷ iqmp ∷ p ∷ []) _ (mpint-reads bytes) (λ v h. h.1) (λ i. i) _ (mpint-start s _) r λ q q-at q-mpint r.
      let z : ◌≡◌ {A = ℕ} 0 1 = cc in absurd (omega arith))))))

-- ## The promise

behind-stops : {s : List ℕ} (bytes : Bytes s) (small : length s < 2 ^ 32) (k : Kind) (at from place : ℕ) → k ≢ Kind.Other → behind_type k s at from ≡ faulted place
    → FieldStops k s [] from place
behind-stops bytes small Kind.Ed25519 at from place known e = ed25519_stops bytes small from place e
behind-stops bytes small Kind.Nistp256 at from place known e = ecdsa_stops bytes small from place Kind.Nistp256 nistp256 (λ before v. refl) e
behind-stops bytes small Kind.Nistp384 at from place known e = ecdsa_stops bytes small from place Kind.Nistp384 nistp384 (λ before v. refl) e
behind-stops bytes small Kind.Nistp521 at from place known e = ecdsa_stops bytes small from place Kind.Nistp521 nistp521 (λ before v. refl) e
behind-stops bytes small Kind.Rsa at from place known e = rsa_stops bytes small from place e
behind-stops bytes small Kind.Other at from place known e = absurd (known refl)

pub fault_so : (s : List ℕ) (at : ℕ) (k : Key) (place : ℕ) → key_reads s at k ≡ fault place → k ≡ faulted place
fault_so s at (Ok p) place e = let z : ◌≡◌ {A = ℕ} 0 1 = cc in absurd (omega arith)
fault_so s at (Err d) place e = let h : d.at ≡ place = cc in ap faulted h

known : (k : Kind) → (k ≡ Kind.Other) ⊎ (k ≢ Kind.Other)
known Kind.Ed25519 = inr (λ never. let z : ◌≡◌ {A = ℕ} 0 1 = cc in omega arith)
known Kind.Nistp256 = inr (λ never. let z : ◌≡◌ {A = ℕ} 0 1 = cc in omega arith)
known Kind.Nistp384 = inr (λ never. let z : ◌≡◌ {A = ℕ} 0 1 = cc in omega arith)
known Kind.Nistp521 = inr (λ never. let z : ◌≡◌ {A = ℕ} 0 1 = cc in omega arith)
known Kind.Rsa = inr (λ never. let z : ◌≡◌ {A = ℕ} 0 1 = cc in omega arith)
known Kind.Other = inl refl

other_type : {k : Kind} {name : List ℕ} → k ≡ Kind.Other → type_of k ≡ some name → ⊥
other_type {k} {name} is typed = let never : type_of Kind.Other ≡ some name = rw is at typed in let z : ◌≡◌ {A = ℕ} 0 1 = cc in omega arith

pub key-fault : KeyFault
unfolding key_at part
key-fault s at place bytes small reads = by_type (string_at s at) refl (fault_so s at (key_at s at) place reads)
  where
    by_kind : (v : List ℕ) → At s at v → (kind_of v ≡ Kind.Other) ⊎ (kind_of v ≢ Kind.Other) → behind_type (kind_of v) s at (behind at v) ≡ faulted place → KeyStops s at place
    by_kind v a (inl is) e =
        subst (KeyStops s at) (same_place (rw is at e)) (at_type λ k name rest typed shape.
        let same_name : name ≡ v = same-string (at_of bytes small name rest shape) a in
        other_type (sym (kind_out k name typed) ∙ ap kind_of same_name ∙ is) typed)
    by_kind v a (inr isnt) e =
        at_field (kind_of v) v _ place (kind_in (kind_of v) v isnt (named v)) a.lies.shape (behind-stops bytes small (kind_of v) at (behind at v) place isnt e)

    by_type : (p : Result Part Fault) → string_at s at ≡ p → key_at s at ≡ faulted place → KeyStops s at place
    by_type (Ok p) h e = let (v, a, _) = (string-reads bytes).taken p.from p.to p.next h in by_kind v a (known (kind_of v)) (sym (key-typed a) ∙ e)
    by_type (Err d) h e =
        subst (KeyStops s at) (same_place (rw h at e)) (at_type λ k name rest typed shape.
        let there : string_at s at ≡ found at name = (at_of bytes small name rest shape).read in
        let z : ◌≡◌ {A = ℕ} 0 1 = cc in
        omega arith)
