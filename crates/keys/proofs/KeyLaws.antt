-- Key fields: what is read has the form of a kind and what has the form is read, by the laws of the single fields one after another; the blob is cut out of them.
use Prim.Native.Nat.{ℕ, ◌+◌, ◌^◌, ◌<◌}
use mathlib.Core.Path.{◌≡◌, refl, sym, ap, subst, ◌∙◌}
use mathlib.Core.List.{List, [], ◌∷◌, ◌++◌, append-nil, append_assoc}
use mathlib.Core.Bool.{Bool, true, false, cond}
use mathlib.Core.Logic.{◌↔◌, ◌≢◌}
use mathlib.Core.Option.{some}
use native.Mathlib.Omega.{arith}
use lib.ListN.{length, take, drop, length-append, length-take, length-drop, take-append-drop}
use Rattle.wire.specs.declared.read.Cursor.{Cursor}
use Rattle.std.proofs.Common.{Result, Ok, Err}
use Rattle.wire.specs.declared.read.Fault.{Fault}
use Rattle.wire.specs.declared.read.Part.{Part}
use Rattle.wire.specs.Numbers.{Bytes}
use Rattle.wire.specs.Texts.{bytes}
use Rattle.wire.specs.Read.{cut_of, same}
use Rattle.wire.specs.Steps.{faulted, part}
use Rattle.wire.specs.Write.{string}
use Rattle.wire.specs.Values.{read}
use Rattle.wire.proofs.Reading.{same_true, same_refl}
use Rattle.wire.proofs.Strings.{Lies, lies_none, lies_join, lies_split, lies_cut, behind, At, Reads, string-stands, string-reads, inside, mpint-reads}
use Rattle.keys.specs.declared.kinds.Kind.{Kind}
use Rattle.keys.specs.declared.kinds.Places.{Places}
use Rattle.keys.specs.Kinds.{Key, kind_of, ed25519_at, ecdsa_at, rsa_secrets_at, rsa_at, behind_type, key_at, blob_of}
use Rattle.keys.specs.Forms.{Ed25519, ed25519_key, Curve, nistp256, nistp384, nistp521, ecdsa_type, Ecdsa, ecdsa_key, Rsa, rsa_key, KeyFields, as_ed25519, as_nistp256, as_nistp384, as_nistp521, as_rsa}
use Rattle.keys.specs.Values.{type_of, key_reads}
use Rattle.keys.specs.Promises.{KindRule, KeyRule, OneBlob}
use Rattle.keys.proofs.FieldLaws.{sized_reads, named_reads, scalar-reads, point_reads}

-- ## Steps

-- a chain that came to a key took its first part
took : {T : List ℕ → Type 0} {s : List ℕ} {at : ℕ} {r : Result Part Fault} {C : Type 0} → Reads T s at r
    → (z : ℕ → ℕ) (F : ℕ → ℕ → Cursor → Key) (p : Places) → part (λ i. faulted (z i)) r F ≡ Ok p
    → ((v : List ℕ) → At s at v → T v → F (at + 4) (behind at v) (record { at = behind at v }) ≡ Ok p → C) → C
unfolding part
took {r = r} {C = C} reads z F p e then = go r refl
  where
    go : (q : Result Part Fault) → r ≡ q → C
    go (Ok q) h = let (v, a, passed) = reads.taken q.from q.to q.next h in then v a passed (rw (reads.takes a passed) at e)
    go (Err d) h = let x : ◌≡◌ {A = ℕ} 0 1 = (let g = rw h at e in cc) in absurd (omega arith)

took_cond : (q : Bool) (x : ℕ) (y p : Places) → cond q (Ok y) (faulted x) ≡ Ok p → (q ≡ true) × (y ≡ p)
took_cond true x y p e = (refl, cc)
took_cond false x y p e = let z : ◌≡◌ {A = ℕ} 0 1 = cc in absurd (omega arith)

same-places : {y p : Places} → ◌≡◌ {A = Key} (Ok y) (Ok p) → y ≡ p
same-places e = cc

-- a chain that goes on from another is one chain
pub part-part : (r : Result Part Fault) (F : ℕ → ℕ → Cursor → Result Part Fault) (G : ℕ → ℕ → Cursor → Key) → part faulted (part faulted r F) G ≡ part faulted r (λ f t k. part faulted (F f t k) G)
unfolding part
part-part (Ok p) F G = refl
part-part (Err e) F G = refl

-- ## What a key comes to

-- the reader found these fields, where they end, and their blob
pub record KeyFound (s : List ℕ) (at : ℕ) (fields blob : List ℕ) (p : Places) : Type 0 where
  pub read_so : key_at s at ≡ Ok p
  pub end : p.end ≡ at + length fields
  pub public : blob_of s at p ≡ blob

-- key fields and their blob lie in s as p says
record Laid (s : List ℕ) (at : ℕ) (fields blob : List ℕ) (p : Places) : Type 0 where
  lies : Lies s at fields p.end
  public : blob_of s at p ≡ blob

-- and have a form
abbrev Keyed : (List ℕ → List ℕ → Type 0) → List ℕ → ℕ → Places → Type 0
Keyed K s at p = (fields : List ℕ) × (blob : List ℕ) × K fields blob × Laid s at fields blob p

keyed : {K : List ℕ → List ℕ → Type 0} {s : List ℕ} {at : ℕ} {fields blob : List ℕ} {p : Places} → Laid s at fields blob p → K fields blob → Keyed K s at p
keyed {fields = fields} {blob = blob} l k = (fields, blob, k, l)

-- a blob that is the fields up to a place
abbrev plain : ℕ → ℕ → Places
plain front end = record { front = front; swap = front; back = front; end = end }

plain-laid : {s : List ℕ} {at front end : ℕ} {blob fields : List ℕ} → Lies s at blob front → Lies s at fields end → Laid s at fields blob (plain front end)
unfolding blob_of
plain-laid {front = front} {blob = blob} x y = record { lies = y; public = rw (lies_cut x, lies_cut (lies_none front x.within)) (append-nil blob) }

pub key-typed : {s : List ℕ} {at : ℕ} {v : List ℕ} → At s at v → key_at s at ≡ behind_type (kind_of v) s at (behind at v)
unfolding key_at part
key-typed a = rw (a.read, lies_cut (inside a))

key-found : {s : List ℕ} {at : ℕ} {v fields blob : List ℕ} {p : Places} → At s at v → Laid s at fields blob p → behind_type (kind_of v) s at (behind at v) ≡ Ok p
    → (p : Places) × KeyFound s at fields blob p
key-found {p = p} a l e = (p, record { read_so = key-typed a ∙ e; end = l.lies.end; public = l.public })

-- ## Strings one after another

-- the bytes l, not too many, stand at a place before others
record Stand (s : List ℕ) (at : ℕ) (l rest : List ℕ) : Type 0 where
  shape : drop at s ≡ l ++ rest
  small : length l < 2 ^ 32

module _ {s : List ℕ} (bytes_of : Bytes s) {at : ℕ} {rest : List ℕ} where
  first : {C : Type 0} (v l : List ℕ) → Stand s at (string v ++ l) rest → (At s at v → Stand s (behind at v) l rest → C) → C
  first v l x then =
      let n = simp length-append at x.small in
      let (a, r) = string-stands bytes_of v (l ++ rest) (omega arith) (x.shape ∙ append_assoc (string v) l rest) in
      then a (record { shape = r; small = omega arith })

  alone : (v : List ℕ) → Stand s at (string v) rest → At s at v
  alone v x = (string-stands bytes_of v rest (omega (arith, x.small)) x.shape).0

-- ## Ed25519

-- the last bytes of a string
last : {s : List ℕ} {at : ℕ} (seed a x : List ℕ) (n : ℕ) → length seed ≡ n → x ≡ seed ++ a → At s at x → cut_of s (at + 4 + n) (behind at x) ≡ a
last seed a x n l e b = rw (← l, e) (lies_cut (lies_split seed a (rw e at (inside b))).1)

-- 64 bytes whose last 32 are a
pub pair_rule : {s : List ℕ} {at : ℕ} (a x : List ℕ) → length a ≡ 32 → At s at x
    → ((length x ≡ 64) × (same (cut_of s (at + 4 + 32) (behind at x)) a ≡ true)) ↔ ((seed : List ℕ) × (length seed ≡ 32) × (x ≡ seed ++ a))
pair_rule a x h b = (
  (λ e.
      let l : length (take 32 x) ≡ 32 = simp length-take (omega (arith, e.0)) in
      let d = sym (take-append-drop 32 x) in
      (take 32 x, l, d ∙ ap (λ (y : List ℕ). take 32 x ++ y) (sym (last (take 32 x) (drop 32 x) x 32 l d b) ∙ same_true _ _ e.1))),
  (λ p. (rw p.2 (simp length-append (omega (arith, p.1))), rw (last p.0 a x 32 p.1 p.2 b) (same_refl a))),
)

ed25519_laid : {s : List ℕ} {at f g h : ℕ} {name a x : List ℕ} → Lies s at name f → Lies s f a g → Lies s g x h → Laid s at (name ++ (a ++ x)) (name ++ a) (plain g h)
ed25519_laid name a x = plain-laid (lies_join name a) (lies_join name (lies_join a x))

module _ {s : List ℕ} (bytes_of : Bytes s) {at : ℕ} where
  ed25519_in : (p : Places) → At s at (bytes "ssh-ed25519") → ed25519_at s (behind at (bytes "ssh-ed25519")) ≡ Ok p → Keyed Ed25519 s at p
  unfolding ed25519_at
  ed25519_in p type_at e =
      took (sized_reads bytes_of 32) _ _ p e λ a a_at a-size e.
      took (sized_reads bytes_of 64) _ _ p e λ x x-at x-size e.
      let front = behind (behind at (bytes "ssh-ed25519")) a in
      let q = took_cond (same (cut_of s (front + 4 + 32) (behind front x)) (cut_of s (behind at (bytes "ssh-ed25519") + 4) front)) front (plain front (behind front x)) p e in
      let w = (pair_rule a x a-size x-at).0 (x-size, rw (lies_cut (inside a_at)) at q.0) in
      rw (← q.1) (keyed (ed25519_laid type_at.lies a_at.lies x-at.lies) (rw w.2 (ed25519_key a w.0 a-size w.1)))

  ed25519_out : {fields blob rest : List ℕ} → Ed25519 fields blob → Stand s at fields rest → (p : Places) × KeyFound s at fields blob p
  unfolding kind_of same part ed25519_at
  ed25519_out (ed25519_key a seed a-size seed-size) r =
      first bytes_of (bytes "ssh-ed25519") _ r λ type_at r.
      first bytes_of a _ r λ a_at r.
      let x-at = alone bytes_of (seed ++ a) r in
      let w = (pair_rule a (seed ++ a) a-size x-at).1 (seed, seed-size, refl) in
      key-found type_at (ed25519_laid type_at.lies a_at.lies x-at.lies)
      (rw ((sized_reads bytes_of 32).takes a_at a-size, (sized_reads bytes_of 64).takes x-at w.0, lies_cut (inside a_at), w.1))

-- ## ECDSA, over every curve

ecdsa_laid : {s : List ℕ} {at f g h i : ℕ} {name curve q d : List ℕ} → Lies s at name f → Lies s f curve g → Lies s g q h → Lies s h d i
    → Laid s at (name ++ (curve ++ (q ++ d))) (name ++ (curve ++ q)) (plain h i)
ecdsa_laid name curve q d = plain-laid (lies_join name (lies_join curve q)) (lies_join name (lies_join curve (lies_join q d)))

module _ {s : List ℕ} (bytes_of : Bytes s) {at : ℕ} (c : Curve) where
  ecdsa_in : (p : Places) → At s at (ecdsa_type c) → ecdsa_at s (behind at (ecdsa_type c)) c.name c.point c.scalar ≡ Ok p → Keyed (Ecdsa c) s at p
  unfolding ecdsa_at
  ecdsa_in p type_at e =
      took (named_reads bytes_of c.name) _ _ p e λ v v-at v-name e.
      took (point_reads bytes_of c.point) _ _ p e λ x x-at (q, x-first, x-size) e.
      took (scalar-reads bytes_of c.scalar) _ _ p e λ d d-at (n, positive, shortest, below) e.
      rw (← same-places e) (keyed (ecdsa_laid type_at.lies v-at.lies x-at.lies d-at.lies) (rw (v-name, x-first) (ecdsa_key q d n x-size positive shortest below)))

  ecdsa_out : {fields blob rest : List ℕ} → ((next : ℕ) → behind_type (kind_of (ecdsa_type c)) s at next ≡ ecdsa_at s next c.name c.point c.scalar)
      → Ecdsa c fields blob → Stand s at fields rest → (p : Places) × KeyFound s at fields blob p
  unfolding part ecdsa_at
  ecdsa_out kind (ecdsa_key q d n size positive shortest below) r =
      first bytes_of (ecdsa_type c) _ r λ type_at r.
      first bytes_of c.name _ r λ v-at r.
      first bytes_of (4 ∷ q) _ r λ x-at r.
      let d-at = alone bytes_of d r in
      key-found type_at (ecdsa_laid type_at.lies v-at.lies x-at.lies d-at.lies)
      (rw (
        kind (behind at (ecdsa_type c)),
        (named_reads bytes_of c.name).takes v-at refl,
        (point_reads bytes_of c.point).takes x-at (q, refl, size),
        (scalar-reads bytes_of c.scalar).takes d-at (n, positive, shortest, below),
      ))

-- ## RSA

rsa_laid : {s : List ℕ} {at f g h i j k m : ℕ} {name n e d iqmp p q : List ℕ}
    → Lies s at name f → Lies s f n g → Lies s g e h → Lies s h d i → Lies s i iqmp j → Lies s j p k → Lies s k q m
    → Laid s at (name ++ (n ++ (e ++ (d ++ (iqmp ++ (p ++ q)))))) (name ++ (e ++ n)) (record { front = f; swap = g; back = h; end = m })
unfolding blob_of
rsa_laid name n e d iqmp p q = record {
  lies = lies_join name (lies_join n (lies_join e (lies_join d (lies_join iqmp (lies_join p q)))));
  public = rw (lies_cut name, lies_cut n, lies_cut e);
}

module _ {s : List ℕ} (bytes_of : Bytes s) {at : ℕ} where
  rsa_in : (p : Places) → At s at (bytes "ssh-rsa") → rsa_at s (behind at (bytes "ssh-rsa")) ≡ Ok p → Keyed Rsa s at p
  unfolding rsa_at rsa_secrets_at
  rsa_in place type_at r =
      took (mpint-reads bytes_of) _ _ place r λ n n-at n-mpint r.
      took (mpint-reads bytes_of) _ _ place r λ e e-at e-mpint r.
      took (mpint-reads bytes_of) _ _ place (sym (part-part _ _ _) ∙ r) λ d d-at d-mpint r.
      took (mpint-reads bytes_of) _ _ place (sym (part-part _ _ _) ∙ r) λ iqmp iqmp-at iqmp-mpint r.
      took (mpint-reads bytes_of) _ _ place (sym (part-part _ _ _) ∙ r) λ p p-at p-mpint r.
      took (mpint-reads bytes_of) _ _ place r λ q q-at q-mpint r.
      rw (← same-places r) (keyed (rsa_laid type_at.lies n-at.lies e-at.lies d-at.lies iqmp-at.lies p-at.lies q-at.lies)
      (rsa_key n e d iqmp p q n-mpint e-mpint d-mpint iqmp-mpint p-mpint q-mpint))

  rsa_out : {fields blob rest : List ℕ} → Rsa fields blob → Stand s at fields rest → (p : Places) × KeyFound s at fields blob p
  unfolding kind_of same part rsa_at rsa_secrets_at
  rsa_out (rsa_key n e d iqmp p q n-mpint e-mpint d-mpint iqmp-mpint p-mpint q-mpint) r =
      first bytes_of (bytes "ssh-rsa") _ r λ type_at r.
      first bytes_of n _ r λ n-at r.
      first bytes_of e _ r λ e-at r.
      first bytes_of d _ r λ d-at r.
      first bytes_of iqmp _ r λ iqmp-at r.
      first bytes_of p _ r λ p-at r.
      let q-at = alone bytes_of q r in
      key-found type_at (rsa_laid type_at.lies n-at.lies e-at.lies d-at.lies iqmp-at.lies p-at.lies q-at.lies)
      (rw (
        (mpint-reads bytes_of).takes n-at n-mpint,
        (mpint-reads bytes_of).takes e-at e-mpint,
        (mpint-reads bytes_of).takes d-at d-mpint,
        (mpint-reads bytes_of).takes iqmp-at iqmp-mpint,
        (mpint-reads bytes_of).takes p-at p-mpint,
        (mpint-reads bytes_of).takes q-at q-mpint,
      ))

-- ## Kinds

-- the type that a kind has
abbrev pub Named : Kind → List ℕ → Type 0
Named Kind.Ed25519 v = v ≡ bytes "ssh-ed25519"
Named Kind.Nistp256 v = v ≡ ecdsa_type nistp256
Named Kind.Nistp384 v = v ≡ ecdsa_type nistp384
Named Kind.Nistp521 v = v ≡ ecdsa_type nistp521
Named Kind.Rsa v = v ≡ bytes "ssh-rsa"
Named Kind.Other v = Unit {0}

chosen : (v name : List ℕ) (z k : Kind) → Named z v → (v ≡ name → Named k v) → Named (cond (same v name) k z) v
chosen v name z k h g = go (same v name) refl
  where
    go : (b : Bool) → same v name ≡ b → Named (cond b k z) v
    go true e = g (same_true v name e)
    go false e = h

pub named : (v : List ℕ) → Named (kind_of v) v
unfolding kind_of
named v =
    chosen v _ _ Kind.Ed25519 (chosen v _ _ Kind.Nistp256 (chosen v _ _ Kind.Nistp384 (chosen v _ _ Kind.Nistp521 (chosen v _ _ Kind.Rsa
    tt (λ e. e)) (λ e. e)) (λ e. e)) (λ e. e)) (λ e. e)

-- ## The promises

any_kind : {K : List ℕ → List ℕ → Type 0} {s : List ℕ} {at : ℕ} {p : Places} → Keyed K s at p → ((fields blob : List ℕ) → K fields blob → KeyFields fields blob) → Keyed KeyFields s at p
any_kind (fields, blob, k, l) as-kind = (fields, blob, as-kind fields blob k, l)

behind-in : {s : List ℕ} {at : ℕ} {p : Places} (v : List ℕ) (k : Kind) → Bytes s → At s at v → Named k v → behind_type k s at (behind at v) ≡ Ok p → Keyed KeyFields s at p
behind-in {p = p} v Kind.Ed25519 bytes_of a n e = any_kind (ed25519_in bytes_of p (rw n at a) (rw n at e)) (λ f b. as_ed25519)
behind-in {p = p} v Kind.Nistp256 bytes_of a n e = any_kind (ecdsa_in bytes_of nistp256 p (rw n at a) (rw n at e)) (λ f b. as_nistp256)
behind-in {p = p} v Kind.Nistp384 bytes_of a n e = any_kind (ecdsa_in bytes_of nistp384 p (rw n at a) (rw n at e)) (λ f b. as_nistp384)
behind-in {p = p} v Kind.Nistp521 bytes_of a n e = any_kind (ecdsa_in bytes_of nistp521 p (rw n at a) (rw n at e)) (λ f b. as_nistp521)
behind-in {p = p} v Kind.Rsa bytes_of a n e = any_kind (rsa_in bytes_of p (rw n at a) (rw n at e)) (λ f b. as_rsa)
behind-in v Kind.Other bytes_of a n e = let z : ◌≡◌ {A = ℕ} 0 1 = cc in absurd (omega arith)

pub only_keys : (s : List ℕ) (at : ℕ) (p : Places) → Bytes s → key_at s at ≡ Ok p
    → (fields : List ℕ) × (blob : List ℕ) × KeyFields fields blob × (drop at s ≡ fields ++ drop p.end s) × KeyFound s at fields blob p
unfolding key_at
only_keys s at p bytes_of e =
    took (string-reads bytes_of) _ _ p e λ v a passed went.
    let (fields, blob, form, laid) = behind-in v (kind_of v) bytes_of a (named v) (sym (key-typed a) ∙ e) in
    (fields, blob, form, laid.lies.shape, record { read_so = e; end = laid.lies.end; public = laid.public })

every_form : {s : List ℕ} {at : ℕ} {fields blob rest : List ℕ} → Bytes s → KeyFields fields blob → Stand s at fields rest → (p : Places) × KeyFound s at fields blob p
unfolding kind_of same
every_form bytes_of (as_ed25519 k) = ed25519_out bytes_of k
every_form bytes_of (as_nistp256 k) = ecdsa_out bytes_of nistp256 (λ next. refl) k
every_form bytes_of (as_nistp384 k) = ecdsa_out bytes_of nistp384 (λ next. refl) k
every_form bytes_of (as_nistp521 k) = ecdsa_out bytes_of nistp521 (λ next. refl) k
every_form bytes_of (as_rsa k) = rsa_out bytes_of k

pub every_key : (s : List ℕ) (at : ℕ) (fields blob rest : List ℕ) → Bytes s → KeyFields fields blob → length fields < 2 ^ 32
    → drop at s ≡ fields ++ rest → (p : Places) × KeyFound s at fields blob p
every_key s at fields blob rest bytes_of k h e = every_form bytes_of k (record { shape = e; small = h })

pub one_blob : OneBlob
one_blob fields blob other bytes_of h k k' =
    let (p, found) = every_key fields 0 fields blob [] bytes_of k h (sym (append-nil fields)) in
    let (p', found') = every_key fields 0 fields other [] bytes_of k' h (sym (append-nil fields)) in
    sym found.public ∙ ap (blob_of fields 0) (same-places (sym found.read_so ∙ found'.read_so)) ∙ found'.public

-- an answer that reads so is this one
pub read_whole : (s : List ℕ) (at : ℕ) (k : Key) (blob : List ℕ) (end : ℕ) → key_reads s at k ≡ read blob end → (p : Places) × (k ≡ Ok p) × (blob_of s at p ≡ blob) × (p.end ≡ end)
read_whole s at (Ok p) blob end e = (p, refl, (cc), (cc))
read_whole s at (Err d) blob end e = let z : ◌≡◌ {A = ℕ} 0 1 = cc in absurd (omega arith)

pub key-rule : KeyRule
key-rule s at blob end bytes_of small = (
  (λ e.
      let (p, k, b, w) = read_whole s at (key_at s at) blob end e in
      let (fields, other, form, shape, found) = only_keys s at p bytes_of k in
      let same-blob : other ≡ blob = sym found.public ∙ b in
      (fields, subst (KeyFields fields) same-blob form, shape ∙ ap (λ (i : ℕ). fields ++ drop i s) w, sym w ∙ found.end)),
  (λ r.
      let (fields, form, shape, w) = r in
      let l = simp (length-drop, length-append) at (ap length shape) in
      let (p, found) = every_key s at fields blob (drop end s) bytes_of form (omega arith) shape in
      rw (found.read_so, found.public, found.end, w)),
)

-- the kind that a type names
pub kind_in : (k : Kind) (v : List ℕ) → k ≢ Kind.Other → Named k v → type_of k ≡ some v
kind_in Kind.Ed25519 v n e = ap some (sym e)
kind_in Kind.Nistp256 v n e = ap some (sym e)
kind_in Kind.Nistp384 v n e = ap some (sym e)
kind_in Kind.Nistp521 v n e = ap some (sym e)
kind_in Kind.Rsa v n e = ap some (sym e)
kind_in Kind.Other v n e = absurd (n refl)

pub kind_out : (k : Kind) (v : List ℕ) → type_of k ≡ some v → kind_of v ≡ k
unfolding kind_of same
kind_out Kind.Ed25519 v e = let h : v ≡ bytes "ssh-ed25519" = cc in rw h
kind_out Kind.Nistp256 v e = let h : v ≡ bytes "ecdsa-sha2-nistp256" = cc in rw h
kind_out Kind.Nistp384 v e = let h : v ≡ bytes "ecdsa-sha2-nistp384" = cc in rw h
kind_out Kind.Nistp521 v e = let h : v ≡ bytes "ecdsa-sha2-nistp521" = cc in rw h
kind_out Kind.Rsa v e = let h : v ≡ bytes "ssh-rsa" = cc in rw h
kind_out Kind.Other v e = let z : ◌≡◌ {A = ℕ} 0 1 = cc in absurd (omega arith)

pub kind_rule : KindRule
kind_rule v k n = ((λ e. kind_in k v n (rw e at (named v))), kind_out k v)
