-- The key fields of each kind, as a reader goes through them, and their blob.
use Rattle.std.specs.Prelude.{cond, Option, Some, None, Result, Ok, ℕ, ◌+◌, List, ◌++◌, length, leb}
use Rattle.wire.specs.declared.read.Fault.{Fault}
use Rattle.wire.specs.declared.read.Part.{Part}
use Rattle.wire.specs.Texts.{bytes}
use Rattle.wire.specs.Read.{cut_of, same, string_at, mpint_at}
use Rattle.wire.specs.Steps.{faulted, part}
use Rattle.wire.specs.Write.{write}
use Rattle.keys.specs.declared.kinds.Kind.{Kind}
use Rattle.keys.specs.declared.kinds.Places.{Places}
use Rattle.keys.specs.Fields.{sized_at, named_at, point_at, scalar_at}

-- where the fields of a key lie, or the place of their fault
abbrev pub Key : Type 0
Key = Result Places Fault

unfoldable pub kind_of : List ℕ → Kind
kind_of name =
    cond (same name (bytes "ssh-ed25519")) Kind.Ed25519
    (cond (same name (bytes "ecdsa-sha2-nistp256")) Kind.Nistp256
    (cond (same name (bytes "ecdsa-sha2-nistp384")) Kind.Nistp384
    (cond (same name (bytes "ecdsa-sha2-nistp521")) Kind.Nistp521
    (cond (same name (bytes "ssh-rsa")) Kind.Rsa Kind.Other))))

-- behind the type: A of 32 bytes, and 64 bytes whose last 32 are A
unfoldable pub ed25519_at : List ℕ → ℕ → Key
ed25519_at s at =
    part (λ _. faulted at) (sized_at s at 32) λ af ae a.
    part (λ _. faulted ae) (sized_at s a.at 64) λ pf pe b.
    cond (same (cut_of s (pf + 32) pe) (cut_of s af ae)) (Ok (record { front = ae; swap = ae; back = ae; end = pe })) (faulted ae)

-- behind the type: the curve, Q and d
unfoldable pub ecdsa_at : List ℕ → ℕ → List ℕ → ℕ → ℕ → Key
ecdsa_at s at curve q d =
    part (λ _. faulted at) (named_at s at curve) λ cf ce a.
    part (λ _. faulted ce) (point_at s a.at q) λ qf qe b.
    part (λ _. faulted qe) (scalar_at s b.at d) λ df de c.
    Ok (record { front = qe; swap = qe; back = qe; end = de })

-- d, iqmp, p and q: where q lies
unfoldable pub rsa_secrets_at : List ℕ → ℕ → Result Part Fault
rsa_secrets_at s at =
    part faulted (mpint_at s at) λ df de a.
    part faulted (mpint_at s a.at) λ xf xe b.
    part faulted (mpint_at s b.at) λ pf pe c.
    mpint_at s c.at

-- behind the type: n, e, and then d, iqmp, p, q; the blob has e before n
unfoldable pub rsa_at : List ℕ → ℕ → Key
rsa_at s at =
    part (λ _. faulted at) (mpint_at s at) λ nf ne a.
    part (λ _. faulted ne) (mpint_at s a.at) λ ef ee b.
    part faulted (rsa_secrets_at s b.at) λ qf qe c.
    Ok (record { front = at; swap = ne; back = ee; end = qe })

-- the fields of a kind behind its type, which stands at `at`
abbrev pub behind_type : Kind → List ℕ → ℕ → ℕ → Key
behind_type Kind.Ed25519 s at next = ed25519_at s next
behind_type Kind.Nistp256 s at next = ecdsa_at s next (bytes "nistp256") 65 32
behind_type Kind.Nistp384 s at next = ecdsa_at s next (bytes "nistp384") 97 48
behind_type Kind.Nistp521 s at next = ecdsa_at s next (bytes "nistp521") 133 66
behind_type Kind.Rsa s at next = rsa_at s next
behind_type Kind.Other s at next = faulted at

unfoldable pub key_at : List ℕ → ℕ → Key
key_at s at = part (λ _. faulted at) (string_at s at) λ f t k. behind_type (kind_of (cut_of s f t)) s at k.at

-- the blob of key fields at `at`
unfoldable pub blob_of : List ℕ → ℕ → Places → List ℕ
blob_of s at p = cut_of s at p.front ++ (cut_of s p.swap p.back ++ cut_of s p.front p.swap)

-- the length of a blob that fits
abbrev pub Blob : Type 0
Blob = Option ℕ

-- the blob stands at the front of an output that it fits in; else the output is untouched
unfoldable pub blob_answer : List ℕ → ℕ → Places → List ℕ → Blob
blob_answer s at p out = cond (leb (length (blob_of s at p)) (length out)) (Some (length (blob_of s at p))) None

unfoldable pub blob_left : List ℕ → ℕ → Places → List ℕ → List ℕ
blob_left s at p out = cond (leb (length (blob_of s at p)) (length out)) (write out 0 (blob_of s at p)) out
