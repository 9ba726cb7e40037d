-- Lists of bytes: what is put together from bytes, numbers and strings is bytes again, and so are parts of bytes; UTF-8 is bytes.
use Prim.Native.Nat.{ℕ, zero, suc, ◌<◌}
use mathlib.Core.List.{List, [], ◌∷◌, ◌++◌}
use native.Mathlib.Omega.{arith}
use lib.ListN.{length}
use Rattle.wire.specs.Numbers.{Bytes, be32}
use Rattle.wire.specs.Abnf.{Char, utf8-1, utf8-2, utf8-3a, utf8-3b, utf8-3c, utf8-3d, utf8-4a, utf8-4b, utf8-4c, Octets, more}
use Rattle.wire.specs.Write.{string}

pub bytes-none : Bytes []
bytes-none i = omega arith

pub bytes-cons : (b : ℕ) (l : List ℕ) → b < 256 → Bytes l → Bytes (b ∷ l)
bytes-cons b l h r zero = h
bytes-cons b l h r (suc i) = r i

pub bytes-append : (l k : List ℕ) → Bytes l → Bytes k → Bytes (l ++ k)
bytes-append [] k p q = q
bytes-append (b ∷ l) k p q = bytes-cons b (l ++ k) (p 0) (bytes-append l k (λ i. p (suc i)) q)

pub be32-bytes : (n : ℕ) → Bytes (be32 n)
be32-bytes n zero = omega arith
be32-bytes n (suc zero) = omega arith
be32-bytes n (suc (suc zero)) = omega arith
be32-bytes n (suc (suc (suc zero))) = omega arith
be32-bytes n (suc (suc (suc (suc i)))) = omega arith

pub string_bytes : (v : List ℕ) → Bytes v → Bytes (string v)
string_bytes v h = bytes-append (be32 (length v)) v (be32-bytes (length v)) h

pub bytes-string : (v rest : List ℕ) → Bytes v → Bytes rest → Bytes (string v ++ rest)
bytes-string v rest h k = bytes-append (string v) rest (string_bytes v h) k

pub bytes-split : (l k : List ℕ) → Bytes (l ++ k) → Bytes l × Bytes k
bytes-split [] k p = ((λ i. omega arith), p)
bytes-split (b ∷ l) k p = let (front, rest) = bytes-split l k (λ i. p (suc i)) in (bytes-cons b l (p 0) front, rest)

-- ## UTF-8

one : (a : ℕ) → a < 256 → Bytes (a ∷ [])
one a h = bytes-cons a [] h (λ i. omega arith)

two : (a b : ℕ) → a < 256 → b < 256 → Bytes (a ∷ b ∷ [])
two a b h k = bytes-cons a (b ∷ []) h (one b k)

three : (a b c : ℕ) → a < 256 → b < 256 → c < 256 → Bytes (a ∷ b ∷ c ∷ [])
three a b c h k l = bytes-cons a (b ∷ c ∷ []) h (two b c k l)

char_bytes : {c : List ℕ} → Char c → Bytes c
char_bytes (utf8-1 a x) = one a (omega (arith, x.1))
char_bytes (utf8-2 a b x y) = two a b (omega (arith, x.1)) (omega (arith, y.1))
char_bytes (utf8-3a a b c x y z) = three a b c (omega (arith, x.1)) (omega (arith, y.1)) (omega (arith, z.1))
char_bytes (utf8-3b a b c x y z) = three a b c (omega (arith, x.1)) (omega (arith, y.1)) (omega (arith, z.1))
char_bytes (utf8-3c a b c x y z) = three a b c (omega (arith, x.1)) (omega (arith, y.1)) (omega (arith, z.1))
char_bytes (utf8-3d a b c x y z) = three a b c (omega (arith, x.1)) (omega (arith, y.1)) (omega (arith, z.1))
char_bytes (utf8-4a a b c d x y z w) = bytes-cons a (b ∷ c ∷ d ∷ []) (omega (arith, x.1)) (three b c d (omega (arith, y.1)) (omega (arith, z.1)) (omega (arith, w.1)))
char_bytes (utf8-4b a b c d x y z w) = bytes-cons a (b ∷ c ∷ d ∷ []) (omega (arith, x.1)) (three b c d (omega (arith, y.1)) (omega (arith, z.1)) (omega (arith, w.1)))
char_bytes (utf8-4c a b c d x y z w) = bytes-cons a (b ∷ c ∷ d ∷ []) (omega (arith, x.1)) (three b c d (omega (arith, y.1)) (omega (arith, z.1)) (omega (arith, w.1)))

pub octets_bytes : {s : List ℕ} → Octets s → Bytes s
octets_bytes Octets.none = λ i. omega arith
octets_bytes (more c s char rest) = bytes-append c s (char_bytes char) (octets_bytes rest)
