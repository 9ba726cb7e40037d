-- How a list starts and ends, by the definitions and by what a slice itself says.
use Prim.Native.Nat.{ℕ, ◌+◌, ◌-◌, ◌≤◌, ◌<◌}
use mathlib.Core.Path.{◌≡◌, refl, sym, ap, ◌∙◌}
use mathlib.Core.List.{List, ◌++◌, append-nil}
use mathlib.Core.Bool.{Bool, true, false}
use mathlib.Core.Logic.{◌↔◌, ⊎_elim}
use native.Mathlib.Omega.{arith}
use borrow.Author.Tests.{le-leb, leb-true}
use lib.Dec.{leb, eqb}
use Rattle.std.specs.List.{starts_with, ends_with}
use Rattle.std.proofs.lemmas.Bool.Decides.{Decides-eqb}
use Rattle.std.proofs.lemmas.Slice.Eq.{starts_is, ends_is}
use lib.ListN.{length, take, drop, length-append, length-drop, take-append-drop}
use lib.Seq.{take_all, drop-length, drop_at}
use Rattle.wire.specs.Read.{cut_of, same}
use Rattle.wire.proofs.Cases.{cond_cases}
use Rattle.wire.proofs.Reading.{le_or_lt, cut_there, cut_past, same-rule}
use Rattle.wire.proofs.Format.{part-shape}
use Rattle.wire.proofs.Strings.{Lies, lies_at, lies_cut}
use Rattle.readers.specs.Identities.{ends_in}
use Rattle.readers.specs.Signatures.{starts_in}

-- a list of which the end lies at a place
end_lies : (w v : List ℕ) → Lies (w ++ v) (length w) v (length (w ++ v))
end_lies w v = record {
  end = length-append w v;
  within = omega arith;
  shape = drop_at w v (length w) refl ∙ sym (append-nil v) ∙ ap (λ (l : List ℕ). v ++ l) (sym (drop-length (w ++ v)));
}

pub ends_rule : (v end : List ℕ) → (ends_in v end ≡ true) ↔ ((w : List ℕ) × (v ≡ w ++ end))
unfolding ends_in
ends_rule v end = (
  cond_cases (λ (b : Bool). b ≡ true → (w : List ℕ) × (v ≡ w ++ end)) (leb (length end) (length v))
      (λ (h : leb (length end) (length v) ≡ true) (e : same (cut_of v (length v - length end) (length v)) end ≡ true).
      let n = leb-true (length end) (length v) h in
      let f = length v - length end in
      let c : drop f v ≡ end = sym (take_all (length v - f) (drop f v) (simp length-drop (omega arith))) ∙ cut_there v f (length v) (omega arith) (omega arith) ∙ (same-rule (cut_of v f (length v)) end).0 e in
      (take f v, sym (take-append-drop f v) ∙ ap (λ (l : List ℕ). take f v ++ l) c))
      (λ h never. let z : ◌≡◌ {A = ℕ} 0 1 = cc in absurd (omega arith)),
  (λ (w, e).
      let n = length-append w end in
      let d : length (w ++ end) - length end ≡ length w = omega arith in
      rw (e, le-leb (length end) (length (w ++ end)) (omega arith), d, lies_cut (end_lies w end)) ((same-rule end end).1 refl)),
)

pub starts_rule : (v start : List ℕ) → (starts_in v start ≡ true) ↔ ((w : List ℕ) × (v ≡ start ++ w))
unfolding starts_in
starts_rule v start = (
  (λ e.
      let n = length start in
      let c = (same-rule (cut_of v 0 n) start).0 e in
      ⊎_elim
      (λ (h : n ≤ length v). (drop n v, part-shape v 0 n (omega arith) h ∙ ap (λ (l : List ℕ). l ++ drop n v) c))
      (λ (h : length v < n). let z : 0 ≡ n = ap length (cut_past v 0 n (omega arith) h ∙ c) in absurd (omega arith))
      (le_or_lt n (length v))),
  (λ (w, e).
      let z : 0 + length start ≡ length start = omega arith in
      let c : cut_of (start ++ w) 0 (length start) ≡ start = rw z at (lies_cut (lies_at (start ++ w) 0 start w (omega arith) refl).0) in
      rw (e, c) ((same-rule start start).1 refl)),
)

-- ## What a slice's own tests say

same_bool : (a b : Bool) → (a ≡ true → b ≡ true) → (b ≡ true → a ≡ true) → a ≡ b
same_bool true b f g = sym (f refl)
same_bool false true f g = g refl
same_bool false false f g = refl

pub starts_same : (v start : List ℕ) → starts_with eqb v start ≡ starts_in v start
starts_same v start =
    let (whole, found) = starts_is Decides-eqb v start (starts_with eqb v start) refl in
    same_bool _ _ (λ e. (starts_rule v start).1 (_, whole e)) (λ e. let (w, is) = (starts_rule v start).0 e in found w is)

pub ends_same : (v end : List ℕ) → ends_with eqb v end ≡ ends_in v end
ends_same v end =
    let (whole, found) = ends_is Decides-eqb v end (ends_with eqb v end) refl in
    same_bool _ _ (λ e. (ends_rule v end).1 (_, whole e)) (λ e. let (w, is) = (ends_rule v end).0 e in found w is)
