-- Following the code: `search steps` closes a return where the definition goes by the same tests and calls, and `search all` the other needs.
use Prim.Native.Nat.{ℕ, ◌≤◌, ◌<◌}
use mathlib.Core.Path.{◌≡◌, refl, sym, ◌∙◌}
use mathlib.Core.List.{List}
use mathlib.Core.Bool.{Bool, true, false, cond}
use borrow.Author.Rules.{rules}
use borrow.Author.Tests.{le-leb, lt-leb, lt-ltb, le-ltb, eq-eqb, ne_eqb}
use native.Mathlib.Omega.{arith}
use native.Mathlib.Nat.{pos_of_ne-zero}
use lib.Dec.{leb, ltb, eqb}
use Rattle.std.proofs.Common.{Result, Ok, Err}
use Rattle.wire.specs.declared.read.Cursor.{Cursor}
use Rattle.wire.specs.declared.read.Fault.{Fault}
use Rattle.wire.specs.declared.read.Part.{Part}
use Rattle.wire.specs.Mpint.{mpint}
use Rattle.wire.specs.Read.{same, string_at}
use Rattle.wire.specs.Steps.{number, part}
use Rattle.wire.proofs.Reading.{cut_there, cut_past, cut_back, string-read}

module _ {A : Type 0} where
  pub cond_yes : (z : A) (b : Bool) (x a : A) → true ≡ b → x ≡ a → x ≡ cond b a z
  cond_yes z b x a e g = rw (← e) g

  pub cond_no : (z : A) (b : Bool) (x a : A) → false ≡ b → x ≡ z → x ≡ cond b a z
  cond_no z b x a e g = rw (← e) g

  pub number_fault : (z : ℕ → A) (p r : Result (ℕ × Cursor) Fault) (F : ℕ → Cursor → A) (x : A) (e : Fault) → r ≡ Err e → r ≡ p → x ≡ z e.at → x ≡ number z p F
  unfolding number
  number_fault z p r F x e q h g = rw (← h, q) g

  pub number_value : (z : ℕ → A) (p r : Result (ℕ × Cursor) Fault) (F : ℕ → Cursor → A) (x : A) (v : ℕ × Cursor) → r ≡ Ok v → r ≡ p → x ≡ F v.0 v.1 → x ≡ number z p F
  unfolding number
  number_value z p r F x v q h g = rw (← h, q) g

  pub part-fault : (z : ℕ → A) (p r : Result Part Fault) (F : ℕ → ℕ → Cursor → A) (x : A) (e : Fault) → r ≡ Err e → r ≡ p → x ≡ z e.at → x ≡ part z p F
  unfolding part
  part-fault z p r F x e q h g = rw (← h, q) g

  pub part-whole : (z : ℕ → A) (p r : Result Part Fault) (F : ℕ → ℕ → Cursor → A) (x : A) (v : Part) → r ≡ Ok v → r ≡ p → x ≡ F v.from v.to v.next → x ≡ part z p F
  unfolding part
  part-whole z p r F x v q h g = rw (← h, q) g

  pub plain : (x : A) → x ≡ x
  plain x = refl

pub leb_yes : (a b : ℕ) → a ≤ b → true ≡ leb a b
leb_yes a b h = sym (le-leb a b h)

pub leb_no : (a b : ℕ) → b < a → false ≡ leb a b
leb_no a b h = sym (lt-leb a b h)

pub ltb_yes : (a b : ℕ) → a < b → true ≡ ltb a b
ltb_yes a b h = sym (lt-ltb a b h)

pub ltb_no : (a b : ℕ) → b ≤ a → false ≡ ltb a b
ltb_no a b h = sym (le-ltb a b h)

pub some_yes : (n : ℕ) → (n ≡ 0 → ⊥) → true ≡ ltb 0 n
some_yes n h = ltb_yes 0 n (pos_of_ne-zero h)

pub some_no : (n : ℕ) → n ≡ 0 → false ≡ ltb 0 n
some_no n h = ltb_no 0 n (omega arith)

pub eqb_yes : (a b : ℕ) → a ≡ b → true ≡ eqb a b
eqb_yes a b e = sym (eq-eqb a b e)

pub eqb_no : (a b : ℕ) → (a ≡ b → ⊥) → false ≡ eqb a b
eqb_no a b e = sym (ne_eqb a b e)

-- a test that a call made, of lists that calls gave
pub same_of : (v b : Bool) (x y X Y : List ℕ) → b ≡ v → b ≡ same x y → x ≡ X → y ≡ Y → v ≡ same X Y
same_of v b x y X Y q e f g = cc

pub mpint-of : (v b : Bool) (x X : List ℕ) → b ≡ v → b ≡ mpint x → x ≡ X → v ≡ mpint X
mpint-of v b x X q e f = cc

pub string-order : (s : List ℕ) (at : ℕ) (v : Part) (r : Result Part Fault) → r ≡ Ok v → r ≡ string_at s at → v.from ≤ v.to
string-order s at v r e g = let h = string-read s at v.from v.to v.next (sym g ∙ e) in omega arith

pub ruleset steps = (cond_yes, cond_no, number_fault, number_value, part-fault, part-whole, plain, leb_yes, leb_no, ltb_yes, ltb_no, some_yes, some_no, eqb_yes, eqb_no, same_of, mpint-of)

pub ruleset all = (steps, cut_there, cut_past, cut_back, string-order, rules)
