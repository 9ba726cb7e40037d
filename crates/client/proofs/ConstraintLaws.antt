-- Constraints as they are written: how long they are, and one more of them behind those that stand in the output.
use Prim.Native.Nat.{ℕ, ◌+◌, ◌≤◌, ◌<◌}
use mathlib.Core.Path.{◌≡◌, refl, sym, ap, ◌∙◌}
use mathlib.Core.List.{List, [], ◌∷◌, ◌++◌, append_assoc, append-nil}
use native.Mathlib.Omega.{arith}
use native.Mathlib.Nat.{add-zero}
use native.Mathlib.Numerals.{add-one}
use lib.ListN.{length, get_or, take, drop, length-append, take-append-drop}
use lib.Seq.{take-suc}
use Rattle.wire.specs.declared.Seconds.{Seconds}
use Rattle.wire.specs.declared.Constraint.{Constraint}
use Rattle.wire.specs.declared.Constraint.TheVariants.{KeyLifetime, Confirm}
use Rattle.wire.specs.Numbers.{be32}
use Rattle.wire.specs.Write.{write}
use Rattle.wire.specs.Constraints.{constraint_form, constraint_forms}
use Rattle.wire.proofs.Writing.{length-write, write-behind}

pub forms_append : (a b : List Constraint) → constraint_forms (a ++ b) ≡ constraint_forms a ++ constraint_forms b
forms_append [] b = refl
forms_append (c ∷ a) b = rw (forms_append a b) (sym (append_assoc (constraint_form c) (constraint_forms a) (constraint_forms b)))

one_more : (cs : List Constraint) (i : ℕ) (d : Constraint) → i < length cs
    → constraint_forms (take (i + 1) cs) ≡ constraint_forms (take i cs) ++ constraint_form (get_or cs i d)
one_more cs i d h =
    rw (add-one, take-suc cs i d h)
    (forms_append (take i cs) (get_or cs i d ∷ []) ∙ ap (λ (l : List ℕ). constraint_forms (take i cs) ++ l) (append-nil (constraint_form (get_or cs i d))))

form_size : (c : Constraint) → length (constraint_form c) ≤ 5
form_size (KeyLifetime seconds) = omega arith
form_size Confirm = omega arith

-- fewer constraints are no longer
fewer : (cs : List Constraint) (i : ℕ) → length (constraint_forms (take i cs)) ≤ length (constraint_forms cs)
fewer cs i =
    let e = ap constraint_forms (sym (take-append-drop i cs)) ∙ forms_append (take i cs) (drop i cs) in
    omega (arith, simp length-append at (ap length e))

-- the lengths of constraints, added up one by one
module _ (cs : List Constraint) (i : ℕ) (d : Constraint) (r : ℕ) (e : r ≡ length (constraint_form (get_or cs i d))) where
  pub five_at_most : r ≤ 5
  five_at_most = omega (arith, form_size (get_or cs i d))

  pub length_more : (n : ℕ) → n ≡ length (constraint_forms (take i cs)) → i < length cs → n + r ≡ length (constraint_forms (take (i + 1) cs))
  length_more n f h = rw (one_more cs i d h, length-append) (omega arith)

-- a lifetime, as its case writes it
module _ (c : Constraint) (out : List ℕ) (at : ℕ) (room : at + length (constraint_form c) ≤ length out) (seconds : Seconds) (e : c ≡ KeyLifetime seconds) where
  pub lifetime_put : (m o : List ℕ) (n r : ℕ) → m ≡ write out at (1 ∷ []) → n ≡ at + 1 → o ≡ write m n (be32 seconds.count) → r ≡ n + 4
      → (r ≡ at + length (constraint_form c)) × (o ≡ write out at (constraint_form c))
  lifetime_put m o n r f g h k =
      let l : at + 5 ≤ length out = rw e at room in
      rw e (omega arith, write-behind out at (1 ∷ []) m n (be32 seconds.count) o f h g (omega arith))

-- the first i constraints stand in the output at `at`, up to `end`
pub record Standing (cs : List Constraint) (out : List ℕ) (at i end : ℕ) (o : List ℕ) : Type 0 where
  pub place : end ≡ at + length (constraint_forms (take i cs))
  pub holds : o ≡ write out at (constraint_forms (take i cs))
  pub size : length o ≡ length out

-- and there is room for all of them
module _ (cs : List Constraint) (out : List ℕ) (at : ℕ) (room : at + length (constraint_forms cs) ≤ length out) where
  pub none_standing : Standing cs out at 0 at out
  unfolding write
  none_standing = record { place = omega arith; holds = rw (add-zero, append_assoc (take at out) [] (drop at out)) (sym (take-append-drop at out)); size = refl }

  module _ (i end : ℕ) (o : List ℕ) (s : Standing cs out at i end o) (d : Constraint) (k : i < length cs) where
    longer : length (constraint_forms (take i cs)) + length (constraint_form (get_or cs i d)) ≤ length (constraint_forms cs)
    longer = let f = fewer cs (i + 1) in omega (arith, rw (one_more cs i d k, length-append) at f)

    pub room_for_one : end + length (constraint_form (get_or cs i d)) ≤ length o
    room_for_one = omega (arith, longer, s.place, s.size)

    pub one_standing : (next : ℕ) (p : List ℕ) → next ≡ end + length (constraint_form (get_or cs i d)) → p ≡ write o end (constraint_form (get_or cs i d))
        → Standing cs out at (i + 1) next p
    one_standing next p e f =
        record {
          place = rw (one_more cs i d k, length-append) (omega (arith, s.place));
          holds = write-behind out at (constraint_forms (take i cs)) o end (constraint_form (get_or cs i d)) p s.holds f s.place (omega (arith, longer))
              ∙ ap (write out at) (sym (one_more cs i d k));
          size = rw f (length-write o end (constraint_form (get_or cs i d)) room_for_one ∙ s.size);
        }
