-- What no entry of a sound state uses is zero: the facts say it of the rest of each list, and so of each index.
use Prim.Native.Nat.{ℕ, zero, suc, ◌+◌, ◌≤◌}
use mathlib.Core.Path.{◌≡◌, refl, sym, ap, ◌∙◌}
use mathlib.Core.List.{List, [], ◌∷◌}
use native.Mathlib.Omega.{arith}
use native.Mathlib.Nat.{not-suc-le-zero, le_of_suc-le-suc}
use lib.ListN.{length, take, drop, get_or, replicate}
use Rattle.table.specs.declared.State.{State}
use Rattle.table.specs.Bytes.{Zeros, sum_of}
use Rattle.table.specs.Each.{offset}
use Rattle.table.specs.Entries.{count_of, start_in}
use Rattle.table.specs.Meaning.{size, entries_of, end_of}
use Rattle.table.specs.Promises.{sum, blob_from}
use Rattle.table.proofs.EntryLaws.{entries_length, start_is}
use Rattle.table.proofs.StateLaws.{state_count}
use Rattle.rests.specs.Promises.{RestRule}

zeros_at : (n i : ℕ) → get_or {A = ℕ} (replicate n 0) i 0 ≡ 0
zeros_at zero i = refl
zeros_at (suc n) zero = refl
zeros_at (suc n) (suc i) = zeros_at n i

rest_at : (l : List ℕ) (n i : ℕ) → Zeros (drop n l) → n ≤ i → get_or l i 0 ≡ 0
rest_at [] n i z h = refl
rest_at (m ∷ l) zero i z h = ap (λ (ys : List ℕ). get_or ys i 0) z ∙ zeros_at (length (m ∷ l)) i
rest_at (m ∷ l) (suc n) zero z h = absurd (not-suc-le-zero h)
rest_at (m ∷ l) (suc n) (suc i) z h = rest_at l n i z (le_of_suc-le-suc h)

sums : (l : List ℕ) → sum_of l ≡ sum l
unfolding sum_of
sums [] = refl
sums (n ∷ l) = ap (λ (m : ℕ). n + m) (sums l)

-- the bytes of all entries end where the columns say
end_is : (s : State) → end_of (entries_of s) ≡ blob_from s (count_of s.columns.numbers)
unfolding start_in
end_is s =
    let n = count_of s.columns.numbers in
    let b = sums (take n s.columns.blob_lens) in
    let f = sums (take n s.columns.fields_lens) in
    let c = sums (take n s.columns.comment_lens) in
    let starts = ap (offset size (entries_of s)) (entries_length s.columns) ∙ start_is s.columns n (omega arith) in
    omega arith

pub rest-rule : RestRule
rest-rule s x S =
    let n = state_count s x in
    let end = end_is s ∙ ap (blob_from s) (sym n) in
    record {
      numbers = λ i h. rest_at s.columns.numbers (count_of s.columns.numbers) i S.unused.numbers (omega arith);
      readings = λ i h. rest_at s.columns.readings (count_of s.columns.numbers) i S.unused.readings (omega arith);
      blobs = λ i h. rest_at s.columns.blob_lens (count_of s.columns.numbers) i S.unused.blobs (omega arith);
      fields = λ i h. rest_at s.columns.fields_lens (count_of s.columns.numbers) i S.unused.fields (omega arith);
      comments = λ i h. rest_at s.columns.comment_lens (count_of s.columns.numbers) i S.unused.comments (omega arith);
      seconds = λ i h. rest_at s.columns.seconds (count_of s.columns.numbers) i S.unused.seconds (omega arith);
      limited = λ i h. rest_at s.columns.limited (count_of s.columns.numbers) i S.unused.limited (omega arith);
      confirm = λ i h. rest_at s.columns.confirm (count_of s.columns.numbers) i S.unused.confirm (omega arith);
      store = λ i h. rest_at x (end_of (entries_of s)) i S.end (omega arith);
      lock = λ i h. rest_at s.lock.bytes s.lock.len i S.lock.lock_rest h;
    }
