-- What is told of the held keys, over what state and store mean.
use Rattle.std.specs.Prelude.{ℕ, ◌+◌, ◌-◌, Bool, cond, List, [], ◌∷◌, length, leb, ltb, eqb}
use Rattle.std.proofs.Math.Option.{Option, none, some}
use Rattle.keys.specs.Constraints.{Lifetime}
use Rattle.std.specs.Prelude.{Some, None}
use Rattle.rule.specs.declared.Millis.{Millis}
use Rattle.rule.specs.Gateway.{Entry as Key, zero_millis, millis_of, entry_at, seek, found}
use Rattle.table.specs.declared.State.{State}
use Rattle.table.specs.Meaning.{entries_of, gateway_of, start_of, flag_of, limited_flag, kept_comment}
use Rattle.table.specs.Soundness.{sound_state}
use Rattle.lookups.specs.declared.Comment.{Comment}
use Rattle.lookups.specs.declared.HeldKey.{HeldKey}

-- ## One key

-- has a key this number?
abbrev pub has_number : ℕ → Key → Bool
has_number n k = eqb k.number n

-- what is left of a lifetime: "clock minus insertion reading" is used up
unfoldable pub left_at : Millis → Millis → Lifetime → Millis
left_at clock reading None = zero_millis
left_at clock reading (Some seconds) = record { count = (millis_of seconds).count - (clock.count - reading.count) }

-- a comment and its length, the rest zero
unfoldable pub kept : List ℕ → Comment
kept c = record { bytes = kept_comment c; len = length c }

unfoldable pub nothing : HeldKey
nothing = record {
  number = 0;
  confirm = 0;
  limited = 0;
  left = zero_millis;
  blob_from = 0;
  blob_to = 0;
  fields_from = 0;
  fields_to = 0;
  comment = kept [];
}

-- of the key at position i; its fields begin where its blob ends
unfoldable pub told_of : State → ℕ → Key → HeldKey
told_of s i k = record {
  number = k.number;
  confirm = flag_of k.confirm;
  limited = limited_flag k.lifetime;
  left = left_at s.clock k.reading k.lifetime;
  blob_from = start_of (entries_of s) i;
  blob_to = start_of (entries_of s) i + length k.blob;
  fields_from = start_of (entries_of s) i + length k.blob;
  fields_to = start_of (entries_of s) i + length k.blob + length k.fields;
  comment = kept k.comment;
}

abbrev pub told_in : State → ℕ → Option Key → HeldKey
told_in s i none = nothing
told_in s i (some k) = told_of s i k

unfoldable pub key_told : State → List ℕ → ℕ → HeldKey
key_told s x n =
    cond (sound_state s x)
    (found nothing (seek (has_number n) 0 (gateway_of s x).entries) λ i.
    told_in s i (entry_at (gateway_of s x).entries i))
    nothing

-- ## The next number

-- of a number and the best one so far the lower that is above `after`; 0 is none
unfoldable pub nearer : ℕ → ℕ → ℕ → ℕ
nearer after n best = cond (leb n after) best (cond (eqb best 0) n (cond (ltb n best) n best))

unfoldable pub least_above : ℕ → List Key → ℕ
least_above after [] = 0
least_above after (k ∷ ks) = nearer after k.number (least_above after ks)

unfoldable pub next_told : State → List ℕ → ℕ → ℕ
next_told s x after = cond (sound_state s x) (least_above after (gateway_of s x).entries) 0
