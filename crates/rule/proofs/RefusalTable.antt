-- The refusals in their order: each test decides once those before it have passed.
use Prim.Native.Nat.{ℕ, ◌≤◌}
use mathlib.Core.Path.{◌≡◌, refl}
use mathlib.Core.Bool.{Bool, true, false}
use mathlib.Core.Option.{Option, none, some}
use mathlib.Core.List.{List}
use native.Mathlib.Omega.{arith}
use borrow.Author.Tests.{eq-eqb, ne_eqb, le-ltb, lt-ltb}
use lib.ListN.{length}
use Rattle.wire.specs.Limits.{payload_limit, store_size, signature_limit, reply_room}
use Rattle.rule.specs.Gateway.{Gateway}
use Rattle.rule.specs.Soundness.{Sound, sound}
use Rattle.rule.specs.Calls.{Numbered, lent_length, refusal_of, refusal}
use Rattle.rule.specs.Refusals.{RefusalRule}
use Rattle.rule.proofs.SoundLaws.{sound-rule}

not_sound : (g : Gateway) → (Sound g → ⊥) → sound g ≡ false
not_sound g never = go (sound g) refl
  where
    go : (b : Bool) → sound g ≡ b → b ≡ false
    go true e = absurd (never ((sound-rule g).0 e))
    go false e = refl

-- what is lent fits where every signature does
lent_fits : (o : Option (Numbered (Option (List ℕ)))) → ((n : ℕ) (blob : List ℕ) → o ≡ some (record { number = n; answer = some blob }) → length blob ≤ signature_limit) → lent_length o ≤ signature_limit
unfolding lent_length
lent_fits none fits = omega arith
lent_fits (some a) fits = go a.answer refl
  where
    go : (x : Option (List ℕ)) → a.answer ≡ x → lent_length (some (record { number = a.number; answer = x })) ≤ signature_limit
    go none e = omega arith
    go (some blob) e = fits a.number blob (λ i. some (record { number = a.number; answer = e i }))

pub refusal-rule : RefusalRule
unfolding refusal refusal_of lent_length
refusal-rule g c = record {
  first = λ a. rw (lt-ltb c.buffer reply_room a);
  second = λ a b. rw (le-ltb c.buffer reply_room a, ne_eqb c.store store_size b);
  third = λ a b s. rw (le-ltb c.buffer reply_room a, eq-eqb c.store store_size b, not_sound g s);
  fourth = λ a b s p. rw (le-ltb c.buffer reply_room a, eq-eqb c.store store_size b, (sound-rule g).1 s, lt-ltb payload_limit (length c.frame.payload) p);
  fifth = λ a b s p n blob e l. rw (le-ltb c.buffer reply_room a, eq-eqb c.store store_size b, (sound-rule g).1 s, le-ltb payload_limit (length c.frame.payload) p, e, lt-ltb signature_limit (length blob) l);
  accepted = λ a b s p f. rw (le-ltb c.buffer reply_room a, eq-eqb c.store store_size b, (sound-rule g).1 s, le-ltb payload_limit (length c.frame.payload) p, le-ltb signature_limit _ (lent_fits c.answers.signature f));
}
