-- The length and the first byte are the definition's tests. Assumes nothing.
use Prim.Native.Nat.{ℕ}
use mathlib.Core.Path.{◌≡◌, refl, sym, ◌∙◌}
use mathlib.Core.List.{List, [], ◌∷◌}
use mathlib.Core.Bool.{Bool, true, false, ◌&&◌}
use borrow.Author.Tests.{eq-eqb, ne_eqb, eqb-true, eqb-false}
use Rattle.std.specs.List.{starts_with}
use lib.Dec.{eqb}
use lib.ListN.{get_or}
use Rattle.keys.specs.Fields.{uncompressed}
use Rattle.keys.proofs.fields.is_uncompressed.Goals as goal

-- a byte that is not there is not 4
first : (v : List ℕ) → starts_with eqb v (4 ∷ []) ≡ eqb (get_or v 0 0) 4
first [] = refl
first (b ∷ v) = by (eqb b 4) refl
  where
    by : (q : Bool) → eqb b 4 ≡ q → eqb 4 b && true ≡ q
    by true e = rw (eqb-true b 4 e)
    by false e = rw (ne_eqb 4 b (λ is. eqb-false b 4 e (sym is)))

pub returns-then-v-n : goal.returns-then-v-n
unfolding uncompressed
returns-then-v-n c = rw (eq-eqb _ _ c.if-v-n.true) (c.starts_with.ensures.value ∙ first c.args.v.now)

pub returns-else-v-n : goal.returns-else-v-n
unfolding uncompressed
returns-else-v-n c = rw (ne_eqb _ _ c.if-v-n.false)
