-- Where the numbers rise none stands again behind its place. Assumes nothing.
use borrow.Author.Rules.{rules}
use native.Mathlib.Omega.{arith}
use Prim.Native.Nat.{◌≤◌}
use mathlib.Core.Path.{◌∙◌}
use lib.ListN.{length}
use Rattle.table.proofs.EntryLaws.{count_within}
use Rattle.soundness.proofs.ApartLaws.{among_part, none_behind}
use Rattle.soundness.proofs.apart.Entries.is_number_again.Goals.{Start}
use Rattle.soundness.proofs.apart.Entries.is_number_again.Goals as goal

within : (c : Start) → c.args.self.n ≤ length c.args.self.t.numbers.now
within c = let n = c.requires.0.counted in omega (arith, count_within c.args.self.t.numbers.now)

pub offset_bounds-self-i : goal.offset_bounds-self-i
offset_bounds-self-i c = let w = within (goal.at.offset_bounds-self-i c).Start in let long = c.requires.0.housed.long_numbers in let below = c.requires.1 in search rules

pub slice_bounds-is_among-end : goal.slice_bounds-is_among-end
slice_bounds-is_among-end c = let w = within (goal.at.slice_bounds-is_among-end c).Start in let long = c.requires.0.housed.long_numbers in let below = c.requires.1 in search rules

pub offset_bounds-self-i-then-not-self : goal.offset_bounds-self-i-then-not-self
offset_bounds-self-i-then-not-self c = let w = within (goal.at.offset_bounds-self-i-then-not-self c).Start in let long = c.requires.0.housed.long_numbers in let below = c.requires.1 in search rules

pub bounds-self-i : goal.bounds-self-i
bounds-self-i c = let w = within (goal.at.bounds-self-i c).Start in let long = c.requires.0.housed.long_numbers in let below = c.requires.1 in search rules

pub returns-then-not-self : goal.returns-then-not-self
returns-then-not-self c = c.is_among.ensures ∙ among_part _ c.args.self.n _ _ (omega arith)

pub returns-else-not-self : goal.returns-else-not-self
returns-else-not-self c =
    let rises = c.if-not-self.false in
    rw rises (none_behind _ c.args.self.n c.args.i _ (within (goal.at.returns-else-not-self c).Start) c.requires.1 c.requires.0.rises_is rises)
