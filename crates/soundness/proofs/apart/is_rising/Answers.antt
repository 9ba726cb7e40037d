-- Each number is below the next. Assumes nothing.
use borrow.Author.Rules.{rules}
use lib.Dec.{ltb}
use Rattle.std.proofs.lemmas.List.Sorted.{answers_always}
use Rattle.soundness.proofs.ApartLaws.{rising_by}
use Rattle.soundness.proofs.apart.is_rising.Goals as goal

pub returns : goal.returns
returns c = rising_by c.args.numbers.now _ (c.is_sorted_by.ensures.cases ltb (answers_always _ _ _ (λ f a r g called. search rules)))
