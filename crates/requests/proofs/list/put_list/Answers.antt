-- Length, 12 and count stand in front of the items, which begin at 9. Assumes nothing.
use Rattle.requests.proofs.ListSteps.{list_fits, shown_count, list_written}
use native.Mathlib.Omega.{arith}
use mathlib.Core.Path.{sym, ◌∙◌}
use Rattle.table.proofs.EntryLaws.{count_within}
use Rattle.requests.proofs.list.put_list.Goals as goal

-- the items begin at 9
pub overflow_sub-end : goal.overflow_sub-end
overflow_sub-end c =
    let w = c.requires.0 in
    let k = (c.put_items-end.ensures.1 w.state w.shows w.sound).0 in
    omega arith

-- at most 24 are counted
pub overflow_cast-count : goal.overflow_cast-count
overflow_cast-count c =
    let n = c.count-count.ensures in
    let within = count_within c.args.t.numbers.now in
    let long = (list_fits c.requires.0).housed.long_numbers in
    record { fits = omega arith }

pub returns : goal.returns
returns c =
    λ s shows S.
    let k = c.put_items-end.ensures.1 s shows S in
    list_written _ _ _ _ _ _ _ _ _ _ k.0 k.1 c.put_number-kind.ensures.1 c.put_number-kind.ensures.0 c.put_byte-at.ensures.1
    c.put_byte-at.ensures.0 c.put_number.ensures.1 (c.count-count.ensures ∙ sym (shown_count s _ shows)) c.requires.1 c.put_items-end.ensures.0
