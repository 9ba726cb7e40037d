use native.Mathlib.Omega.{arith}
use mathlib.Core.Path.{sym, ◌∙◌}
use Rattle.table.proofs.EntryLaws.{count_within}
use Rattle.soundness.proofs.SoundnessLaws.{entries_all, entry_on, entry_out, entries_end}
use Rattle.soundness.proofs.are_entries_sound.Goals as goal

pub loop-i-init : goal.loop-i-init
loop-i-init c = (omega arith, entries_all _ _ _)

pub figures_at-requires : goal.figures_at-requires
figures_at-requires c =
    let n = c.count-n.ensures in
    let within = count_within c.args.t.numbers.now in
    let long = c.requires.numbers in
    (omega arith, c.requires)

pub returns-then-not-are_figures_sound : goal.returns-then-not-are_figures_sound
returns-then-not-are_figures_sound c =
    let n = c.count-n.ensures in
    let l = c.loop-i in
    let f = c.figures_at.ensures in
    entry_out _ _ _ l.i (omega arith) (rw f at (sym c.are_figures_sound.ensures) ∙ c.if-not-are_figures_sound.true) l.invariant.1

pub loop-i-preserved : goal.loop-i-preserved
loop-i-preserved c =
    let n = c.count-n.ensures in
    let l = c.loop-i in
    let f = c.figures_at.ensures in
    (omega arith, entry_on _ _ _ l.i (omega arith) (rw f at (sym c.are_figures_sound.ensures) ∙ c.if-not-are_figures_sound.false) l.invariant.1)

pub returns : goal.returns
returns c =
    let n = c.count-n.ensures in
    let l = c.loop-i in
    entries_end _ _ _ l.i (omega arith) l.invariant.1
