-- The definition makes the same tests; where all entries pass, the sum of their lengths does not overflow, and where it is within the store, their bytes lie in it. Assumes nothing.
use native.Mathlib.Omega.{arith}
use mathlib.Core.Path.{◌≡◌, sym, ◌∙◌}
use mathlib.Core.Bool.{true, false}
use borrow.Author.Tests.{le-leb, lt-leb}
use lib.Dec.{leb}
use Rattle.wire.specs.Limits.{store_size}
use Rattle.rule.specs.Soundness.{distinct}
use Rattle.table.specs.Entries.{shown, entries_in}
use Rattle.table.specs.Meaning.{view, end_of}
use Rattle.table.specs.Soundness.{sound_keys, sound_store}
use Rattle.soundness.proofs.SoundnessLaws.{few_by, lengths_by, end_is}
use Rattle.soundness.proofs.ApartLaws.{distinct-shown}
use Rattle.soundness.proofs.are_keys_sound.Goals as goal

pub is_unused_zero-requires : goal.is_unused_zero-requires
is_unused_zero-requires c =
    let long = c.requires.0 in
    (few_by _ _ c.count-n.ensures long.numbers, long)

pub returns-then-not-is_unused_zero : goal.returns-then-not-is_unused_zero
unfolding sound_keys
returns-then-not-is_unused_zero c = let n = c.count-n.ensures in grind arith

pub returns-then-not-are_entries_sound : goal.returns-then-not-are_entries_sound
unfolding sound_keys
returns-then-not-are_entries_sound c = let n = c.count-n.ensures in grind arith

pub end_of-end-requires : goal.end_of-end-requires
end_of-end-requires c =
    let long = c.requires.0 in
    let n = c.count-n.ensures in
    (few_by _ _ n long.numbers, long, λ i h. lengths_by _ _ _ (sym c.are_entries_sound.ensures ∙ c.if-not-are_entries_sound.false) i (omega arith))

pub returns-then-end-gt-STORE_SIZE : goal.returns-then-end-gt-STORE_SIZE
unfolding sound_keys sound_store
returns-then-end-gt-STORE_SIZE c =
    let n = c.count-n.ensures in
    let end = end_is (shown c.args.t) _ _ n c.end_of-end.ensures in
    let over : leb (end_of (entries_in (shown c.args.t))) store_size ≡ false = rw end (lt-leb _ _ c.if-end-gt-STORE_SIZE.true) in
    grind arith

pub returns-then-is_rest_zero : goal.returns-then-is_rest_zero
unfolding sound_keys sound_store
returns-then-is_rest_zero c =
    let n = c.count-n.ensures in
    let end = end_is (shown c.args.t) _ _ n c.end_of-end.ensures in
    let fits : leb (end_of (entries_in (shown c.args.t))) store_size ≡ true = rw end (le-leb _ _ c.if-end-gt-STORE_SIZE.false) in
    let apart : c.is_distinct.result ≡ distinct (view (entries_in (shown c.args.t)) c.args.store.now) = distinct-shown _ (shown c.args.t) _ c.is_distinct.ensures in
    grind arith

pub returns-else-is_rest_zero : goal.returns-else-is_rest_zero
unfolding sound_keys sound_store
returns-else-is_rest_zero c =
    let n = c.count-n.ensures in
    let end = end_is (shown c.args.t) _ _ n c.end_of-end.ensures in
    grind arith
