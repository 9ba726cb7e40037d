-- The definition makes the same tests. Assumes nothing.
use mathlib.Core.Path.{sym, ◌∙◌}
use Rattle.soundness.proofs.SoundnessLaws.{long_by}
use Rattle.soundness.proofs.is_sound.Goals as goal

pub are_keys_sound-requires : goal.are_keys_sound-requires
are_keys_sound-requires c = (long_by _ (sym c.are_long.ensures ∙ c.if-not-are_long.false), c.if-store-ne-STORE_SIZE.false)
