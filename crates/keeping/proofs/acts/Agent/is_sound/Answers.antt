-- What passed the test is sound. Assumes nothing.
use Rattle.std.proofs.Common.{sym, ◌∙◌}
use Rattle.table.proofs.TestLaws.{sound_state-rule}
use Rattle.keeping.proofs.acts.Agent.is_sound.Goals as goal

pub returns : goal.returns
returns c passed = (sound_state-rule _ _).0 (sym c.is_state_sound.ensures ∙ passed)
