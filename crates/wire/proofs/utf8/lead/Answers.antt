-- Within each range of the match, and within the two that it leaves, every byte says what the first of the range says. Assumes nothing.
use native.Mathlib.Omega.{arith}
use mathlib.Core.Path.{◌∙◌}
use Rattle.wire.specs.Utf8.{lead_of}
use Rattle.wire.proofs.Bytewise.{lead_in}
use Rattle.wire.proofs.utf8.lead.Goals as goal

pub returns-in-224 : goal.returns-in-224
unfolding lead_of
returns-in-224 c = c.wants.ensures ∙ lead_in 0xE0 0xE0 c.args.b tt (omega arith)

pub returns-in-237 : goal.returns-in-237
unfolding lead_of
returns-in-237 c = c.wants-in-237.ensures ∙ lead_in 0xED 0xED c.args.b tt (omega arith)

pub returns-in-240 : goal.returns-in-240
unfolding lead_of
returns-in-240 c = c.wants-in-240.ensures ∙ lead_in 0xF0 0xF0 c.args.b tt (omega arith)

pub returns-in-244 : goal.returns-in-244
unfolding lead_of
returns-in-244 c = c.wants-in-244.ensures ∙ lead_in 0xF4 0xF4 c.args.b tt (omega arith)

pub returns-in-0-to-127 : goal.returns-in-0-to-127
unfolding lead_of
returns-in-0-to-127 c = c.wants-in-0-to-127.ensures ∙ lead_in 0x00 0x7F c.args.b tt (omega arith)

pub returns-in-194-to-223 : goal.returns-in-194-to-223
unfolding lead_of
returns-in-194-to-223 c = c.wants-in-194-to-223.ensures ∙ lead_in 0xC2 0xDF c.args.b tt (omega arith)

pub returns-in-225-to-236 : goal.returns-in-225-to-236
unfolding lead_of
returns-in-225-to-236 c = c.wants-in-225-to-236.ensures ∙ lead_in 0xE1 0xEC c.args.b tt (omega arith)

pub returns-in-238-to-239 : goal.returns-in-238-to-239
unfolding lead_of
returns-in-238-to-239 c = c.wants-in-238-to-239.ensures ∙ lead_in 0xEE 0xEF c.args.b tt (omega arith)

pub returns-in-241-to-243 : goal.returns-in-241-to-243
unfolding lead_of
returns-in-241-to-243 c = c.wants-in-241-to-243.ensures ∙ lead_in 0xF1 0xF3 c.args.b tt (omega arith)

pub returns-in_default : goal.returns-in_default
unfolding lead_of
returns-in_default c = lead_in 0x80 0xC1 c.args.b tt (omega arith)

pub returns-in_default-2 : goal.returns-in_default-2
unfolding lead_of
returns-in_default-2 c = lead_in 0xF5 0xFF c.args.b tt (omega arith)
