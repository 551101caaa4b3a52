use Rattle.std.proofs.Common.{◌∙◌}
use Rattle.cov_parser.proofs.Faults.{derived_only, derived_sound, found_fault, found_only, found_none, found_read, lexed_spelled}
use Rattle.cov_parser.proofs.parsing.parse.Goals as goal

pub returns-in-Ok-design-clause-read : goal.returns-in-Ok-design-clause-read
returns-in-Ok-design-clause-read c = found_read c.args.text.now c.args.tokens.now _ (c.as_slice-marked.ensures.value ∙ c.in-Ok.ensures c.args.text.now (lexed_spelled c.args.text.now c.args.tokens.now c.requires.tokens)) _ c.in-Ok-design.ensures.read

pub returns-in-Ok-design-clause-only : goal.returns-in-Ok-design-clause-only
returns-in-Ok-design-clause-only c = derived_only c.args.text.now c.args.tokens.now _ (found_read c.args.text.now c.args.tokens.now _ (c.as_slice-marked.ensures.value ∙ c.in-Ok.ensures c.args.text.now (lexed_spelled c.args.text.now c.args.tokens.now c.requires.tokens)) _ c.in-Ok-design.ensures.read)

pub returns-in-Ok-design-clause-sound : goal.returns-in-Ok-design-clause-sound
returns-in-Ok-design-clause-sound c = derived_sound c.args.text.now c.args.tokens.now _ (found_read c.args.text.now c.args.tokens.now _ (c.as_slice-marked.ensures.value ∙ c.in-Ok.ensures c.args.text.now (lexed_spelled c.args.text.now c.args.tokens.now c.requires.tokens)) _ c.in-Ok-design.ensures.read)

pub returns-clause-cause : goal.returns-clause-cause
returns-clause-cause c = found_fault c.args.text.now c.args.tokens.now _ (c.as_slice-marked.ensures.value ∙ c.in-Ok.ensures c.args.text.now (lexed_spelled c.args.text.now c.args.tokens.now c.requires.tokens)) _ _ c.fault.ensures c.in-Err.ensures.cause

pub returns-clause-only_cause : goal.returns-clause-only_cause
returns-clause-only_cause c = found_only c.args.text.now c.args.tokens.now _ (c.as_slice-marked.ensures.value ∙ c.in-Ok.ensures c.args.text.now (lexed_spelled c.args.text.now c.args.tokens.now c.requires.tokens)) _ _ c.fault.ensures c.in-Err.ensures.cause

pub returns-clause-none : goal.returns-clause-none
returns-clause-none c = found_none c.args.text.now c.args.tokens.now _ (c.as_slice-marked.ensures.value ∙ c.in-Ok.ensures c.args.text.now (lexed_spelled c.args.text.now c.args.tokens.now c.requires.tokens)) _ _ c.fault.ensures c.in-Err.ensures.cause
