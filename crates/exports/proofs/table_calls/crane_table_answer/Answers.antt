-- `crane_table_answer` meets its contract: soundness is what `table_sound` answered. The test on it chooses between 0 and 21 as the
-- definition does.
use Rattle.std.proofs.Common.{sym, ◌∙◌, rules}
use Rattle.exports.specs.Numbers.{table_form_answer}
use Rattle.exports.proofs.table_calls.crane_table_answer.Goals as goal

pub returns-then-table_sound : goal.returns-then-table_sound
unfolding table_form_answer
returns-then-table_sound c = rw (sym c.table_sound.ensures ∙ c.if-table_sound.true)

pub returns : goal.returns
unfolding table_form_answer
returns c = rw (sym c.table_sound.ensures ∙ c.if-table_sound.false) (search rules)
