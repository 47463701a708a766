-- `part_place` meets its contract: a DATA and a TMPL DATA that are not refused carry their part behind their heads. Any other message
-- carries none, at place 0.
use Rattle.std.proofs.Common.{sym, ◌∙◌}
use Rattle.wire.proofs.Messages.{part_of_data, part_of_table, part_of_other}
use Rattle.exports.proofs.message_calls.part_place.Goals as goal

pub returns-then-number-eq-DATA : goal.returns-then-number-eq-DATA
returns-then-number-eq-DATA c =
    let number = sym c.get-number.ensures ∙ c.if-number-eq-DATA.true in
    sym (part_of_data _ c.requires number).0

pub returns-then-number-eq-TMPL_DATA : goal.returns-then-number-eq-TMPL_DATA
returns-then-number-eq-TMPL_DATA c =
    let number = sym c.get-number.ensures ∙ c.if-number-eq-TMPL_DATA.true in
    sym (part_of_table _ c.requires number).0

pub returns : goal.returns
returns c =
    let number = c.get-number.ensures in
    sym (part_of_other _ (λ e. c.if-number-eq-DATA.false (number ∙ e)) (λ e. c.if-number-eq-TMPL_DATA.false (number ∙ e))).0
