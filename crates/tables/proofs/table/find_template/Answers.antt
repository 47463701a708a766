-- `find_template` meets its contract: the table is judged first, then the template is located.
use mathlib.Core.Path.{sym, ◌∙◌}
use Rattle.octets.proofs.Judging.{answered}
use Rattle.tables.proofs.Tables.{find_located, find_unsound, found_number}
use Rattle.tables.proofs.table.find_template.Goals as goal

pub returns-then-table_sound : goal.returns-then-table_sound
returns-then-table_sound c =
    answered (found_number _ _)
    (c.locate.ensures ∙ sym (find_located _ _ (sym c.table_sound.ensures ∙ c.if-table_sound.true)))

pub returns : goal.returns
returns c = answered (found_number _ _) (sym (find_unsound _ _ (sym c.table_sound.ensures ∙ c.if-table_sound.false)))
