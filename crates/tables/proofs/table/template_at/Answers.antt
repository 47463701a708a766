-- `template_at` meets its contract: it reads the key count and the description's length, and the key blocks begin behind the padded
-- description.
use Rattle.tables.specs.Table.{template_at}
use Rattle.tables.proofs.table.template_at.Goals as goal

pub returns : goal.returns
unfolding template_at
returns c = simp (c.u16_at.ensures, c.padded.ensures, c.u16_at-description.ensures)
