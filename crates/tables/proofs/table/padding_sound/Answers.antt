-- `padding_sound` meets its contract: the octets between the description's end and its padded end are those that the definition tests.
use Rattle.tables.specs.Table.{padding_sound}
use Rattle.tables.proofs.table.padding_sound.Goals as goal

pub returns : goal.returns
unfolding padding_sound
returns c = rw (c.all_zero.ensures, c.padded.ensures, c.u16_at-description.ensures)
