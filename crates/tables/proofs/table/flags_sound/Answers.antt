-- `flags_sound` meets its contract: the test is the definition's.
use mathlib.Core.Path.{refl}
use Rattle.tables.proofs.table.flags_sound.Goals as goal

pub returns : goal.returns
returns c = refl
