-- `keys_sound` meets its contract. The loop's invariant: the key blocks passed are sound.
use mathlib.Core.Path.{◌≡◌}
use mathlib.Core.Bool.{true}
use Rattle.tables.specs.Table.{keys_sound}
use Rattle.tables.proofs.table.keys_sound.Given as goal

abbrev pub invariant-loop-k : goal.invariant-loop-k
invariant-loop-k l = keys_sound l.t l.keys l.k ≡ true
