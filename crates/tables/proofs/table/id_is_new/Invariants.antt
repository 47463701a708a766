-- `id_is_new` meets its contract. The loop's invariant: the walk stands at block i, and the templates passed have other IDs.
use mathlib.Core.Path.{◌≡◌}
use mathlib.Core.Bool.{true}
use Rattle.octets.specs.Each.{absent}
use Rattle.tables.specs.Table.{block_at, id_at}
use Rattle.tables.proofs.table.id_is_new.Given as goal

abbrev pub invariant-loop-i : goal.invariant-loop-i
invariant-loop-i l = (l.at ≡ block_at l.t l.i) × (absent (id_at l.t) l.i l.id ≡ true)
