-- `keys_differ` meets its contract: IDs that rise differ; else the loop's invariant is that the key blocks passed differ.
use mathlib.Core.Path.{◌≡◌}
use mathlib.Core.Bool.{true}
use Rattle.tables.specs.Table.{keys_differ}
use Rattle.tables.proofs.table.keys_differ.Given as goal

abbrev pub invariant-loop-k : goal.invariant-loop-k
invariant-loop-k l = keys_differ l.t l.keys l.k ≡ true
