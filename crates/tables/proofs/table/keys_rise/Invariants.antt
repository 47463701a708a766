-- `keys_rise` meets its contract. The loop's invariant: the IDs passed differ, and none is above the last.
use Rattle.tables.specs.Table.{key_id, key_at}
use Rattle.tables.proofs.Tables.{Rising}
use Rattle.tables.proofs.table.keys_rise.Given as goal

abbrev pub invariant-loop-k : goal.invariant-loop-k
invariant-loop-k l = Rising (λ j. key_id l.t (key_at l.keys j)) l.k
