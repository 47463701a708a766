-- `key_is_new` meets its contract. The loop's invariant: the key blocks passed have other IDs.
use mathlib.Core.Path.{◌≡◌}
use mathlib.Core.Bool.{true}
use Rattle.octets.specs.Each.{absent}
use Rattle.tables.specs.Table.{key_id, key_at}
use Rattle.tables.proofs.table.key_is_new.Given as goal

abbrev pub invariant-loop-j : goal.invariant-loop-j
invariant-loop-j l = absent (λ i. key_id l.t (key_at l.keys i)) l.j (key_id l.t (key_at l.keys l.k)) ≡ true
