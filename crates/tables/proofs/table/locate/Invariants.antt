-- `locate` meets its contract. The loop's invariant: the walk stands at block i, and the first template with the ID, if any, is not before
-- it.
use mathlib.Core.Path.{◌≡◌}
use Prim.Native.Nat.{◌-◌}
use lib.Dec.{eqb}
use Rattle.octets.specs.Each.{first_from}
use Rattle.tables.specs.Table.{block_at, id_at, template_index}
use Rattle.tables.proofs.table.locate.Given as goal

abbrev pub invariant-loop-i : goal.invariant-loop-i
invariant-loop-i l =
    (l.at ≡ block_at l.t l.i) × (first_from l.i (l.count - l.i) (λ j. eqb (id_at l.t j) l.id) ≡ template_index l.t l.id)
