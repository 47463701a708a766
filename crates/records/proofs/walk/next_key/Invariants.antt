-- `next_key` meets its contract. The loop's invariant: the first enabled key, if any, is not before k.
use mathlib.Core.Path.{◌≡◌}
use Prim.Native.Nat.{◌-◌}
use Rattle.octets.specs.Each.{first_from}
use Rattle.tables.specs.Table.{key_at, is_enabled}
use Rattle.records.specs.Walk.{next_key}
use Rattle.records.proofs.walk.next_key.Given as goal

abbrev pub invariant-loop-k : goal.invariant-loop-k
invariant-loop-k l = first_from l.k (l.m.count - l.k) (λ j. is_enabled l.t (key_at l.m.keys j)) ≡ next_key l.t l.m l.index
