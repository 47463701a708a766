-- `fields_valid` meets its contract. The loop's invariant: the fields of the keys passed are valid, and the next begins at `at`.
use mathlib.Core.Path.{◌≡◌}
use Prim.Native.Nat.{◌≤◌}
use mathlib.Core.Bool.{true}
use lib.ListN.{length}
use Rattle.octets.specs.Each.{every}
use Rattle.records.specs.Record.{field_at, field_valid}
use Rattle.records.proofs.record.fields_valid.Given as goal

abbrev pub invariant-loop-k : goal.invariant-loop-k
invariant-loop-k l = (l.at ≤ length l.r) × ((l.at ≡ field_at l.t l.m l.r l.k) × (every l.k (field_valid l.t l.m l.r) ≡ true))
