-- `field_length` meets its contract: a type of a fixed width has its length under a table of any order, and the others are left to
-- `varying_length`.
use mathlib.Core.Path.{◌∙◌}
use Prim.Native.Nat.{◌<◌}
use native.Mathlib.Omega.{arith}
use Rattle.field_types.specs.FieldTypes.{width_of}
use Rattle.records.proofs.Records.{fixed_length_lem}
use Rattle.records.proofs.record.field_length.Goals as goal

pub returns-then-width-gt0 : goal.returns-then-width-gt0
returns-then-width-gt0 c =
    let a = c.args in
    let some : 0 < width_of a.kind = omega (arith, c.width-width.ensures) in
    c.fixed_length.ensures ∙ fixed_length_lem a.order a.kind a.r.now a.at some
