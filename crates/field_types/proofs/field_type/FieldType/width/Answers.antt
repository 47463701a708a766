-- `width` meets its contract: the widths are those of the rows, by a test over the table, and past it no type has a fixed width.
use native.Mathlib.Omega.{arith}
use Rattle.field_types.proofs.FieldTypes.{width_low, width_high}
use Rattle.field_types.proofs.field_type.FieldType.width.Goals as goal

pub returns-then-n-lt-FIXED_END : goal.returns-then-n-lt-FIXED_END
returns-then-n-lt-FIXED_END c = width_low c.args.self.number (omega arith)

pub returns-else-n-lt-FIXED_END : goal.returns-else-n-lt-FIXED_END
returns-else-n-lt-FIXED_END c = width_high c.args.self.number (omega arith)
