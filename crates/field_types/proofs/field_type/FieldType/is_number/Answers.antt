-- `is_number` meets its contract: the law of the table of types says that the two ranges tested are those of its rows of numbers. Assumes
-- nothing.
use Rattle.field_types.proofs.FieldTypes.{number_code_lem}
use Rattle.field_types.proofs.field_type.FieldType.is_number.Goals as goal

pub returns : goal.returns
returns c = number_code_lem c.args.self.number
