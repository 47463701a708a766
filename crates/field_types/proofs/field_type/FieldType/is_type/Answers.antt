-- `is_type` meets its contract: the law of the table of types says that the two ranges and the three numbers tested are those of its rows.
use Rattle.field_types.proofs.FieldTypes.{type_code_lem}
use Rattle.field_types.proofs.field_type.FieldType.is_type.Goals as goal

pub returns : goal.returns
returns c = type_code_lem c.args.self.number
