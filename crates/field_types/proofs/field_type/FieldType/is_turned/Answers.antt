-- `is_turned` meets its contract: the law of the table of types says that what is tested are its rows that turn.
use Rattle.field_types.proofs.FieldTypes.{turned_code_lem}
use Rattle.field_types.proofs.field_type.FieldType.is_turned.Goals as goal

pub returns : goal.returns
returns c = turned_code_lem c.args.self.number
