-- `is_signed` meets its contract: the four numbers tested are those of the signed integers, and the law of the table of types says that no
-- other row is signed.
use Rattle.field_types.proofs.FieldTypes.{signed_code_lem}
use Rattle.field_types.proofs.field_type.FieldType.is_signed.Goals as goal

pub returns : goal.returns
returns c = signed_code_lem c.args.self.number
