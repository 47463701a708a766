-- `field_order` meets its contract: the test is the definition's.
use mathlib.Core.Path.{sym, ap, ◌∙◌}
use mathlib.Core.Bool.{Bool, cond}
use Rattle.numbers.specs.declared.OctetOrder.TheVariants.{BigEndian}
use Rattle.field_types.specs.FieldTypes.{field_order}
use Rattle.field_types.proofs.field_type.FieldType.field_order.Goals as goal

pub returns-then-is_turned : goal.returns-then-is_turned
unfolding field_order
returns-then-is_turned c =
    let a = c.args in
    ap (λ (b : Bool). cond b a.order BigEndian) (sym c.if-is_turned.true ∙ c.is_turned.ensures)

pub returns : goal.returns
unfolding field_order
returns c =
    let a = c.args in
    ap (λ (b : Bool). cond b a.order BigEndian) (sym c.if-is_turned.false ∙ c.is_turned.ensures)
