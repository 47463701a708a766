-- `write_stop` meets its contract: header, fields and text are put one behind the other.
use mathlib.Core.List.{[], ◌∷◌}
use native.Mathlib.Omega.{arith}
use Rattle.ipdr.specs.Messages.{numbers}
use Rattle.ipdr.proofs.Messages.{begun_short, counted_refused, counted_done}
use Rattle.ipdr_writing.proofs.write.write_stop.Goals as goal

pub returns-in_err-len : goal.returns-in_err-len
returns-in_err-len c =
    let a = c.args in
    counted_refused (numbers a.number a.session (a.reason_code ∷ []))
    _ _ (2 ∷ []) c.requires.0 c.requires.1 c.in_err-len.ensures c.from_residual.ensures.1

pub put_counted-requires : goal.put_counted-requires
put_counted-requires c = (omega arith, begun_short _ _ _ _ _ c.in_ok-len.ensures)

pub returns : goal.returns
returns c =
    let a = c.args in
    counted_done (numbers a.number a.session (a.reason_code ∷ []))
    _ _ (2 ∷ []) c.requires.0 c.requires.1 c.in_ok-len.ensures _ _
    c.put.ensures
    c.put_counted.ensures
