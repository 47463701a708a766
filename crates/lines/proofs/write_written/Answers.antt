-- `write_written` meets its contract: the digits follow the space. Nothing is written of no octets.
use native.Mathlib.Omega.{arith}
use Rattle.lines.proofs.Lines.{some_shown}
use Rattle.lines.proofs.write_written.Goals as goal

pub returns : goal.returns
returns c =
    let a = c.args in
    some_shown a.text.now a.at a.octets.now _ _ c.if-n-eq0.false
    (omega arith) c.put.ensures c.write_hex.ensures
