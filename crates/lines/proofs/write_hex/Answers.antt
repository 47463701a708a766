-- `write_hex`: the digits of one octet more are stored, and at the end none are left.
use mathlib.Core.Path.{sym, ◌∙◌}
use Prim.Native.Nat.{◌+◌, ◌*◌}
use native.Mathlib.Omega.{arith}
use lib.ListN.{length-set}
use Rattle.lines.proofs.Lines.{hex_step, hex_done}
use Rattle.lines.proofs.write_hex.Goals as goal

pub loop-i-preserved : goal.loop-i-preserved
loop-i-preserved c =
    let l = c.loop-i in
    let a = c.args in (
      omega arith,
      (
        simp length-set (omega arith),
        hex_step l.text a.at a.octets.now l.i _ _ c.loop-i-test.true c.digit_of.ensures
            c.digit_of-in-loop-i.ensures ∙ l.invariant.1.1,
      ),
    )

pub returns : goal.returns
returns c =
    let l = c.loop-i in
    let a = c.args in
    sym (hex_done l.text (a.at + 2 * l.i) a.octets.now l.i c.loop-i-test.false) ∙ l.invariant.1.1
