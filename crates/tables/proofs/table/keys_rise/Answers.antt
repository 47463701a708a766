-- `keys_rise`: the answers to what its invariant leaves.
use native.Mathlib.Omega.{arith}
use Rattle.octets.proofs.Each.{every_fewer}
use Rattle.tables.proofs.Tables.{rise_start, rise_step}
use mathlib.Core.Bool.{false≢true}
use Rattle.tables.proofs.table.keys_rise.Goals as goal

pub loop-k-init : goal.loop-k-init
loop-k-init c = rise_start _

pub returns-then-key_id : goal.returns-then-key_id
returns-then-key_id c = λ e. absurd (false≢true e)

pub loop-k-preserved : goal.loop-k-preserved
loop-k-preserved c =
    let l = c.loop-k in
    rise_step _ l.k (omega arith) l.invariant (omega arith)

pub returns : goal.returns
returns c = λ e. every_fewer _ _ c.loop-k.invariant.0 _ (omega arith)
