-- `take_call` meets its contract: the call is the event's, and its line has what the call wrote, which stands in the output. What was
-- written is no longer than the output, so the line fits the text.
use mathlib.Core.Path.{sym}
use native.Mathlib.Omega.{arith}
use lib.Seq.{length-take-le}
use Rattle.lines.proofs.Lines.{printed_whole}
use Rattle.tape.proofs.Turns.{called_fits, line_fits, call_turn_lem}
use Rattle.tape.proofs.replay.take_call.Goals as goal

pub slice_bounds-write_line-end : goal.slice_bounds-write_line-end
slice_bounds-write_line-end c = omega (arith, called_fits _ _ _ _ _ _ _ _ _ _ c.call-called.ensures)

pub slice_bounds-write_line-end-2 : goal.slice_bounds-write_line-end-2
slice_bounds-write_line-end-2 c =
    sym (length-take-le _ _ (omega (arith, called_fits _ _ _ _ _ _ _ _ _ _ c.call-called.ensures)))

pub overflow_sub-result : goal.overflow_sub-result
overflow_sub-result c =
    let w = c in
    w.requires.some

pub returns : goal.returns
returns c =
    let w = c in
    let k = w in
    let z = k in
    let a = z.args in
    let fits = line_fits _ _ a.out.now a.text.now (called_fits _ _ _ _ _ _ _ _ _ _ k.call-called.ensures) z.requires.room in
    let l = printed_whole a.text.now _ _ _ _ fits w.write_line-len.ensures in
    call_turn_lem a.tape.now a.r a.store.now a.out.now a.text.now a.i _ _ a.b.now _ _ _ _ _ _ _ z.requires
    k.body-table.ensures k.kind_at-kind.ensures
    k.server_at-server.ensures k.call-called.ensures
    l.0 l.1
