-- `crane_batch`: what set-up, the calls and the batch leave is what the definition has at the end.
use Rattle.std.proofs.Common.{ap, ◌∙◌}
use Rattle.exporter.proofs.Drivers.{made_left}
use Rattle.events.proofs.Events.{set_up_by_refused}
use Rattle.std.specs.Result.{result_unwrap_or}
use Rattle.batch_exports.proofs.Calls.{handed_in_place}
use Rattle.batch_exports.proofs.crane_batch.Goals as goal

pub returns : goal.returns
returns c =
    let a = c.args in
    let fresh = c.unwrap_or-state.ensures ∙ ap (result_unwrap_or c.set_up-made.result) c.refused_state.ensures
    ∙ made_left _ c.set_up-made.result (set_up_by_refused _ _) c.set_up-made.ensures in
    handed_in_place (record { tape = a.tape.now; place = a.place; end = a.end; number = a.number; lent = a.lent }) a.part
    a.store.now a.out.now a.messages.now _ _ _ _ _ _ _ _ _ _ _ _ _
    c.body.ensures fresh c.play.ensures c.batch_of-batch.ensures c.max.ensures c.play-last.ensures (c.asked.ensures c.play-last.new.s)
