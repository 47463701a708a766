-- `crane_session`: the session begins with what set-up made, or with the refused state.
use Rattle.std.proofs.Common.{ap, ◌∙◌}
use Rattle.std.specs.Result.{result_unwrap_or}
use Rattle.exporter.proofs.Drivers.{made_left, refused_left}
use Rattle.sessions.proofs.crane_session.Goals as goal

pub returns : goal.returns
returns c =
    let state = c.unwrap_or.ensures ∙ ap (result_unwrap_or c.set_up-made.result) c.refused_state.ensures
    ∙ made_left _ c.set_up-made.result (refused_left _ _) c.set_up-made.ensures in
    let number = c.answer_number.ensures ∙ c.set_up-made.ensures.number in
    rw (← c.settings.ensures) (rw (state, number) at c.play.ensures)
