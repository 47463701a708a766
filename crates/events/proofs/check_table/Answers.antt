-- `check_table`: the answer by whether the table is the session's.
use mathlib.Core.Path.{refl, sym, ap, ◌∙◌}
use mathlib.Core.List.{[], ◌∷◌}
use mathlib.Core.Bool.{cond, not}
use Rattle.octets.specs.Answers.{◌when◌, judged, refusal_of, unsound_table, done}
use Rattle.octets.proofs.Judging.{judged_answered}
use Rattle.session.specs.Steps.{is_sessions}
use Rattle.events.proofs.check_table.Goals as goal

pub returns-then-not-is_sessions : goal.returns-then-not-is_sessions
unfolding judged refusal_of
returns-then-not-is_sessions c =
    judged_answered tt ((unsound_table when not (is_sessions c.args.p c.args.table.now)) ∷ []) refl
    (ap (λ b. judged (cond (not b) unsound_table done) tt) (sym c.if-not-is_sessions.true ∙ c.is_sessions.ensures))

pub returns : goal.returns
unfolding judged refusal_of
returns c =
    judged_answered tt ((unsound_table when not (is_sessions c.args.p c.args.table.now)) ∷ []) refl
    (ap (λ b. judged (cond (not b) unsound_table done) tt) (sym c.if-not-is_sessions.false ∙ c.is_sessions.ensures))
