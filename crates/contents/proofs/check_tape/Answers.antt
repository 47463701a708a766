-- `check_tape`: the answer by whether the tape is sound.
use mathlib.Core.Path.{refl, sym, ap, ◌∙◌}
use mathlib.Core.List.{[], ◌∷◌}
use mathlib.Core.Bool.{cond, not}
use Rattle.octets.specs.Answers.{◌when◌, judged, refusal_of, unsound_tape, done}
use Rattle.octets.proofs.Judging.{judged_answered}
use Rattle.contents.specs.Tape.{tape_sound}
use Rattle.contents.proofs.check_tape.Goals as goal

pub returns-then-not-tape_sound : goal.returns-then-not-tape_sound
unfolding judged refusal_of
returns-then-not-tape_sound c =
    judged_answered tt ((unsound_tape when not (tape_sound c.args.tape.now)) ∷ []) refl
    (ap (λ b. judged (cond (not b) unsound_tape done) tt) (sym c.if-not-tape_sound.true ∙ c.tape_sound.ensures))

pub returns : goal.returns
unfolding judged refusal_of
returns c =
    judged_answered tt ((unsound_tape when not (tape_sound c.args.tape.now)) ∷ []) refl
    (ap (λ b. judged (cond (not b) unsound_tape done) tt) (sym c.if-not-tape_sound.false ∙ c.tape_sound.ensures))
