-- `fresh_state` meets its contract. It builds the definition field by field, so the two are the same by computing.
use mathlib.Core.Path.{refl}
use Rattle.session.specs.Steps.{fresh}
use Rattle.soundness.proofs.set_up.fresh_state.Goals as goal

pub returns : goal.returns
unfolding fresh
returns c = refl
