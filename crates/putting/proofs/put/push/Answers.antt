-- `push` meets its contract: it fills the first unused entry of each array.
use mathlib.Core.Path.{refl}
use Rattle.session.specs.Queue.{pushed}
use Rattle.putting.proofs.put.push.Goals as goal

pub returns : goal.returns
unfolding pushed
returns c = refl
