-- `priorities_of` meets its contract: the octets that the body has of them are copied to the front of an array of zeros, and they fit.
use mathlib.Core.Path.{◌∙◌}
use Rattle.events.proofs.Events.{priorities_fit}
use Rattle.events.proofs.priorities_of.Goals as goal

pub returns : goal.returns
returns c =
    let b = c.args.b.now in
    c.copy.ensures ∙ rw c.part.ensures (priorities_fit b)
