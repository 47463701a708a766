-- `mark_sent` meets its contract, field by field.
use Rattle.std.proofs.Common.{refl}
use Rattle.session.specs.Servers.{sent_one}
use Rattle.session.specs.Queue.{marked}
use Rattle.session.specs.Steps.{after}
use Rattle.sending.proofs.next_data.mark_sent.Goals as goal

pub returns : goal.returns
unfolding after sent_one marked
returns c = rw (c.marked_set.ensures, c.max-s.ensures) refl
