-- `batch_of` meets its contract: the part from the first octet on is what the definition takes of the store.
use Rattle.contents.specs.Tape.{octets_at}
use Rattle.batch_exports.proofs.batch_of.Goals as goal

pub returns : goal.returns
unfolding octets_at
returns c = rw c.part.ensures at c.send_batch.ensures
