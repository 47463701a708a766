-- `send_records` meets its contract. The loop's invariant: the batch is under way, so that what is left of it behind the messages written is
-- the whole. A turn writes the single call's message to the octets left, or finds that it does not fit; then, or where no message or no
-- record is left, the batch ends as the definition does.
use Rattle.std.proofs.Common.{◌-◌}
use Rattle.sending.proofs.Batches.{Turned}
use Rattle.sending.proofs.batch.send_records.Given as goal

abbrev pub invariant-loop-count : goal.invariant-loop-count
invariant-loop-count l = Turned l.limit l.initial.out l.store l.fn.s (l.limit - l.count) l.written l.state l.out l.at
