-- `with_server` meets its contract. The shift of 1 is the power of 2 that is the server's bit, and it does not leave the set's bits, since
-- there are as many as there can be servers.
use Rattle.std.proofs.Common.{arith}
use Rattle.session.specs.Limits.{max_servers}
use Rattle.session.proofs.Arrays.{one_shifted}
use Rattle.sending.proofs.sets.with_server.Goals as goal

pub returns : goal.returns
returns c = rw (one_shifted max_servers c.args.v (omega arith))
