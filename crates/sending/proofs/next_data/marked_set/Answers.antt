-- `marked_set` meets its contract. While nobody is active the set stays; else the active server's bit is set, and its number is below the
-- most servers, as the call requires.
use Rattle.std.proofs.Common.{subst}
use Rattle.session.specs.Limits.{max_servers}
use Rattle.soundness.specs.Parts.{Below}
use Rattle.sending.proofs.next_data.marked_set.Goals as goal

pub with_server-requires : goal.with_server-requires
with_server-requires c = subst (Below max_servers) c.in-Some.is c.requires

pub returns-in-Some : goal.returns-in-Some
returns-in-Some c = rw c.in-Some.is c.with_server.ensures
