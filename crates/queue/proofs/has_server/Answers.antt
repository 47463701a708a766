-- `has_server` meets its contract. The shift is a division by a power of 2, whose last bit is tested. A set has as many bits as there can
-- be servers, so it has none from there on.
use mathlib.Core.Path.{refl}
use native.Mathlib.Omega.{arith}
use Rattle.session.specs.Limits.{max_servers}
use Rattle.session.specs.Queue.{has}
use Rattle.session.proofs.Arrays.{has_none}
use Rattle.queue.proofs.has_server.Goals as goal

pub returns-then-v-lt-MAX_SERVERS : goal.returns-then-v-lt-MAX_SERVERS
unfolding has
returns-then-v-lt-MAX_SERVERS c = refl

pub returns : goal.returns
returns c = has_none max_servers _ _ (omega arith) c.if-v-lt-MAX_SERVERS.false
