-- `is_received` meets its contract: it makes the tests of the definition in their order, so that both compute to the same.
use Rattle.std.proofs.Common.{refl}
use Rattle.receiving.proofs.decode.is_received.Goals as goal

pub returns : goal.returns
returns c = refl
