-- `is_first` meets its contract: it makes the definition's two tests.
use Rattle.std.proofs.Common.{refl}
use Rattle.sending.proofs.next_data.is_first.Goals as goal

pub returns : goal.returns
returns c = refl
