-- `next_head` meets its contract. Each field is that of `head_of`: three are copied, and the calls give S, D and the DSN. The place is below
-- 64, so both arrays are read inside.
use Rattle.sending.proofs.Sends.{head_made}
use Rattle.sending.proofs.next_data.next_head.Goals as goal

pub returns : goal.returns
returns c =
    head_made _ _ _ _ c.is_first.ensures c.is_duplicate.ensures c.dsn_at.ensures
