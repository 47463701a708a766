-- `message_at` meets its contract: the part has as many octets as its end is past its start. It lies within the event, whose last 16
-- octets hold any message.
use Rattle.std.proofs.Common.{◌≡◌, ℕ, ◌+◌, ◌-◌, ◌%◌, get_or, take, drop, ap, arith}
use Rattle.sessions.specs.Sessions.{message_at}
use Rattle.sessions.proofs.message_at.Goals as goal

pub returns : goal.returns
unfolding message_at
returns c =
    let a = c.args in
    let n = get_or a.events.now (a.at + 2) 0 % 17 in
    let e : a.at + 3 + n - (a.at + 3) ≡ n = omega arith in
    ap (λ (k : ℕ). take k (drop (a.at + 3) a.events.now)) e
