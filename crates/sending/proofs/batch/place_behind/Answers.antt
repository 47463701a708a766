-- `place_behind` meets its contract. The place is less than two lengths of the store from its beginning, so that at most one is taken away.
use Rattle.std.proofs.Common.{◌+◌, ◌-◌, sym, ◌∙◌, mod-eq_of_lt, arith}
use Rattle.queue.proofs.Rings.{place_back}
use Rattle.sending.proofs.batch.place_behind.Goals as goal

pub returns-then-next-capacity : goal.returns-then-next-capacity
returns-then-next-capacity c =
    let a = c.args in
    sym (mod-eq_of_lt {n = a.at + a.n} {m = a.capacity} (omega arith))

pub returns : goal.returns
returns c =
    let a = c.args in
    sym (mod-eq_of_lt {n = a.at + a.n - a.capacity} {m = a.capacity} (omega arith))
    ∙ place_back (a.at + a.n) a.capacity (omega arith)
