-- `play_event`: the event's number says which call it is, and what the function of that call ensures is what the definition has after it.
use Rattle.std.proofs.Common.{ℕ, ◌+◌, List, get_or, sym, ap, ◌∙◌, rules}
use Rattle.session.specs.InOctets.{Receive}
use Rattle.batches.specs.Batches.{Single}
use Rattle.sessions.specs.Sessions.{Lent, Progress, progress}
use Rattle.sessions.proofs.Turns.{call_put, call_next, call_tick, call_offer, call_batch, call_receive, event_after}
use Rattle.sessions.proofs.play_event.Goals as goal

pub returns-in-0 : goal.returns-in-0
returns-in-0 c =
    let a = c.args in
    let l : Lent = record { table = a.table.now; template = a.id; octets = a.r.now; events = a.events.now } in
    let q : Progress = progress a.state.now a.store.now a.out.now a.total in
    event_after l a.at q _ _ (call_put l a.at a.out.now c.in-0.is) (c.put_record.ensures a.out.now)

pub returns-in-1 : goal.returns-in-1
returns-in-1 c =
    let a = c.args in
    let l : Lent = record { table = a.table.now; template = a.id; octets = a.r.now; events = a.events.now } in
    let q : Progress = progress a.state.now a.store.now a.out.now a.total in
    event_after l a.at q _ _ (call_next l a.at a.out.now c.in-1.is) c.send_next.ensures

pub returns-in-2 : goal.returns-in-2
returns-in-2 c =
    let a = c.args in
    let l : Lent = record { table = a.table.now; template = a.id; octets = a.r.now; events = a.events.now } in
    let q : Progress = progress a.state.now a.store.now a.out.now a.total in
    event_after l a.at q _ _ (call_tick l a.at a.out.now c.in-2.is) (c.tick.ensures a.store.now a.out.now)

pub returns-in-3 : goal.returns-in-3
returns-in-3 c =
    let a = c.args in
    let l : Lent = record { table = a.table.now; template = a.id; octets = a.r.now; events = a.events.now } in
    let q : Progress = progress a.state.now a.store.now a.out.now a.total in
    event_after l a.at q _ _ (call_offer l a.at a.out.now c.in-3.is) (c.offer.ensures a.store.now)

pub returns-in-4 : goal.returns-in-4
returns-in-4 c =
    let a = c.args in
    let l : Lent = record { table = a.table.now; template = a.id; octets = a.r.now; events = a.events.now } in
    let q : Progress = progress a.state.now a.store.now a.out.now a.total in
    event_after l a.at q _ _ (call_batch l a.at a.out.now c.in-4.is) c.send_batch.ensures

pub returns-in_default : goal.returns-in_default
returns-in_default c =
    let a = c.args in
    let l : Lent = record { table = a.table.now; template = a.id; octets = a.r.now; events = a.events.now } in
    let q : Progress = progress a.state.now a.store.now a.out.now a.total in
    event_after l a.at q _ _
    (call_receive l a.at a.out.now (search rules) (search rules) (search rules) (search rules) (search rules)
    ∙ ap (λ (m : List ℕ). Single (Receive (get_or a.events.now (a.at + 1) 0) m a.out.now)) (sym c.message_at.ensures))
    (c.receive.ensures a.store.now)
