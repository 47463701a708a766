-- `record_start` meets its contract. The octets before the record end inside the store or reach past its end (laws `start_near` and
-- `start_far`).
use mathlib.Core.Path.{◌∙◌}
use native.Mathlib.Omega.{arith}
use Rattle.queue.proofs.Rings.{start_outside, start_near, start_far}
use Rattle.queue.proofs.record_start.Goals as goal

pub returns-then-capacity-start : goal.returns-then-capacity-start
returns-then-capacity-start c = start_outside _ _ _ _ c.if-capacity-start.true

pub returns-then-behind-rest : goal.returns-then-behind-rest
returns-then-behind-rest c =
    let z = c in
    start_near z.args.capacity z.args.start z.args.lengths.now z.args.i _ c.octets_to-behind.ensures (omega arith)
    c.if-behind-rest.true

pub returns : goal.returns
returns c =
    let z = c in
    c.wrapped.ensures
    ∙ start_far z.args.capacity z.args.start z.args.lengths.now z.args.i _ c.octets_to-behind.ensures
    (omega arith) c.if-behind-rest.false
