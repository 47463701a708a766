-- `fields_valid`: the answers to what its invariant leaves.
use mathlib.Core.Path.{◌≡◌, refl, sym, ap, ◌∙◌}
use native.Mathlib.Omega.{arith}
use Rattle.octets.specs.Each.{every}
use Rattle.octets.proofs.Each.{every_false, every_step}
use Rattle.tables.specs.Table.{key_at, is_enabled}
use Rattle.records.specs.Record.{length_under, field_at, field_valid, record_valid}
use Rattle.records.proofs.Records.{valid_field, invalid_field, field_at_more, under_within}
use borrow.Author.Rules.{rules}
use Rattle.records.proofs.record.fields_valid.Goals as goal

pub loop-k-init : goal.loop-k-init
unfolding every field_at
loop-k-init c = (search rules, (refl, refl))

pub returns-then-is_enabled-n : goal.returns-then-is_enabled-n
unfolding record_valid
returns-then-is_enabled-n c =
    let l = c.loop-k in
    let a = c.args in
    let t = a.t.now in
    let r = a.r.now in
    let n = c.length_under-n.ensures ∙ ap (length_under t a.m r l.k) l.invariant.1.0 in
    rw (every_false a.m.count (field_valid t a.m r) l.k (search rules)
    (invalid_field (is_enabled t (key_at a.m.keys l.k)) (length_under t a.m r l.k (field_at t a.m r l.k))
    (rw (c.is_enabled.ensures, n) at c.if-is_enabled-n.true)))

pub overflow_add-at : goal.overflow_add-at
overflow_add-at c =
    let l = c.loop-k in
    let a = c.args in
    omega (arith, under_within a.t.now a.m a.r.now l.k l.at)

pub loop-k-preserved : goal.loop-k-preserved
loop-k-preserved c =
    let l = c.loop-k in
    let a = c.args in
    let t = a.t.now in
    let r = a.r.now in
    let n = c.length_under-n.ensures ∙ ap (length_under t a.m r l.k) l.invariant.1.0 in (
      omega (arith, under_within t a.m r l.k l.at),
      (
        rw (n, l.invariant.1.0) (sym (field_at_more t a.m r l.k)),
        every_step l.k (field_valid t a.m r) l.invariant.1.1
            (valid_field (is_enabled t (key_at a.m.keys l.k)) (length_under t a.m r l.k (field_at t a.m r l.k))
            (rw (c.is_enabled.ensures, n) at c.if-is_enabled-n.false)),
      ),
    )

pub returns : goal.returns
unfolding record_valid
returns c =
    let l = c.loop-k in
    let e : l.k ≡ c.args.m.count = omega arith in
    rw (rw e at l.invariant.1.1) (rw (l.invariant.1.0, e))
