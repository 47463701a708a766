-- `locate`: the answers to what its invariant leaves.
use mathlib.Core.Path.{◌≡◌, refl, sym, ap, ◌∙◌}
use native.Mathlib.Omega.{arith}
use Prim.Native.Nat.{ℕ, ◌+◌, ◌-◌, ◌≤◌, ◌<◌}
use lib.Dec.{eqb}
use borrow.Author.Tests.{eq-eqb, ne_eqb, le-leb, lt-leb}
use Rattle.octets.specs.Numbers.{uint_at}
use Rattle.octets.proofs.Each.{first_here, first_on, first_none}
use Rattle.tables.specs.Table.{block_end, block_at, id_at, template_count, template_index, locate_of}
use Rattle.tables.proofs.Tables.{block_at_more, block_near, block_in, table_facts, table_long}
use Rattle.tables.proofs.table.locate.Goals as goal

pub u16_at-count-requires : goal.u16_at-count-requires
u16_at-count-requires c =
    omega (arith, table_long c.args.t.now c.requires)

pub loop-i-init : goal.loop-i-init
unfolding template_index block_at
loop-i-init c =
    let e : c.u16_at-count.result - 0 ≡ template_count c.args.t.now = omega arith in
    (refl, rw e)

pub u16_at-requires : goal.u16_at-requires
u16_at-requires c =
    let f = table_facts c.args.t.now c.requires in
    omega (arith, block_in c.args.t.now (template_count c.args.t.now) f.blocks c.loop-i.i (omega arith))

pub template_at-requires : goal.template_at-requires
template_at-requires c =
    let l = c.loop-i in
    let f = table_facts c.args.t.now c.requires in (
      rw l.invariant.0 (block_near c.args.t.now (template_count c.args.t.now) f.short f.blocks l.i (omega arith)),
      omega (arith, block_in c.args.t.now (template_count c.args.t.now) f.blocks l.i (omega arith)),
    )

pub returns-then-u16_at-id : goal.returns-then-u16_at-id
unfolding locate_of
returns-then-u16_at-id c =
    let l = c.loop-i in
    let a = c.args in
    let t = a.t.now in
    let e : template_index t a.id ≡ l.i =
    sym l.invariant.1 ∙ first_here l.i (c.u16_at-count.result - l.i) (λ j. eqb (id_at t j) a.id)
    (omega arith) (eq-eqb _ _
    (ap (λ (p : ℕ). uint_at t p 2) (sym l.invariant.0) ∙ sym c.u16_at.ensures ∙ c.if-u16_at-id.true)) in
    let n : l.i < template_count t = omega arith in
    rw (e, lt-leb (template_count t) l.i n, c.template_at.ensures, l.invariant.0)

pub block_end-at-requires : goal.block_end-at-requires
block_end-at-requires c =
    let l = c.loop-i in
    let f = table_facts c.args.t.now c.requires in (
      rw l.invariant.0 (block_near c.args.t.now (template_count c.args.t.now) f.short f.blocks l.i (omega arith)),
      omega (arith, block_in c.args.t.now (template_count c.args.t.now) f.blocks l.i (omega arith)),
    )

pub loop-i-preserved : goal.loop-i-preserved
loop-i-preserved c =
    let l = c.loop-i in
    let a = c.args in
    let t = a.t.now in
    let count = c.u16_at-count.result in
    let k : count - (l.i + 1) ≡ count - l.i - 1 = omega arith in (
      c.block_end-at.ensures ∙ ap (block_end t) l.invariant.0 ∙ sym (block_at_more t l.i),
      rw k (sym (first_on l.i (count - l.i) (λ j. eqb (id_at t j) a.id) (omega arith)
          (ne_eqb _ _ (λ e. c.if-u16_at-id.false
          (c.u16_at.ensures ∙ ap (λ (p : ℕ). uint_at t p 2) l.invariant.0 ∙ e)))) ∙ l.invariant.1),
    )

pub returns : goal.returns
unfolding locate_of
returns c =
    let l = c.loop-i in
    let a = c.args in
    let t = a.t.now in
    let e : l.i ≡ template_index t a.id =
    sym (first_none l.i (c.u16_at-count.result - l.i) (λ j. eqb (id_at t j) a.id) (omega arith)) ∙ l.invariant.1 in
    let n : template_count t ≤ template_index t a.id = omega arith in
    rw (le-leb (template_count t) (template_index t a.id) n)
