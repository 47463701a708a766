-- `id_is_new`: the answers to what its invariant leaves.
use mathlib.Core.Path.{refl, sym, ap, ◌∙◌}
use native.Mathlib.Omega.{arith}
use Prim.Native.Nat.{ℕ}
use mathlib.Core.Bool.{not}
use borrow.Author.Tests.{eq-eqb, ne_eqb}
use Rattle.octets.specs.Numbers.{uint_at}
use Rattle.octets.specs.Each.{every}
use Rattle.octets.proofs.Each.{every_false, every_step}
use Rattle.tables.specs.Table.{block_end, block_at}
use Rattle.tables.proofs.Tables.{block_at_more, block_near, block_in}
use borrow.Author.Rules.{rules}
use Rattle.tables.proofs.table.id_is_new.Goals as goal

pub loop-i-init : goal.loop-i-init
unfolding every block_at
loop-i-init c = (refl, refl)

pub u16_at-requires : goal.u16_at-requires
u16_at-requires c =
    omega (arith, block_in c.args.t.now c.args.n c.requires.1 c.loop-i.i c.loop-i-test.true)

pub returns-then-u16_at-id : goal.returns-then-u16_at-id
returns-then-u16_at-id c =
    let l = c.loop-i in
    let t = c.args.t.now in
    sym (every_false _ _ l.i (search rules)
    (ap not (eq-eqb _ _ (ap (λ (p : ℕ). uint_at t p 2) (sym l.invariant.0) ∙ sym c.u16_at.ensures ∙ c.if-u16_at-id.true))))

pub block_end-at-requires : goal.block_end-at-requires
block_end-at-requires c =
    let l = c.loop-i in (
      rw l.invariant.0 (block_near c.args.t.now c.args.n c.requires.0 c.requires.1 l.i (omega arith)),
      omega (arith, block_in c.args.t.now c.args.n c.requires.1 l.i c.loop-i-test.true),
    )

pub loop-i-preserved : goal.loop-i-preserved
loop-i-preserved c =
    let l = c.loop-i in
    let t = c.args.t.now in (
      c.block_end-at.ensures ∙ ap (block_end t) l.invariant.0 ∙ sym (block_at_more t l.i),
      every_step l.i _ l.invariant.1
          (ap not (ne_eqb _ _ (λ e. c.if-u16_at-id.false
          (c.u16_at.ensures ∙ ap (λ (p : ℕ). uint_at t p 2) l.invariant.0 ∙ e)))),
    )
