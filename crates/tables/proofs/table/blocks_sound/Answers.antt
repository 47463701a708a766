-- `blocks_sound`: the answers to what its invariant leaves.
use mathlib.Core.Path.{refl, sym, ap, ◌∙◌}
use native.Mathlib.Omega.{arith}
use Prim.Native.Nat.{ℕ}
use Rattle.octets.specs.Numbers.{uint_at}
use Rattle.octets.specs.Each.{every, absent}
use Rattle.octets.proofs.Each.{cond_same, every_false, every_step}
use Rattle.tables.specs.Table.{block_end, block_sound, block_at, id_at}
use Rattle.tables.proofs.Tables.{block_at_more, block_near, block_inside}
use borrow.Author.Rules.{rules}
use Rattle.tables.proofs.table.blocks_sound.Goals as goal

pub loop-i-init : goal.loop-i-init
unfolding every block_at
loop-i-init c = (refl, (refl, refl))

pub block_sound-requires : goal.block_sound-requires
block_sound-requires c =
    let l = c.loop-i in
    rw l.invariant.0 (block_near c.args.t.now l.i c.requires l.invariant.1.0 l.i (search rules))

pub returns-then-not-block_sound : goal.returns-then-not-block_sound
returns-then-not-block_sound c =
    let l = c.loop-i in
    let t = c.args.t.now in
    rw (every_false c.args.n (λ i. block_sound t (block_at t i)) l.i (search rules)
    (ap (block_sound t) (sym l.invariant.0) ∙ sym c.block_sound.ensures ∙ c.if-not-block_sound.true))

pub u16_at-requires : goal.u16_at-requires
u16_at-requires c =
    let l = c.loop-i in
    let t = c.args.t.now in
    omega (arith, block_inside t l.at (sym c.block_sound.ensures ∙ c.if-not-block_sound.false))

pub id_is_new-requires : goal.id_is_new-requires
id_is_new-requires c = (search rules, c.loop-i.invariant.1.0)

pub returns-then-not-id_is_new : goal.returns-then-not-id_is_new
returns-then-not-id_is_new c =
    let l = c.loop-i in
    let t = c.args.t.now in
    let id = c.u16_at.ensures ∙ ap (λ (p : ℕ). uint_at t p 2) l.invariant.0 in
    rw (
      every_false c.args.n (λ i. absent (id_at t) i (id_at t i)) l.i
          (search rules) (rw id at (sym c.id_is_new.ensures ∙ c.if-not-id_is_new.true)),
      cond_same,
    )

pub block_end-at-requires : goal.block_end-at-requires
block_end-at-requires c =
    let l = c.loop-i in (
      rw l.invariant.0 (block_near c.args.t.now l.i c.requires l.invariant.1.0 l.i (search rules)),
      block_inside c.args.t.now l.at
          (sym c.block_sound.ensures ∙ c.if-not-block_sound.false),
    )

pub loop-i-preserved : goal.loop-i-preserved
loop-i-preserved c =
    let l = c.loop-i in
    let t = c.args.t.now in
    let id = c.u16_at.ensures ∙ ap (λ (p : ℕ). uint_at t p 2) l.invariant.0 in (
      c.block_end-at.ensures ∙ ap (block_end t) l.invariant.0 ∙ sym (block_at_more t l.i),
      (
        every_step l.i _ l.invariant.1.0
            (ap (block_sound t) (sym l.invariant.0) ∙ sym c.block_sound.ensures
            ∙ c.if-not-block_sound.false),
        every_step l.i _ l.invariant.1.1
            (rw id at (sym c.id_is_new.ensures ∙ c.if-not-id_is_new.false)),
      ),
    )
