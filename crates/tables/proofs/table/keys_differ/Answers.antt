-- `keys_differ`: the answers to what its invariant leaves.
use mathlib.Core.Path.{refl, sym, ◌∙◌}
use Rattle.octets.specs.Each.{every}
use Rattle.octets.proofs.Each.{every_false, every_step}
use borrow.Author.Rules.{rules}
use Rattle.tables.proofs.table.keys_differ.Goals as goal

pub returns-then-keys_rise : goal.returns-then-keys_rise
returns-then-keys_rise c = sym (c.keys_rise.ensures c.if-keys_rise.true)

pub loop-k-init : goal.loop-k-init
unfolding every
loop-k-init c = refl

pub returns-then-not-key_is_new : goal.returns-then-not-key_is_new
returns-then-not-key_is_new c =
    let l = c.loop-k in
    sym (every_false _ _ l.k (search rules) (sym c.key_is_new.ensures ∙ c.if-not-key_is_new.true))

pub loop-k-preserved : goal.loop-k-preserved
loop-k-preserved c =
    let l = c.loop-k in
    every_step l.k _ l.invariant (sym c.key_is_new.ensures ∙ c.if-not-key_is_new.false)
