-- `keys_sound`: the answers to what its invariant leaves.
use mathlib.Core.Path.{refl, sym, ◌∙◌}
use borrow.Author.Rules.{rules}
use Rattle.octets.specs.Each.{every}
use Rattle.octets.proofs.Each.{every_false, every_step}
use Rattle.tables.proofs.table.keys_sound.Goals as goal

pub loop-k-init : goal.loop-k-init
unfolding every
loop-k-init c = refl

pub returns-then-not-key_sound : goal.returns-then-not-key_sound
returns-then-not-key_sound c =
    sym (every_false _ _ c.loop-k.k (search rules)
    (sym c.key_sound.ensures ∙ c.if-not-key_sound.true))

pub loop-k-preserved : goal.loop-k-preserved
loop-k-preserved c = every_step c.loop-k.k _ c.loop-k.invariant (sym c.key_sound.ensures ∙ c.if-not-key_sound.false)
