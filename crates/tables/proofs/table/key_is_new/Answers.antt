-- `key_is_new`: the answers to what its invariant leaves.
use mathlib.Core.Path.{refl, sym, ap, ◌∙◌}
use mathlib.Core.Bool.{not}
use borrow.Author.Tests.{eq-eqb, ne_eqb}
use Rattle.octets.specs.Each.{every}
use Rattle.octets.proofs.Each.{every_false, every_step}
use borrow.Author.Rules.{rules}
use Rattle.tables.proofs.table.key_is_new.Goals as goal

pub loop-j-init : goal.loop-j-init
unfolding every
loop-j-init c = refl

pub returns-then-key_id-id : goal.returns-then-key_id-id
returns-then-key_id-id c =
    let l = c.loop-j in
    sym (every_false _ _ l.j (search rules)
    (ap not (eq-eqb _ _ (sym c.key_id.ensures ∙ c.if-key_id-id.true ∙ c.key_id-id.ensures))))

pub loop-j-preserved : goal.loop-j-preserved
loop-j-preserved c =
    let l = c.loop-j in
    every_step l.j _ l.invariant (ap not (ne_eqb _ _ (λ e. c.if-key_id-id.false (c.key_id.ensures ∙ e ∙ sym c.key_id-id.ensures))))
