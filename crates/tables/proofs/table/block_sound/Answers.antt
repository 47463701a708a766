-- `block_sound` meets its contract: head, padding, keys and their IDs are judged in the definition's order, and the first that fails
-- decides. A sound head says that the key blocks lie within the table.
use mathlib.Core.Path.{sym, ◌∙◌}
use native.Mathlib.Omega.{arith}
use Rattle.tables.specs.Table.{block_end, template_at, block_sound}
use Rattle.octets.proofs.Each.{clause_last}
use Rattle.tables.proofs.Tables.{head_facts}
use borrow.Author.Rules.{rules}
use Rattle.tables.proofs.table.block_sound.Goals as goal

pub returns-then-not-head_sound : goal.returns-then-not-head_sound
unfolding block_sound
returns-then-not-head_sound c = rw (sym c.head_sound.ensures ∙ c.if-not-head_sound.true)

pub padding_sound-requires : goal.padding_sound-requires
unfolding block_end
padding_sound-requires c =
    let a = c.args in
    let h = head_facts a.t.now a.at (sym c.head_sound.ensures ∙ c.if-not-head_sound.false) in
    (search rules, omega (arith, h.within))

pub returns-then-not-padding_sound : goal.returns-then-not-padding_sound
unfolding block_sound
returns-then-not-padding_sound c =
    rw (
      sym c.head_sound.ensures ∙ c.if-not-head_sound.false,
      sym c.padding_sound.ensures ∙ c.if-not-padding_sound.true,
    )

pub template_at-template-requires : goal.template_at-template-requires
unfolding block_end
template_at-template-requires c =
    let a = c.args in
    let h =
    head_facts a.t.now a.at
    (sym c.head_sound.ensures ∙ c.if-not-head_sound.false) in
    (search rules, omega (arith, h.within))

pub keys_sound-requires : goal.keys_sound-requires
unfolding block_end template_at
keys_sound-requires c =
    let a = c.args in
    let h =
    head_facts a.t.now a.at
    (sym c.head_sound.ensures ∙ c.if-not-head_sound.false) in
    rw c.template_at-template.ensures (omega (arith, h.within), h.few)

pub returns-then-not-keys_sound : goal.returns-then-not-keys_sound
unfolding block_sound template_at
returns-then-not-keys_sound c =
    rw (
      sym c.head_sound.ensures ∙ c.if-not-head_sound.false,
      sym c.padding_sound.ensures ∙ c.if-not-padding_sound.false,
      sym (rw c.template_at-template.ensures at c.keys_sound.ensures) ∙ c.if-not-keys_sound.true,
    )

pub keys_differ-requires : goal.keys_differ-requires
unfolding block_end template_at
keys_differ-requires c =
    let a = c.args in
    let h = head_facts a.t.now a.at (sym c.head_sound.ensures ∙ c.if-not-head_sound.false) in
    rw c.template_at-template.ensures (omega (arith, h.within), h.few)

pub returns : goal.returns
unfolding block_sound template_at
returns c =
    rw (
      sym c.head_sound.ensures ∙ c.if-not-head_sound.false,
      sym c.padding_sound.ensures ∙ c.if-not-padding_sound.false,
      sym (rw c.template_at-template.ensures at c.keys_sound.ensures) ∙ c.if-not-keys_sound.false,
    )
    (rw c.template_at-template.ensures at c.keys_differ.ensures ∙ sym (clause_last _))
