-- `write_tmpl_data` meets its contract: only a sound table is written, which has at most 16,384 octets, and it follows the header.
use mathlib.Core.Bool.{not}
use mathlib.Core.Path.{refl, sym, ap, ◌∙◌}
use Prim.Native.Nat.{◌+◌}
use native.Mathlib.Omega.{arith}
use lib.ListN.{length}
use Rattle.octets.specs.Answers.{unsound_table, refusal_of}
use Rattle.octets.specs.Numbers.{octets_in}
use Rattle.messages.specs.Messages.{header_octets_of, message_of, tmpl_data, layout_of, write_answer}
use Rattle.messages.proofs.Messages.{header_put, placed_short, placed, allowed, refused, message_length}
use Rattle.octets.proofs.Stores.{put_then}
use Rattle.tables.proofs.Tables.{table_facts}
use Rattle.writing.proofs.write.write_tmpl_data.Goals as goal

pub returns-then-not-table_sound : goal.returns-then-not-table_sound
unfolding write_answer refusal_of
returns-then-not-table_sound c = refused _ _ _ unsound_table (λ z. omega arith) (rw (← c.table_sound.ensures, c.if-not-table_sound.true))

pub returns-then-out-len : goal.returns-then-out-len
unfolding layout_of
returns-then-out-len c =
    let a = c.args in
    let sound = ap not (sym c.table_sound.ensures ∙ c.if-not-table_sound.false) in
    allowed _ _ _ _ _ sound refl (placed_short _ _ (omega (arith, message_length tmpl_data a.session a.part.now)))

pub overflow_cast-len : goal.overflow_cast-len
overflow_cast-len c =
    let f = table_facts _ (sym c.table_sound.ensures ∙ c.if-not-table_sound.false) in
    omega (arith, f.short)

pub returns : goal.returns
unfolding layout_of message_of octets_in
returns c =
    let a = c.args in
    let part = a.part.now in
    let room = c.if-out-len.false in
    let sound =
    ap not (sym c.table_sound.ensures ∙ c.if-not-table_sound.false) in
    let header = header_octets_of tmpl_data a.session (8 + length part) in
    allowed _ _ _ _ _ sound refl
    (placed _ _ _ (8 + length part) (message_length tmpl_data a.session part) room
    (c.copy.ensures
    ∙ put_then a.out.now header part _ 8 (c.put_header.ensures ∙ header_put _ _ _ _ (omega arith)) refl room))
