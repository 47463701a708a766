-- `open_tape` meets its contract: whether the tape is sound and its settings were accepted choose the line, and whether events are left.
use Rattle.lines.specs.Lines.{line_of, tape_refused, line_octets}
use Rattle.lines.proofs.Lines.{printed_whole}
use lib.ListN.{length}
use mathlib.Core.List.{[]}
use mathlib.Core.Path.{refl, sym, ◌∙◌}
use native.Mathlib.Omega.{arith}
use borrow.Author.Tests.{eq-eqb, ne_eqb}
use Rattle.contents.specs.Tape.{body_of}
use Rattle.contents.proofs.Parts.{refused_unsound, done_sound}
use Rattle.events.specs.Events.{set_up_by}
use Rattle.tape.proofs.Turns.{open_turn, opened_state, ok_number, err_number, is_ok_number, is_err_number}
use Rattle.tape.proofs.replay.open_tape.Goals as goal

pub returns-then-is_err : goal.returns-then-is_err
returns-then-is_err c =
    let a = c.args in
    let t = a.tape.now in
    let unsound = refused_unsound t _ refl (is_err_number c.check_tape.result c.check_tape.ensures.number (sym c.is_err.ensures.value ∙ c.if-is_err.true)) in
    let l = printed_whole a.text.now tape_refused (length tape_refused) _ _ (omega arith) c.write_refused-len.ensures in
    open_turn t a.store.now _ (set_up_by (body_of t 0) (length a.store.now)).answer _ _ tape_refused _ _ _
    (opened_state t _ _ c.set_up-made.result _ _ c.body.ensures c.set_up-made.ensures c.refused_state.ensures c.unwrap_or-state.ensures)
    refl c.body_at-at.ensures (rw unsound refl) (rw unsound refl) l.0 l.1

pub returns-in-Ok : goal.returns-in-Ok
returns-in-Ok c =
    let a = c.args in
    let t = a.tape.now in
    let sound = done_sound t _ refl (is_ok_number c.check_tape.result c.check_tape.ensures.number (sym c.is_err.ensures.value ∙ c.if-is_err.false)) in
    let number = c.answer_number.ensures ∙ c.set_up-made.ensures.number in
    let accepted = ok_number (sym c.answer_number.ensures) c.in-Ok.is in
    let l = printed_whole a.text.now (line_of 0 c.answer_number.result []) (line_octets 0) _ _ (omega arith) c.write_line-len.ensures in
    open_turn t a.store.now _ c.answer_number.result _ _ (line_of 0 c.answer_number.result []) _ _ _
    (opened_state t _ _ c.set_up-made.result _ _ c.body.ensures c.set_up-made.ensures c.refused_state.ensures c.unwrap_or-state.ensures)
    (rw c.body.ensures at number) c.body_at-at.ensures (rw sound refl)
    (rw (sound, eq-eqb _ _ accepted) (c.saturating_sub-left.ensures ∙ rw c.event_count.ensures refl)) l.0 l.1

pub returns-in-Err : goal.returns-in-Err
returns-in-Err c =
    let a = c.args in
    let t = a.tape.now in
    let sound = done_sound t _ refl (is_ok_number c.check_tape.result c.check_tape.ensures.number (sym c.is_err.ensures.value ∙ c.if-is_err.false)) in
    let number = c.answer_number.ensures ∙ c.set_up-made.ensures.number in
    let refused = err_number (sym c.answer_number.ensures) c.in-Err.is in
    let l = printed_whole a.text.now (line_of 0 c.answer_number.result []) (line_octets 0) _ _ (omega arith) c.write_line-len.ensures in
    open_turn t a.store.now _ c.answer_number.result _ _ (line_of 0 c.answer_number.result []) _ _ _
    (opened_state t _ _ c.set_up-made.result _ _ c.body.ensures c.set_up-made.ensures c.refused_state.ensures c.unwrap_or-state.ensures)
    (rw c.body.ensures at number) c.body_at-at.ensures (rw sound refl) (rw (sound, ne_eqb _ _ refused) refl) l.0 l.1
