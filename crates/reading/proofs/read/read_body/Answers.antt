-- `read_body` meets its contract: by the number of the message only the length of its body is left to judge, or its table, and a number
-- without a row is refused.
use mathlib.Core.Path.{refl, sym, ◌∙◌}
use Rattle.octets.proofs.Numbers.{uint_one}
use Rattle.octets.proofs.Stores.{take_rest}
use Rattle.octets.proofs.Judging.{tests}
use Rattle.messages.specs.Messages.{is_message, body_fits, meaning_of}
use Rattle.messages.proofs.Messages.{read_exact, read_least, read_table_lem, read_unknown}
use Rattle.reading.proofs.read.read_body.Goals as goal

pub returns-in-32 : goal.returns-in-32
unfolding is_message body_fits meaning_of
returns-in-32 c =
    let m = c.args.message.now in
    let e = uint_one m 1 ∙ c.in-32.is in
    c.read_data.ensures ∙ sym (read_least m 32 _ c.requires e (rw e) refl refl 8 (λ len. refl))

pub returns-in-1 : goal.returns-in-1
unfolding is_message body_fits meaning_of
returns-in-1 c =
    let m = c.args.message.now in
    let e = uint_one m 1 ∙ c.in-1.is in
    c.read_bare.ensures ∙ sym (read_exact m 1 _ c.requires e (rw (e, uint_one m 2)) refl refl 0 (λ len. refl))

pub returns-in-2 : goal.returns-in-2
unfolding is_message body_fits meaning_of
returns-in-2 c =
    let m = c.args.message.now in
    let e = uint_one m 1 ∙ c.in-2.is in
    c.read_start_ack.ensures ∙ sym (read_exact m 2 _ c.requires e (rw e) refl refl 4 (λ len. refl))

pub returns-in-3 : goal.returns-in-3
unfolding is_message body_fits meaning_of
returns-in-3 c =
    let m = c.args.message.now in
    let e = uint_one m 1 ∙ c.in-3.is in
    c.read_bare-in-3.ensures ∙ sym (read_exact m 3 _ c.requires e (rw (e, uint_one m 2)) refl refl 0 (λ len. refl))

pub returns-in-4 : goal.returns-in-4
unfolding is_message body_fits meaning_of
returns-in-4 c =
    let m = c.args.message.now in
    let e = uint_one m 1 ∙ c.in-4.is in
    c.read_bare-in-4.ensures ∙ sym (read_exact m 4 _ c.requires e (rw (e, uint_one m 2)) refl refl 0 (λ len. refl))

pub returns-in-19 : goal.returns-in-19
unfolding is_message body_fits meaning_of
returns-in-19 c =
    let m = c.args.message.now in
    let e = uint_one m 1 ∙ c.in-19.is in
    c.read_final_tmpl_data_ack.ensures ∙ sym (read_exact m 19 _ c.requires e (rw e) refl refl 4 (λ len. refl))

pub returns-in-24 : goal.returns-in-24
unfolding is_message body_fits meaning_of
returns-in-24 c =
    let m = c.args.message.now in
    let e = uint_one m 1 ∙ c.in-24.is in
    c.read_bare-in-24.ensures ∙ sym (read_exact m 24 _ c.requires e (rw (e, uint_one m 2)) refl refl 0 (λ len. refl))

pub returns-in-25 : goal.returns-in-25
unfolding is_message body_fits meaning_of
returns-in-25 c =
    let m = c.args.message.now in
    let e = uint_one m 1 ∙ c.in-25.is in
    c.read_bare-in-25.ensures ∙ sym (read_exact m 25 _ c.requires e (rw (e, uint_one m 2)) refl refl 0 (λ len. refl))

pub returns-in-33 : goal.returns-in-33
unfolding is_message body_fits meaning_of
returns-in-33 c =
    let m = c.args.message.now in
    let e = uint_one m 1 ∙ c.in-33.is in
    c.read_data_ack.ensures ∙ sym (read_exact m 33 _ c.requires e (rw e) refl refl 8 (λ len. refl))

pub returns-in-16 : goal.returns-in-16
returns-in-16 c =
    let m = c.args.message.now in
    rw (read_table_lem m c.requires (uint_one m 1 ∙ c.in-16.is), uint_one m 2, ← take_rest m 8) c.read_tmpl_data.ensures

pub returns-in_default : goal.returns-in_default
unfolding is_message
returns-in_default c =
    let m = c.args.message.now in
    sym (read_unknown m c.requires (rw (uint_one m 1) (search tests)))
