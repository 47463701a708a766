-- `read_message` meets its contract: the header's refusal is the message's; else what stands behind it is read by the message's number.
use mathlib.Core.Path.{sym, ap, ◌∙◌}
use Prim.Native.Nat.{ℕ}
use Rattle.octets.proofs.Judging.{answered}
use Rattle.headers.proofs.Headers.{checked}
use Rattle.ipdr.specs.Messages.{read_body}
use Rattle.ipdr.proofs.Messages.{read_handed_on, read_behind}
use Rattle.ipdr.proofs.RoundTrip.{reading_number}
use Rattle.ipdr_reading.proofs.read.read_message.Goals as goal

pub returns-in_err-check_header : goal.returns-in_err-check_header
returns-in_err-check_header c = answered (reading_number _) (read_handed_on _ c.in_err-check_header.ensures c.from_residual.ensures.1)

pub returns-then-number-eq-DATA : goal.returns-then-number-eq-DATA
returns-then-number-eq-DATA c =
    let m = c.args.message.now in
    let h = checked _ m c.in_ok-check_header.ensures in
    let n = sym c.if-number-eq-DATA.true ∙ c.get-number.ensures in
    answered (reading_number m) (c.read_data.ensures ∙ ap (λ (k : ℕ). read_body k m) n ∙ sym (read_behind m h))

pub returns : goal.returns
returns c =
    let m = c.args.message.now in
    let h = checked _ m c.in_ok-check_header.ensures in
    answered (reading_number m) (c.read_other.ensures ∙ ap (λ (k : ℕ). read_body k m) c.get-number.ensures ∙ sym (read_behind m h))
