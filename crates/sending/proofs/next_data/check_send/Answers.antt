-- `check_send` meets its contract. The code makes the tests in the definition's order, 1 first, so each return follows from the tests on
-- the way to it.
use Rattle.std.proofs.Common.{◌≡◌, not, refl, sym, ◌∙◌, le-leb, rules}
use Rattle.std.specs.Prelude.{is_some}
use borrow.Author.Tests.{lt-leb}
use Rattle.octets.specs.Answers.{judged, refusal_of}
use Rattle.octets.proofs.Judging.{handed_on}
use Rattle.sending.proofs.Sends.{unusable, usable, nobody_by}
use Rattle.sending.proofs.next_data.check_send.Goals as goal

pub returns-in_err-check_usable : goal.returns-in_err-check_usable
returns-in_err-check_usable c =
    rw (handed_on c.from_residual.ensures.1) (unusable _ _ (sym c.check_usable.ensures ∙ c.in_err-check_usable.was))

pub returns-then-is_none : goal.returns-then-is_none
unfolding judged refusal_of
returns-then-is_none c =
    let a = c.args.s.now.delivery.active in
    let e : is_some a ≡ not c.is_none.result = search rules in
    rw (usable _ (sym c.check_usable.ensures ∙ c.in_ok-check_usable.was), nobody_by a c.is_none.result e c.if-is_none.true) refl

pub returns-then-s : goal.returns-then-s
unfolding judged refusal_of
returns-then-s c =
    let s = c.args.s.now in
    let e : is_some s.delivery.active ≡ not c.is_none.result = search rules in
    rw (
      usable _ (sym c.check_usable.ensures ∙ c.in_ok-check_usable.was),
      nobody_by s.delivery.active c.is_none.result e c.if-is_none.false,
      le-leb s.queue.count s.delivery.sent c.if-s.true,
    )
    refl

pub returns : goal.returns
unfolding judged
returns c =
    let s = c.args.s.now in
    let e : is_some s.delivery.active ≡ not c.is_none.result = search rules in
    rw (
      usable _ (sym c.check_usable.ensures ∙ c.in_ok-check_usable.was),
      nobody_by s.delivery.active c.is_none.result e c.if-is_none.false,
      lt-leb s.queue.count s.delivery.sent c.if-s.false,
    )
    refl
