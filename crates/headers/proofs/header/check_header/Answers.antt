-- `check_header` meets its contract: each way out is the first check that holds, and octets read one by one make the numbers tested.
use mathlib.Core.List.{[], ◌∷◌}
use mathlib.Core.Path.{refl, ◌∙◌}
use native.Mathlib.Omega.{arith}
use lib.ListN.{length}
use borrow.Author.Tests.{lt-ltb, le-ltb, eq-eqb, ne_eqb}
use Rattle.octets.specs.Answers.{judged, refusal_of}
use Rattle.octets.proofs.Judging.{judged_answered}
use Rattle.octets.proofs.Numbers.{uint_one, uint_read}
use Rattle.headers.specs.Headers.{header_checks_for, header_answer_for}
use Rattle.headers.proofs.header.check_header.Goals as goal

pub returns-then-message-lt-HEADER_OCTETS : goal.returns-then-message-lt-HEADER_OCTETS
unfolding header_answer_for judged refusal_of
returns-then-message-lt-HEADER_OCTETS c =
    judged_answered tt (header_checks_for c.args.version c.args.message.now) refl (rw (lt-ltb _ _ c.if-message-lt-HEADER_OCTETS.true))

pub returns-then-message-version : goal.returns-then-message-version
unfolding header_answer_for judged refusal_of
returns-then-message-version c =
    let m = c.args.message.now in
    judged_answered tt (header_checks_for c.args.version m) refl
    (rw (le-ltb (length m) 8 (omega arith), uint_one m 0, ne_eqb _ _ c.if-message-version.true))

pub returns-then-len-message : goal.returns-then-len-message
unfolding header_answer_for judged refusal_of
returns-then-len-message c =
    let m = c.args.message.now in
    judged_answered tt (header_checks_for c.args.version m) refl
    (rw (
      le-ltb (length m) 8 (omega arith),
      uint_one m 0,
      eq-eqb _ _ c.if-message-version.false,
      ← (c.u32_of-len.ensures ∙ uint_read m 4 4 (4 ∷ 5 ∷ 6 ∷ 7 ∷ []) refl (refl, (refl, (refl, (refl, tt))))),
      ne_eqb _ _ c.if-len-message.true,
    ))

pub returns : goal.returns
unfolding header_answer_for judged refusal_of
returns c =
    let m = c.args.message.now in
    judged_answered tt (header_checks_for c.args.version m) refl
    (rw (
      le-ltb (length m) 8 (omega arith),
      uint_one m 0,
      eq-eqb _ _ c.if-message-version.false,
      ← (c.u32_of-len.ensures ∙ uint_read m 4 4 (4 ∷ 5 ∷ 6 ∷ 7 ∷ []) refl (refl, (refl, (refl, (refl, tt))))),
      eq-eqb _ _ c.if-len-message.false,
    ))
