-- `read_header` meets its contract: it answers what the header says where the header is not refused, and the refusal otherwise.
use native.Mathlib.Omega.{arith}
use Rattle.octets.specs.Answers.{judged}
use Rattle.octets.proofs.Numbers.{uint_one}
use Rattle.octets.proofs.Judging.{answered}
use Rattle.headers.specs.Headers.{header_reading_for}
use Rattle.headers.proofs.Headers.{header_number, checked, checked_long, handed_on}
use Rattle.headers.proofs.header.read_header.Goals as goal

pub returns-in_err-check_header : goal.returns-in_err-check_header
unfolding header_reading_for
returns-in_err-check_header c =
    answered (header_number _ _) (handed_on _ _ _ c.in_err-check_header.ensures c.from_residual.ensures.1)

pub bounds-message-2 : goal.bounds-message-2
bounds-message-2 c = let long = checked_long _ _ c.in_ok-check_header.ensures in omega arith

pub bounds-message-1 : goal.bounds-message-1
bounds-message-1 c = let long = checked_long _ _ c.in_ok-check_header.ensures in omega arith

pub returns : goal.returns
unfolding header_reading_for judged
returns c =
    let m = c.args.message.now in
    answered (header_number _ _) (rw (checked _ _ c.in_ok-check_header.ensures, uint_one m 1, uint_one m 2))
