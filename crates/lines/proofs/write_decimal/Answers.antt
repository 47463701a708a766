-- `write_decimal` meets its contract: the tests on the way to each return say how many digits there are. They are stored from the first to
-- the last, each as the definition has it.
use Rattle.lines.proofs.Lines.{one_digit, two_digits, three_digits}
use Rattle.lines.proofs.write_decimal.Goals as goal

pub returns-then-n-lt10 : goal.returns-then-n-lt10
returns-then-n-lt10 c = one_digit _ _ _ _ c.if-n-lt10.true c.digit_of-ones.ensures

pub returns-then-n-lt100 : goal.returns-then-n-lt100
returns-then-n-lt100 c =
    two_digits _ _ _ _ _ c.if-n-lt10.false c.if-n-lt100.true c.digit_of-tens.ensures
    c.digit_of-ones.ensures

pub returns : goal.returns
returns c =
    three_digits _ _ _ _ _ _ c.if-n-lt100.false c.digit_of.ensures c.digit_of-tens.ensures
    c.digit_of-ones.ensures
