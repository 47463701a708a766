-- `check_body` meets its contract: by the number of the message its length is told, or a text or a record; a number without a row is
-- refused.
use mathlib.Core.Path.{refl, ◌∙◌}
use Rattle.octets.proofs.Judging.{tests}
use Rattle.ipdr.specs.Messages.{is_message, widths_of, is_counted}
use Rattle.ipdr.proofs.Messages.{judged_bare, judged_counted, judged_unknown}
use Rattle.ipdr_reading.proofs.read.check_body.Goals as goal

pub returns-in-1 : goal.returns-in-1
unfolding is_message widths_of is_counted
returns-in-1 c = rw c.in-1.is (c.check_length.ensures ∙ judged_bare 1 _ tt refl refl)

pub returns-in-3 : goal.returns-in-3
unfolding is_message widths_of is_counted
returns-in-3 c = rw c.in-3.is (c.check_counted.ensures ∙ judged_counted 3 _ tt refl refl)

pub returns-in-5 : goal.returns-in-5
unfolding is_message widths_of is_counted
returns-in-5 c = rw c.in-5.is (c.check_counted-in-5.ensures ∙ judged_counted 5 _ tt refl refl)

pub returns-in-6 : goal.returns-in-6
unfolding is_message widths_of is_counted
returns-in-6 c = rw c.in-6.is (c.check_counted-in-6.ensures ∙ judged_counted 6 _ tt refl refl)

pub returns-in-7 : goal.returns-in-7
unfolding is_message widths_of is_counted
returns-in-7 c = rw c.in-7.is (c.check_length-in-7.ensures ∙ judged_bare 7 _ tt refl refl)

pub returns-in-8 : goal.returns-in-8
unfolding is_message widths_of is_counted
returns-in-8 c = rw c.in-8.is (c.check_length-in-8.ensures ∙ judged_bare 8 _ tt refl refl)

pub returns-in-9 : goal.returns-in-9
unfolding is_message widths_of is_counted
returns-in-9 c = rw c.in-9.is (c.check_counted-in-9.ensures ∙ judged_counted 9 _ tt refl refl)

pub returns-in-32 : goal.returns-in-32
unfolding is_message widths_of is_counted
returns-in-32 c = rw c.in-32.is (c.check_counted-in-32.ensures ∙ judged_counted 32 _ tt refl refl)

pub returns-in-33 : goal.returns-in-33
unfolding is_message widths_of is_counted
returns-in-33 c = rw c.in-33.is (c.check_length-in-33.ensures ∙ judged_bare 33 _ tt refl refl)

pub returns-in-35 : goal.returns-in-35
unfolding is_message widths_of is_counted
returns-in-35 c = rw c.in-35.is (c.check_counted-in-35.ensures ∙ judged_counted 35 _ tt refl refl)

pub returns-in_default : goal.returns-in_default
unfolding is_message
returns-in_default c = judged_unknown _ _ tt (search tests)
