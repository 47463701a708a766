-- `value_of` meets its contract: each return is the case of the sort that the tests found. Any other sort is octets on both sides.
use Rattle.octets.proofs.Judging.{tests}
use Rattle.exports.specs.Numbers.{value_of}
use Rattle.exports.proofs.fields.value_of.Goals as goal

pub returns-then-sort-eq-NUMBER : goal.returns-then-sort-eq-NUMBER
unfolding value_of
returns-then-sort-eq-NUMBER c = search tests

pub returns-then-sort-eq-NEGATIVE : goal.returns-then-sort-eq-NEGATIVE
unfolding value_of
returns-then-sort-eq-NEGATIVE c = search tests

pub returns : goal.returns
unfolding value_of
returns c = search tests
