-- `count_fields` meets its contract. The loop's invariant: the fields counted and those that the walk has left are as many as the enabled
-- keys. A refused opening is answered; after it no step refuses; at the end nothing is left, nor after as many fields as a template has
-- keys.
use Rattle.readers.proofs.Counts.{Counting}
use Rattle.readers.proofs.reader.count_fields.Given as goal

abbrev pub invariant-loop-n : goal.invariant-loop-n
invariant-loop-n l = Counting l.t l.id l.r l.n l.c
