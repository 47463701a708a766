-- `step_at` meets its contract: at a cursor, the step of a reader is the step from the cursor.
use Rattle.records.specs.Walk.{step_of}
use Rattle.records.proofs.WalkLaws.{told_same}
use Rattle.readers.proofs.reader.step_at.Goals as goal

pub returns : goal.returns
returns c = told_same (step_of c.args.t.now c.args.id c.args.r.now c.args.c) c.step.ensures.0.0
