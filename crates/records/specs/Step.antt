-- What a step of a walk answers.
use Rattle.std.specs.Prelude.{Option, Result}
use Rattle.numbers.specs.declared.refusal.Refusal.{Refusal}
use Rattle.records.specs.declared.walk.Field.{Field}
use Rattle.records.specs.declared.walk.Cursor.{Cursor}

-- A field and the cursor after it, none at the end, or what it is refused with.
abbrev pub StepOr : Type 0 → Type 0
StepOr E = Result (Option (Field × Cursor)) E

-- The same, refused with a refusal.
abbrev pub Step : Type 0
Step = StepOr Refusal
