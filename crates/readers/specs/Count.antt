-- How many fields a record has.
use Rattle.std.specs.Prelude.{ℕ, List, length, Result}
use Rattle.octets.specs.Answers.{judged}
use Rattle.numbers.specs.declared.refusal.Refusal.{Refusal}
use Rattle.tables.specs.Table.{template_of}
use Rattle.records.specs.Record.{record_answer}
use Rattle.records.specs.Walk.{enabled_keys}

-- How many fields a record has: a valid one has the fields of the enabled keys, one each. It is judged like opening, 21, 15, 16.
unfoldable pub count_of : List ℕ → ℕ → List ℕ → Result ℕ Refusal
count_of t id r = judged (record_answer t id r) (length (enabled_keys t (template_of t id)))
