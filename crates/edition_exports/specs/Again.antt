-- A message of either edition, read and written again, in the numbers that cross the boundary to C.
use Rattle.std.specs.Prelude.{ℕ, cond, List, eqb, Result, Ok, Err}
use Rattle.octets.specs.Answers.{refusal_number}
use Rattle.numbers.specs.declared.refusal.Refusal.{Refusal}
use Rattle.exports.specs.Numbers.{carried_number}
use Rattle.editions.specs.declared.edition.Edition.{Edition}
use Rattle.editions.specs.declared.edition.Edition.TheVariants as edition
use Rattle.editions.specs.declared.edition.Message.{Message}
use Rattle.editions.specs.Editions.{version_for, write_in, write_out_in}

-- The edition that a version stands for: CRANE for its own, IPDR/SP for any other.
abbrev pub edition_for : ℕ → Edition
edition_for version = cond (eqb version (version_for edition.Crane)) edition.Crane edition.Ipdr

-- A message that is read is written with its part: the number of what writing answers, or the reading's refusal.
abbrev pub read_again_number : List ℕ → List ℕ → Result Message Refusal → ℕ
read_again_number part out (Ok m) = carried_number (write_in m part out)
read_again_number part out (Err refusal) = refusal_number refusal

-- The output afterwards; where nothing is read, as it was.
abbrev pub read_again_out : List ℕ → List ℕ → Result Message Refusal → List ℕ
read_again_out part out (Ok m) = write_out_in m part out
read_again_out part out (Err refusal) = out
