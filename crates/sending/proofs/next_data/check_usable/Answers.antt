-- `check_usable` meets its contract: the test is the definition's.
use Rattle.std.proofs.Common.{refl}
use Rattle.octets.specs.Answers.{judged, refusal_of}
use Rattle.sending.proofs.next_data.check_usable.Goals as goal

pub returns-then-not-is_sound-stored : goal.returns-then-not-is_sound-stored
unfolding judged refusal_of
returns-then-not-is_sound-stored c = rw (← c.is_sound.ensures, c.if-not-is_sound-stored.true) refl

pub returns : goal.returns
unfolding judged
returns c = rw (← c.is_sound.ensures, c.if-not-is_sound-stored.false) refl
