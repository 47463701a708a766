-- `tape_sound`: the fifth clause of the definition decides where the four before it hold, and one of these that fails decides.
use mathlib.Core.Path.{◌≡◌, refl, sym, ap, ◌∙◌}
use mathlib.Core.Bool.{Bool, true, false, ◌&&◌, false≢true}
use mathlib.Core.List.{List}
use Prim.Native.Nat.{ℕ}
use lib.ListN.{length}
use lib.Dec.{eqb, leb}
use Rattle.octets.specs.Each.{every}
use Rattle.contents.specs.Tape.{event_count, event_sound, body_at, tape_sound, max_tape_octets, min_events, max_events}
use Rattle.contents.proofs.Parts.{five_clauses}
use Rattle.contents.proofs.tape_sound.Goals as goal
use Rattle.contents.proofs.tape_sound.Goals.{then-sizes_fit, else-sizes_fit}

-- the length and a count of n events fit
abbrev sizes_fit : List ℕ → ℕ → Bool
sizes_fit t n = (leb (length t) max_tape_octets && leb min_events n) && leb n max_events

-- nothing follows the last of n bodies
abbrev end : List ℕ → ℕ → Bool
end t n = eqb (body_at t n) (length t)

-- what all five say, where the four before the last are judged
by_four : (t : List ℕ) (n : ℕ) (sizes events : Bool) → sizes_fit t n ≡ sizes → every n (event_sound t) ≡ events → n ≡ event_count t
    → tape_sound t ≡ (sizes && events) && end t n
unfolding tape_sound
by_four t n sizes events p q e =
    rw (← e) (five_clauses (leb (length t) max_tape_octets) (leb min_events n) (leb n max_events) (every n (event_sound t)) (end t n)
    ∙ ap (λ b. (b && every n (event_sound t)) && end t n) p
    ∙ ap (λ b. (sizes && b) && end t n) q)

pub returns-then-events_sound : goal.returns-then-events_sound
returns-then-events_sound c =
    let t = c.args.tape.now in
    elim c.if-sizes_fit.branch [
      | then-sizes_fit w ↦
          rw c.body_at.ensures
          (sym (by_four t _ true true w.if-sizes_fit.true (sym w.events_sound.ensures ∙ sym w.value-is ∙ c.if-events_sound.true)
          c.event_count-count.ensures))
      | else-sizes_fit w ↦ absurd (false≢true (sym w.if-sizes_fit.false ∙ sym w.value-is ∙ c.if-events_sound.true))
    ]

pub returns-else-events_sound : goal.returns-else-events_sound
returns-else-events_sound c =
    let t = c.args.tape.now in
    elim c.if-sizes_fit.branch [
      | then-sizes_fit w ↦
          c.if-events_sound.false
          ∙ sym (by_four t _ true false w.if-sizes_fit.true (sym w.events_sound.ensures ∙ sym w.value-is ∙ c.if-events_sound.false)
          c.event_count-count.ensures)
      | else-sizes_fit w ↦
          c.if-events_sound.false ∙ sym (by_four t _ false _ w.if-sizes_fit.false refl c.event_count-count.ensures)
    ]
