-- What a transition is judged by, and what an accepted one leaves: the choice made anew of the servers that it moves.
use mathlib.Core.Path.{◌≡◌, refl}
use mathlib.Core.Bool.{true, false, not}
use mathlib.Core.List.{List, [], ◌∷◌}
use Prim.Native.Nat.{ℕ}
use lib.Dec.{leb}
use lib.ListN.{length}
use lib.Seq.{sets}
use Rattle.std.specs.Prelude.{Ok}
use Rattle.octets.specs.Answers.{Check, ◌when◌, judge, done, unsound_state, no_such_server, Answered, answer_number}
use Rattle.session.specs.Servers.{phase_at, with_servers, Transition, transition}
use Rattle.session.specs.Sound.{sound}
use Rattle.wire.specs.Replies.{Encoding, layout}
use Rattle.session.specs.Steps.{step, answer, checks, after, settled, written, move, reply_to, transition_checks, turn_checks}
use Rattle.session.specs.Steps.{output_after, wrote_of}
use Rattle.servers.specs.Changes.{applied_to, settled_change}
use Rattle.session.specs.declared.state.State.{State}
use Rattle.session.proofs.StepLaws.{step_done, answered_ok}

-- what a transition is judged before the output is looked at
abbrev pub early : State → ℕ → Transition → List Check
early s v t =
    (unsound_state when not (sound s))
    ∷ (no_such_server when leb s.settings.servers v)
    ∷ turn_checks s.settings t (phase_at s.delivery.servers v)

module _ (enc : Encoding) (room v : ℕ) (t : Transition) (s : State) where
  pub move_unsound : sound s ≡ false → answer enc room (move v t) s [] ≡ unsound_state
  unfolding answer
  move_unsound e = rw e

  pub move_unknown : sound s ≡ true → leb s.settings.servers v ≡ true → answer enc room (move v t) s [] ≡ no_such_server
  unfolding answer checks
  move_unknown e f = rw (e, f)

  pub move_judged : sound s ≡ true → leb s.settings.servers v ≡ false
      → answer enc room (move v t) s [] ≡ judge (transition_checks enc s.settings room t (phase_at s.delivery.servers v))
  unfolding answer checks
  move_judged e f = rw (e, f)

  -- an accepted transition's outcome
  pub moved : (out left : List ℕ) (n : ℕ) → answer enc room (move v t) s [] ≡ done
      → n ≡ length (layout (reply_to s.settings t))
      → left ≡ sets out 0 (layout (reply_to s.settings t))
      → let o = step enc room (move v t) s [] in
      let d = with_servers s.delivery (transition v t s.delivery.servers) in
      Answered answer_number (Ok (record { state = applied_to s (settled_change s.settings d s.due); written = n })) (wrote_of o) o.answer
      × (left ≡ output_after out o)
  unfolding after settled written
  moved out left n e k l = rw (step_done enc room (move v t) s [] e) (answered_ok refl (rw k refl), l)
