-- A refused step writes nothing, and an accepted one writes its call's message. 12 is among the refusals of every call that writes, so what
-- is written has room in the output.
use mathlib.Core.Path.{◌≡◌, refl}
use mathlib.Core.Bool.{not}
use mathlib.Core.List.{List, ◌∷◌}
use Prim.Native.Nat.{ℕ, ◌≤◌}
use native.Mathlib.Omega.{arith}
use borrow.Author.Tests.{ltb-false, eqb-true}
use lib.Dec.{eqb}
use lib.ListN.{length}
use Rattle.octets.specs.Answers.{Check, ◌when◌, done, unsound_state}
use Rattle.octets.proofs.Judging.{passed}
use Rattle.octets.proofs.Stores.{cond_cases}
use Rattle.wire.specs.Replies.{Reply, silent, message, Encoding, size_of, crane, layout}
use Rattle.session.specs.Servers.{start, stop, negotiate, offer, down, agree, malformed}
use Rattle.session.specs.Steps.{Call, put, next_data, tick, ack, move, answer, checks, sound_for, after, settled, store_after, written}
use Rattle.session.specs.Steps.{Outcome, step, octets_written}
use Rattle.session.specs.declared.state.State.{State}

-- a step whose call writes nothing where it is accepted writes nothing
pub writes_nothing : (enc : Encoding) (room : ℕ) (c : Call) (s : State) (store : List ℕ) → written enc.width c s store ≡ silent
    → (step enc room c s store).written ≡ silent
unfolding step
writes_nothing enc room c s store e =
    let a = answer enc room c s store in
    cond_cases (λ (o : Outcome). o.written ≡ silent) (eqb a done)
    (record {
      answer = done;
      state = settled (after enc.width c s);
      store = store_after c s store;
      written = written enc.width c s store;
    })
    (record { answer = a; state = s; store = store; written = silent })
    (λ h. e)
    (λ h. refl)

-- The checks of a call, 1 first.
abbrev all_checks : Encoding → ℕ → Call → State → List ℕ → List Check
all_checks enc room c s store = (unsound_state when not (sound_for c s store)) ∷ checks enc room c s store

-- an accepted call writes no more than the output has room for
accepted_fits : (enc : Encoding) (room : ℕ) (c : Call) (s : State) (store : List ℕ) → answer enc room c s store ≡ done
    → size_of enc (written enc.width c s store) ≤ room
unfolding answer checks written
accepted_fits enc room (put table id r) s store e = omega arith
accepted_fits enc room next_data s store e = let p = passed (all_checks enc room next_data s store) tt e in ltb-false _ _ p.1.1.1.0
accepted_fits enc room tick s store e = omega arith
accepted_fits enc room (ack v d config) s store e = omega arith
accepted_fits enc room (move v start) s store e =
    let p = passed (all_checks enc room (move v start) s store) tt e in
    ltb-false _ _ p.1.1.0
accepted_fits enc room (move v stop) s store e =
    let p = passed (all_checks enc room (move v stop) s store) tt e in
    ltb-false _ _ p.1.1.0
accepted_fits enc room (move v negotiate) s store e =
    let p = passed (all_checks enc room (move v negotiate) s store) tt e in
    ltb-false _ _ p.1.1.1.0
accepted_fits enc room (move v (offer table)) s store e =
    let p = passed (all_checks enc room (move v (offer table)) s store) tt e in
    ltb-false _ _ p.1.1.1.1.0
accepted_fits enc room (move v down) s store e = omega arith
accepted_fits enc room (move v (agree config)) s store e = omega arith
accepted_fits enc room (move v (malformed a)) s store e = omega arith

pub step_fits : (enc : Encoding) (room : ℕ) (c : Call) (s : State) (store : List ℕ) → size_of enc (step enc room c s store).written ≤ room
unfolding step
step_fits enc room c s store =
    let a = answer enc room c s store in
    cond_cases (λ (o : Outcome). size_of enc o.written ≤ room) (eqb a done)
    (record {
      answer = done;
      state = settled (after enc.width c s);
      store = store_after c s store;
      written = written enc.width c s store;
    })
    (record { answer = a; state = s; store = store; written = silent })
    (λ h. accepted_fits enc room c s store (eqb-true a done h))
    (λ h. omega arith)

-- in CRANE these are the octets
pub octets_sized : (r : Reply) → length (layout r) ≡ size_of crane r
octets_sized silent = refl
octets_sized (message m part) = refl

-- and so they have room
pub octets_fit_lem : (room : ℕ) (c : Call) (s : State) (store : List ℕ) → length (octets_written (step crane room c s store)) ≤ room
octets_fit_lem room c s store = rw (octets_sized (step crane room c s store).written) (step_fits crane room c s store)
