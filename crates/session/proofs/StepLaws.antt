-- What a refused and an accepted step is.
use mathlib.Core.Path.{◌≡◌, refl, sym, ap, ◌∙◌}
use mathlib.Core.Bool.{Bool, true, false, not, false≢true}
use mathlib.Core.List.{List, [], ◌∷◌}
use Prim.Native.Nat.{ℕ, ◌≤◌}
use native.Mathlib.Omega.{arith}
use lib.Dec.{eqb}
use borrow.Author.Tests.{ne_eqb, eqb-true, eqb-false}
use Rattle.octets.specs.Answers.{Check, ◌when◌, judge, judged, refusal_number, refusal_of, done, unsound_state, Answered, answer_number}
use Rattle.octets.proofs.Judging.{numbered, judge_numbered, answered, judged_number, judged_err, judged_ok}
use Rattle.numbers.specs.declared.refusal.Refusal.{Refusal}
use Rattle.numbers.specs.declared.refusal.Refusal.TheVariants.{UnsoundState, NoSuchServer, ShortMessage, OtherVersion, LengthDiffers, OtherSession, MessageNotAccepted, BodyLengthWrong, OutOfTurn, OtherConfiguration, DsnNotAcknowledgeable}
use Rattle.numbers.specs.declared.refusal.Refusal.TheVariants.{OutputTooShort, NoActiveServer, NothingToSend, TemplateNotFound, RecordInvalid, RecordTooLong, QueueFull, StoreFull, SettingsOutsideLimits, UnsoundTable, UnsoundTape}
use Rattle.std.specs.Prelude.{Result, Ok, Err, is_ok}
use Rattle.octets.proofs.Stores.{cond_cases}
use Rattle.wire.specs.Replies.{silent, Encoding}
use Rattle.session.specs.Servers.{chosen, settle, changed}
use Rattle.session.specs.Steps.{Call, Outcome, step, answer, checks, sound_for, after, settled, store_after, written}
use Rattle.session.specs.declared.state.State.{State}
use Rattle.session.proofs.SoundFacts.{active_same}

-- where the active server is the one to be chosen, choosing changes nothing
pub settled_same : (s : State) → s.delivery.active ≡ chosen s.settings s.delivery → settled s ≡ s
unfolding settled settle changed
settled_same s e = rw (← e, active_same s.delivery.active)

-- ---- what a call answers

-- a value, where the number it is judged by is 0
pub answered_ok : {A : Type 0} {value expected : A} {n : ℕ} → n ≡ done → value ≡ expected
    → Answered answer_number (Ok value) (judged n expected) n
unfolding judged
answered_ok z e = rw (z, e) (record { same = refl; number = refl })

-- a refusal by a number, whatever the value would have been
pub answered_err : {A B : Type 0} {n : ℕ} (value : A) (expected : B) {refusal : Refusal} → n ≤ 22 → judged n value ≡ Err refusal
    → Answered answer_number (Err refusal) (judged n expected) n
answered_err {n = n} value expected l e = answered (judged_number n expected l) (sym (judged_err n value expected e))

-- a refusal stays it whatever the value would have been
pub answered_other : {A B : Type 0} {n : ℕ} (value : A) {refusal : Refusal} (other : B)
    → Answered answer_number (Err refusal) (judged n value) n → Answered answer_number (Err refusal) (judged n other) n
answered_other {n = n} value other a = record { same = sym (judged_err n value other (sym a.same)); number = a.number }

-- a part of the value, where it was answered
pub answered_part : {A B : Type 0} {n : ℕ} (value : A) {found : A} (part : A → B)
    → Answered answer_number (Ok found) (judged n value) n → Answered answer_number (Ok (part found)) (judged n (part value)) n
unfolding judged
answered_part {n = n} value part a =
    let z = judged_ok n value (sym a.same) in
    answered_ok z (ap part (same_ok (a.same ∙ ap (λ (k : ℕ). judged k value) z)))
  where
    same_ok : {A : Type 0} {x y : A} → ◌≡◌ {A = Result A Refusal} (Ok x) (Ok y) → x ≡ y
    same_ok e = cc

-- no refusal has the number 0
pub refused_number : {A : Type 0} {n : ℕ} (value : A) {refusal : Refusal} → judged n value ≡ Err refusal → n ≡ done → ⊥
unfolding judged
refused_number value e z = absurd (ok_err (sym (ap (λ (k : ℕ). judged k value) z) ∙ e))
  where
    ok_err : {A : Type 0} {x : A} {refusal : Refusal} → ◌≡◌ {A = Result A Refusal} (Ok x) (Err refusal) → ⊥
    ok_err k = false≢true (sym (ap is_ok k))

-- a refusal is what its number is judged
pub judged_refusal : {A : Type 0} (value : A) (r : Refusal) → judged (refusal_number r) value ≡ Err r
unfolding judged refusal_of
judged_refusal value UnsoundState = refl
judged_refusal value NoSuchServer = refl
judged_refusal value ShortMessage = refl
judged_refusal value OtherVersion = refl
judged_refusal value LengthDiffers = refl
judged_refusal value OtherSession = refl
judged_refusal value MessageNotAccepted = refl
judged_refusal value BodyLengthWrong = refl
judged_refusal value OutOfTurn = refl
judged_refusal value OtherConfiguration = refl
judged_refusal value DsnNotAcknowledgeable = refl
judged_refusal value OutputTooShort = refl
judged_refusal value NoActiveServer = refl
judged_refusal value NothingToSend = refl
judged_refusal value TemplateNotFound = refl
judged_refusal value RecordInvalid = refl
judged_refusal value RecordTooLong = refl
judged_refusal value QueueFull = refl
judged_refusal value StoreFull = refl
judged_refusal value SettingsOutsideLimits = refl
judged_refusal value UnsoundTable = refl
judged_refusal value UnsoundTape = refl

-- its number lies between 1 and 22
pub refusal_between : (r : Refusal) (test : Bool) → numbered 1 22 ((refusal_number r when test) ∷ []) ≡ true
refusal_between UnsoundState test = refl
refusal_between NoSuchServer test = refl
refusal_between ShortMessage test = refl
refusal_between OtherVersion test = refl
refusal_between LengthDiffers test = refl
refusal_between OtherSession test = refl
refusal_between MessageNotAccepted test = refl
refusal_between BodyLengthWrong test = refl
refusal_between OutOfTurn test = refl
refusal_between OtherConfiguration test = refl
refusal_between DsnNotAcknowledgeable test = refl
refusal_between OutputTooShort test = refl
refusal_between NoActiveServer test = refl
refusal_between NothingToSend test = refl
refusal_between TemplateNotFound test = refl
refusal_between RecordInvalid test = refl
refusal_between RecordTooLong test = refl
refusal_between QueueFull test = refl
refusal_between StoreFull test = refl
refusal_between SettingsOutsideLimits test = refl
refusal_between UnsoundTable test = refl
refusal_between UnsoundTape test = refl

-- ---- calls that are refused, and those that are not

module _ (enc : Encoding) (room : ℕ) (c : Call) (s : State) (store : List ℕ) where
  pub step_refused : (a : ℕ) → (a ≡ done → ⊥) → answer enc room c s store ≡ a
      → step enc room c s store ≡ record { answer = a; state = s; store = store; written = silent }
  unfolding step
  step_refused a h e = rw (e, ne_eqb a done h)

  pub step_done : answer enc room c s store ≡ done
      → step enc room c s store
      ≡ record {
        answer = done;
        state = settled (after enc.width c s);
        store = store_after c s store;
        written = written enc.width c s store;
      }
  unfolding step
  step_done e = rw e

  -- its answer is the number that it is judged by
  pub step_answer_lem : (step enc room c s store).answer ≡ answer enc room c s store
  unfolding step
  step_answer_lem =
      let a = answer enc room c s store in
      let w = enc.width in
      cond_cases (λ (o : Outcome). o.answer ≡ a) (eqb a done)
      (record { answer = done; state = settled (after w c s); store = store_after c s store; written = written w c s store })
      (record { answer = a; state = s; store = store; written = silent })
      (λ h. sym (eqb-true a done h))
      (λ h. refl)

  -- where the checks' numbers are those of refusals, so is the answer, or 0
  pub step_numbered : numbered 1 22 (checks enc room c s store) ≡ true → (step enc room c s store).answer ≤ 22
  unfolding answer
  step_numbered h = go (eqb (judge cs) done) refl
    where
      cs : List Check
      cs = (unsound_state when not (sound_for c s store)) ∷ checks enc room c s store

      go : (b : Bool) → eqb (judge cs) done ≡ b → (step enc room c s store).answer ≤ 22
      go true q = omega (arith, step_answer_lem, eqb-true (judge cs) done q)
      go false q = omega (arith, step_answer_lem, (judge_numbered 1 22 cs h (eqb-false (judge cs) done q)).1)

  -- a refused call leaves what came
  pub step_kept : {A : Type 0} (value : A) {refusal : Refusal} → judged (answer enc room c s store) value ≡ Err refusal
      → step enc room c s store ≡ record { answer = answer enc room c s store; state = s; store = store; written = silent }
  step_kept value e = step_refused (answer enc room c s store) (refused_number value e) refl

  -- and answers its refusal
  pub step_err : {A B : Type 0} (value : A) (expected : B) {refusal : Refusal} → numbered 1 22 (checks enc room c s store) ≡ true
      → judged (answer enc room c s store) value ≡ Err refusal
      → Answered answer_number (Err refusal) (judged (step enc room c s store).answer expected) (step enc room c s store).answer
  step_err value expected h e =
      answered_err value expected (step_numbered h) (ap (λ (k : ℕ). judged k value) step_answer_lem ∙ e)
