-- The output's length is judged behind all other refusals of a transition, so it decides where those pass. A message that is written is
-- placed whole, or the output stays as it was.
use mathlib.Core.Path.{◌≡◌, refl, sym, ap, ◌∙◌}
use mathlib.Core.Bool.{Bool, true, false, cond, not, ◌&&◌}
use mathlib.Core.List.{List, [], ◌∷◌, ◌++◌}
use Prim.Native.Nat.{ℕ, ◌≤◌, ◌<◌}
use native.Mathlib.Omega.{arith}
use borrow.Author.Tests.{le-ltb, ltb-true, ltb-false, not-false}
use lib.Dec.{eqb, leb, ltb}
use lib.ListN.{length}
use lib.Seq.{sets}
use Rattle.octets.specs.Answers.{◌when◌, judge, judged, refusal_of, done, output_too_short, Answered, answer_number}
use Rattle.octets.specs.Numbers.{put_at}
use Rattle.octets.proofs.Judging.{numbered, passed, judged_first, judged_next}
use Rattle.octets.proofs.Stores.{put_fits, put_short}
use Rattle.wire.specs.Table.{table_sound, configuration_id}
use Rattle.wire.specs.Replies.{crane, layout}
use Rattle.wire.specs.Messages.{Placed, is_tmpl_data, is_data, layout_of, write_of, write_out}
use Rattle.messages.specs.declared.message.Message.{Message}
use Rattle.messages.specs.declared.message.Message.TheVariants.{StartAck, StopAck, StartNegotiateAck, TmplData}
use Rattle.wire.proofs.Messages.{allowed, placed}
use Rattle.octets.proofs.Each.{and_left}
use Rattle.session.specs.Servers.{phase_at, transition, Transition, start, stop, negotiate, offer, down, agree, malformed}
use Rattle.session.specs.Steps.{move, step, checks, answer, reply_to, transition_checks, is_sessions, turn_checks, wrote_of, output_after}
use Rattle.session.specs.Sound.{sound}
use Rattle.session.specs.declared.state.State.{State}
use Rattle.transitions.proofs.Changes.{early, move_unsound, move_unknown, move_judged}
use Rattle.session.proofs.StepLaws.{step_err, step_kept, refusal_between, refused_number}
use Rattle.std.specs.Prelude.{Option, Some, None, Result, Ok, Err}
use Rattle.numbers.specs.declared.refusal.Refusal.{Refusal}
use Rattle.numbers.specs.declared.refusal.Refusal.TheVariants.{OutputTooShort}
use Rattle.transitions.specs.Moves.{transition_of, table_fits, reply_of}
use Rattle.transitions.specs.declared.transition.Move.{Move}
use Rattle.transitions.specs.declared.transition.Move.TheVariants as code
use Rattle.session.specs.declared.state.Server as server_of
use Rattle.session.specs.declared.state.Phase.{Phase}
use Rattle.session.specs.declared.state.Settings.{Settings}

-- ---- refusals

-- no output is shorter than no octets
none_short : (room : ℕ) → ltb room 0 ≡ false
none_short room = le-ltb room 0 (omega arith)

module _ (p : Settings) (room : ℕ) (phase : Phase) where
  -- the output's length is judged last
  room_last : (t : Transition)
      → judge (transition_checks crane p room t phase)
      ≡ judge (turn_checks p t phase ++ ((output_too_short when ltb room (length (layout (reply_to p t)))) ∷ []))
  room_last start = refl
  room_last stop = refl
  room_last negotiate = refl
  room_last (offer table) = refl
  room_last down = rw none_short
  room_last (agree config) = rw none_short
  room_last (malformed a) = refl

  -- a refusal but for the output's length stays
  pub turn_refused : (t : Transition) → (judge (turn_checks p t phase) ≡ done → ⊥)
      → judge (transition_checks crane p room t phase) ≡ judge (turn_checks p t phase)
  turn_refused t h =
      room_last t ∙ judged_first (turn_checks p t phase) ((output_too_short when ltb room (length (layout (reply_to p t)))) ∷ []) h

  -- where there is none, the output's length decides
  pub turn_passed : (t : Transition) → judge (turn_checks p t phase) ≡ done
      → judge (transition_checks crane p room t phase) ≡ cond (ltb room (length (layout (reply_to p t)))) output_too_short done
  turn_passed start e = refl
  turn_passed stop e = refl
  turn_passed negotiate e =
      judged_next (turn_checks p negotiate phase) ((output_too_short when ltb room (length (layout (reply_to p negotiate)))) ∷ []) tt e
  turn_passed (offer table) e =
      judged_next (turn_checks p (offer table) phase) ((output_too_short when ltb room (length (layout (reply_to p (offer table))))) ∷ []) tt e
  turn_passed down e = rw none_short
  turn_passed (agree config) e = rw none_short e
  turn_passed (malformed a) e = rw none_short e

-- a transition that is not refused writes a sound table, if it writes one
table_passed : (p : Settings) (phase : Phase) (t : Transition) → judge (turn_checks p t phase) ≡ done → table_fits t ≡ true
table_passed p phase start e = refl
table_passed p phase stop e = refl
table_passed p phase negotiate e = refl
table_passed p phase (offer table) e =
    and_left (table_sound table) (eqb (configuration_id table) p.config)
    (not-false (is_sessions p table) (passed (turn_checks p (offer table) phase) tt e).0)
table_passed p phase down e = refl
table_passed p phase (agree config) e = refl
table_passed p phase (malformed a) e = refl

-- ---- what is written

-- a message that no rule but the room's refuses is placed
written_placed : (m : Message) (part out : List ℕ) (answer : Result ℕ Refusal) (after : List ℕ)
    → (is_tmpl_data m && not (table_sound part)) ≡ false
    → (is_data m && ltb 1024 (length part)) ≡ false
    → (answer ≡ write_of m part out) × (after ≡ write_out m part out)
    → Placed (layout_of m part) out answer after
written_placed m part out answer after t d w =
    let octets = layout_of m part in
    let q =
    allowed m part out (cond (ltb (length out) (length octets)) (Err OutputTooShort) (Ok (length octets)))
    (put_at out 0 octets) t d (record { answered = refl; left = refl }) in
    record { answered = w.0 ∙ sym q.0; left = w.1 ∙ sym q.1 }

-- no octets
none_placed : (out : List ℕ) → Placed [] out (Ok 0) out
none_placed out = record { answered = rw none_short refl; left = (placed [] out out 0 refl (omega arith) refl).left }

-- the message that a transition writes is placed; its table is sound where it is one
pub reply_placed : (p : Settings) (table out : List ℕ) (move : Move) (r : Option Message) (m : Message) (answer : Result ℕ Refusal) (after : List ℕ)
    → r ≡ reply_of p move → r ≡ Some m → table_fits (transition_of table move) ≡ true
    → (answer ≡ write_of m table out) × (after ≡ write_out m table out)
    → Placed (layout (reply_to p (transition_of table move))) out answer after
unfolding layout_of
reply_placed p table out code.Start r m answer after e k f w =
    let q : m ≡ StartAck p.session p.boot = cc in
    written_placed (StartAck p.session p.boot) table out answer after refl refl (rw q at w)
reply_placed p table out code.Stop r m answer after e k f w =
    let q : m ≡ StopAck p.session = cc in written_placed (StopAck p.session) table out answer after refl refl (rw q at w)
reply_placed p table out code.Negotiate r m answer after e k f w =
    let q : m ≡ StartNegotiateAck p.session = cc in
    written_placed (StartNegotiateAck p.session) table out answer after refl refl (rw q at w)
reply_placed p table out code.Offer r m answer after e k f w =
    let q : m ≡ TmplData p.session = cc in written_placed (TmplData p.session) table out answer after (ap not f) refl (rw q at w)
reply_placed p table out code.Down r m answer after e k f w = let z : ◌≡◌ {A = ℕ} 0 1 = cc in absurd (omega arith)
reply_placed p table out (code.Agree config) r m answer after e k f w = let z : ◌≡◌ {A = ℕ} 0 1 = cc in absurd (omega arith)
reply_placed p table out (code.Malformed a) r m answer after e k f w = let z : ◌≡◌ {A = ℕ} 0 1 = cc in absurd (omega arith)

-- one that writes no message places no octets
pub reply_none : (p : Settings) (table out : List ℕ) (move : Move) (r : Option Message) → r ≡ reply_of p move → r ≡ None
    → Placed (layout (reply_to p (transition_of table move))) out (Ok 0) out
reply_none p table out code.Start r e k = let z : ◌≡◌ {A = ℕ} 0 1 = cc in absurd (omega arith)
reply_none p table out code.Stop r e k = let z : ◌≡◌ {A = ℕ} 0 1 = cc in absurd (omega arith)
reply_none p table out code.Negotiate r e k = let z : ◌≡◌ {A = ℕ} 0 1 = cc in absurd (omega arith)
reply_none p table out code.Offer r e k = let z : ◌≡◌ {A = ℕ} 0 1 = cc in absurd (omega arith)
reply_none p table out code.Down r e k = none_placed out
reply_none p table out (code.Agree config) r e k = none_placed out
reply_none p table out (code.Malformed a) r e k = none_placed out

-- octets that were written, and those that were not
pub record Fitted (octets out : List ℕ) (n : ℕ) (after : List ℕ) : Type 0 where
  pub fits : ltb (length out) (length octets) ≡ false
  pub many : n ≡ length octets
  pub left : after ≡ sets out 0 octets

pub record Unfitted (octets out : List ℕ) (r : Refusal) (after : List ℕ) : Type 0 where
  pub short : ltb (length out) (length octets) ≡ true
  pub number : r ≡ OutputTooShort
  pub left : after ≡ out

octets_told : (short : Bool) (n k : ℕ) → ◌≡◌ {A = Result ℕ Refusal} (Ok n) (cond short (Err OutputTooShort) (Ok k))
    → (short ≡ false) × (n ≡ k)
octets_told true n k e = let z : ◌≡◌ {A = ℕ} 0 1 = cc in absurd (omega arith)
octets_told false n k e = (refl, cc)

refused_told : (short : Bool) (r : Refusal) (k : ℕ) → ◌≡◌ {A = Result ℕ Refusal} (Err r) (cond short (Err OutputTooShort) (Ok k))
    → (short ≡ true) × (r ≡ OutputTooShort)
refused_told true r k e = (refl, cc)
refused_told false r k e = let z : ◌≡◌ {A = ℕ} 0 1 = cc in absurd (omega arith)

pub fitted : (octets out : List ℕ) (a : Result ℕ Refusal) (n : ℕ) (after : List ℕ) → Placed octets out a after → a ≡ Ok n
    → Fitted octets out n after
fitted octets out a n after p e =
    let q = octets_told (ltb (length out) (length octets)) n (length octets) (sym e ∙ p.answered) in
    let l : length octets ≤ length out = ltb-false (length out) (length octets) q.0 in
    record { fits = q.0; many = q.1; left = p.left ∙ put_fits out 0 octets (omega arith) }

pub unfitted : (octets out : List ℕ) (a : Result ℕ Refusal) (r : Refusal) (after : List ℕ) → Placed octets out a after → a ≡ Err r
    → Unfitted octets out r after
unfitted octets out a r after p e =
    let q = refused_told (ltb (length out) (length octets)) r (length octets) (sym e ∙ p.answered) in
    let l : length out < length octets = ltb-true (length out) (length octets) q.0 in
    record { short = q.0; number = q.1; left = p.left ∙ put_short out 0 octets (omega arith) }

-- ---- the answer to a transition of a server that there is

module _ (room v : ℕ) (t : Transition) (s : State) (a : ℕ)
    (e : sound s ≡ true) (k : leb s.settings.servers v ≡ false)
    (q : a ≡ judge (turn_checks s.settings t (phase_at s.delivery.servers v))) where
  -- refused, but not for the output's length
  pub move_refused : (a ≡ done → ⊥) → answer crane room (move v t) s [] ≡ a
  move_refused h =
      move_judged crane room v t s e k ∙ turn_refused s.settings room (phase_at s.delivery.servers v) t (λ z. h (q ∙ z)) ∙ sym q

  -- not refused so far: the output's length decides
  pub move_roomed : a ≡ done → (short : Bool) → ltb room (length (layout (reply_to s.settings t))) ≡ short
      → answer crane room (move v t) s [] ≡ cond short output_too_short done
  move_roomed z short h =
      move_judged crane room v t s e k
      ∙ turn_passed s.settings room (phase_at s.delivery.servers v) t (sym q ∙ z)
      ∙ ap (λ (b : Bool). cond b output_too_short done) h

-- each number that a transition's checks have is a refusal's
move_numbered : (p : Settings) (room v : ℕ) (m : Move) (table : List ℕ) (s : State)
    → numbered 1 22 (checks crane room (move v (transition_of table m)) s []) ≡ true
unfolding checks
move_numbered p room v code.Start table s = refl
move_numbered p room v code.Stop table s = refl
move_numbered p room v code.Negotiate table s = refl
move_numbered p room v code.Offer table s = refl
move_numbered p room v code.Down table s = refl
move_numbered p room v (code.Agree config) table s = refl
move_numbered p room v (code.Malformed r) table s = refusal_between r true

module _ (room v : ℕ) (t : Transition) (s : State) where
  -- a refusal before the output is looked at is the call's
  early_refused : (judge (early s v t) ≡ done → ⊥) → answer crane room (move v t) s [] ≡ judge (early s v t)
  early_refused h = go (sound s) (leb s.settings.servers v) refl refl h
    where
      go : (a b : Bool) → sound s ≡ a → leb s.settings.servers v ≡ b → (judge (early s v t) ≡ done → ⊥)
          → answer crane room (move v t) s [] ≡ judge (early s v t)
      go false b e f h = rw e (move_unsound crane room v t s e)
      go true true e f h = rw (e, f) (move_unknown crane room v t s e f)
      go true false e f h = rw (e, f) (move_refused room v t s (judge (turn_checks s.settings t (phase_at s.delivery.servers v))) e f refl (rw (e, f) at h))

  -- where there is none, a sound table is offered
  early_passed : judge (early s v t) ≡ done
      → (sound s ≡ true) × ((leb s.settings.servers v ≡ false) × (judge (turn_checks s.settings t (phase_at s.delivery.servers v)) ≡ done))
  early_passed e = go (sound s) (leb s.settings.servers v) e refl refl
    where
      rest : ℕ
      rest = judge (turn_checks s.settings t (phase_at s.delivery.servers v))

      go : (a b : Bool) → cond (not a) 1 (cond b 2 rest) ≡ done → sound s ≡ a → leb s.settings.servers v ≡ b
          → (sound s ≡ true) × ((leb s.settings.servers v ≡ false) × (rest ≡ done))
      go false b k e f = absurd (omega (arith, k))
      go true true k e f = absurd (omega (arith, k))
      go true false k e f = (e, (f, k))

  pub early_fits : judge (early s v t) ≡ done → table_fits t ≡ true
  early_fits e = table_passed s.settings (phase_at s.delivery.servers v) t (early_passed e).1.1

  -- and the output's length decides
  pub early_roomed : judge (early s v t) ≡ done → (short : Bool) → ltb room (length (layout (reply_to s.settings t))) ≡ short
      → answer crane room (move v t) s [] ≡ cond short output_too_short done
  early_roomed e short h = let p = early_passed e in move_roomed room v t s _ p.0 p.1.0 refl p.1.1 short h

module _ (v : ℕ) (m : Move) (table out : List ℕ) (s : State) where
  -- a refused transition leaves the output as it was
  move_left : {refusal : Refusal} → judged (answer crane (length out) (move v (transition_of table m)) s []) (tt {0}) ≡ Err refusal
      → let o = step crane (length out) (move v (transition_of table m)) s [] in
      Answered answer_number (Err refusal) (wrote_of o) o.answer × (out ≡ output_after out o)
  move_left e =
      let t = transition_of table m in (
        step_err crane (length out) (move v t) s [] (tt {0}) _ (move_numbered s.settings (length out) v m table s) e,
        sym (ap (output_after out) (step_kept crane (length out) (move v t) s [] (tt {0}) e)),
      )

  -- refused before the output is looked at
  pub move_err : {refusal : Refusal} → judged (judge (early s v (transition_of table m))) (tt {0}) ≡ Err refusal
      → let o = step crane (length out) (move v (transition_of table m)) s [] in
      Answered answer_number (Err refusal) (wrote_of o) o.answer × (out ≡ output_after out o)
  move_err e =
      let t = transition_of table m in
      move_left (ap (λ (k : ℕ). judged k (tt {0})) (early_refused (length out) v t s (refused_number (tt {0}) e)) ∙ e)

  -- refused for the output's length: the refusal is that of a short output
  pub move_short : {given : Refusal} {left : List ℕ} → judge (early s v (transition_of table m)) ≡ done
      → Unfitted (layout (reply_to s.settings (transition_of table m))) out given left
      → (refusal : Refusal) → refusal ≡ OutputTooShort
      → let o = step crane (length out) (move v (transition_of table m)) s [] in
      Answered answer_number (Err refusal) (wrote_of o) o.answer × (left ≡ output_after out o)
  unfolding judged refusal_of
  move_short e f refusal n =
      let t = transition_of table m in
      let k = move_left (ap (λ (k : ℕ). judged k (tt {0})) (early_roomed (length out) v t s e true f.short)) in
      (rw n k.0, f.left ∙ k.1)

-- ---- the servers after a transition

-- which table is offered does not matter to them
pub any_table : (v : ℕ) (m : Move) (table : List ℕ) (servers : List server_of.Server)
    → transition v (transition_of [] m) servers ≡ transition v (transition_of table m) servers
unfolding transition
any_table v code.Start table servers = refl
any_table v code.Stop table servers = refl
any_table v code.Negotiate table servers = refl
any_table v code.Offer table servers = refl
any_table v code.Down table servers = refl
any_table v (code.Agree config) table servers = refl
any_table v (code.Malformed a) table servers = refl
