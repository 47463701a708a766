-- Demand 3 over octets: each call does what its octets mean, so that a list of calls leaves, answers and writes what the list of their
-- meanings does, of which demand 3 holds. The octets of a message are its layout; the DSN that is read from octets has 32 bits.
use mathlib.Core.Path.{◌≡◌, refl, sym, ap, ◌∙◌, subst}
use mathlib.Core.Bool.{Bool, true, false, not, ◌&&◌, cond}
use mathlib.Core.List.{List, [], ◌∷◌, ◌++◌, map}
use Prim.Native.Nat.{ℕ, ◌-◌, ◌≤◌}
use native.Mathlib.Omega.{arith}
use lib.Dec.{eqb, leb}
use lib.ListN.{length, drop}
use borrow.Author.Tests.{eqb-false, leb-true}
use Rattle.octets.specs.Answers.{Check, ◌when◌, judge, done, short_message, other_session, message_not_accepted, body_length_wrong}
use Rattle.octets.specs.Numbers.{uint_at, Octets}
use Rattle.octets.proofs.Numbers.{uint_below}
use Rattle.octets.proofs.Each.{and_left, and_right}
use Rattle.wire.specs.Messages.{header_checks, session_of, message_number, header_octets, body_fits, data_head_of, meaning_of}
use Rattle.wire.specs.Messages as wire
use Rattle.wire.specs.Replies.{Reply, silent, crane, layout}
use Rattle.messages.specs.declared.message.Message.{Message}
use Rattle.messages.specs.declared.message.Message.TheVariants.{Start, StartAck, Stop, StopAck, TmplData, FinalTmplDataAck, StartNegotiate}
use Rattle.messages.specs.declared.message.Message.TheVariants.{StartNegotiateAck, Data, DataAck}
use Rattle.session.specs.Servers.{offer, down, malformed}
use Rattle.session.specs.Queue.{held}
use Rattle.session.specs.Steps.{Call, put, next_data, tick, ack, move, is_received, form_answer, call_of_message, received, written}
use Rattle.session.specs.Steps.{checks, answer, after, settled, store_after, Outcome, step, octets_written, output_after}
use Rattle.session.specs.History.{History, after_call, fresh_history}
use Rattle.session.specs.Claim.{Invocation, Session, Exporter, outcome, advance, run, AnsweredCall, transcript, Premises, InRange}
use Rattle.session.specs.Claim.{AllInRange, due_reply, CallClaim, Calls, Claim, ClaimByMeaning}
use Rattle.session.specs.InOctets.{Event, Put, NextData, Receive, OfferTemplates, LineDown, Tick, event_step, event_outcome, after_event}
use Rattle.session.specs.InOctets.{after_events, output_of, room_of, call_of, invocation_of, crane_session, fresh_over, event_transcript}
use Rattle.session.specs.InOctets.{EventClaim, EventClaims, AllOctets, Demand3InOctets}
use Rattle.session.specs.declared.state.Settings.{Settings}
use Rattle.session.specs.declared.state.State.{State}
use Rattle.session.proofs.Calls.{step_settings}
use Rattle.session.proofs.Demand.{begin_kept, demand3}
use Rattle.session.proofs.Refusals.{output_kept}

-- ---- what a call is lent

-- a call that is lent no store, or does not change it, does the same with the store
lent : (room : ℕ) (k : Call) (s : State) (st st' : List ℕ)
    → answer crane room k s st ≡ answer crane room k s st' → written 32 k s st ≡ written 32 k s st' → store_after k s st' ≡ st'
    → let o = step crane room k s st in
    ◌≡◌ {A = Outcome} (record { answer = o.answer; state = o.state; store = st'; written = o.written }) (step crane room k s st')
unfolding step
lent room k s st st' e f g = rw (e, f, g) (go (eqb (answer crane room k s st') done))
  where
    a : ℕ
    a = answer crane room k s st'

    x : Outcome
    x = record { answer = done; state = settled (after 32 k s); store = store_after k s st; written = written 32 k s st' }

    go : (b : Bool) → let o = cond b x (record { answer = a; state = s; store = st; written = silent }) in
        ◌≡◌ {A = Outcome} (record { answer = o.answer; state = o.state; store = st'; written = o.written })
        (cond b (record { answer = done; state = settled (after 32 k s); store = st'; written = written 32 k s st' })
        (record { answer = a; state = s; store = st'; written = silent }))
    go true = refl
    go false = refl

-- every call but a put and next data does the same without the store
abbrev WithoutStore : Call → Type 0
WithoutStore (put table id r) = ⊥
WithoutStore next_data = ⊥
WithoutStore tick = Unit {0}
WithoutStore (ack v d config) = Unit {0}
WithoutStore (move v m) = Unit {0}

without_store : (room : ℕ) (k : Call) (s : State) (st : List ℕ) → WithoutStore k
    → let o = step crane room k s [] in
    ◌≡◌ {A = Outcome} (record { answer = o.answer; state = o.state; store = st; written = o.written }) (step crane room k s st)
unfolding answer checks written store_after
without_store room (put table id r) s st f = absurd f
without_store room next_data s st f = absurd f
without_store room tick s st f = lent room tick s [] st refl refl refl
without_store room (ack v d config) s st f = lent room (ack v d config) s [] st refl refl refl
without_store room (move v m) s st f = lent room (move v m) s [] st refl refl refl

-- so do the calls that messages make
received_without : (p : Settings) (v : ℕ) (m : List ℕ) → WithoutStore (received p v m)
unfolding received call_of_message
received_without p v m = go (eqb (form_answer p m) done) (meaning_of m)
  where
    go : (b : Bool) (x : Message) → WithoutStore (cond b (call_of_message v x) (move v (malformed (form_answer p m))))
    go true (Start s) = tt
    go true (StartAck s boot) = tt
    go true (Stop s) = tt
    go true (StopAck s) = tt
    go true (TmplData s) = tt
    go true (FinalTmplDataAck s config) = tt
    go true (StartNegotiate s) = tt
    go true (StartNegotiateAck s) = tt
    go true (Data h) = tt
    go true (DataAck s dsn config) = tt
    go false x = tt

-- a call over octets does what it means
own_meaning : (x : Exporter) (e : Event)
    → event_outcome x e ≡ outcome (crane_session x.state.settings) x (invocation_of x.state.settings e)
unfolding call_of answer checks written store_after
own_meaning x (Put table id r) = refl
own_meaning x (NextData out) = lent (length out) next_data x.state x.store x.store refl refl refl
own_meaning x (Receive v m out) =
    let p : Settings = x.state.settings in
    without_store (length out) (received p v m) x.state x.store (received_without p v m)
own_meaning x (OfferTemplates v table out) = without_store (length out) (move v (offer table)) x.state x.store tt
own_meaning x (LineDown v) = without_store 0 (move v down) x.state x.store tt
own_meaning x Tick = without_store 0 tick x.state x.store tt

-- ---- a list of calls

-- the exporter that an outcome leaves
abbrev left : Outcome → Exporter
left o = record { state = o.state; store = o.store }

-- a call with the answer of an outcome
abbrev answered_with : Call → Outcome → AnsweredCall
answered_with c o = record { call = c; answer = o.answer }

-- the octets of what is written where a test passes
layout_cond : (b : Bool) (r : Reply) → layout (cond b r silent) ≡ cond b (layout r) []
layout_cond true r = refl
layout_cond false r = refl

-- what a call leaves of the output
event_output : (x : Exporter) (e : Event)
    → let o = event_step x e in output_after (output_of e) o ≡ octets_written o ++ drop (length (octets_written o)) (output_of e)
event_output x (Put table id r) = output_kept [] (put table id r) x.state x.store
event_output x (NextData out) = output_kept out next_data x.state x.store
event_output x (Receive v m out) = output_kept out (received x.state.settings v m) x.state []
event_output x (OfferTemplates v table out) = output_kept out (move v (offer table)) x.state []
event_output x (LineDown v) = output_kept [] (move v down) x.state []
event_output x Tick = output_kept [] tick x.state []

module _ (p : Settings) where
  pub event_means : (x : Exporter) (e : Event) → x.state.settings ≡ p → event_outcome x e ≡ outcome (crane_session p) x (invocation_of p e)
  event_means x e k = own_meaning x e ∙ ap (λ (q : Settings). outcome (crane_session q) x (invocation_of q e)) k

  -- the settings stay
  pub settings_stay : (x : Exporter) (e : Event) → x.state.settings ≡ p → (after_event x e).state.settings ≡ p
  unfolding after_event
  settings_stay x e k =
      ap (λ (o : Outcome). o.state.settings) (event_means x e k)
      ∙ step_settings crane (room_of e) (call_of p e) x.state x.store ∙ k

  after_means : (x : Exporter) (e : Event) → x.state.settings ≡ p → after_event x e ≡ advance (crane_session p) x (invocation_of p e)
  unfolding after_event advance
  after_means x e k = ap left (event_means x e k)

  -- so the run over octets is the run over meanings
  pub run_means : (x : Exporter) (es : List Event) → x.state.settings ≡ p
      → after_events x es ≡ run (crane_session p) x (map (invocation_of p) es)
  unfolding after_events run
  run_means x [] k = refl
  run_means x (e ∷ es) k =
      run_means (after_event x e) es (settings_stay x e k)
      ∙ ap (λ (y : Exporter). run (crane_session p) y (map (invocation_of p) es)) (after_means x e k)

  -- with the same answers
  pub answers_mean : (x : Exporter) (es : List Event) → x.state.settings ≡ p
      → event_transcript p x es ≡ transcript (crane_session p) x (map (invocation_of p) es)
  unfolding event_transcript transcript
  answers_mean x [] k = refl
  answers_mean x (e ∷ es) k =
      ap (λ (o : Outcome). answered_with (call_of p e) o ∷ event_transcript p (after_event x e) es) (event_means x e k)
      ∙ ap (λ (ks : List AnsweredCall). answered_with (call_of p e) (outcome (crane_session p) x (invocation_of p e)) ∷ ks)
      (answers_mean (after_event x e) es (settings_stay x e k)
      ∙ ap (λ (y : Exporter). transcript (crane_session p) y (map (invocation_of p) es)) (after_means x e k))

  -- what is claimed of a meaning is claimed of the call
  event_claim : (x : Exporter) (h : History) (e : Event) → x.state.settings ≡ p
      → CallClaim (crane_session p) (length x.store) (room_of e) h (held x.state x.store) (call_of p e)
      (outcome (crane_session p) x (invocation_of p e))
      → EventClaim p x h e
  event_claim x h e k c =
      let q = event_means x e k in
      let y : CallClaim (crane_session p) (length x.store) (room_of e) h (held x.state x.store) (call_of p e) (event_outcome x e) =
      subst (CallClaim (crane_session p) (length x.store) (room_of e) h (held x.state x.store) (call_of p e)) (sym q) c in
      record {
        means = q;
        call = record {
          answered = y.answered;
          never_unsound = y.never_unsound;
          writes = y.writes;
          stands_for = y.stands_for;
          accepted = y.accepted;
          first_mark = y.first_mark;
          names = y.names;
          releases = y.releases;
          ack_accepted = y.ack_accepted;
          putting = y.putting;
        };
        octets = ap layout y.writes ∙ layout_cond (eqb (event_step x e).answer done) (due_reply (crane_session p) h (call_of p e));
        output = event_output x e;
      }

  event_claims : (x : Exporter) (h : History) (es : List Event) → x.state.settings ≡ p
      → Calls (crane_session p) x h (map (invocation_of p) es) → EventClaims p x h es
  unfolding advance after_event
  event_claims x h [] k c = tt
  event_claims x h (e ∷ es) k c = (
    event_claim x h e k c.0,
    event_claims (after_event x e) (after_call 32 p (call_of p e) (event_step x e).answer h) es (settings_stay x e k)
        (subst (λ (o : Outcome). Calls (crane_session p) (left o) (after_call 32 p (call_of p e) o.answer h) (map (invocation_of p) es))
        (sym (event_means x e k)) c.1),
  )

-- ---- 32 bits

-- a refusal by one of some checks has a number between theirs
abbrev numbered : ℕ → ℕ → List Check → Bool
numbered lo hi [] = true
numbered lo hi ((a when b) ∷ cs) = leb lo a && leb a hi && numbered lo hi cs

judge_numbered : (lo hi : ℕ) (cs : List Check) → numbered lo hi cs ≡ true → (judge cs ≡ done → ⊥) → (lo ≤ judge cs) × (judge cs ≤ hi)
judge_numbered lo hi [] e n = absurd (n refl)
judge_numbered lo hi ((a when true) ∷ cs) e n =
    let x = and_left (leb lo a && leb a hi) (numbered lo hi cs) e in
    (leb-true lo a (and_left (leb lo a) (leb a hi) x), leb-true a hi (and_right (leb lo a) (leb a hi) x))
judge_numbered lo hi ((a when false) ∷ cs) e n = judge_numbered lo hi cs (and_right (leb lo a && leb a hi) (numbered lo hi cs) e) n

-- a DATA ACK read from octets has a DSN of 32 bits
meaning_range : (v : ℕ) (m : List ℕ) → Octets m → InRange 32 (call_of_message v (meaning_of m))
unfolding meaning_of call_of_message
meaning_range v m o =
    let n = message_number m in
    go (eqb n wire.start) (eqb n wire.start_ack) (eqb n wire.stop) (eqb n wire.stop_ack) (eqb n wire.tmpl_data) (eqb n wire.final_tmpl_data_ack)
    (eqb n wire.start_negotiate) (eqb n wire.start_negotiate_ack) (eqb n wire.data_number)
  where
    go : (b₁ b₂ b₃ b₄ b₅ b₆ b₇ b₈ b₉ : Bool) → let s = session_of m in InRange 32 (call_of_message v
        (cond b₁ (Start s)
        (cond b₂ (StartAck s (uint_at m 8 4))
        (cond b₃ (Stop s)
        (cond b₄ (StopAck s)
        (cond b₅ (TmplData s)
        (cond b₆ (FinalTmplDataAck s (uint_at m 8 1))
        (cond b₇ (StartNegotiate s)
        (cond b₈ (StartNegotiateAck s)
        (cond b₉ (Data (data_head_of m))
        (DataAck s (uint_at m 8 4) (uint_at m 12 1))))))))))))
    go true b₂ b₃ b₄ b₅ b₆ b₇ b₈ b₉ = tt
    go false true b₃ b₄ b₅ b₆ b₇ b₈ b₉ = (omega arith, omega arith)
    go false false true b₄ b₅ b₆ b₇ b₈ b₉ = tt
    go false false false true b₅ b₆ b₇ b₈ b₉ = (omega arith, omega arith)
    go false false false false true b₆ b₇ b₈ b₉ = (omega arith, omega arith)
    go false false false false false true b₇ b₈ b₉ = tt
    go false false false false false false true b₈ b₉ = tt
    go false false false false false false false true b₉ = (omega arith, omega arith)
    go false false false false false false false false true = (omega arith, omega arith)
    go false false false false false false false false false = uint_below m o 8 4

-- and a message that its form refuses has one of 3 to 8
received_range : (p : Settings) (v : ℕ) (m : List ℕ) → Octets m → InRange 32 (received p v m)
unfolding received form_answer
received_range p v m o = go (eqb (form_answer p m) done) refl
  where
    go : (b : Bool) → eqb (form_answer p m) done ≡ b
        → InRange 32 (cond b (call_of_message v (meaning_of m)) (move v (malformed (form_answer p m))))
    go true e = meaning_range v m o
    go false e =
        judge_numbered short_message body_length_wrong
        (header_checks m
        ++ ((other_session when not (eqb (session_of m) p.session))
        ∷ (message_not_accepted when not (is_received (message_number m)))
        ∷ (body_length_wrong when not (body_fits (message_number m) (length m - header_octets)))
        ∷ []))
        refl (eqb-false (form_answer p m) done e)

pub all_in_range : (p : Settings) (es : List Event) → AllOctets es → AllInRange 32 (map (invocation_of p) es)
unfolding call_of
all_in_range p [] o = tt
all_in_range p (Put table id r ∷ es) o = (tt, all_in_range p es o)
all_in_range p (NextData out ∷ es) o = (tt, all_in_range p es o)
all_in_range p (Receive v m out ∷ es) o = (received_range p v m o.0, all_in_range p es o.1)
all_in_range p (OfferTemplates v table out ∷ es) o = (tt, all_in_range p es o)
all_in_range p (LineDown v ∷ es) o = (tt, all_in_range p es o)
all_in_range p (Tick ∷ es) o = (tt, all_in_range p es o)

-- ---- the claim

pub demand3_in_octets : Demand3InOctets
demand3_in_octets p store a i es o =
    let z : Session = crane_session p in
    let m : Premises z store = record { wide = omega arith; accepted = a; initial = i } in
    let x : Exporter = fresh_over p store in
    let k : x.state.settings ≡ p = (begin_kept z store m).settings in
    let is : List Invocation = map (invocation_of p) es in
    let d : ClaimByMeaning z store is = demand3 z store m is (all_in_range p es o) in
    let same_run = run_means p x es k in
    let same_answers = answers_mean p x es k in
    let c : Claim z (after_events x es) (event_transcript p x es) (Calls z x fresh_history is) =
    subst (λ (y : Exporter). Claim z y (event_transcript p x es) (Calls z x fresh_history is)) (sym same_run)
    (subst (λ (ks : List AnsweredCall). Claim z (run z x is) ks (Calls z x fresh_history is)) (sym same_answers) d) in
    record {
      same_run = same_run;
      same_answers = same_answers;
      claim = record {
        account = c.account;
        last = c.last;
        reached = c.reached;
        began_with = c.began_with;
        no_fewer = c.no_fewer;
        due = c.due;
        calls = event_claims p x fresh_history es k d.calls;
        is_sound = c.is_sound;
        settings = c.settings;
        stored = c.stored;
        agrees = c.agrees;
      };
    }
