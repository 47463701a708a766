-- Demand 3: what is claimed of every list of calls holds. History and exporter agree after set-up, each call keeps that (`Calls`), and what
-- is claimed of a call or of the list follows from it.
use mathlib.Core.Path.{◌≡◌, refl, sym, ap, ◌∙◌, subst}
use mathlib.Core.Bool.{Bool, true, false, cond, false≢true}
use mathlib.Core.List.{List, [], ◌∷◌}
use Prim.Native.Nat.{ℕ, ◌<◌}
use native.Mathlib.Omega.{arith}
use lib.Dec.{eqb}
use lib.ListN.{length}
use Rattle.octets.specs.Answers.{done, settings_outside_limits}
use Rattle.session.specs.Servers.{changed}
use Rattle.session.specs.Queue.{held_from, held}
use Rattle.session.specs.Sound.{settings_sound}
use Rattle.session.specs.Steps.{Made, modulus, Call, put, next_data, tick, ack, move, fresh, refused_state, set_up}
use Rattle.session.specs.History.{History, delivery_after, ledger_after, after_accepted, after_call, fresh_history, any_writing}
use Rattle.session.specs.History.{first_written}
use Rattle.session.specs.Claim.{Invocation, Session, dsn_bits, Exporter, outcome, advance, run, begin, AnsweredCall, transcript}
use Rattle.session.specs.Claim.{history_from, Premises, InRange, AllInRange, next_place, CallClaim, named_by, last_named, Calls}
use Rattle.session.specs.Claim.{history_of, Demand3, Demand3Of64}
use Rattle.session.specs.declared.state.Settings.{Settings}
use Rattle.session.specs.declared.state.State.{State}
use Rattle.session.proofs.Places.{wide_modulus, dsn_first}
use Rattle.session.proofs.Agrees.{Agrees}
use Rattle.session.proofs.SoundKept.{fresh_sound}
use Rattle.session.proofs.Keeps.{begun_released, written_released}
use Rattle.session.proofs.Calls.{step_settings, step_keeps, call_claim, reached_written, account_of}

-- ---- a list of calls

pub record Kept (z : Session) (h : History) (x : Exporter) : Type 0 where
  pub settings : x.state.settings ≡ z.settings
  pub agrees : Agrees (dsn_bits z) h x.state x.store

module _ (z : Session) (wide : 64 < modulus (dsn_bits z)) where
  advance_keeps : (x : Exporter) (h : History) (i : Invocation) → InRange (dsn_bits z) i.call → Kept z h x
      → Kept z (after_call (dsn_bits z) z.settings i.call (outcome z x i).answer h) (advance z x i)
  unfolding advance
  advance_keeps x h i m k =
      record {
        settings = step_settings z.encoding i.room i.call x.state x.store ∙ k.settings;
        agrees =
            subst (λ (p : Settings). let o = outcome z x i in
            Agrees (dsn_bits z) (after_call (dsn_bits z) p i.call o.answer h) o.state o.store) k.settings
            (step_keeps z.encoding i.room h x.state x.store wide k.agrees i.call m);
      }

  claim_of : (x : Exporter) (h : History) (i : Invocation) → InRange (dsn_bits z) i.call → Kept z h x
      → CallClaim z (length x.store) i.room h (held x.state x.store) i.call (outcome z x i)
  claim_of x h i m k =
      subst (λ (p : Settings). CallClaim (record { encoding = z.encoding; settings = p }) (length x.store) i.room h
      (held x.state x.store) i.call (outcome z x i)) k.settings
      (call_claim z.encoding i.room h x.state x.store wide k.agrees i.call m)

  pub run_keeps : (x : Exporter) (h : History) (is : List Invocation) → AllInRange (dsn_bits z) is → Kept z h x
      → Kept z (history_from (dsn_bits z) z.settings h (transcript z x is)) (run z x is)
  unfolding run transcript history_from
  run_keeps x h [] m k = k
  run_keeps x h (i ∷ is) m k =
      run_keeps (advance z x i) (after_call (dsn_bits z) z.settings i.call (outcome z x i).answer h) is m.1
      (advance_keeps x h i m.0 k)

  each_call : (x : Exporter) (h : History) (is : List Invocation) → AllInRange (dsn_bits z) is → Kept z h x → Calls z x h is
  each_call x h [] m k = tt
  each_call x h (i ∷ is) m k = (
    claim_of x h i m.0 k,
    each_call (advance z x i) (after_call (dsn_bits z) z.settings i.call (outcome z x i).answer h) is m.1
        (advance_keeps x h i m.0 k),
  )

-- the number released is the place named last
released_by : (w : ℕ) (p : Settings) (k : Call) (n : ℕ) (h : History)
    → (after_call w p k n h).ledger.released ≡ named_by w p h.ledger k n h.ledger.released
unfolding after_call after_accepted ledger_after
released_by w p k n h = go (eqb n done) refl k
  where
    after_choice : (k : Call) → (after_accepted w p k h).ledger.released ≡ (ledger_after w p k h.delivery h.ledger).released
    after_choice k =
        begun_released (changed p (delivery_after w p k h.ledger h.delivery)) (ledger_after w p k h.delivery h.ledger)

    go : (b : Bool) → eqb n done ≡ b → (k : Call)
        → (cond b (after_accepted w p k h) h).ledger.released ≡ named_by w p h.ledger k n h.ledger.released
    go true e (put table id r) = after_choice (put table id r)
    go true e next_data = after_choice next_data ∙ written_released h.delivery.active (next_place h) h.ledger
    go true e tick = after_choice tick
    go true e (ack v d config) = after_choice (ack v d config) ∙ rw e refl
    go true e (move v m) = after_choice (move v m)
    go false e (put table id r) = refl
    go false e next_data = refl
    go false e tick = refl
    go false e (ack v d config) = rw e refl
    go false e (move v m) = refl

last_named_lem : (w : ℕ) (p : Settings) (h : History) (r : ℕ) (ks : List AnsweredCall) → h.ledger.released ≡ r
    → (history_from w p h ks).ledger.released ≡ last_named w p h r ks
unfolding history_from last_named
last_named_lem w p h r [] e = e
last_named_lem w p h r (k ∷ ks) e =
    last_named_lem w p (after_call w p k.call k.answer h) (named_by w p h.ledger k.call k.answer r) ks
    (released_by w p k.call k.answer h ∙ ap (named_by w p h.ledger k.call k.answer) e)

-- ---- set-up

record Accepted (p : Settings) (room : ℕ) : Type 0 where
  limits : settings_sound p room ≡ true
  state : (set_up p room).state ≡ fresh p room

set_up_lem : (p : Settings) (room : ℕ) → (set_up p room).answer ≡ done → Accepted p room
unfolding set_up
set_up_lem p room e = go (settings_sound p room) refl e
  where
    go : (b : Bool) → settings_sound p room ≡ b
        → (cond {A = Made} b (record { answer = done; state = fresh p room })
        (record { answer = settings_outside_limits; state = refused_state })).answer ≡ done → Accepted p room
    go true x y = record { limits = x; state = rw x refl }
    go false x y = let z : ⊥ = omega arith in absurd z

fresh_agrees : (w : ℕ) (p : Settings) (store : List ℕ) → 64 < modulus w → settings_sound p (length store) ≡ true → p.initial < modulus w
    → Agrees w fresh_history (fresh p (length store)) store
unfolding fresh fresh_history any_writing first_written held_from
fresh_agrees w p store wide e i =
    record {
      delivery = refl;
      is_sound = fresh_sound p (length store) e;
      sized = record { lengths = refl; templates = refl; receivers = refl };
      core = record {
        stored = refl;
        behind = refl;
        stock = record {
          counted = refl;
          following = dsn_first w p wide i;
          marks = λ j v h. let y : ⊥ = omega arith in absurd y;
          places = λ k v h. refl;
          existing = λ k v x. absurd (false≢true x);
        };
        origin = omega arith;
        starts = refl;
        opened = λ x. let y : ⊥ = omega arith in absurd y;
        first = refl;
        later = λ k h. refl;
        since = λ v k x lo hi. let y : ⊥ = omega arith in absurd y;
        until = λ v k x. absurd (false≢true x);
      };
    }

pub begin_kept : (z : Session) (store : List ℕ) → Premises z store → Kept z fresh_history (begin z store)
unfolding begin fresh
begin_kept z store m =
    let a = set_up_lem z.settings (length store) m.accepted in
    record {
      settings = ap (λ (s : State). s.settings) a.state;
      agrees = subst (λ (s : State). Agrees (dsn_bits z) fresh_history s store) (sym a.state)
          (fresh_agrees (dsn_bits z) z.settings store (wide_modulus (dsn_bits z) m.wide) a.limits m.initial);
    }

-- ---- the claim

pub demand3 : Demand3
unfolding fresh_history
demand3 z store m is i =
    let wide : 64 < modulus (dsn_bits z) = wide_modulus (dsn_bits z) m.wide in
    let k : Kept z fresh_history (begin z store) = begin_kept z store m in
    let c : Kept z (history_of z (transcript z (begin z store) is)) (run z (begin z store) is) =
    run_keeps z wide (begin z store) fresh_history is i k in
    record {
      account = account_of c.agrees;
      last = last_named_lem (dsn_bits z) z.settings fresh_history 0 (transcript z (begin z store) is) refl;
      reached = reached_written c.agrees;
      began_with = c.agrees.core.first;
      no_fewer = c.agrees.core.origin;
      due = c.agrees.core.starts;
      calls = each_call z wide (begin z store) fresh_history is i k;
      is_sound = c.agrees.is_sound;
      settings = c.settings;
      stored = c.agrees.core.stored;
      agrees = c.agrees.delivery;
    }

-- 64 bits are one of the widths
pub demand3of64 : Demand3Of64
demand3of64 size p store a i is h =
    demand3 (record { encoding = record { width = 64; size = size }; settings = p }) store
    (record { wide = omega arith; accepted = a; initial = i }) is h
