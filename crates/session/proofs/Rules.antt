-- The table of the rules about servers holds: each row is shown by computing the calls on it, and what becomes of any other server by the
-- laws of setting and mapping.
use mathlib.Core.Path.{◌≡◌, refl, ap}
use mathlib.Core.Logic.{◌≢◌}
use mathlib.Core.Bool.{Bool, true, false}
use mathlib.Core.List.{List, [], ◌∷◌, map}
use Prim.Native.Nat.{ℕ, zero, suc}
use native.Mathlib.Omega.{arith}
use lib.ListN.{set}
use lib.Seq.{get_or-set_other}
use Rattle.octets.specs.Answers.{done, settings_outside_limits}
use Rattle.octets.specs.Numbers.{number_of, uint_in, octets_in}
use Rattle.octets.specs.Each.{every, first_from}
use Rattle.wire.specs.FieldTypes.{is_type, width_of}
use Rattle.wire.specs.Messages.{is_message, body_fits, message_of, layout_of, meaning_of}
use Rattle.wire.specs.Table.{key_sound, block_end, head_sound, padding_sound, block_sound, block_at, table_sound}
use Rattle.session.specs.Servers.{server, phase_at, restarted, restart, choose, changed, settle, other_agreed, expired, ticked}
use Rattle.session.specs.Servers.{start, stop, negotiate, offer, down, agree, malformed, transition}
use Rattle.session.specs.Queue.{sum_of, has}
use Rattle.session.specs.Sound.{settings_sound, numbers_sound, sound}
use Rattle.session.specs.Steps.{form_answer, call_of_message, received, written, checks, answer, after, settled, store_after, step, fresh}
use Rattle.session.specs.Steps.{set_up}
use Rattle.session.specs.Limits.{max_servers}
use Rattle.session.specs.Rules.{other_after, OthersHold, Fresh, FreshHolds, ServerRules}
use Rattle.session.specs.declared.state.Phase.{Phase}
use Rattle.session.specs.declared.state.Phase.TheVariants.{Closed, Started, Offered, Agreed, Late}
use Rattle.session.specs.declared.state.Server as server_of
use Rattle.session.proofs.Choice.{each_closed}

-- the phase of a server in a list with another one set, and with all restarted
set_other : (servers : List server_of.Server) (v u : ℕ) (phase : Phase) → u ≢ v
    → phase_at (set servers v (server phase)) u ≡ phase_at servers u
set_other servers v u phase n = ap (λ (x : server_of.Server). x.phase) (get_or-set_other servers v u (server phase) (server Closed) n)

restarted_each : (servers : List server_of.Server) (u : ℕ) → phase_at (map restart servers) u ≡ other_after negotiate (phase_at servers u)
restarted_each [] u = refl
restarted_each (x ∷ xs) zero = go x.phase
  where
    go : (p : Phase) → restarted p ≡ other_after negotiate p
    go Closed = refl
    go Started = refl
    go Offered = refl
    go Agreed = refl
    go Late = refl
restarted_each (x ∷ xs) (suc u) = restarted_each xs u

others_hold : OthersHold
unfolding transition
others_hold v u start servers n = set_other servers v u Started n
others_hold v u stop servers n = set_other servers v u Closed n
others_hold v u negotiate servers n = restarted_each servers u
others_hold v u (offer table) servers n = set_other servers v u Offered n
others_hold v u down servers n = set_other servers v u Closed n
others_hold v u (agree config) servers n = set_other servers v u Agreed n
others_hold v u (malformed a) servers n = refl

fresh_holds : FreshHolds
unfolding set_up fresh
fresh_holds p octets e = go (settings_sound p octets) refl
  where
    go : (b : Bool) → settings_sound p octets ≡ b → Fresh p octets (set_up p octets).state
    go false x = let z : settings_outside_limits ≡ done = rw x at e in absurd (omega (arith, z))
    go true x =
        rw x
        (record {
          settings = refl;
          capacity = refl;
          count = refl;
          closed = each_closed max_servers;
          active = refl;
          sent = refl;
          reached = refl;
          timer = refl;
          start = refl;
          due = refl;
          next = refl;
        })

pub server_rules : ServerRules
unfolding number_of uint_in octets_in every first_from is_type width_of is_message body_fits message_of layout_of meaning_of key_sound block_end
    head_sound padding_sound block_sound block_at table_sound choose changed settle transition other_agreed expired ticked sum_of has settings_sound
    numbers_sound sound form_answer call_of_message received written checks answer after settled store_after step
server_rules =
    record {
      first = (refl, (refl, (refl, (refl, (refl, (refl, tt))))));
      last = (refl, (refl, (refl, (refl, (refl, (refl, tt))))));
      first_ran_out = refl;
      last_ran_out = refl;
      others = others_hold;
      fresh = fresh_holds;
    }
