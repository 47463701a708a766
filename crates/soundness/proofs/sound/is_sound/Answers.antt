-- `is_sound` meets its contract. It tests the clauses of `sound` in their order, and one clause that fails makes the state unsound. What the
-- later calls require follows from the numbers, which are tested first.
use mathlib.Core.Path.{sym, ◌∙◌}
use native.Mathlib.Omega.{arith}
use borrow.Author.Tests.{le-leb, lt-leb, not-false, not-true}
use Rattle.octets.proofs.Each.{clause_last}
use Rattle.session.specs.Limits.{max_servers}
use Rattle.session.specs.Servers.{chosen}
use Rattle.session.specs.Sound.{sound}
use Rattle.session.proofs.SoundFacts.{numbers_facts, unsound, same_active_lem, active_eq}
use Rattle.soundness.proofs.Parts.{choice_below}
use Rattle.soundness.proofs.sound.is_sound.Goals as goal

pub returns-then-not-numbers_sound : goal.returns-then-not-numbers_sound
returns-then-not-numbers_sound c = unsound c.args.s.now 0 (sym c.numbers_sound.ensures ∙ c.if-not-numbers_sound.true)

pub entries_sound-requires : goal.entries_sound-requires
entries_sound-requires c =
    let s = c.args.s.now in
    let f =
    numbers_facts s.settings s.capacity s.delivery s.queue.count s.start
    (rw (← c.numbers_sound.ensures) (c.if-not-numbers_sound.false)) in
    (f.few, f.settings.few_servers)

pub returns-then-not-entries_sound : goal.returns-then-not-entries_sound
returns-then-not-entries_sound c = unsound c.args.s.now 1 (sym c.entries_sound.ensures ∙ c.if-not-entries_sound.true)

pub returns-then-s-octets_to : goal.returns-then-s-octets_to
returns-then-s-octets_to c = unsound c.args.s.now 2 (rw (← c.octets_to.ensures) (lt-leb _ _ c.if-s-octets_to.true))

pub returns-then-ne : goal.returns-then-ne
returns-then-ne c =
    let s = c.args.s.now in
    let e = not-true _ (sym c.ne.ensures ∙ c.if-ne.true) in
    unsound s 3 (sym (active_eq s.delivery.active (chosen s.settings s.delivery)) ∙ rw (← c.choose_server.ensures) e)

pub activation_sound-requires : goal.activation_sound-requires
activation_sound-requires c =
    let s = c.args.s.now in
    let f =
    numbers_facts s.settings s.capacity s.delivery s.queue.count s.start
    (rw (← c.numbers_sound.ensures)
    (c.if-not-numbers_sound.false)) in
    let e =
    same_active_lem s.delivery.active _
    (sym (active_eq s.delivery.active c.choose_server.result) ∙ not-false _ (sym c.ne.ensures ∙ c.if-ne.false)) in (
      omega (arith, f.few, f.reached_held),
      choice_below s.settings s.delivery max_servers (e ∙ c.choose_server.ensures) f.settings.few_servers,
    )

pub returns : goal.returns
unfolding sound
returns c =
    let room = c.args.s.now.capacity in
    rw (
      ← c.numbers_sound.ensures,
      c.if-not-numbers_sound.false,
      ← c.entries_sound.ensures,
      c.if-not-entries_sound.false,
      ← c.octets_to.ensures,
      le-leb c.octets_to.result room c.if-s-octets_to.false,
      ← c.choose_server.ensures,
      sym (active_eq c.args.s.now.delivery.active _) ∙ not-false _ (sym c.ne.ensures ∙ c.if-ne.false),
    )
    (c.activation_sound.ensures ∙ sym (clause_last _))
