-- `check_ack` meets its contract. The code makes the tests of `ack_checks` in their order, so at each return the tests before it failed and
-- its own passed, which is what `judge` looks for.
use Rattle.std.proofs.Common.{refl, sym, ◌∙◌, le-ltb, lt-ltb, eq-eqb, ne_eqb, le-leb}
use borrow.Author.Tests.{lt-leb, not-true, not-false}
use Rattle.std.specs.Prelude.{Some}
use Rattle.octets.specs.Answers.{judged, refusal_of}
use Rattle.session.proofs.SoundFacts.{active_eq}
use Rattle.receiving.proofs.acknowledge.check_ack.Goals as goal

pub returns-then-p-v : goal.returns-then-p-v
unfolding judged refusal_of
returns-then-p-v c = rw (le-leb _ _ c.if-p-v.true) refl

pub returns-then-ne : goal.returns-then-ne
unfolding judged refusal_of
returns-then-ne c =
    let a = c.args in
    rw (lt-leb _ _ c.if-p-v.false, sym (active_eq a.d.active (Some a.v)) ∙ not-true _ (sym c.ne.ensures ∙ c.if-ne.true)) refl

pub returns-then-config-p : goal.returns-then-config-p
unfolding judged refusal_of
returns-then-config-p c =
    let a = c.args in
    rw (
      lt-leb _ _ c.if-p-v.false,
      sym (active_eq a.d.active (Some a.v)) ∙ not-false _ (sym c.ne.ensures ∙ c.if-ne.false),
      ne_eqb _ _ c.if-config-p.true,
    )
    refl

pub returns-then-d-n : goal.returns-then-d-n
unfolding judged refusal_of
returns-then-d-n c =
    let a = c.args in
    rw (
      lt-leb _ _ c.if-p-v.false,
      sym (active_eq a.d.active (Some a.v)) ∙ not-false _ (sym c.ne.ensures ∙ c.if-ne.false),
      eq-eqb _ _ c.if-config-p.false,
      lt-ltb a.d.reached a.n c.if-d-n.true,
    )
    refl

pub returns : goal.returns
unfolding judged
returns c =
    let a = c.args in
    rw (
      lt-leb _ _ c.if-p-v.false,
      sym (active_eq a.d.active (Some a.v)) ∙ not-false _ (sym c.ne.ensures ∙ c.if-ne.false),
      eq-eqb _ _ c.if-config-p.false,
      le-ltb a.d.reached a.n c.if-d-n.false,
    )
    refl
