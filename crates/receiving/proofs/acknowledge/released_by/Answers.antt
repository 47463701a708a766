-- `released_by` meets its contract: 1 first, then what the number of records named is judged by.
use Rattle.std.proofs.Common.{refl, sym, ◌∙◌}
use Rattle.octets.specs.Answers.{judged, refusal_of}
use Rattle.octets.proofs.Judging.{judged_ok, judged_err, handed_on}
use Rattle.wire.specs.Replies.{crane}
use Rattle.session.proofs.SoundFacts.{sound_facts}
use Rattle.receiving.proofs.Acks.{ack_unsound, ack_judged}
use Rattle.receiving.proofs.acknowledge.released_by.Goals as goal

pub returns-then-not-is_sound : goal.returns-then-not-is_sound
unfolding judged refusal_of
returns-then-not-is_sound c =
    let a = c.args in
    rw (ack_unsound crane a.v a.dsn a.config a.s.now (sym c.is_sound.ensures ∙ c.if-not-is_sound.true)) refl

pub ack_count-n-requires : goal.ack_count-n-requires
ack_count-n-requires c = (sound_facts c.args.s.now (sym c.is_sound.ensures ∙ c.if-not-is_sound.false)).numbers.few

pub returns-in_err-check_ack : goal.returns-in_err-check_ack
returns-in_err-check_ack c =
    let a = c.args in
    let q = rw c.ack_count-n.ensures at c.check_ack.ensures in
    rw (handed_on c.from_residual.ensures.1, ack_judged crane a.v a.dsn a.config a.s.now (sym c.is_sound.ensures ∙ c.if-not-is_sound.false))
    (sym (judged_err _ (tt {0}) _ (sym q ∙ c.in_err-check_ack.was)))

pub returns : goal.returns
unfolding judged
returns c =
    let a = c.args in
    let q = rw c.ack_count-n.ensures at c.check_ack.ensures in
    rw (
      ack_judged crane a.v a.dsn a.config a.s.now (sym c.is_sound.ensures ∙ c.if-not-is_sound.false),
      judged_ok _ (tt {0}) (sym q ∙ c.in_ok-check_ack.was),
      c.ack_count-n.ensures,
    )
    refl
