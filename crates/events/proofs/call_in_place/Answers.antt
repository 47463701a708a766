-- `call_in_place` meets its contract: the kind says which call it is, and what is ensured of that call is its outcome.
use mathlib.Core.Path.{refl}
use Rattle.events.proofs.Events.{is_put, is_message_lem, is_down, is_tick, is_next, is_offer, gives_of}
use borrow.Author.Rules.{rules}
use Rattle.events.proofs.call_in_place.Goals as goal

pub returns-in-2 : goal.returns-in-2
returns-in-2 c = gives_of _ _ _ _ _ _ _ _ (is_put _ _ _ _ _ _ _ c.in-2.is refl refl) (c.put_record.ensures c.args.out.now)

pub returns-in-3 : goal.returns-in-3
returns-in-3 c = gives_of _ _ _ _ _ _ _ _ (is_message_lem _ _ _ _ _ c.in-3.is) (c.receive.ensures c.args.store.now)

pub returns-in-4 : goal.returns-in-4
returns-in-4 c = gives_of _ _ _ _ _ _ _ _ (is_down _ _ _ _ _ c.in-4.is) (c.line_down.ensures c.args.store.now c.args.out.now)

pub returns-in-5 : goal.returns-in-5
returns-in-5 c = gives_of _ _ _ _ _ _ _ _ (is_tick _ _ _ _ _ c.in-5.is) (c.tick.ensures c.args.store.now c.args.out.now)

pub returns-in-6 : goal.returns-in-6
returns-in-6 c = gives_of _ _ _ _ _ _ _ _ (is_next _ _ _ _ _ c.in-6.is) c.send_next.ensures

pub returns-in_default : goal.returns-in_default
returns-in_default c =
    gives_of _ _ _ _ _ _ _ _ (is_offer _ _ _ _ _ (search rules) (search rules) (search rules) (search rules) (search rules))
    (c.offer.ensures c.args.store.now)
