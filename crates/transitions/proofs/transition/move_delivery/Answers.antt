-- `move_delivery` meets its contract. Only the servers change, by the transition; every other field is copied.
use Rattle.transitions.proofs.transition.move_delivery.Goals as goal

pub returns : goal.returns
returns c = rw c.move_servers-moved.ensures
