-- `take_event` meets its contract: nothing is left, or the event at the replay's place is the table or a call, and is taken as such. The
-- part that is taken for its body is the next body, since its length is the one in the contents.
use mathlib.Core.Path.{refl, ap}
use mathlib.Core.List.{List}
use Prim.Native.Nat.{ℕ, ◌+◌}
use native.Mathlib.Omega.{arith}
use lib.ListN.{length}
use Rattle.contents.proofs.Parts.{part_end}
use Rattle.tape.proofs.Turns.{next_part, played_none, played_table, played_call}
use Rattle.tape.proofs.replay.take_event.Goals as goal

pub returns-then-r-eq0 : goal.returns-then-r-eq0
returns-then-r-eq0 c = played_none _ _ _ _ _ c.if-r-eq0.true

pub overflow_add-at : goal.overflow_add-at
overflow_add-at c =
    let k = c in
    let z = c in
    let a = z.args in
    let h = part_end a.tape.now a.r.at k.body_length.result 18446744073709551615 (omega arith) (omega arith) in
    rw k.part-b.ensures (omega (arith, h))

pub take_table-requires : goal.take_table-requires
take_table-requires c =
    let k = c in
    let a = c.args in
    let e =
    next_part a.tape.now a.r _ _ _ k.next_index-i.ensures k.body_length.ensures
    k.part-b.ensures in
    record { some = omega arith; end = ap (λ (l : List ℕ). a.r.at + length l) e; room = omega arith }

pub returns-then-i-eq1 : goal.returns-then-i-eq1
returns-then-i-eq1 c =
    let a = c.args in
    let n = c in
    played_table a.tape.now a.r a.store.now a.out.now a.text.now _ _ _ n.if-r-eq0.false n.next_index-i.ensures
    c.if-i-eq1.true c.take_table.ensures

pub take_call-requires : goal.take_call-requires
take_call-requires c =
    let k = c in
    let n = k in
    let a = c.args in
    record {
      some = omega arith;
      place = n.next_index-i.ensures;
      body = next_part a.tape.now a.r _ _ _ n.next_index-i.ensures k.body_length.ensures k.part-b.ensures;
      end = refl;
      lent = omega arith;
      room = omega arith;
    }

pub returns : goal.returns
returns c =
    let a =
    c.args in
    let n = c in
    played_call a.tape.now a.r a.store.now a.out.now a.text.now _ _ _ _ _ n.if-r-eq0.false n.next_index-i.ensures
    c.if-i-eq1.false c.take_call.ensures
