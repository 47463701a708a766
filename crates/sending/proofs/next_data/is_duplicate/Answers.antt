-- `is_duplicate` meets its contract. While nobody is active there is no duplicate; else another server is in the set where, with the
-- active server, it is not that server alone, since it names existing servers only.
use Rattle.std.proofs.Common.{◌^◌, ◌<◌, sym, ◌∙◌, subst, rules}
use Rattle.session.specs.Limits.{max_servers}
use Rattle.session.proofs.QueueLaws.{other_beside}
use Rattle.soundness.specs.Parts.{Below}
use Rattle.sending.proofs.next_data.is_duplicate.Goals as goal

pub has_other-requires : goal.has_other-requires
has_other-requires c = subst (Below max_servers) c.in-Some.is c.requires.0

pub returns-in-Some : goal.returns-in-Some
returns-in-Some c =
    let z = c in
    let m = z.args.set in
    let low : m < 2 ^ max_servers = search rules in
    let below : c.in-Some.v < max_servers = subst (Below max_servers) c.in-Some.is z.requires.0 in
    rw c.in-Some.is (c.has_other.ensures ∙ sym (other_beside z.args.p.servers max_servers c.in-Some.v m z.requires.1 low below))
