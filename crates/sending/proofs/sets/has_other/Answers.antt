-- `has_other` meets its contract. The shift of 1 is the power of 2 that is the server's bit, and the comparison is that of the contract.
use Rattle.std.proofs.Common.{ℕ, not, eqb, ap, arith}
use lib.Bits.{bit_or}
use Rattle.session.specs.Limits.{max_servers}
use Rattle.session.proofs.Arrays.{one_shifted}
use Rattle.sending.proofs.sets.has_other.Goals as goal

pub returns : goal.returns
returns c = ap (λ (x : ℕ). not (eqb (bit_or c.args.set x) x)) (one_shifted max_servers c.args.v (omega arith))
