-- The definitions, in reading order: limits, servers, the queue, sound states, the calls and their steps, the history, the claim by meaning
-- and the claim over octets. Then what is claimed of the steps besides: the examples, the rules about servers as a table, the order of
-- refusals, the timer, the counters, S on what is sent again, that a refusal changes nothing, and that entries without a server are
-- ignored.
pub mod Limits
pub mod Servers
pub mod Queue
pub mod Sound
pub mod Steps
pub mod History
pub mod Claim
pub mod InOctets
pub mod Examples
pub mod Rules
pub mod Order
pub mod Timer
pub mod Counters
pub mod Resends
pub mod Refusals
pub mod Unused
