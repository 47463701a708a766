-- A session as a driver goes through it; and, passed on from `session`, the definitions in reading order: limits, servers, the queue, sound
-- states, the calls and their steps, the history, the claim by meaning and over octets, batches, and what is claimed of the steps besides.
pub mod Driving
pub use Rattle.wire.specs.Replies
pub use Rattle.session.specs.Limits
pub use Rattle.session.specs.Servers
pub use Rattle.session.specs.Queue
pub use Rattle.session.specs.Sound
pub use Rattle.session.specs.Steps
pub use Rattle.session.specs.History
pub use Rattle.session.specs.Claim
pub use Rattle.session.specs.InOctets
pub use Rattle.batches.specs.Batches
pub use Rattle.session.specs.Examples
pub use Rattle.session.specs.Rules
pub use Rattle.session.specs.Order
pub use Rattle.session.specs.Timer
pub use Rattle.session.specs.Counters
pub use Rattle.session.specs.Refusals
