-- `write_bare` meets its contract: a message without fields is its header.
use mathlib.Core.Path.{refl}
use mathlib.Core.List.{[]}
use Rattle.ipdr.specs.Messages.{numbers}
use Rattle.ipdr.proofs.Messages.{bare_short, bare_done}
use Rattle.ipdr_writing.proofs.write.write_bare.Goals as goal

pub returns-then-out-lt-HEADER_OCTETS : goal.returns-then-out-lt-HEADER_OCTETS
returns-then-out-lt-HEADER_OCTETS c =
    λ part. bare_short (numbers c.args.number c.args.session []) part _ [] c.requires.0 c.requires.1 c.if-out-lt-HEADER_OCTETS.true

pub returns : goal.returns
returns c =
    λ part.
    bare_done (numbers c.args.number c.args.session []) part _ [] c.requires.0 c.requires.1 _ _ c.if-out-lt-HEADER_OCTETS.false
    c.put_header.ensures
    refl
