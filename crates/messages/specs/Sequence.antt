-- Sequence numbers, for exporter and collector alike (01, "Exporter"; 02, asks 1 and 4). They have w bits; CRANE's have 32.
use Rattle.std.specs.Prelude.{ℕ, ◌+◌, ◌%◌, ◌^◌}

-- How many sequence numbers there are.
abbrev pub modulus : ℕ → ℕ
modulus w = 2 ^ w

-- The sequence number behind another: plus 1, modulo 2 ^ w.
abbrev pub following : ℕ → ℕ → ℕ
following w dsn = (dsn + 1) % modulus w
