-- The limits of an exporter (01, "Exporter"; the servers by 02, ask 7), each under one name. The most octets of a record is wire's.
use Rattle.std.specs.Prelude.{ℕ, ◌-◌, ◌^◌}

-- The most servers.
abbrev pub max_servers : ℕ
max_servers = 16

-- The set of all servers that there can be; a set has a bit for each of them.
abbrev pub all_servers : ℕ
all_servers = 2 ^ max_servers - 1

-- The greatest threshold.
abbrev pub max_threshold : ℕ
max_threshold = 64

-- The fewest octets that a store has.
abbrev pub min_store_octets : ℕ
min_store_octets = 1024

-- The most octets that a store has.
abbrev pub max_store_octets : ℕ
max_store_octets = 65536

-- The most records that are held at a time.
abbrev pub max_held : ℕ
max_held = 64
