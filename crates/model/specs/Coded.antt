-- What the plain numbers of a setting say. 01 'The stage numbers'. Definitions only.
use Rattle.std.specs.Prelude.{ℕ}
use Rattle.arith.specs.Time.{span}
use Rattle.model.specs.declared.Settings.{Settings}

-- bytes, packets, and two spans in nanoseconds
unfoldable pub settings_of : ℕ → ℕ → ℕ → ℕ → Settings
settings_of size packets rtt delay =
    record { max_datagram_size = size; initial_window_packets = packets; initial_rtt = span rtt; max_ack_delay = span delay }
