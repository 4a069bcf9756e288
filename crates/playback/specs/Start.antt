-- Where a replay starts. 01 'The stage numbers': the values that cases and replay use. Definitions only.
use Rattle.std.specs.Prelude.{ℕ, List, [], replicate}
use Rattle.arith.specs.Time.{span}
use Rattle.model.specs.declared.Settings.{Settings}
use Rattle.records.specs.View.{all_words}
use Rattle.connection.specs.declared.State.{State}
use Rattle.playback.specs.declared.Replay.{Replay}

-- datagram size 1,200, initial window 10 packets, initial RTT 333 ms, max ack delay 25 ms
abbrev pub replay_settings : Settings
replay_settings = record { max_datagram_size = 1200; initial_window_packets = 10; initial_rtt = span 333000000; max_ack_delay = span 25000000 }

-- at the trace's first byte, with no ranges held, no event accepted and any words
abbrev pub start_on : List ℕ → State → Replay
start_on m s = record { at = 0; held = []; accepted = 0; state = s; words = m }

-- with nothing in the words
abbrev pub start_with : State → Replay
start_with s = start_on (replicate all_words 0) s
