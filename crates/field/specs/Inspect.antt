-- The line that program inspect prints of an event: replay's five fields, what was answered, and what the connection keeps then. Definitions only.
use Rattle.std.specs.Prelude.{ℕ, List, [], ◌∷◌, length, Result, Ok, Err}
use Rattle.std.specs.Bool.{then_some}
use Rattle.model.specs.Timer.{elicits, available}
use Rattle.model.specs.Connection.{Space, Connection}
use Rattle.model.specs.Run.{Answer, done, of_ack, of_timeout, handle, refusal_of}
use Rattle.model.specs.Trace.{shows, text, decimal, timer_text}
use Rattle.model.specs.declared.Congestion.{Congestion}
use Rattle.model.specs.declared.Cubic.{Cubic}
use Rattle.model.specs.declared.Epoch.{Epoch}
use Rattle.model.specs.declared.OnAckReceivedOutcome.{OnAckReceivedOutcome}
use Rattle.model.specs.declared.OnLossDetectionTimeoutOutcome.{OnLossDetectionTimeoutOutcome}
use Rattle.model.specs.declared.Reordering.{Reordering}
use Rattle.model.specs.declared.Rtt.{Rtt}
use Rattle.model.specs.declared.Shared.{Shared}
use Rattle.field.specs.Words.{word, sentence, apart, in_space, number_text, bit_text, float_text, threshold_text}
use Rattle.arith.specs.declared.refusal.Refusal.{Refusal}

-- ---- what was answered: of an ack, of a timeout, of a take

unfoldable pub ack_words : List ℕ → OnAckReceivedOutcome → List ℕ
ack_words tag o =
    sentence
    (word tag "lost_packets" (decimal o.lost_packets)
    ∷ word tag "lost_bytes" (decimal o.lost_bytes)
    ∷ word tag "acked_bytes" (decimal o.acked_bytes)
    ∷ word tag "spurious" (decimal o.spurious_losses)
    ∷ [])

unfoldable pub timeout_words : List ℕ → OnLossDetectionTimeoutOutcome → List ℕ
timeout_words tag o = sentence (word tag "lost_packets" (decimal o.lost_packets) ∷ word tag "lost_bytes" (decimal o.lost_bytes) ∷ [])

-- a refusal has only its number
unfoldable pub told_words : List ℕ → Result Answer Refusal → List ℕ
told_words tag (Ok done) = []
told_words tag (Ok (of_ack o)) = ack_words tag o
told_words tag (Ok (of_timeout o)) = timeout_words tag o
told_words tag (Ok (handle n)) = word tag "handle" (decimal n)
told_words tag (Err n) = []

-- ---- what the spaces share

-- min and max are unset before a sample
unfoldable pub rtt_words : List ℕ → Rtt → List ℕ
rtt_words tag r =
    sentence
    (word tag "latest" (decimal r.latest_rtt.0)
    ∷ word tag "smoothed" (decimal r.smoothed_rtt.0)
    ∷ word tag "rttvar" (decimal r.rttvar.0)
    ∷ word tag "min" (number_text (then_some r.has_first_rtt_sample r.min_rtt.0))
    ∷ word tag "max" (number_text (then_some r.has_first_rtt_sample r.max_rtt.0))
    ∷ [])

unfoldable pub cubic_words : List ℕ → Cubic → List ℕ
cubic_words tag c =
    sentence
    (word tag "w_max" (float_text c.w_max)
    ∷ word tag "k" (float_text c.k)
    ∷ word tag "w_est" (float_text c.w_est)
    ∷ word tag "alpha" (float_text c.alpha_aimd)
    ∷ word tag "cwnd_inc" (decimal c.cwnd_inc)
    ∷ [])

unfoldable pub congestion_words : List ℕ → Congestion → List ℕ
congestion_words tag g =
    sentence
    (word tag "ssthresh" (decimal g.ssthresh)
    ∷ cubic_words tag g.cubic
    ∷ word tag "bytes_acked_sl" (decimal g.bytes_acked_sl)
    ∷ word tag "recovery_start" (timer_text g.congestion_recovery_start_time)
    ∷ word tag "lost_count" (decimal g.lost_count)
    ∷ [])

unfoldable pub reordering_words : List ℕ → Reordering → List ℕ
reordering_words tag r =
    sentence
    (word tag "lost_spurious_count" (decimal r.lost_spurious_count)
    ∷ word tag "pkt_thresh" (decimal r.pkt_thresh)
    ∷ word tag "time_thresh" (threshold_text r.time_thresh)
    ∷ [])

-- the PTO count, the run of non-eliciting packets, the bytes that may be sent
unfoldable pub count_words : List ℕ → ℕ → ℕ → ℕ → List ℕ
count_words tag count run bytes =
    sentence
    (word tag "pto_count" (decimal count)
    ∷ word tag "outstanding_non_ack_eliciting" (decimal run)
    ∷ word tag "cwnd_available" (decimal bytes)
    ∷ [])

unfoldable pub shared_words : List ℕ → Shared → ℕ → List ℕ
shared_words tag s bytes =
    sentence
    (rtt_words tag s.rtt
    ∷ congestion_words tag s.congestion
    ∷ reordering_words tag s.reordering
    ∷ count_words tag s.pto_count s.outstanding_non_ack_eliciting bytes
    ∷ [])

-- ---- a space: counts for its records and queues

unfoldable pub time_words : List ℕ → Epoch → List ℕ
time_words tag e =
    sentence
    (word tag "loss_time" (timer_text e.loss_time)
    ∷ word tag "loss_probes" (decimal e.loss_probes)
    ∷ word tag "in_flight_count" (decimal e.in_flight_count)
    ∷ [])

unfoldable pub frame_words : List ℕ → ℕ → ℕ → ℕ → ℕ → List ℕ
frame_words tag sent acked lost_ack lost_pto =
    sentence
    (word tag "sent_packets" (decimal sent)
    ∷ word tag "acked_frames" (decimal acked)
    ∷ word tag "lost_frames_ack" (decimal lost_ack)
    ∷ word tag "lost_frames_pto" (decimal lost_pto)
    ∷ [])

-- whether the next packet is to elicit an ack, by the run of non-eliciting ones
unfoldable pub last_words : List ℕ → Epoch → ℕ → List ℕ
last_words tag e run =
    sentence
    (word tag "largest_acked" (number_text e.largest_acked_packet)
    ∷ word tag "last_ack_eliciting" (timer_text e.time_of_last_ack_eliciting_packet)
    ∷ word tag "should_elicit_ack" (bit_text (elicits e.loss_probes run))
    ∷ [])

unfoldable pub space_words : List ℕ → Space → ℕ → List ℕ
space_words tag s run =
    sentence
    (time_words tag s.epoch
    ∷ frame_words tag (length s.records) (length s.acked_frames) (length s.lost_frames_ack) (length s.lost_frames_pto)
    ∷ last_words tag s.epoch run
    ∷ [])

-- ---- the line

unfoldable pub available_in : Connection → ℕ
available_in c =
    available c.initial.epoch.loss_probes c.handshake.epoch.loss_probes c.application.epoch.loss_probes
    c.shared.congestion.congestion_window c.shared.bytes_in_flight

unfoldable pub spaces_words : Connection → List ℕ
spaces_words c =
    let run = c.shared.outstanding_non_ack_eliciting in
    sentence (space_words (in_space 0) c.initial run ∷ space_words (in_space 1) c.handshake run ∷ space_words (in_space 2) c.application run ∷ [])

-- replay's five fields
unfoldable pub fields_text : ℕ → ℕ → Shared → List ℕ
fields_text kind refusal s = text (shows kind refusal s.congestion.congestion_window s.bytes_in_flight s.loss_timer)

-- the kind, what was answered, and the connection after the event
unfoldable pub inspected : ℕ → Result Answer Refusal → Connection → List ℕ
inspected kind r c =
    sentence
    (fields_text kind (refusal_of r) c.shared
    ∷ told_words apart r
    ∷ shared_words apart c.shared (available_in c)
    ∷ spaces_words c
    ∷ (10 ∷ [])
    ∷ [])
