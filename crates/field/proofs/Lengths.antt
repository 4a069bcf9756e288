-- Every line fits 2,048 bytes, and its first part is replay's line. Assumes nothing.
use mathlib.Core.Path.{◌≡◌, refl}
use mathlib.Core.Bool.{Bool, true, false}
use mathlib.Core.List.{List, [], ◌∷◌}
use Prim.Native.Nat.{ℕ, ◌+◌, ◌*◌, ◌≤◌, ◌<◌}
use native.Mathlib.Omega.{arith}
use lib.ListN.{length, take, replicate, length-append}
use lib.Ieee.{Float, binary64, to_bits}
use Rattle.arith.specs.declared.round.TimeThreshold.{TimeThreshold}
use Rattle.arith.specs.declared.round.TimeThreshold.TheVariants.{NineEighths, FiveFourths}
use Rattle.model.specs.Timer.{elicits}
use Rattle.model.specs.Connection.{Space, Connection}
use Rattle.model.specs.Events.{Step}
use Rattle.model.specs.Run.{Answer, done, of_ack, of_timeout, handle, refusal_of}
use Rattle.model.specs.Trace.{shows, text, line_of, printed}
use Rattle.model.specs.declared.Congestion.{Congestion}
use Rattle.model.specs.declared.Cubic.{Cubic}
use Rattle.model.specs.declared.Epoch.{Epoch}
use Rattle.model.specs.declared.Reordering.{Reordering}
use Rattle.model.specs.declared.Rtt.{Rtt}
use Rattle.model.specs.declared.Shared.{Shared}
use Rattle.connection.specs.View.{answer_of}
use Rattle.trace.specs.Put.{Put}
use Rattle.trace.specs.Behind.{Behind}
use Rattle.trace.specs.Padded.{padded}
use Rattle.trace.proofs.Digits.{decimal-length}
use Rattle.std.specs.Bool.{then_some}
use Rattle.trace.proofs.Behinds.{behind_all, behind_put}
use Rattle.trace.proofs.Lines.{timer-length, shown-length, put-padded}
use Rattle.field.specs.Words.{apart, in_space, number_text, bit_text, threshold_text, float_text}
use Rattle.field.specs.Inspect.{ack_words, timeout_words, told_words, rtt_words, cubic_words, congestion_words, reordering_words, count_words, shared_words, time_words, frame_words, last_words, space_words, spaces_words, available_in, fields_text, inspected}
use Rattle.field.proofs.Floats.{hex-length}
use Rattle.std.specs.Prelude.{Result, Ok, Err, Option, Some, None}
use Rattle.arith.specs.declared.refusal.Refusal.{Refusal}

-- ---- values

number-length : (n : Option ℕ) → length (number_text n) ≤ 20
number-length None = omega arith
number-length (Some n) = decimal-length n

bit_length : (b : Bool) → length (bit_text b) ≤ 1
bit_length true = omega arith
bit_length false = omega arith

threshold-length : (t : TimeThreshold) → length (threshold_text t) ≤ 3
threshold-length NineEighths = omega arith
threshold-length FiveFourths = omega arith

float-length : (x : Float) → length (float_text x) ≤ 16
float-length x = let h = hex-length 16 (to_bits binary64 x) [] in omega arith

-- ---- words

module _ (tag : List ℕ) where
  rtt-length : (r : Rtt) → length (rtt_words tag r) ≤ 5 * length tag + 131
  unfolding rtt_words
  rtt-length r =
      let a = decimal-length r.latest_rtt.0 in
      let b = decimal-length r.smoothed_rtt.0 in
      let c = decimal-length r.rttvar.0 in
      let d = number-length (then_some r.has_first_rtt_sample r.min_rtt.0) in
      let e = number-length (then_some r.has_first_rtt_sample r.max_rtt.0) in
      simp length-append (omega arith)

  cubic-length : (c : Cubic) → length (cubic_words tag c) ≤ 5 * length tag + 113
  unfolding cubic_words
  cubic-length c =
      let a = float-length c.w_max in
      let b = float-length c.k in
      let d = float-length c.w_est in
      let e = float-length c.alpha_aimd in
      let f = decimal-length c.cwnd_inc in
      simp length-append (omega arith)

  congestion-length : (g : Congestion) → length (congestion_words tag g) ≤ 9 * length tag + 243
  unfolding congestion_words
  congestion-length g =
      let a = decimal-length g.ssthresh in
      let b = cubic-length g.cubic in
      let c = decimal-length g.bytes_acked_sl in
      let d = timer-length g.congestion_recovery_start_time in
      let e = decimal-length g.lost_count in
      simp length-append (omega arith)

  reordering-length : (r : Reordering) → length (reordering_words tag r) ≤ 3 * length tag + 86
  unfolding reordering_words
  reordering-length r =
      let a = decimal-length r.lost_spurious_count in
      let b = decimal-length r.pkt_thresh in
      let c = threshold-length r.time_thresh in
      simp length-append (omega arith)

  count-length : (count run bytes : ℕ) → length (count_words tag count run bytes) ≤ 3 * length tag + 115
  unfolding count_words
  count-length count run bytes =
      let a = decimal-length count in
      let b = decimal-length run in
      let c = decimal-length bytes in
      simp length-append (omega arith)

  shared-length : (s : Shared) (bytes : ℕ) → length (shared_words tag s bytes) ≤ 20 * length tag + 575
  unfolding shared_words
  shared-length s bytes =
      let a = rtt-length s.rtt in
      let b = congestion-length s.congestion in
      let c = reordering-length s.reordering in
      let d = count-length s.pto_count s.outstanding_non_ack_eliciting bytes in
      simp length-append (omega arith)

  time-length : (e : Epoch) → length (time_words tag e) ≤ 3 * length tag + 98
  unfolding time_words
  time-length e =
      let a = timer-length e.loss_time in
      let b = decimal-length e.loss_probes in
      let c = decimal-length e.in_flight_count in
      simp length-append (omega arith)

  frame-length : (sent acked ack pto : ℕ) → length (frame_words tag sent acked ack pto) ≤ 4 * length tag + 138
  unfolding frame_words
  frame-length sent acked ack pto =
      let a = decimal-length sent in
      let b = decimal-length acked in
      let c = decimal-length ack in
      let d = decimal-length pto in
      simp length-append (omega arith)

  last-length : (e : Epoch) (run : ℕ) → length (last_words tag e run) ≤ 3 * length tag + 92
  unfolding last_words
  last-length e run =
      let a = number-length e.largest_acked_packet in
      let b = timer-length e.time_of_last_ack_eliciting_packet in
      let c = bit_length (elicits e.loss_probes run) in
      simp length-append (omega arith)

  space-length : (s : Space) (run : ℕ) → length (space_words tag s run) ≤ 10 * length tag + 328
  unfolding space_words
  space-length s run =
      let a = time-length s.epoch in
      let b = frame-length (length s.records) (length s.acked_frames) (length s.lost_frames_ack) (length s.lost_frames_pto) in
      let c = last-length s.epoch run in
      simp length-append (omega arith)

  told-length : (r : Result Answer Refusal) → length (told_words tag r) ≤ 4 * length tag + 125
  unfolding told_words ack_words timeout_words
  told-length (Ok done) = omega arith
  told-length (Ok (of_ack o)) =
      let a = decimal-length o.lost_packets in
      let b = decimal-length o.lost_bytes in
      let c = decimal-length o.acked_bytes in
      let d = decimal-length o.spurious_losses in
      simp length-append (omega arith)
  told-length (Ok (of_timeout o)) =
      let a = decimal-length o.lost_packets in
      let b = decimal-length o.lost_bytes in
      simp length-append (omega arith)
  told-length (Ok (handle n)) = let a = decimal-length n in simp length-append (omega arith)
  told-length (Err k) = omega arith

-- ---- the line

fields-length : (kind refusal : ℕ) (s : Shared) → kind < 256 → length (fields_text kind refusal s) ≤ 95
unfolding fields_text printed
fields-length kind refusal s lt =
    let h = shown-length kind refusal s.congestion.congestion_window s.bytes_in_flight s.loss_timer lt in
    let e = length-append (text (shows kind refusal s.congestion.congestion_window s.bytes_in_flight s.loss_timer)) (10 ∷ []) in
    omega arith

spaces-length : (c : Connection) → length (spaces_words c) ≤ 1074
unfolding spaces_words
spaces-length c =
    let run = c.shared.outstanding_non_ack_eliciting in
    let a = space-length (in_space 0) c.initial run in
    let b = space-length (in_space 1) c.handshake run in
    let d = space-length (in_space 2) c.application run in
    simp length-append (omega arith)

pub inspected-length : (kind : ℕ) (r : Result Answer Refusal) (c : Connection) → kind < 256 → length (inspected kind r c) ≤ 2048
unfolding inspected
inspected-length kind r c lt =
    let a = fields-length kind (refusal_of r) c.shared lt in
    let b = told-length apart r in
    let d = shared-length apart c.shared (available_in c) in
    let e = spaces-length c in
    simp length-append (omega arith)

-- replay's line of an event, by the step that the event took
pub fields-line : (kind : ℕ) (r : Result (Step Answer) Refusal) (c : Connection) → fields_text kind (refusal_of (answer_of r)) c.shared ≡ text (line_of kind r c)
unfolding fields_text line_of
fields-line kind (Ok s) c = refl
fields-line kind (Err k) c = refl

-- a buffer of zeros holds the whole line, and zeros behind it
pub inspected-page : {z out : List ℕ} {next : ℕ} (kind : ℕ) (r : Result Answer Refusal) (c : Connection) → kind < 256 → z ≡ replicate 2048 0 →
    Put z 0 (inspected kind r c) out next → (out ≡ padded 2048 (inspected kind r c)) × (next ≡ length (inspected kind r c))
inspected-page kind r c lt e p = put-padded 2048 (inspected kind r c) e p (inspected-length kind r c lt)

-- an empty text holds the whole line
pub inspected-text : {out : List ℕ} (kind : ℕ) (r : Result Answer Refusal) (c : Connection) → kind < 256 → Behind 2048 [] (inspected kind r c) out → out ≡ inspected kind r c
inspected-text kind r c lt p = let h = inspected-length kind r c lt in behind_all p (omega arith)

-- and so do the first bytes of any buffer that long
pub inspected-first : {z out : List ℕ} {next : ℕ} (kind : ℕ) (r : Result Answer Refusal) (c : Connection) → kind < 256 → length z ≡ 2048 →
    Put z 0 (inspected kind r c) out next → take next out ≡ inspected kind r c
inspected-first kind r c lt size p = inspected-text kind r c lt (behind_put (omega arith) p size refl)
