-- `probe::probe` meets its contract: state and words are what the calls leave.
use Rattle.timeout.specs.Probe.{probed_state, probed_words}
use mathlib.Core.Path.{refl, ◌∙◌}
use Rattle.timeout.proofs.probe.probe.Goals as goal

pub returns : goal.returns
unfolding probed_state probed_words
returns c =
    record {
      state = c.with_space.ensures ∙ rw (c.with_probes.ensures, c.queue_again-lost_pto.ensures.count, c.normal.ensures, c.space_at.ensures) refl;
      memory = c.queue_again-lost_pto.ensures.memory ∙ rw (c.normal.ensures, c.space_at.ensures) refl;
    }
