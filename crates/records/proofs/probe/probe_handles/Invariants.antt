-- `probe::probe_handles` meets its contract. The invariant: the handles still to come, stored from the next free place on, give the same end.
use Prim.Native.Nat.{◌≤◌}
use Rattle.records.specs.View.{records_of}
use Rattle.records.specs.Probes.{probes_of}
use Rattle.records.proofs.Handles.{Left}
use Rattle.records.proofs.probe.probe_handles.Given as goal

abbrev pub invariant-loop-i : goal.invariant-loop-i
invariant-loop-i l = (l.stored ≤ l.i) × Left l.m l.n l.first l.count l.i l.stored l.left l.initial.m (probes_of l.probes (records_of l.initial.m l.n l.first l.count))
