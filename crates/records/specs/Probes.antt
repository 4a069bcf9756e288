-- The handles that a PTO queues, as a list and as stores. 01 'Timer and PTO (000)'. Definitions only.
-- At most `capacity` records are held and the queue was empty, so the queue is never full and model's `probe_handles` never refuses: `probe-handles` in proofs/Handles.antt.
use Rattle.std.specs.Prelude.{ℕ, ◌+◌, ◌-◌, ◌≡◌, Bool, cond, ◌&&◌, List, [], ◌∷◌, eqb, ltb, length}
use Rattle.model.specs.Sent.{standing}
use Rattle.model.specs.declared.Sent.{Sent}
use Rattle.records.specs.View.{store_handle, store_handles}

-- a data packet neither acked nor lost
unfoldable pub awaits_of : Sent → Bool
awaits_of r = r.has_data && standing r

-- a handle before others, unless it is 0
unfoldable pub unless_none : ℕ → List ℕ → List ℕ
unless_none handle l = cond (eqb handle 0) l (handle ∷ l)

-- handles of `probes` oldest data packets neither acked nor lost; a handle 0 counts but adds none
unfoldable pub probes_of : ℕ → List Sent → List ℕ
unfolding awaits_of unless_none
probes_of probes [] = []
probes_of probes (r ∷ l) = cond (ltb 0 probes && awaits_of r) (unless_none r.handle (probes_of (probes - 1) l)) (probes_of probes l)

-- a handle stored at place i unless it is 0, and how many that are
pub record Put (m : List ℕ) (n w i handle r : ℕ) (m' : List ℕ) : Type 0 where
  pub count : r ≡ cond (eqb handle 0) 0 1
  pub memory : m' ≡ cond (eqb handle 0) m (store_handle m n w i handle)

-- the handles stored from place i on, with the place after them: all else is as it was
pub record StoredFrom (m : List ℕ) (n w i : ℕ) (l : List ℕ) (r : ℕ) (m' : List ℕ) : Type 0 where
  pub count : r ≡ i + length l
  pub memory : m' ≡ store_handles m n w i l
