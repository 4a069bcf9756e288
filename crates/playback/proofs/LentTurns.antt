-- A turn on lent words is the turn of the replay that they stand for, and so what is told of it, a buffer after another, is the definition's lines. Assumes nothing.
use mathlib.Core.Path.{◌≡◌, refl, ◌∙◌}
use mathlib.Core.Bool.{Bool, true, false, cond}
use mathlib.Core.List.{List}
use Prim.Native.Nat.{ℕ, ◌+◌, ◌%◌, ◌≤◌, ◌<◌}
use native.Mathlib.Omega.{arith}
use lib.Dec.{ltb}
use lib.ListN.{length, take, set, length-take, length-set}
use Rattle.model.specs.Trace.{printed, replay}
use Rattle.connection.specs.View.{connection_of}
use Rattle.connection.specs.declared.State.{State}
use Rattle.trace.specs.Held.{held_words, firsts, words_with}
use Rattle.trace.specs.Reading.{found_at, kind_at, next_at, kept_by}
use Rattle.trace.specs.declared.Event.{Event}
use Rattle.trace.specs.declared.Event.TheVariants as event
use Rattle.trace.specs.declared.Found.{Found}
use Rattle.trace.specs.declared.Found.TheVariants as found
use Rattle.trace.specs.declared.Range.{Range}
use Rattle.trace.proofs.Behinds.{behind_put}
use Rattle.trace.proofs.Holding.{holds, count-even}
use Rattle.trace.proofs.Puts.{put_length}
use Rattle.playback.specs.Turns.{Turns}
use Rattle.playback.specs.Printed.{Sound, Shows}
use Rattle.playback.specs.Whole.{Writes, last, more}
use Rattle.playback.specs.Lent.{standing_first, words_after, TurnsLent, TellsLent, replay_in, SoundLent, ShowsLent, WritesLent, last_lent, more_lent}
use Rattle.playback.specs.declared.Replay.{Replay}
use Rattle.playback.specs.declared.lent.Progress.{Progress}
use Rattle.playback.specs.declared.lent.Standing.{Standing}
use Rattle.playback.specs.declared.lent.Turned.{Turned}
use Rattle.playback.proofs.Shown.{step-shows}
use Rattle.playback.proofs.Whole.{writes-replay}

-- the held ranges after an event
kept : (e : Event) (ranges : List ℕ) (n : ℕ) → firsts (words_after e n) ranges ≡ kept_by e (firsts n ranges)
unfolding kept_by
kept (event.Sent e) ranges n = refl
kept (event.Ack e) ranges n = refl
kept (event.Timeout e) ranges n = refl
kept (event.Discard e) ranges n = refl
kept (event.Size x) ranges n = refl
kept (event.TakeAcked x) ranges n = refl
kept (event.TakeLost x) ranges n = refl
kept (event.Ping x) ranges n = refl

kept-pairs : (e : Event) (n : ℕ) → n % 2 ≡ 0 → words_after e n % 2 ≡ 0
kept-pairs (event.Sent e) n h = h
kept-pairs (event.Ack e) n h = refl
kept-pairs (event.Timeout e) n h = h
kept-pairs (event.Discard e) n h = h
kept-pairs (event.Size x) n h = h
kept-pairs (event.TakeAcked x) n h = h
kept-pairs (event.TakeLost x) n h = h
kept-pairs (event.Ping x) n h = h

-- as many words as before
cond-length : (b : Bool) (l k : List ℕ) → length l ≡ length k → length (cond b l k) ≡ length k
cond-length true l k e = e
cond-length false l k e = refl

with-length : (ranges : List ℕ) (n : ℕ) (x : Range) → length (words_with ranges n x) ≡ length ranges
unfolding words_with
with-length ranges n x =
    cond-length (ltb (n + 1) held_words) (set (set ranges n x.start) (n + 1) x.end) ranges
    (length-set (set ranges n x.start) (n + 1) x.end ∙ length-set ranges n x.start)

module _ (kind next : ℕ) (ranges ranges' m m' : List ℕ) (r : Standing) (t : Turned) (sound : SoundLent ranges r) where
  pub turn-lent : (f : Found) → TurnsLent f kind next r t ranges ranges' m m' → Turns f kind next t.met (replay_in ranges m r) (replay_in ranges' m' t.replay)
  turn-lent found.End h = rw (h.turned, h.held, h.memory) (record { met = refl; replay = refl })
  turn-lent found.Bad h = rw (h.turned, h.held, h.memory) (record { met = refl; replay = refl })
  turn-lent (found.Range x) h = rw (h.0.turned, h.0.held, h.1, holds ranges r.held x sound.words sound.pairs) (record { met = refl; replay = refl })
  turn-lent (found.Event e) h =
      record {
        met = h.0.met;
        plays = record { did = h.0.did; at = h.0.at; held = rw (h.0.held, h.1) (kept e ranges r.held); accepted = h.0.accepted };
      }

  words-after : (f : Found) → TurnsLent f kind next r t ranges ranges' m m' → length ranges' ≡ held_words
  words-after found.End h = rw h.held sound.words
  words-after found.Bad h = rw h.held sound.words
  words-after (found.Range x) h = rw h.0.held (with-length ranges r.held x ∙ sound.words)
  words-after (found.Event e) h = rw h.1 sound.words

  pairs-after : (f : Found) → TurnsLent f kind next r t ranges ranges' m m' → t.replay.held % 2 ≡ 0
  pairs-after found.End h = rw h.turned sound.pairs
  pairs-after found.Bad h = rw h.turned sound.pairs
  pairs-after (found.Range x) h = rw h.0.turned (count-even ranges r.held x sound.words sound.pairs)
  pairs-after (found.Event e) h = rw h.0.held (kept-pairs e r.held sound.pairs)

  pub sound-after : (f : Found) → TurnsLent f kind next r t ranges ranges' m m' → Sound (replay_in ranges' m' t.replay) → SoundLent ranges' t.replay
  sound-after f h s = record { words = words-after f h; pairs = pairs-after f h; few = s.few }

module _ (bytes ranges ranges' m m' : List ℕ) (r : Standing) (t : Turned) (byte : kind_at bytes r.at < 256) (fits : length bytes ≤ 18446744073709551615)
    (sound : SoundLent ranges r) (turns : TurnsLent (found_at bytes r.at) (kind_at bytes r.at) (next_at bytes r.at) r t ranges ranges' m m')
    (out out' : List ℕ) (filled : ℕ) (p : Progress) (tells : TellsLent t r.at filled p out out') (room : filled + 96 ≤ length out) where
  abbrev after : Replay
  after = replay_in ranges' m' t.replay

  shows : Shows bytes (take filled out) (take p.filled out') (replay_in ranges m r) after p.ended
  shows =
      step-shows bytes (replay_in ranges m r) after t.met byte fits (record { few = sound.few })
      (turn-lent (kind_at bytes r.at) (next_at bytes r.at) ranges ranges' m m' r t sound (found_at bytes r.at) turns)
      (length out) (take filled out) (take p.filled out') p.ended
      (record { put = behind_put (omega arith) (tells.put m') refl refl; ended = tells.ended })
      (rw (length-take filled out) (omega arith))

  pub step-shows-lent : ShowsLent bytes ranges ranges' m m' out out' filled r p
  step-shows-lent =
      record {
        shown = rw tells.replay shows.shown;
        sound = rw tells.replay (sound-after (kind_at bytes r.at) (next_at bytes r.at) ranges ranges' m m' r t sound (found_at bytes r.at) turns shows.goes_on.sound);
        size = put_length (tells.put m');
        inside = let e = (tells.put m').place in omega arith;
        further = λ z. rw tells.replay (shows.goes_on.further z);
        within = λ z. rw tells.replay (shows.goes_on.within z);
      }

-- ---- a whole replay

shows-lent : {bytes ranges ranges' m m' out out' : List ℕ} {r : Standing} {p : Progress} (b : Bool) → p.ended ≡ b → ShowsLent bytes ranges ranges' m m' out out' 0 r p →
    Shows bytes (take 0 out) (take p.filled out') (replay_in ranges m r) (replay_in ranges' m' p.replay) b
shows-lent b e h =
    rw (← e) (record { shown = h.shown; goes_on = record { sound = record { few = h.sound.few }; further = h.further; within = h.within } })

pub writes-lent : {bytes ranges m written : List ℕ} {r : Standing} → WritesLent bytes ranges m r written → Writes bytes (replay_in ranges m r) written
writes-lent (last_lent h e) = last (shows-lent true e h)
writes-lent (more_lent h e w) = more (shows-lent false e h) (writes-lent w)

-- a trace that is not too long, from a connection on, over any words
pub writes-replay-lent : (bytes ranges m written : List ℕ) (s : State) → length bytes ≤ 65536 → WritesLent bytes ranges m (standing_first s) written →
    written ≡ printed (replay bytes (connection_of m s))
writes-replay-lent bytes ranges m written s le w = writes-replay bytes m written s le (writes-lent w)
