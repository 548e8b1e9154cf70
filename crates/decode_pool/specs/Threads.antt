-- What the threads of a desk are told, and whom that wakes.
use Rattle.std.specs.Prelude.{◌≡◌, ◌+◌, ◌%◌, ◌^◌, ◌<◌, Bool, true, false, MatchBool}
use Rattle.decode_pool.specs.declared.status.Sleepers.{Sleepers}
use Rattle.decode_pool.specs.declared.status.DeskStatus.{DeskStatus}
use Rattle.decode_pool.specs.declared.status.Wakes.{Wakes}

-- whether one sleeps whom nobody told to wake up; it is told then
pub record WakesOne (old : Sleepers) (wakes : Bool) (new : Sleepers) : Type 0 where
  pub asleep : new.asleep ≡ old.asleep
  pub woken : MatchBool wakes ((old.woken < old.asleep) × (new.woken ≡ old.woken + 1))
      ((old.woken ≡ old.asleep) × (new.woken ≡ old.woken))

-- whether some sleep whom nobody told to wake up; all are told then
pub record WakesAll (old : Sleepers) (wakes : Bool) (new : Sleepers) : Type 0 where
  pub asleep : new.asleep ≡ old.asleep
  pub woken : new.woken ≡ old.asleep
  pub some : MatchBool wakes (old.woken < old.asleep) (old.woken ≡ old.asleep)

-- there is news, and all who wait for it are told; nothing else changes
pub record WakesForNews (old : DeskStatus) (wakes : Bool) (new : DeskStatus) : Type 0 where
  pub watchers : WakesAll old.watchers wakes new.watchers
  pub rest : new ≡ record old { news = (old.news + 1) % 2 ^ 64; watchers = new.watchers }

-- a change is told to one worker, to all seats that wait and to all who wait for news; nothing else
-- changes
pub record Tells (old : DeskStatus) (wakes : Wakes) (new : DeskStatus) : Type 0 where
  pub workers : WakesOne old.workers wakes.workers new.workers
  pub seats : WakesAll old.seats wakes.seats new.seats
  pub watchers : WakesAll old.watchers wakes.watchers new.watchers
  pub rest : new ≡ record old {
    workers = new.workers;
    seats = new.seats;
    news = (old.news + 1) % 2 ^ 64;
    watchers = new.watchers;
  }

-- the desk is closed: that is told to all workers and to all who wait for news, and to no seat;
-- nothing else changes
pub record Closes (old : DeskStatus) (wakes : Wakes) (new : DeskStatus) : Type 0 where
  pub workers : WakesAll old.workers wakes.workers new.workers
  pub seats : wakes.seats ≡ false
  pub watchers : WakesAll old.watchers wakes.watchers new.watchers
  pub rest : new ≡ record old { closed = true; workers = new.workers; watchers = new.watchers }
