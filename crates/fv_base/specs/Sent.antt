-- Between functions: Output that is kept in memory and fails by a list of numbers of calls. Rules of this project.
use Rattle.std.specs.Prelude.{ℕ, List}
use Rattle.fv_base.specs.declared.event.Event.{Event}

pub record MemOutState : Type 0 where
  -- the bytes put so far
  pub sent : List ℕ
  -- the numbers of the calls that fail
  pub failing : List ℕ
  -- the number of the next call; it stands still at 2 ^ 64 - 1
  pub call : ℕ
  pub faults : ℕ
  -- how many bytes can be put without asking for memory
  pub spare : ℕ
  -- what was put out whole, call by call
  pub taken : List Event

-- output in memory that never fails
pub record Sent : Type 0 where
  -- the bytes put so far
  pub sent : List ℕ
  -- the same, call by call
  pub taken : List Event
