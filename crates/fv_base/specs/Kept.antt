-- Between functions: What the implementations in memory show of themselves. Rules of this project.
use Rattle.std.specs.Prelude.{ℕ, List}
use Rattle.fv_base.specs.Outside.{Names}
use Rattle.fv_base.specs.Store.{names_in}
use Rattle.fv_base.specs.declared.event.Event.{Event}
use Rattle.fv_base.specs.declared.sure_files.SureFiles.{SureFiles}
use Rattle.fv_base.specs.declared.mem_files.MemFiles.{MemFiles}

-- what each name holds in the files that never fail
abbrev pub sure_names : SureFiles → Names
sure_names files = names_in files.store

-- files in memory that fail by a list of numbers of calls
pub record MemState : Type 0 where
  pub names : Names
  -- the numbers of the calls that fail
  pub failing : List ℕ
  -- the number of the next call; it stands still at 2 ^ 64 - 1
  pub call : ℕ
  pub faults : ℕ
  pub misses : ℕ
  -- what was read, and what was written
  pub heard : List Event
  pub written : List Event

abbrev pub mem_state : MemFiles → MemState
mem_state files = record {
  names = names_in files.store;
  failing = files.calls.failing.items;
  call = files.calls.next;
  faults = files.calls.faults;
  misses = files.misses;
  heard = files.heard;
  written = files.written;
}
