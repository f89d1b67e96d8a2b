use Rattle.std.proofs.Common.{◌≡◌, ◌≤◌, ◌++◌, take}
use Rattle.fv_base.specs.Outside.{SameFiles}
use Rattle.rvf_case.specs.Cases.{AreRead}
use Rattle.rvf_case.specs.Hearing.{gave}
use Rattle.rvf_case.proofs.reading.read_files.Given as goal

abbrev pub invariant-loop-name : goal.invariant-loop-name
invariant-loop-name g l = record {
  kept : SameFiles (g.F.Files.state l.fn.files).held (g.F.Files.state l.files).held;
  written : (g.F.Files.state l.files).written ≡ (g.F.Files.state l.fn.files).written;
  misses : (g.F.Files.state l.fn.files).misses ≤ (g.F.Files.state l.files).misses;
  faults : (g.F.Files.state l.fn.files).faults ≤ (g.F.Files.state l.files).faults;
  quiet : (g.F.Files.state l.files).faults ≡ (g.F.Files.state l.fn.files).faults;
  read : AreRead (g.F.Files.state l.fn.files).held (take l.name-index l.names) l.texts;
  heard : (g.F.Files.state l.files).heard
      ≡ (g.F.Files.state l.fn.files).heard ++ gave (take l.name-index l.names) l.texts;
}
