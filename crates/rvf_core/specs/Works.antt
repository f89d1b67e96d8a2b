-- Between functions: What a call is given that puts questions of a configuration. Rule of this project.
use Rattle.rvf_case.specs.Askings.{asking_seen}
use Rattle.rvf_core.specs.Tasks.{Task}
use Rattle.rvf_core.specs.declared.exporting.ExportRequest.{ExportRequest}
use Rattle.rvf_core.specs.declared.lengths.LengthRequest.{LengthRequest}
use Rattle.rvf_core.specs.declared.work.Work.{Work}
use Rattle.rvf_words.specs.declared.line.Line.{Line as Words}
use Rattle.rvf_words.specs.declared.line.Line.TheVariants as words
use Rattle.rvf_words.specs.declared.line.Options.{Options}

-- as a call was given it
abbrev pub task_seen : Work → Task
task_seen w = record {
  request = record { cfg = w.cfg.now; core = w.core.now; basedir = w.basedir.now; asking = asking_seen w.asking };
  wording = w.wording;
  folder = w.outdir.now;
  budget = w.budget;
  cubes = w.cubes;
}

-- the line that asks for the graph of a check, as a call was given it
abbrev pub line_seen : ExportRequest → Words
line_seen e = words.Toaig e.cfg.now e.check.now e.file.now e.core.now e.basedir.now

-- the operands and options of the line that asks for runs of every length, and the line
abbrev pub options_seen : LengthRequest → Options
options_seen l = record {
  cfg = l.cfg.now;
  outdir = l.outdir.now;
  core = l.core.now;
  basedir = l.basedir.now;
  budget = l.budget;
  jobs = l.jobs;
}

abbrev pub length_seen : LengthRequest → Words
length_seen l = words.Induct (options_seen l) l.steps
