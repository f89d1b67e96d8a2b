-- Meaning: What words ask for that put questions of a configuration: which questions, and how they are reported. Rules
-- of this project.
use Rattle.std.specs.Prelude.{ℕ, List, Option, Some, None}
use Rattle.rvf_words.specs.declared.line.Line.{Line as Words}
use Rattle.rvf_words.specs.declared.line.Line.TheVariants as words
use Rattle.rvf_words.specs.declared.line.Options.{Options}
use Rattle.rvf_case.specs.Cases.{Request}
use Rattle.rvf_case.specs.Askings.{Asking}
use Rattle.rvf_case.specs.Askings as asking
use Rattle.rvf_checks.specs.declared.wording.Wording.{Wording}
use Rattle.rvf_checks.specs.declared.wording.Wording.TheVariants as wording
use Rattle.rvf_core.specs.Bench as bench

pub record Task : Type 0 where
  pub request : Request
  pub wording : Wording
  -- the folder of the files
  pub folder : List ℕ
  -- how many clauses each question may derive
  pub budget : ℕ
  -- how many variables its clauses are split by
  pub cubes : ℕ

-- the checks of a configuration are asked for
abbrev pub request : List ℕ → List ℕ → List ℕ → Request
request cfg core basedir = record { cfg = cfg; core = core; basedir = basedir; asking = asking.Checks }

-- `run` asks for them
abbrev pub run_task : List ℕ → List ℕ → List ℕ → List ℕ → ℕ → ℕ → Task
run_task cfg outdir core basedir budget cubes = record {
  request = request cfg core basedir;
  wording = wording.Run;
  folder = outdir;
  budget = budget;
  cubes = cubes;
}

-- other questions, with the operands and options of words
abbrev pub task_with : Asking → Wording → Options → Task
task_with asked told o = record {
  request = record { cfg = o.cfg; core = o.core; basedir = o.basedir; asking = asked };
  wording = told;
  folder = o.outdir;
  budget = o.budget;
  cubes = 0;
}

-- `cover` asks for the targets
abbrev pub cover_task : Options → Task
cover_task o = task_with asking.Targets wording.Cover o

-- `zb` for the checks of Zba and Zbs
abbrev pub zb_task : Options → Task
zb_task o = task_with asking.Zb wording.Zb o

-- what a line asks for of files that are given
abbrev pub task_of : Words → Option Task
task_of (words.Run cfg outdir core basedir budget jobs cubes) = Some (run_task cfg outdir core basedir budget cubes)
task_of (words.Cover o) = Some (cover_task o)
task_of (words.Zb o) = Some (zb_task o)
task_of line = None

abbrev pub task_asked : Option Words → Option Task
task_asked None = None
task_asked (Some line) = task_of line

-- `bench` asks for the checks of the design that it makes
abbrev pub bench_task : ℕ → Task
bench_task size = record {
  request = bench.request;
  wording = wording.Bench size;
  folder = bench.folder;
  budget = bench.budget;
  cubes = 0;
}
