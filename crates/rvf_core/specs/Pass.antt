-- Meaning: What a delivered line `pass NAME` means: no run of the design lacks the property of the check. Rule of this
-- project.
use Rattle.std.specs.Prelude.{◌≡◌, ℕ, true, List}
use Rattle.std.specs.List.{Contains}
use Rattle.fv_base.specs.Outside.{Told}
use Rattle.fv_base.specs.declared.event.Event.{Event}
use Rattle.vl_size.specs.Size.{Values}
use Rattle.vl_mean.specs.Runs.{IsAssumed, IsRun}
use Rattle.vl_text.specs.SourceText.{Reading}
use Rattle.ck_cfg.specs.declared.check.Check.{Check}
use Rattle.ck_cfg.specs.declared.config.Config.{Config}
use Rattle.ck_cfg.specs.Checks.{checks_of}
use Rattle.ck_design.specs.Choosing.{HasOneRun}
use Rattle.ck_design.specs.Retirements.{holds_over}
use Rattle.rvf_case.specs.Loads.{Reads, design_of}
use Rattle.rvf_case.specs.Cases.{Request}
use Rattle.rvf_core.specs.Checks.{HasRead, has_reads}
use Rattle.rvf_core.specs.Verdicts.{opts_in, text_of, wants_in}

-- The text of the check has a tree, with the macros at its end, and no other one. The design that the tree writes has
-- one run up to the check's cycle for each choice of what is free, and each of them, if it meets the assumptions, has
-- the check's property: over its retirements from the check's first cycle on, by what is probed, under the options that
-- the macros say.
pub record PassMeans (c : Config) (files : List (List ℕ)) (x : Check) : Type 0 where
  pub reading : Reading
  pub reads : Reads (text_of c files x.kind) reading
  pub one : (other : Reading) → Reads (text_of c files x.kind) other → other ≡ reading
  pub runs : (chosen : List Values) → HasOneRun (design_of reading.tree.modules) x.cycle chosen
  pub holds : (run : List Values) → IsRun (design_of reading.tree.modules) x.cycle run
      → IsAssumed (design_of reading.tree.modules) run
      → holds_over run c.nret (wants_in (text_of c files x.kind) reading) x
      (opts_in (text_of c files x.kind) reading) ≡ true

-- What was read are the file of the configuration and those that it names, each once, in order and nothing else; they
-- gave these, as they were before the run; and so passes a check with this name.
pub record HasPassed (q : Request) (held : Told) (events : List Event) (name : List ℕ) : Type 0 where
  pub config : Config
  pub files : List (List ℕ)
  pub read : HasRead q held config files
  pub heard : events ≡ has_reads q held config files read
  pub check : Check
  pub among : Contains (checks_of config) check
  pub named : check.name ≡ name
  pub means : PassMeans config files check
