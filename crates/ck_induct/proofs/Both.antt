-- Both halves at once.
use Rattle.std.specs.Prelude.{ℕ, Bool, List}
use Rattle.vl_size.specs.Size.{Values}
use Rattle.vl_mean.specs.Parts.{Part}
use Rattle.vl_mean.specs.Runs.{IsRun}
use Rattle.wn_net.specs.declared.names.Names.{Names}
use Rattle.wn_net.specs.Net.{Netlist, IsNet}
use Rattle.bm_unroll.specs.Frames.{IsChoice}
use Rattle.bm_induct.specs.Halves.{IsStepChoice}
use Rattle.bm_induct.specs.StepRuns.{IsBaseRun, IsStepRun}
use Rattle.bm_decide.specs.declared.verdict.Certificate.{Certificate}
use Rattle.ck_design.specs.Notes.{choice_notes}
use Rattle.ck_induct.specs.Halves.{AreClausesOf, AreMapsOn, LacksLast, LacksWithin}
use Rattle.ck_induct.specs.Laws.{HalvesHaveTheirClauses, NoneOfTheDesignFails, RefutedHalvesHaveNone, TellsLack}
use Rattle.ck_induct.specs.Verdicts.{AreBitsBy, AreOfChoices}
use Rattle.ck_induct.proofs.Clauses.{are_clauses}
use Rattle.ck_induct.proofs.TwoHalves.{base_made, never_fails, none_fail_first, none_step, step_made}

module _ (ps : List Part) (net : Netlist) (names : Names) (has : Values → Bool) (bad k : ℕ) (c : Certificate)
    (t : TellsLack ps net names has bad) (whole : IsNet net) where
  base_clauses : AreBitsBy net (IsChoice net k) c.bits → AreOfChoices net (IsChoice net k) (IsBaseRun net bad k) c
      → AreClausesOf (IsRun ps k) (LacksWithin ps has k) (choice_notes names c.bits) c.formula
  base_clauses are m =
      are_clauses net names (IsChoice net k) (IsBaseRun net bad k) (IsRun ps k) (LacksWithin ps has k) c
      (base_made ps net names has bad t whole k) are m

  step_clauses : AreBitsBy net (IsStepChoice net k) c.bits
      → AreOfChoices net (IsStepChoice net k) (IsStepRun net bad k) c
      → AreClausesOf (AreMapsOn ps k) (LacksLast ps has k) (choice_notes names c.bits) c.formula
  step_clauses are m =
      are_clauses net names (IsStepChoice net k) (IsStepRun net bad k) (AreMapsOn ps k) (LacksLast ps has k) c
      (step_made ps net names has bad t whole k) are m

pub clauses_of_halves : HalvesHaveTheirClauses
clauses_of_halves ps net names has bad k c t whole =
    (base_clauses ps net names has bad k c t whole, step_clauses ps net names has bad k c t whole)

pub none_of_halves : RefutedHalvesHaveNone
none_of_halves ps net names has bad k t whole =
    (none_fail_first ps net names has bad t whole k, none_step ps net names has bad t whole k)

pub none_fails_ever : NoneOfTheDesignFails
none_fails_ever ps net names has bad k t whole base step = never_fails ps net names has bad t whole k base step
