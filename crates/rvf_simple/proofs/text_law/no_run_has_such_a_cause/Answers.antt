use Rattle.rvf_case.specs.Cases.{questions_in}
use Rattle.rvf_case.specs.Texts.{asked_for}
use Rattle.rvf_simple.proofs.Elaborated.{never_refused_by_elaboration}
use Rattle.rvf_simple.proofs.text_law.no_run_has_such_a_cause.Goals as goal

pub returns : goal.returns
returns c q seen f names it h =
    never_refused_by_elaboration (asked_for it.config it.refused.files (questions_in q it.config) it.kind) h f it.refused.refused
