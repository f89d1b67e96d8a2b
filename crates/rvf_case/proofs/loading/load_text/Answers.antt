use Rattle.rvf_case.specs.Texts.{asked_for}
use Rattle.rvf_case.proofs.Turns.{one_stops}
use Rattle.rvf_case.proofs.loading.load_text.Goals as goal

pub returns-in-Err : goal.returns-in-Err
returns-in-Err c =
    rw c.of.ensures (one_stops (asked_for c.args.wanted.config.now c.args.wanted.files.now c.args.wanted.questions.now) c.args.kind c.in-Err.fault c.in-Err.ensures)
