use Rattle.std.proofs.Common.{◌∙◌, ap, refl}
use Rattle.vl_text.specs.Texts.{lines_seen, texts_seen}
use Rattle.rvf_case.proofs.Counting.{few_factors}
use Rattle.rvf_case.proofs.Turns.{answered}
use Rattle.rvf_case.proofs.loading.load_kind.Goals as goal

pub load-requires-clause-many : goal.load-requires-clause-many
load-requires-clause-many c =
    few_factors c.args.wanted.config.now c.args.kind c.args.wanted.questions.now c.as_slice-3.result.now
    c.requires.few (c.as_slice-3.ensures.value ∙ c.in_ok-factors.ensures)

pub returns : goal.returns
returns c =
    answered c.args.wanted.config.now c.args.wanted.files.now c.args.wanted.questions.now c.args.kind
    c.args.wanted.checks.now c.core_of.result (texts_seen c.as_slice.result.now) (lines_seen c.as_slice-2.result.now)
    c.args.wanted.config.now.nret c.probes_for.result c.as_slice-3.result.now c.load.result c.requires.checks
    c.core_of.ensures (ap texts_seen c.as_slice.ensures.value ∙ c.in_ok-texts.ensures)
    (ap lines_seen c.as_slice-2.ensures.value ∙ c.in_ok-lines.ensures) refl c.probes_for.ensures
    (c.as_slice-3.ensures.value ∙ c.in_ok-factors.ensures) c.load.ensures
