-- Between functions: What a judgement on a design without hierarchy says of the design that the source writes. Rules
-- of this project.
use Rattle.std.specs.Prelude.{◌≡◌, ℕ, List}
use Rattle.rv_table.specs.declared.retire.Opts.{Opts}
use Rattle.vl_mean.specs.declared.flat.Flat.{Flat}
use Rattle.vl_mean.specs.FlatParts.{flat_parts}
use Rattle.vl_mean.specs.Parts.{Part}
use Rattle.vl_mean_flat.specs.Flattened.{decls_of}
use Rattle.vl_mean_flat.specs.SameMaps.{AreSameMaps}
use Rattle.vl_elab_draft.specs.Drawn.{IsDrawn}
use Rattle.rvfi_port.specs.declared.port.Wants.{Wants}
use Rattle.ck_ask.specs.declared.question.Question.{Question}
use Rattle.cnf_form.specs.Cnf.{Cnf}
use Rattle.lrat_check.specs.declared.step.Step.{Step}
use Rattle.ck_cfg.specs.declared.check.Check.{Check}
use Rattle.rvf_judge.specs.Inducted.{IsInducted}
use Rattle.rvf_judge.specs.declared.induction.Induction.{Induction}
use Rattle.rvf_judge.specs.Judged.{IsJudged}
use Rattle.rvf_judge.specs.declared.judged.Judged.{Judged}

-- a judgement speaks of maps and of declarations alone, whatever more is known of the steps of a refutation
abbrev pub JudgementsDependOnMaps : (ℕ → Cnf → List Step → Type 0) → Type 0
JudgementsDependOnMaps more =
    (ps qs : List Part) (channels : ℕ) (wants : Wants) (q : Question) (opts : Opts) (budget : ℕ) (judged : Judged)
    → AreSameMaps ps qs → decls_of ps ≡ decls_of qs → IsJudged more qs channels wants q opts budget judged
    → IsJudged more ps channels wants q opts budget judged

-- so it is one on the design from which one without hierarchy is drawn that has the same maps
abbrev pub JudgementsAreTheSources : (ℕ → Cnf → List Step → Type 0) → Type 0
JudgementsAreTheSources more =
    (ps : List Part) (flat : Flat) (channels : ℕ) (wants : Wants) (q : Question) (opts : Opts) (budget : ℕ)
    (judged : Judged) → IsDrawn ps flat → AreSameMaps ps (flat_parts flat)
    → IsJudged more (flat_parts flat) channels wants q opts budget judged
    → IsJudged more ps channels wants q opts budget judged

-- ---- of checks by induction

abbrev pub InductionsDependOnMaps : (ℕ → Cnf → List Step → Type 0) → Type 0
InductionsDependOnMaps more =
    (ps qs : List Part) (channels : ℕ) (wants : Wants) (check : Check) (opts : Opts) (k budget : ℕ) (made : Induction)
    → AreSameMaps ps qs → decls_of ps ≡ decls_of qs → IsInducted more qs channels wants check opts k budget made
    → IsInducted more ps channels wants check opts k budget made

abbrev pub InductionsAreTheSources : (ℕ → Cnf → List Step → Type 0) → Type 0
InductionsAreTheSources more =
    (ps : List Part) (flat : Flat) (channels : ℕ) (wants : Wants) (check : Check) (opts : Opts) (k budget : ℕ)
    (made : Induction) → IsDrawn ps flat → AreSameMaps ps (flat_parts flat)
    → IsInducted more (flat_parts flat) channels wants check opts k budget made
    → IsInducted more ps channels wants check opts k budget made
