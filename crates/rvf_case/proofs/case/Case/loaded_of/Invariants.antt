use Rattle.std.proofs.Common.{◌≡◌, drop}
use Rattle.rvf_case.specs.Cases.{text_among}
use Rattle.rvf_case.proofs.case.Case.loaded_of.Given as goal

abbrev pub invariant-loop-text : goal.invariant-loop-text
invariant-loop-text l =
    text_among l.self.config l.kind (drop l.text-index l.self.texts) ≡ text_among l.self.config l.kind l.self.texts
