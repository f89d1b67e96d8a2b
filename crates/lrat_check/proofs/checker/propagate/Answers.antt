use Rattle.std.proofs.Common.{ap, refl, sym, ◌∙◌}
use Rattle.lrat_check.specs.Codes.{lits_of}
use Rattle.lrat_check.specs.Store.{literals}
use Rattle.lrat_check.proofs.Holds.{unit_lit, lit_passed}
use Rattle.lrat_check.proofs.checker.propagate.Goals as goal

pub add-requires : goal.add-requires
add-requires c =
    let clause = lits_of c.in-Some.codes.now in
    lit_passed c.in-Unit.lit c.in-Unit.lit
    (unit_lit c.loop-hint.set clause c.in-Unit.lit
    (c.requires c.unsigned_abs.result clause (ap literals c.in-Some.ensures))
    (sym c.read.ensures ∙ c.in-Unit.is)) refl
