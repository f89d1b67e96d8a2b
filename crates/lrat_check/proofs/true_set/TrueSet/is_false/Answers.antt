use Rattle.std.proofs.Common.{ap, ◌∙◌}
use Rattle.lrat_check.specs.Codes.{lit_of}
use Rattle.lrat_check.specs.Marks.{is_marked}
use Rattle.lrat_check.specs.Sets.{is_false}
use Rattle.lrat_check.proofs.Marking.{false_there}
use Rattle.lrat_check.proofs.true_set.TrueSet.is_false.Goals as goal

pub returns : goal.returns
returns c =
    c.get.ensures ∙ ap (is_marked c.self.inside.marks) c.flip.ensures
    ∙ false_there c.self.inside.marks c.self.inside.lits.items c.self.invariant c.args.code c.requires
    ∙ ap (λ z. is_false z (lit_of c.args.code)) c.self.view_is
