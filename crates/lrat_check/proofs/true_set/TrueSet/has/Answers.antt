use Rattle.std.proofs.Common.{ap, ◌∙◌}
use Rattle.lrat_check.specs.Codes.{lit_of}
use Rattle.lrat_check.specs.Sets.{has}
use Rattle.lrat_check.proofs.Marking.{true_there}
use Rattle.lrat_check.proofs.true_set.TrueSet.has.Goals as goal

pub returns : goal.returns
returns c =
    c.get.ensures
    ∙ true_there c.self.inside.marks c.self.inside.lits.items c.self.invariant c.args.code c.requires
    ∙ ap (λ z. has z (lit_of c.args.code)) c.self.view_is
