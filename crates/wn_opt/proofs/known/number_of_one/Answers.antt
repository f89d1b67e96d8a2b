use Rattle.std.specs.Prelude.{[], length, slice_get}
use Rattle.std.proofs.Common.{ap, arith, sym, subst, ◌∙◌}
use Rattle.wn_opt.specs.Sound.{IsNumberOf}
use Rattle.wn_opt.proofs.Knowns.{first_there, one_number}
use Rattle.wn_opt.proofs.known.number_of_one.Goals as goal

pub known-requires : goal.known-requires
known-requires c =
    omega (arith, first_there c.args.net.now c.args.node.now c.args.a [] c.requires.fits c.requires.one, ap length c.nodes.ensures.value)

pub returns-clause-number : goal.returns-clause-number
returns-clause-number c =
    subst (IsNumberOf c.args.net.now c.args.node.now) (sym c.of_one.ensures)
    (one_number c.args.net.now c.args.node.now c.args.a c.in_ok-x.x c.nodes.ensures.whole c.requires.one
    (sym (ap (λ ns. slice_get ns c.args.a) c.nodes.ensures.value) ∙ c.in_ok-x.ensures))
