use Rattle.std.specs.Prelude.{[], ◌∷◌, length, slice_get}
use Rattle.std.proofs.Common.{ap, arith, sym, ◌∙◌}
use Rattle.wn_opt.proofs.Knowns.{first_there, second_there}
use Rattle.wn_opt.proofs.Counting.{two_folded}
use Rattle.wn_opt.proofs.known.number_of_two.Goals as goal

pub known-requires : goal.known-requires
known-requires c =
    omega (
      arith,
      first_there c.args.net.now c.args.node.now c.args.a (c.args.b ∷ []) c.requires.fits c.requires.two,
      ap length c.nodes.ensures.value,
    )

pub known-requires-2 : goal.known-requires-2
known-requires-2 c =
    omega (
      arith,
      second_there c.args.net.now c.args.node.now c.args.a c.args.b [] c.requires.fits c.requires.two,
      ap length c.nodes-2.ensures.value,
    )

pub returns-clause-number : goal.returns-clause-number
returns-clause-number c =
    two_folded c.args.net.now c.nodes.ensures.whole c.args.a c.args.b c.in_ok-x.x c.in_ok-y.y
    (sym (ap (λ ns. slice_get ns c.args.a) c.nodes.ensures.value) ∙ c.in_ok-x.ensures)
    (sym (ap (λ ns. slice_get ns c.args.b) c.nodes-2.ensures.value) ∙ c.in_ok-y.ensures)
    c.args.node.now c.of_two.result c.requires.two c.of_two.ensures
