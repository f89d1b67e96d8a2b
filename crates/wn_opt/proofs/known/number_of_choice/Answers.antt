use Rattle.std.specs.Prelude.{[], ◌∷◌, length, slice_get}
use Rattle.std.proofs.Common.{ap, arith, sym, ◌∙◌}
use Rattle.wn_opt.proofs.Knowns.{first_there, second_there, third_there}
use Rattle.wn_opt.proofs.Counting.{three_no, three_yes}
use Rattle.wn_opt.proofs.known.number_of_choice.Goals as goal

pub known-requires : goal.known-requires
known-requires c =
    omega (
      arith,
      first_there c.args.net.now c.args.node.now c.args.c (c.args.a ∷ c.args.b ∷ []) c.requires.fits c.requires.three,
      ap length c.nodes.ensures.value,
    )

pub known-requires-2 : goal.known-requires-2
known-requires-2 c =
    omega (
      arith,
      second_there c.args.net.now c.args.node.now c.args.c c.args.a (c.args.b ∷ []) c.requires.fits c.requires.three,
      ap length c.nodes-2.ensures.value,
    )

pub known-requires-3 : goal.known-requires-3
known-requires-3 c =
    omega (
      arith,
      third_there c.args.net.now c.args.node.now c.args.c c.args.a c.args.b [] c.requires.fits c.requires.three,
      ap length c.nodes-3.ensures.value,
    )

pub returns-then-value-eq1-clause-number : goal.returns-then-value-eq1-clause-number
returns-then-value-eq1-clause-number c =
    three_yes c.args.net.now c.nodes.ensures.whole c.args.c c.args.a c.args.b c.in_ok-test.test c.in_ok-x.x c.in_ok-y.y
    (sym (ap (λ ns. slice_get ns c.args.c) c.nodes.ensures.value) ∙ c.in_ok-test.ensures)
    (sym (ap (λ ns. slice_get ns c.args.a) c.nodes-2.ensures.value) ∙ c.in_ok-x.ensures)
    (sym (ap (λ ns. slice_get ns c.args.b) c.nodes-3.ensures.value) ∙ c.in_ok-y.ensures)
    c.args.node.now c.requires.three c.value.result c.value-then-value-eq1.result c.value.ensures
    c.if-value-eq1.true c.value-then-value-eq1.ensures

pub returns-else-value-eq1-clause-number : goal.returns-else-value-eq1-clause-number
returns-else-value-eq1-clause-number c =
    three_no c.args.net.now c.nodes.ensures.whole c.args.c c.args.a c.args.b c.in_ok-test.test c.in_ok-x.x c.in_ok-y.y
    (sym (ap (λ ns. slice_get ns c.args.c) c.nodes.ensures.value) ∙ c.in_ok-test.ensures)
    (sym (ap (λ ns. slice_get ns c.args.a) c.nodes-2.ensures.value) ∙ c.in_ok-x.ensures)
    (sym (ap (λ ns. slice_get ns c.args.b) c.nodes-3.ensures.value) ∙ c.in_ok-y.ensures)
    c.args.node.now c.requires.three c.value.result c.value-else-value-eq1.result c.value.ensures
    c.if-value-eq1.false c.value-else-value-eq1.ensures
