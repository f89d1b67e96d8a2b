use Rattle.std.specs.Prelude.{slice_get}
use Rattle.std.proofs.Common.{ap, sym, ◌∙◌}
use Rattle.wn_opt.proofs.Choosing.{chosen_no, chosen_yes}
use Rattle.wn_opt.proofs.fold.choice.Goals as goal

pub returns-then-value-eq1 : goal.returns-then-value-eq1
returns-then-value-eq1 c =
    chosen_yes c.args.net.now c.args.c c.args.a c.args.b c.in-Some.test c.value.result c.nodes.ensures.whole
    (sym (ap (λ ns. slice_get ns c.args.c) c.nodes.ensures.value) ∙ c.in-Some.ensures) c.value.ensures
    c.if-value-eq1.true

pub returns-else-value-eq1 : goal.returns-else-value-eq1
returns-else-value-eq1 c =
    chosen_no c.args.net.now c.args.c c.args.a c.args.b c.in-Some.test c.value.result c.nodes.ensures.whole
    (sym (ap (λ ns. slice_get ns c.args.c) c.nodes.ensures.value) ∙ c.in-Some.ensures) c.value.ensures
    c.if-value-eq1.false
