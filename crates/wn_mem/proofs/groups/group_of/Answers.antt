use Rattle.std.specs.Prelude.{refl, ◌-◌}
use Rattle.std.proofs.Common.{◌∙◌}
use Rattle.fv_bits.specs.Bits.{part}
use Rattle.wn_net.specs.Net.{value_at}
use Rattle.wn_net.proofs.Laws.{built_node}
use Rattle.wn_mem.proofs.groups.group_of.Goals as goal

pub returns-clause-group : goal.returns-clause-group
returns-clause-group c =
    let addr = c.args.write.now.addr in
    let built = c.in_ok-above.ensures.built in
    record {
      enable = refl;
      addr = ((built_node _ _ _ _ _ _ built).0, built.width ∙ (λ i. c.width-width.ensures.value i - 4));
      value = λ g. built.value g ∙ (λ i. part 4 (c.width-width.ensures.value i - 4) (value_at c.args.net.now g addr));
    }
