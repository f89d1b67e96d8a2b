use Rattle.std.proofs.Common.{◌∙◌}
use Rattle.fv_bits.specs.Bits.{bit}
use Rattle.rv_table.specs.Agree.{agrees}
use Rattle.wn_net.proofs.Laws.{given_on}
use Rattle.rvfi_port.proofs.AddedNodes.{channel_on, retire_on}
use Rattle.ck_spec.specs.Properties.{implies}
use Rattle.ck_history.proofs.Laws.{told, told_on}
use Rattle.ck_gen.proofs.own.does_as.Goals as goal

pub returns-clause-tells : goal.returns-clause-tells
returns-clause-tells c =
    let old = c.args.net.now in
    let one = c.circuit.new.net in
    let two = c.agreement.new.net in
    let channel = c.args.channel.now in
    let effect = c.in_ok-effect.ensures in
    let alike = c.in_ok-agrees.ensures in
    let id = c.in_ok-id.ensures in
    record {
      node = id.tells.node;
      value = λ g given.
          let given1 = given_on old one g effect.adds given in
          let hit = told_on old one two _ _ g effect.hit alike.adds given in
          let agreed = told one two _ c.in_ok-agrees.agrees g alike.shows given1
          ∙ (λ i. agrees (retire_on old one g channel effect.adds c.requires i) (effect.effect.value g given i)) in
          id.tells.value g (given_on one two g alike.adds given1)
          ∙ (λ i. bit (implies (hit i) (agreed i)));
    }

pub agreement-requires-clause-channel : goal.agreement-requires-clause-channel
agreement-requires-clause-channel c =
    channel_on c.args.net.now c.circuit.new.net c.args.channel.now c.in_ok-effect.ensures.adds c.requires
