use Rattle.std.specs.Prelude.{◌≡◌, ◌+◌, length, ℕ, List}
use Rattle.rvfi_port.specs.declared.port.Channel.{Channel}
use Rattle.std.proofs.Common.{sym, ◌∙◌, ap, arith, subst}
use Rattle.std.proofs.lemmas.List.{length_push}
use Rattle.wn_net.proofs.Laws.{adds_on}
use Rattle.rvfi_port.specs.Fields.{channel_fields}
use Rattle.rvfi_port.specs.Channels.{nodes_of}
use Rattle.rvfi_port.specs.Parts.{AreParts, AreCut}
use Rattle.rvfi_port.proofs.Cut.{all_reach_on, parts_from, cut_on, cut_push}
use Rattle.rvfi_port.proofs.channel.bind_channels.Goals as goal

pub bind_channel-requires : goal.bind_channel-requires
bind_channel-requires c =
    all_reach_on c.args.net.now c.loop-channel.net c.loop-channel.channel channel_fields c.args.wholes.now
    c.loop-channel.invariant.adds (c.requires c.loop-channel.channel c.loop-channel-test.true)

pub loop-channel-preserved : goal.loop-channel-preserved
loop-channel-preserved c =
    let net = c.args.net.now in
    let now = c.loop-channel.net in
    let new = c.bind_channel.new.net in
    let k = c.loop-channel.channel in
    let wholes = c.args.wholes.now in
    let made = c.loop-channel.made in
    let bound = c.in_ok-bound.bound in
    let inv = c.loop-channel.invariant in
    let more = c.in_ok-bound.ensures.adds in
    let P : ℕ → Type 0 = λ j. AreParts net new j channel_fields wholes (nodes_of bound) in
    let Q : List Channel → Type 0 = λ cs. AreCut net new wholes 0 cs in
    record {
      adds = adds_on net now new inv.adds more;
      many = ap length c.in_ok-push.ensures.ok ∙ length_push made bound ∙ ap (λ n. n + 1) inv.many;
      each = subst Q (sym c.in_ok-push.ensures.ok)
          (cut_push net new wholes 0 made bound (cut_on net now new wholes 0 made inv.adds more inv.each)
          (subst P (let e : k ≡ 0 + length made = omega (arith, inv.many) in e)
          (parts_from net now new k channel_fields wholes (nodes_of bound) inv.adds
          (c.requires k c.loop-channel-test.true) c.in_ok-bound.ensures.parts)));
    }
