use Rattle.std.specs.Prelude.{◌≡◌, ◌<◌, length, slice_index_or}
use Rattle.std.proofs.Common.{arith, ap}
use Rattle.ck_gen.proofs.Monitored.{IsAmong, is_among}
use Rattle.wn_net.proofs.Laws.{adds_regs, regs_none}
use Rattle.ck_gen.proofs.Once.{IsOnce, once_fails, each_fails, no_channel}
use Rattle.ck_gen.proofs.Places.{channel_at}
use Rattle.ck_gen.proofs.watch.look_once.Goals.{After-nodes}
use Rattle.ck_gen.proofs.watch.look_once.Goals as goal

among : (c : After-nodes)
    → IsAmong c.args.port.now.channels c.args.check.now.channel
    (slice_index_or c.as_slice-channels.result.now c.args.check.now.channel no_channel)
among c =
    let e : c.as_slice-channels.result.now ≡ c.args.port.now.channels = c.as_slice-channels.ensures in
    let place = c.args.check.now.channel in
    let below : place < length c.args.port.now.channels = c.requires.check.channel in
    is_among c.args.port.now.channels place _ no_channel below (ap (λ xs. slice_index_or xs place no_channel) e)

built : (c : After-nodes)
    → IsOnce c.args.net.now c.holds_alone.new.net c.violates.new.net c.args.port.now c.args.check.now c.args.opts
    (slice_index_or c.as_slice-channels.result.now c.args.check.now.channel no_channel) c.in_ok-held.held c.in_ok-id.id
built c = record {
  kind = c.requires.kind;
  port_nodes = c.requires.port;
  among = among c;
  order = (let lawful = c.requires.check.lawful in omega (arith, lawful.start, lawful.trig));
  judged_added = c.in_ok-held.ensures.adds;
  judges = c.in_ok-held.ensures.tells;
  added = c.in_ok-id.ensures.adds;
  tells = c.in_ok-id.ensures.tells;
  whole = c.nodes.ensures.whole;
}

pub returns-clause-fails : goal.returns-clause-fails
returns-clause-fails c = once_fails _ _ _ _ _ _ _ _ _ (built c)

pub returns-clause-each : goal.returns-clause-each
returns-clause-each c = each_fails _ _ _ _ _ _ _ _ _ (built c)

pub holds_alone-requires-clause-channel : goal.holds_alone-requires-clause-channel
holds_alone-requires-clause-channel c =
    let old = c.args.net.now in
    channel_at old old c.args.port.now.channels c.as_slice-channels.result.now c.args.check.now.channel no_channel
    (regs_none old) c.requires.port.channels c.as_slice-channels.ensures c.requires.check.channel

pub violates-requires-clause-there : goal.violates-requires-clause-there
violates-requires-clause-there c =
    let old = c.args.net.now in
    let judged = c.holds_alone.new.net in
    (channel_at old judged c.args.port.now.channels c.as_slice-channels.result.now c.args.check.now.channel no_channel
    (adds_regs old judged c.in_ok-held.ensures.adds) c.requires.port.channels c.as_slice-channels.ensures
    c.requires.check.channel).valid
