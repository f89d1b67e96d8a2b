use Rattle.rvf_load.specs.declared.loaded.Loaded.{Loaded}
use Rattle.std.proofs.Common.{refl}
use Rattle.rvf_load.proofs.Bound.{bound_net, unbound}
use Rattle.rvf_load.proofs.netted.with_port.Goals as goal

pub bind-requires : goal.bind-requires
bind-requires c = record { names = c.requires.lowered.named }

pub returns-in-Ok : goal.returns-in-Ok
returns-in-Ok c =
    let ordered = c.args.ordered.now in
    let l : Loaded = record {
      net = c.bind.new.net;
      names = c.args.lowered.names;
      port = c.in-Ok.port;
      opts = c.args.opts;
      weight = ordered.weight;
    } in
    let own = c.names_of_traces_differ.ensures ordered.flat.decls ordered.flat.drivers ordered.flat.starts
    c.len-count.ensures.different c.len-count.ensures.apart ordered.flat.lawful.kept in
    bound_net ordered c.args.lowered.net l c.args.channels c.args.wants c.args.opts c.bound_nets_are_loaded.ensures own
    c.requires.lowered c.requires.few c.nodes-old.ensures.whole c.nodes-new.ensures.whole c.bind.ensures.adds
    c.in-Ok.ensures.bound c.in-Ok.ensures.refused refl refl

pub returns-in-Err : goal.returns-in-Err
returns-in-Err c =
    rw (c.of_port.ensures)
    (unbound c.args.ordered.now c.args.lowered.net c.args.lowered.names c.args.channels c.args.wants c.args.opts
    c.in-Err.fault c.requires.lowered c.in-Err.ensures.refused)
