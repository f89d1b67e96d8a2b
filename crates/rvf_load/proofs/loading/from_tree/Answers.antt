use Rattle.std.specs.Prelude.{All, Err, List}
use Rattle.std.proofs.Common.{subst, sym}
use Rattle.vl_prep.specs.Macros.{held}
use Rattle.vl_tree.specs.WellFormed.{IsModule}
use Rattle.vl_tree.specs.declared.source.Module.{Module}
use Rattle.rv_table.specs.declared.retire.Opts.{Opts}
use Rattle.rvfi_port.specs.declared.port.Wants.{Wants}
use Rattle.vl_text.specs.SourceText.{Reading}
use Rattle.rvf_load.specs.Loads.{Asked, IsFlat, opts_of}
use Rattle.rvf_load.specs.Stages.{IsInOrder, IsWeighed}
use Rattle.rvf_load.proofs.Joining.{ordered_there, refused_there}
use Rattle.rvf_load.proofs.loading.from_tree.Goals as goal

pub in_order-requires : goal.in_order-requires
in_order-requires c = subst (λ (ms : List Module). All IsModule ms) (sym c.as_slice.ensures) c.requires.formed

pub returns-in-Ok : goal.returns-in-Ok
returns-in-Ok c texts lines only =
    let macros = held c.args.macros.now in
    let r : Reading = record { tree = c.args.tree.now; macros = macros } in
    let a : Asked = record {
      core = c.args.core;
      texts = texts;
      lines = lines;
      channels = c.args.channels;
      probes = c.args.probes;
      factors = c.args.factors.now;
    } in
    let flat = subst (λ (ms : List Module). IsFlat ms c.in-Ok.ordered.flat) c.as_slice.ensures c.in-Ok.ensures in
    ordered_there a r c.in-Ok.ordered c.weighed.result only flat
    (subst (λ (w : Wants). IsWeighed a.factors c.in-Ok.ordered a.channels w (opts_of a.core macros) c.weighed.result)
    c.wants_of-wants.ensures
    (subst (λ (o : Opts). IsWeighed a.factors c.in-Ok.ordered a.channels c.wants_of-wants.result o c.weighed.result)
    c.opts_of-opts.ensures c.weighed.ensures))

pub returns-in-Err : goal.returns-in-Err
returns-in-Err c texts lines only =
    let r : Reading = record { tree = c.args.tree.now; macros = held c.args.macros.now } in
    let a : Asked = record {
      core = c.args.core;
      texts = texts;
      lines = lines;
      channels = c.args.channels;
      probes = c.args.probes;
      factors = c.args.factors.now;
    } in
    refused_there a r c.in-Err.fault only.is
    (subst (λ (ms : List Module). IsInOrder ms (Err c.in-Err.fault)) c.as_slice.ensures c.in-Err.ensures)
