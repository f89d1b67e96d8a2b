use Rattle.std.proofs.lemmas.Result.{on_ok_weaker}
use Rattle.vl_mean.specs.Walk.{walk}
use Rattle.vl_elab_flatten.proofs.Seens.{steps_ready, steps_written}
use Rattle.vl_elab_flatten.proofs.top.write_design.Goals as goal

pub write_top-requires : goal.write_top-requires
write_top-requires c = record {
  table = c.in_ok-table.ensures;
  ready = steps_ready c.args.draft.now (walk c.args.modules.now c.args.top.now) c.requires.openable c.requires.may;
}

pub returns : goal.returns
returns c =
    on_ok_weaker c.write_top.result (λ h. steps_written c.args.draft.now c.write_top.new.draft
    (walk c.args.modules.now c.args.top.now) h) c.write_top.ensures
