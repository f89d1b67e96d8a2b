use Rattle.std.specs.Prelude.{false, length, slice_set, take}
use Rattle.std.proofs.Common.{refl, ap, ◌∙◌, arith, length-set}
use Rattle.bb_aig.specs.Graph.{of_list}
use Rattle.bb_aig.proofs.Values.{leaves_behind, first_is}
use Rattle.bb_aig.proofs.aig.Aig.eval.Goals as goal

pub loop-index-init : goal.loop-index-init
loop-index-init c =
    let values = c.args.values.now in
    let behind = c.behind_false-behind in
    record {
      room = length-set values 0 false ∙ c.requires.room;
      leaves =
          leaves_behind c.args.self.now behind.result.now (of_list c.args.inputs.now)
          (take 1 (slice_set values 0 false)) behind.ensures.whole
          behind.ensures.value (first_is values (slice_set values 0 false) false
          (omega (arith, ap length behind.ensures.value)) refl);
    }
