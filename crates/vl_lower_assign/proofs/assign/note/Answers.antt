use Rattle.std.specs.Prelude.{◌≡◌, ◌+◌, ◌-◌, ◌++◌, ◌∷◌, [], suc, slice_index}
use Rattle.std.proofs.Common.{ap, ◌∙◌, arith, rules, append_assoc}
use Rattle.std.proofs.lemmas.Grind.{common_steps}
use Rattle.vl_lower_assign.specs.declared.change.Change.{Change}
use Rattle.vl_lower_assign.specs.Logs.{noted}
use Rattle.vl_lower_assign.proofs.Logging.{noted_more}
use Rattle.vl_lower_assign.proofs.assign.note.Goals as goal

pub loop-cell-preserved : goal.loop-cell-preserved
loop-cell-preserved c =
    let log = c.args.frame.now.log in
    let cells = c.args.frame.now.now.items in
    let first = c.args.first in
    let cell = c.loop-cell.cell in
    let m = cell - first in
    let node = c.index-node.result.now in
    let change : Change = record { cell = cell; node = node } in
    let node_is : node ≡ slice_index cells cell = first_of (search rules, grind (arith, common_steps)) in
    let next : suc m ≡ cell + 1 - first = omega arith in
    record {
      now = c.loop-cell.invariant.now;
      next = c.loop-cell.invariant.next;
      assumed = c.loop-cell.invariant.assumed;
      tracks = c.loop-cell.invariant.tracks;
      log =
          c.in_ok-push.ensures.ok ∙ (λ i. c.loop-cell.invariant.log i ++ change ∷ [])
          ∙ append_assoc log (noted first m cells) (change ∷ [])
          ∙ ap (λ es. log ++ es) (noted_more first m cell node cells (omega arith) node_is)
          ∙ ap (λ n. log ++ noted first n cells) next;
    }
