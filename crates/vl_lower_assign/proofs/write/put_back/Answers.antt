use Rattle.std.specs.Prelude.{◌+◌, ◌<◌, length}
use Rattle.std.proofs.Common.{◌∙◌, arith}
use Rattle.vl_lower_assign.proofs.Written.{put_inside, set_there}
use Rattle.vl_lower_assign.proofs.write.put_back.Goals as goal

pub loop-k-preserved : goal.loop-k-preserved
loop-k-preserved c =
    let first = c.args.first in
    let k = c.loop-k.k in
    let words = c.args.words.now in
    let within : first + k < length c.loop-k.cells = omega arith in
    record {
      inside = put_inside c.loop-k.cells words first k within c.loop-k.invariant.inside;
      outside = λ i apart.
          set_there c.loop-k.cells (first + k) _ i (apart k (omega arith))
          ∙ c.loop-k.invariant.outside i (λ j less. apart j (omega (arith, less)));
    }

pub returns-clause-outside : goal.returns-clause-outside
returns-clause-outside c = λ i apart. c.loop-k.invariant.outside i (λ j less. apart j (omega (arith, less)))
