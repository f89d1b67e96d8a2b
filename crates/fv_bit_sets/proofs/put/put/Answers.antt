use Rattle.std.proofs.Common.{rules, ◌≡◌, ◌++◌, ◌∷◌, []}
use Rattle.fv_bit_sets.proofs.Rising.{put_none, put_more}
use Rattle.fv_bit_sets.proofs.put.put.Goals as goal

pub returns-then-last_mask-step : goal.returns-then-last_mask-step
returns-then-last_mask-step c =
    put_none c.args.steps.now.items c.as_slice.result.now c.args.step c.last_mask.result c.as_slice.ensures.value
    c.requires c.last_mask.ensures c.if-last_mask-step.true

pub returns : goal.returns
returns c =
    let items : c.push.new.self.items ≡ c.args.steps.now.items ++ c.args.step ∷ [] = search rules in
    put_more c.args.steps.now.items c.push.new.self.items c.args.step c.requires items
