use Rattle.std.proofs.Common.{◌/◌, length, drop, take, sym, subst}
use Rattle.std.proofs.lemmas.List.{take_rest}
use Rattle.vl_flow_effects.specs.Effects.{AreEach, IsEffectOfArm}
use Rattle.vl_flow_effects.proofs.Halves.{each_drop, each_take}
use Rattle.vl_flow_effects.proofs.Sequences.{arms_one, arms_two}
use Rattle.vl_flow_effects.proofs.joined.+one_of.Goals as goal

pub returns-then-effects-eq1 : goal.returns-then-effects-eq1
returns-then-effects-eq1 t c ds xs h =
    arms_one ds c.args.effects.now xs c.index-effects-0.result c.none.result c.in_ok-then.field-0
    c.if-effects-eq1.true c.index-effects-0.is c.none.ensures c.in_ok-then.ensures h

pub returns : goal.returns
returns t c ds xs h =
    let es = c.args.effects.now in
    let k = length es / 2 in
    arms_two ds xs k c.in_ok-first.first c.in_ok-second.second c.in_ok-or.field-0
    (c.in_ok-first.ensures ds (take k xs) (each_take (IsEffectOfArm ds) k es xs h))
    (c.in_ok-second.ensures ds (drop k xs) (subst (λ ys. AreEach (IsEffectOfArm ds) ys (drop k xs))
    (sym (take_rest es k))
    (each_drop (IsEffectOfArm ds) k es xs h))) c.in_ok-or.ensures
