use Rattle.std.proofs.Common.{◌/◌, length, drop, take, sym, subst}
use Rattle.std.proofs.lemmas.List.{take_rest}
use Rattle.vl_flow_effects.specs.Effects.{AreEach, IsEffectOf}
use Rattle.vl_flow_effects.proofs.Halves.{each_drop, each_take}
use Rattle.vl_flow_effects.proofs.Sequences.{sequence_one, sequence_two}
use Rattle.vl_flow_effects.proofs.joined.+in_sequence.Goals as goal

pub returns-then-effects-eq1 : goal.returns-then-effects-eq1
returns-then-effects-eq1 t c ds xs h =
    sequence_one ds c.args.effects.now xs c.index-effects-0.result c.none-then-effects-eq1.result
    c.in_ok-then.field-0 c.if-effects-eq1.true c.index-effects-0.is c.none-then-effects-eq1.ensures
    c.in_ok-then.ensures h

pub returns : goal.returns
returns t c ds xs h =
    let es = c.args.effects.now in
    let k = length es / 2 in
    sequence_two ds xs k c.in_ok-first.first c.in_ok-second.second c.in_ok-then-2.field-0
    (c.in_ok-first.ensures ds (take k xs) (each_take (IsEffectOf ds) k es xs h))
    (c.in_ok-second.ensures ds (drop k xs) (subst (λ ys. AreEach (IsEffectOf ds) ys (drop k xs)) (sym (take_rest es k))
    (each_drop (IsEffectOf ds) k es xs h))) c.in_ok-then-2.ensures
