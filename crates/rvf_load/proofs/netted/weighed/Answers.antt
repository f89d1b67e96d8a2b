use Rattle.std.proofs.Common.{ap, sym, ◌∙◌}
use Rattle.rvf_load.specs.Loads.{too_heavy}
use Rattle.rvf_load.proofs.Bound.{light}
use Rattle.rvf_load.proofs.netted.weighed.Goals as goal

pub returns-in-Some : goal.returns-in-Some
returns-in-Some c =
    let ordered = c.args.ordered.now in
    ap (λ w. too_heavy w 0 c.args.factors.now) (sym ordered.weighed) ∙ sym c.too_heavy.ensures ∙ c.in-Some.is

pub returns-in-None : goal.returns-in-None
returns-in-None c =
    let ordered = c.args.ordered.now in
    light c.args.factors.now ordered c.args.channels c.args.wants c.args.opts c.netted.result
    (ap (λ w. too_heavy w 0 c.args.factors.now) (sym ordered.weighed) ∙ sym c.too_heavy.ensures ∙ c.in-None.is)
    c.netted.ensures
