use Rattle.std.specs.Prelude.{◌<◌, ◌^◌}
use Rattle.std.proofs.Common.{subst}
use Rattle.bm_decide.proofs.settling.settle.Goals as goal

pub returns : goal.returns
returns g c =
    let found = c.in_ok-found.ensures in
    record {
      found = c.in_ok-found.found;
      verdict_is = c.verdict.ensures;
      small = subst (λ n. n < 2 ^ 63) c.vars.ensures.value c.vars.ensures.small;
      literals = c.len.ensures.literals;
      model = found.model;
      refuted = found.refuted;
      known = found.more;
      valid = found.valid;
      resolved = found.resolved;
      count = found.spent;
      few = found.bound;
      steps = found.steps;
      short = found.short;
    }
