use Rattle.std.specs.Prelude.{[], ◌&&◌, is_none, is_some, Some}
use Rattle.std.proofs.Common.{◌∙◌}
use Rattle.vl_size.specs.Divisors.{larger, zero_divisor}
use Rattle.vl_size.specs.Sign.{sign}
use Rattle.vl_size.specs.Size.{size}
use Rattle.vl_elab_params.proofs.known.is_known_assigned.Goals as goal

pub returns : goal.returns
returns c =
    c.is_known_alone.ensures
    ∙ (λ i. let x = c.in_ok-expr.ensures i in
    is_some (size [] x) && is_none (zero_divisor [] (record {
      size = larger (Some c.args.bits) (size [] x);
      signed = sign [] x;
    }) x))
