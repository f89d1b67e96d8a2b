use Rattle.std.specs.Prelude.{◌&&◌, is_none, is_some, Some}
use Rattle.std.proofs.Common.{◌∙◌}
use Rattle.vl_size.specs.Divisors.{larger, zero_divisor}
use Rattle.vl_size.specs.Sign.{sign}
use Rattle.vl_size.specs.Size.{size}
use Rattle.vl_elab_params.proofs.known.is_known_alone.Goals as goal

pub returns : goal.returns
returns c =
    c.is_known_at-2.ensures
    ∙ (λ i. let ds = c.new.ensures i in let x = c.args.expr.now in
    is_some (size ds x) && is_none (zero_divisor ds (record {
      size = larger (Some c.args.bits) (size ds x);
      signed = sign ds x;
    }) x))
