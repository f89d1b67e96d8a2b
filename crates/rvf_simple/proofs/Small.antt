-- The small example is a simple wrapper.
use Rattle.std.specs.Prelude.{refl}
use Rattle.std.proofs.Common.{arith}
use Rattle.rvf_simple.specs.Examples.{small}
use Rattle.rvf_simple.specs.SimpleTrees.{IsSimple}

pub small_is_simple : IsSimple small
small_is_simple = record {
  named = refl;
  no_parameters = refl;
  ports = (
    record { no_net = refl; no_value = refl; range = ((refl, omega arith), (refl, omega arith)) },
    (record { no_net = refl; no_value = refl; range = tt }, tt),
  );
  differ = (refl, (refl, tt));
  items = ((record { target = refl; value = (refl, refl, tt) }, tt), tt);
}
