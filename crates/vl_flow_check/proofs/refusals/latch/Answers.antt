use Rattle.std.proofs.Common.{◌∙◌}
use Rattle.vl_flow_spec.specs.Refusals.{has_bit, latched}
use Rattle.vl_flow_check.proofs.Shared.{latched_shown}
use Rattle.vl_flow_check.proofs.refusals.latch.Goals as goal

pub first_named-requires-clause-marked : goal.first_named-requires-clause-marked
first_named-requires-clause-marked c =
    let ds = c.args.decls.now in
    let drivers = c.args.drivers.now in (
      has_bit (latched ds drivers),
      c.in_ok-names.ensures ds drivers (latched ds drivers) c.requires.layout
          (λ x n i at. c.in_ok-all.ensures x i
          ∙ latched_shown ds c.args.latched.now drivers c.requires.sets x n i at),
    )

pub returns : goal.returns
returns c =
    let ds = c.args.decls.now in
    let drivers = c.args.drivers.now in
    c.in_ok-first_named.ensures (has_bit (latched ds drivers))
    (c.in_ok-names.ensures ds drivers (latched ds drivers) c.requires.layout
    (λ x n i at. c.in_ok-all.ensures x i ∙ latched_shown ds c.args.latched.now drivers c.requires.sets x n i at))
