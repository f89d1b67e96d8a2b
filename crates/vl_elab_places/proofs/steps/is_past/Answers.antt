use Rattle.vl_elab_spec.specs.Counts.{step_names, step_nodes}
use Rattle.vl_elab_spec.specs.Refused.{counted}
use Rattle.vl_elab_places.proofs.steps.is_past.Goals as goal

pub returns : goal.returns
returns c x t nodes names known =
    c.is_too_large.ensures (counted t x) (c.with-sum.ensures t (step_nodes x) (step_names x) known nodes names)
