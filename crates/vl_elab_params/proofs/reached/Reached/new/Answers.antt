use Rattle.vl_elab_spec.specs.Meanings.{meanings_at}
use Rattle.vl_elab_params.specs.Reached.{parameters_at}
use Rattle.vl_elab_params.proofs.Next.{none_reached_at}
use Rattle.vl_elab_params.proofs.reached.Reached.new.Goals as goal

pub returns : goal.returns
returns c at e =
    none_reached_at c.new.result c.in_ok-all_pending.field-0 (meanings_at at) (parameters_at at) _ e c.new.ensures
    c.in_ok-all_pending.ensures
