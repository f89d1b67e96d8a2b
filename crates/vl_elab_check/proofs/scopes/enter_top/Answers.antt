use Rattle.std.specs.Prelude.{refl, []}
use Rattle.vl_elab_const.specs.Given.{value_given}
use Rattle.vl_elab_decls.proofs.StandWhole.{nothing_given}
use Rattle.vl_elab_check.specs.Judged.{top_use}
use Rattle.vl_elab_check.proofs.scopes.enter_top.Goals as goal

pub returns-clause-here : goal.returns-clause-here
returns-clause-here c path formed e =
    c.in_ok-enter_used.ensures.here top_use [] [] path (record { top = refl; stands = λ text. refl })
    (nothing_given (value_given c.new.result) c.new.ensures) formed e
