use Rattle.vl_elab_decls.proofs.TurnStands.{turn_stands}
use Rattle.vl_elab_decls.proofs.turns.turns_stand.Goals as goal

pub returns : goal.returns
returns c = turn_stands
