use Rattle.std.proofs.Common.{sym, subst}
use Rattle.wn_opt.specs.Sound.{IsSound}
use Rattle.wn_opt.proofs.Sounds.{folded_sound}
use Rattle.wn_opt.proofs.fold.sound_fold.Goals as goal

pub returns-clause-sound : goal.returns-clause-sound
returns-clause-sound c =
    subst (IsSound c.args.net.now c.args.node.now) (sym c.fold_node.ensures)
    (folded_sound c.args.net.now c.whole.ensures c.args.node.now c.requires.operator c.requires.fits)
