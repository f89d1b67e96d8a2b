use Rattle.std.specs.Prelude.{List, [], ◌∷◌, ◌++◌}
use Rattle.std.proofs.Common.{ap, ◌∙◌}
use Rattle.bb_cuts.specs.declared.cone.Mark.{Mark}
use Rattle.bb_cuts.proofs.Cones.{leaves_marked}
use Rattle.bb_cuts.proofs.cone.mark_leaves.Goals as goal

pub returns : goal.returns
returns c = λ graph g.
    let leaves = c.args.leaves.now in
    let all : List Mark = record { node = 0; rows = 0 } ∷ record { node = leaves.first; rows = 43690 }
    ∷ record { node = leaves.second; rows = 52428 } ∷ record { node = leaves.third; rows = 61680 }
    ∷ record { node = leaves.fourth; rows = 65280 } ∷ [] in
    leaves_marked graph leaves c.extend_from_slice.new.self.items g
    (c.in_ok-extend_from_slice.ensures.items ∙ ap (λ ms. ms ++ all) c.clear.ensures.items)
