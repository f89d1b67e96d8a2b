use Rattle.std.specs.Prelude.{[], ◌∷◌}
use Rattle.std.proofs.Common.{ap}
use Rattle.wn_opt.specs.Needed.{operands}
use Rattle.wn_opt.proofs.Knowns.{first_there}
use Rattle.wn_opt.proofs.fold.simpler.Goals as goal

pub width-requires : goal.width-requires
width-requires c = first_there c.args.net.now c.args.node.now c.in-Xor.a (c.in-Xor.b ∷ []) c.requires (ap operands c.in-Xor.is)

pub width-requires-in-Sub : goal.width-requires-in-Sub
width-requires-in-Sub c =
    first_there c.args.net.now c.args.node.now c.in-Sub.a (c.in-Sub.b ∷ []) c.requires (ap operands c.in-Sub.is)

pub choice-requires : goal.choice-requires
choice-requires c =
    first_there c.args.net.now c.args.node.now c.in-Mux-2.c (c.in-Mux-2.a ∷ c.in-Mux-2.b ∷ []) c.requires (ap operands c.in-Mux-2.is)
