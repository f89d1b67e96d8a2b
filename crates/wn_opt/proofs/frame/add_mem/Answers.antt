use Rattle.std.specs.Prelude.{List, []}
use Rattle.std.proofs.Common.{ap, ◌∙◌}
use Rattle.wn_net.specs.declared.parts.Init.{Init}
use Rattle.wn_net.specs.declared.parts.Mem.{Mem}
use Rattle.wn_net.specs.Changes.{with_mem}
use Rattle.wn_opt.proofs.Framing.{parts_mem}
use Rattle.wn_opt.proofs.frame.add_mem.Goals as goal

pub returns : goal.returns
returns c =
    let part = c.args.part.now in
    let mem = c.args.mem.now in
    let made : List Init → Mem = λ xs. record { width = mem.width; words = mem.words; init = xs; writes = [] } in
    parts_mem c.args.net.now part c.mem.new.self c.args.index mem c.in_ok-mem.ensures.grows c.requires.before
    c.requires.at
    (c.in_ok-mem.ensures.new
    ∙ ap (λ xs. with_mem part (made xs)) (c.from_vec.ensures ∙ c.in_ok-init.ensures.items ∙ c.as_slice.ensures))
