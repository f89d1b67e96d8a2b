use Rattle.std.specs.Prelude.{false, slice_get}
use Rattle.std.proofs.Common.{refl, ap, ◌∙◌}
use Rattle.wn_opt.proofs.In.{in_last}
use Rattle.wn_opt.proofs.Walking.{mark_there, marked_goes, read_bit}
use Rattle.wn_opt.proofs.marks.Marks.mark.Goals as goal

pub returns-clause-goes : goal.returns-clause-goes
returns-clause-goes c =
    let m = c.args.self.now in
    let less = mark_there c.args.net.now c.args.roots.now m c.args.id c.requires.walks c.requires.needed in
    let off = read_bit m.nodes.items c.args.id c.index.result.now false less c.index.ensures c.if-index.false in
    marked_goes c.args.net.now c.args.roots.now m _ c.args.id c.requires.walks c.requires.needed off
    (record { nodes = refl; list = c.in_ok-push.ensures.items; regs = refl; mems = refl })

pub returns-clause-listed : goal.returns-clause-listed
returns-clause-listed c =
    let h = in_last c.args.self.now.list.items c.args.id in
    (h.0, ap (λ xs. slice_get xs h.0) c.in_ok-push.ensures.items ∙ h.1)
