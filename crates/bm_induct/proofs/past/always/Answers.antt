use Rattle.std.specs.Prelude.{length}
use Rattle.std.proofs.Common.{ap, ◌∙◌}
use Rattle.wn_net.specs.Changes.{with_next}
use Rattle.bm_induct.proofs.Latch.{always_tells}
use Rattle.bm_induct.proofs.past.always.Goals as goal

pub returns : goal.returns
returns c =
    let m = c.both.new.net in
    always_tells c.args.net.now c.reg.new.self m c.set_next.new.self c.args.holds c.in_ok-before.before c.in_ok-now.now
    c.regs-2.ensures.whole c.in_ok-before.ensures.built c.in_ok-now.ensures.adds c.in_ok-now.ensures.tells
    c.requires.holds.0
    (c.set_next.ensures.new
    ∙ ap (λ rs. record m { regs = with_next (length rs) c.in_ok-now.now m.regs }) c.regs.ensures.value)
    c.set_next.ensures.keeps
