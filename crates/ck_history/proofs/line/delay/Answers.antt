use Rattle.std.specs.Prelude.{◌≡◌, length}
use Rattle.std.proofs.Common.{ap, ◌∙◌}
use Rattle.wn_net.specs.Changes.{with_next}
use Rattle.ck_history.proofs.Lines.{delay_adds, delay_behind}
use Rattle.ck_history.proofs.line.delay.Goals as goal

pub returns-clause-adds : goal.returns-clause-adds
returns-clause-adds c =
    let b = c.reg.new.self in
    delay_adds c.args.net.now b c.set_next.new.self _ c.in_ok-id.id c.args.node c.in_ok-id.ensures.built tt
    (c.set_next.ensures.new
    ∙ ap (λ rs. record b { regs = with_next (length rs) c.args.node b.regs }) c.regs.ensures.value)
    c.set_next.ensures.keeps

pub returns-clause-behind : goal.returns-clause-behind
returns-clause-behind c =
    let b = c.reg.new.self in
    delay_behind c.args.net.now b c.set_next.new.self _ c.in_ok-id.id c.args.node c.in_ok-id.ensures.built
    (c.set_next.ensures.new
    ∙ ap (λ rs. record b { regs = with_next (length rs) c.args.node b.regs }) c.regs.ensures.value)
    c.set_next.ensures.keeps
