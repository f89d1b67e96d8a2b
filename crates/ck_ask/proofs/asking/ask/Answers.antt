use Rattle.std.proofs.Common.{IfOk, subst, sym}
use Rattle.std.proofs.lemmas.Result.{IfOk-weaker}
use Rattle.wn_net.proofs.Laws.{adds_regs}
use Rattle.ck_ask.specs.Asked.{IsAsked}
use Rattle.ck_ask.specs.declared.question.Question.{Question}
use Rattle.ck_ask.proofs.asking.ask.Goals as goal

pub returns-in-Target-clause-adds : goal.returns-in-Target-clause-adds
returns-in-Target-clause-adds c = adds_regs _ _ c.ask_target.ensures.adds

pub returns-in-Zb-clause-adds : goal.returns-in-Zb-clause-adds
returns-in-Zb-clause-adds c = adds_regs _ _ c.ask_zb.ensures.adds

pub returns-in-Target-clause-tells : goal.returns-in-Target-clause-tells
returns-in-Target-clause-tells c =
    let P : Question → Type 0 =
    λ q. IfOk c.ask_target.result (IsAsked c.ask_target.new.net c.args.port.now q c.args.opts) in
    subst P (sym c.in-Target.is) (IfOk-weaker c.ask_target.result _ _ (λ id h. h c.args.opts) c.ask_target.ensures.tells)

pub returns-in-Zb-clause-tells : goal.returns-in-Zb-clause-tells
returns-in-Zb-clause-tells c =
    let P : Question → Type 0 = λ q. IfOk c.ask_zb.result (IsAsked c.ask_zb.new.net c.args.port.now q c.args.opts) in
    subst P (sym c.in-Zb.is) (IfOk-weaker c.ask_zb.result _ _ (λ id h. h c.args.opts) c.ask_zb.ensures.tells)
