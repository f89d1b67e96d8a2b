use Rattle.std.proofs.Common.{◌∙◌, sym}
use Rattle.vl_mean.specs.Constants.{constant_operand}
use Rattle.vl_mean.specs.Walk.{genvar_value}
use Rattle.std.proofs.lemmas.Result.{IfOk-weaker}
use Rattle.vl_mean.specs.declared.const_number.Const.{Const}
use Rattle.vl_mean.specs.Scopes.{Scope}
use Rattle.vl_mean.specs.Walk.{first_turn}
use Rattle.vl_elab_const.specs.Numbers.{HaveNumbers, genvar_number}
use Rattle.std.specs.Prelude.{◌≡◌, List}
use Rattle.vl_elab_flatten.specs.Ready.{IsTurn}
use Rattle.vl_elab_flatten.proofs.Values.{number_bounded}
use Rattle.vl_elab_flatten.proofs.turns.first_value.Goals as goal

pub returns-clause-value : goal.returns-clause-value
returns-clause-value c =
    let ns = c.args.numbers.now in
    let head = c.args.head.now in
    IfOk-weaker c.genvar_value.result (λ v. v ≡ genvar_number ns head.start)
    (λ v. (ss : List Scope) → HaveNumbers ns ss → v ≡ first_turn head ss)
    (λ v e ss h. e ∙ (λ i. genvar_value (constant_operand (λ text. h text i) head.start))) c.genvar_value.ensures

pub returns-clause-bounded : goal.returns-clause-bounded
returns-clause-bounded c =
    let ns = c.args.numbers.now in
    let head = c.args.head.now in
    IfOk-weaker c.genvar_value.result (λ v. v ≡ genvar_number ns head.start) (λ v. IsTurn v)
    (λ v e. number_bounded ns head.start v e) c.genvar_value.ensures
