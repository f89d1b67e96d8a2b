use Rattle.std.proofs.Common.{◌≡◌, ◌+◌, ◌&&◌, ◌∷◌, [], true, false, Bool, refl, drop, ap, sym, ◌∙◌, arith, subst}
use Rattle.std.specs.Prelude.{max}
use Rattle.std.proofs.Math.Nat.{max-zero}
use Rattle.std.proofs.lemmas.Grind.{common_steps}
use Rattle.vl_tree.specs.StmtView.{arms}
use Rattle.vl_mean.specs.Execution.{arms_sign, arms_size}
use Rattle.vl_mean.specs.FlatLaw.{flat_scopes}
use Rattle.vl_lower_stmt.specs.StepsArms.{AreLedTo}
use Rattle.vl_lower_stmt.proofs.Choosing.{first_led_to, others_led_to}
use Rattle.vl_lower_stmt.proofs.context.case_context.Goals as goal

pub loop-arm-init : goal.loop-arm-init
loop-arm-init c =
    let ds = c.args.decls.now in
    let own = c.own_type-context.ensures in
    record {
      left = c.requires.arms;
      width = ap (λ n. max n (arms_size (flat_scopes ds) (arms c.args.all.now))) own.width;
      signed = ap (λ b. b && arms_sign (flat_scopes ds) (arms c.args.all.now)) own.signed;
    }

pub wider-context-requires : goal.wider-context-requires
wider-context-requires c =
    let ds = c.args.decls.now in
    let xs = c.args.all.now in
    let i = c.loop-arm.arm-index in
    let x = c.arm-item.result in
    let front : drop i xs ≡ x ∷ drop (i + 1) xs = grind (arith, common_steps) in
    first_led_to ds x (drop (i + 1) xs) (subst (λ ys. AreLedTo ds (arms ys)) front c.loop-arm.invariant.left)

pub loop-arm-preserved : goal.loop-arm-preserved
loop-arm-preserved c =
    let ds = c.args.decls.now in
    let xs = c.args.all.now in
    let i = c.loop-arm.arm-index in
    let x = c.arm-item.result in
    let rest = drop (i + 1) xs in
    let front : drop i xs ≡ x ∷ rest = grind (arith, common_steps) in
    record {
      left = others_led_to ds x rest (subst (λ ys. AreLedTo ds (arms ys)) front c.loop-arm.invariant.left);
      width =
          c.wider-context.ensures.width (arms rest)
          ∙ ap (λ ys. max c.loop-arm.context.width (arms_size (flat_scopes ds) (arms ys))) (sym front)
          ∙ c.loop-arm.invariant.width;
      signed =
          c.wider-context.ensures.signed (arms rest)
          ∙ ap (λ ys. c.loop-arm.context.signed && arms_sign (flat_scopes ds) (arms ys)) (sym front)
          ∙ c.loop-arm.invariant.signed;
    }

and_true : (b : Bool) → b ≡ (b && true)
and_true true = refl
and_true false = refl

pub returns-clause-width : goal.returns-clause-width
returns-clause-width c =
    let gone : drop c.loop-arm.arm-index c.args.all.now ≡ [] = grind (arith, common_steps) in
    sym (max-zero c.loop-arm.context.width)
    ∙ ap (λ ys. max c.loop-arm.context.width (arms_size (flat_scopes c.args.decls.now) (arms ys))) (sym gone)
    ∙ c.loop-arm.invariant.width

pub returns-clause-signed : goal.returns-clause-signed
returns-clause-signed c =
    let gone : drop c.loop-arm.arm-index c.args.all.now ≡ [] = grind (arith, common_steps) in
    and_true c.loop-arm.context.signed
    ∙ ap (λ ys. c.loop-arm.context.signed && arms_sign (flat_scopes c.args.decls.now) (arms ys)) (sym gone)
    ∙ c.loop-arm.invariant.signed
