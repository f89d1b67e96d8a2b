use Rattle.std.proofs.Common.{◌≡◌, ◌+◌, ◌&&◌, ◌∷◌, [], true, false, Bool, refl, drop, ap, sym, ◌∙◌, arith}
use Rattle.std.specs.Prelude.{max}
use Rattle.std.proofs.Math.Nat.{max-zero}
use Rattle.std.proofs.lemmas.Grind.{common_steps}
use Rattle.vl_mean.specs.Execution.{labels_sign, labels_size}
use Rattle.vl_mean.specs.FlatLaw.{flat_scopes}
use Rattle.vl_lower_stmt.proofs.Contexts.{labels_signed, labels_wider}
use Rattle.vl_lower_stmt.proofs.context.with_labels.Goals as goal

pub loop-label-preserved : goal.loop-label-preserved
loop-label-preserved c =
    let ds = c.args.decls.now in
    let xs = c.args.labels.now in
    let i = c.loop-label.label-index in
    let e = c.label-item.result in
    let rest = drop (i + 1) xs in
    let front : drop i xs ≡ e ∷ rest = grind (arith, common_steps) in
    let own = c.own_type.ensures in
    let made = c.common-all.ensures in
    let wide = made.width ∙ ap (max c.loop-label.all.width) own.width in
    let sign_is = made.signed ∙ ap (λ b. c.loop-label.all.signed && b) own.signed in
    record {
      width =
          labels_wider ds c.loop-label.all.width c.common-all.result.width e rest wide
          ∙ ap (λ ys. max c.loop-label.all.width (labels_size (flat_scopes ds) ys)) (sym front)
          ∙ c.loop-label.invariant.width;
      signed =
          labels_signed ds c.loop-label.all.signed c.common-all.result.signed e rest sign_is
          ∙ ap (λ ys. c.loop-label.all.signed && labels_sign (flat_scopes ds) ys) (sym front)
          ∙ c.loop-label.invariant.signed;
    }

and_true : (b : Bool) → b ≡ (b && true)
and_true true = refl
and_true false = refl

pub returns-clause-width : goal.returns-clause-width
returns-clause-width c =
    let xs = c.args.labels.now in
    let gone : drop c.loop-label.label-index xs ≡ [] = grind (arith, common_steps) in
    sym (max-zero c.loop-label.all.width)
    ∙ ap (λ ys. max c.loop-label.all.width (labels_size (flat_scopes c.args.decls.now) ys)) (sym gone)
    ∙ c.loop-label.invariant.width

pub returns-clause-signed : goal.returns-clause-signed
returns-clause-signed c =
    let xs = c.args.labels.now in
    let gone : drop c.loop-label.label-index xs ≡ [] = grind (arith, common_steps) in
    and_true c.loop-label.all.signed
    ∙ ap (λ ys. c.loop-label.all.signed && labels_sign (flat_scopes c.args.decls.now) ys) (sym gone)
    ∙ c.loop-label.invariant.signed
