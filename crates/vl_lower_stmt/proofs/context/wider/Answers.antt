use Rattle.std.specs.Prelude.{◌≡◌, ◌&&◌, max}
use Rattle.std.proofs.Common.{ap, sym, ◌∙◌, subst, rules}
use Rattle.vl_tree.specs.Stmt.{no_arms}
use Rattle.vl_tree.specs.StmtView.{with_arm}
use Rattle.vl_mean.specs.Execution.{arms_sign, arms_size, labels_sign, labels_size}
use Rattle.vl_mean.specs.FlatLaw.{flat_scopes}
use Rattle.vl_lower_stmt.specs.StepsArms.{AreLedTo, AreSized}
use Rattle.vl_lower_stmt.proofs.Contexts.{and_assoc, max_assoc}
use Rattle.vl_lower_stmt.proofs.context.wider.Goals as goal

pub with_labels-requires : goal.with_labels-requires
with_labels-requires c =
    let ds = c.args.decls.now in
    let slice : c.as_slice.result.now ≡ c.in-Labels.labels = search rules in
    subst (AreSized ds) (sym slice) (subst (λ x. AreLedTo ds (with_arm x no_arms)) c.in-Labels.is c.requires).0

pub returns-in-Labels-clause-width : goal.returns-in-Labels-clause-width
returns-in-Labels-clause-width c = λ rest.
    let ds = c.args.decls.now in
    let w = c.args.context.width in
    let slice : c.as_slice.result.now ≡ c.in-Labels.labels = search rules in
    ap (λ n. max n (arms_size (flat_scopes ds) rest)) c.with_labels.ensures.width
    ∙ sym (max_assoc w (labels_size (flat_scopes ds) c.as_slice.result.now) (arms_size (flat_scopes ds) rest))
    ∙ ap (λ es. max w (max (labels_size (flat_scopes ds) es) (arms_size (flat_scopes ds) rest))) slice
    ∙ ap (λ x. max w (arms_size (flat_scopes ds) (with_arm x rest))) (sym c.in-Labels.is)

pub returns-in-Labels-clause-signed : goal.returns-in-Labels-clause-signed
returns-in-Labels-clause-signed c = λ rest.
    let ds = c.args.decls.now in
    let s = c.args.context.signed in
    let slice : c.as_slice.result.now ≡ c.in-Labels.labels = search rules in
    ap (λ b. b && arms_sign (flat_scopes ds) rest) c.with_labels.ensures.signed
    ∙ sym (and_assoc s (labels_sign (flat_scopes ds) c.as_slice.result.now) (arms_sign (flat_scopes ds) rest))
    ∙ ap (λ es. s && (labels_sign (flat_scopes ds) es && arms_sign (flat_scopes ds) rest)) slice
    ∙ ap (λ x. s && arms_sign (flat_scopes ds) (with_arm x rest)) (sym c.in-Labels.is)

pub returns-in-Default-clause-width : goal.returns-in-Default-clause-width
returns-in-Default-clause-width c = λ rest.
    ap (λ x. max c.args.context.width (arms_size (flat_scopes c.args.decls.now) (with_arm x rest))) (sym
    c.in-Default.is)

pub returns-in-Default-clause-signed : goal.returns-in-Default-clause-signed
returns-in-Default-clause-signed c = λ rest.
    ap (λ x. c.args.context.signed && arms_sign (flat_scopes c.args.decls.now) (with_arm x rest)) (sym c.in-Default.is)
