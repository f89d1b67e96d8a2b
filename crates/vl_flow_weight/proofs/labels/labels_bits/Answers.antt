use Rattle.std.proofs.Common.{◌≡◌, ◌+◌, ◌∷◌, [], drop, ap, ◌∙◌, arith, rules}
use Rattle.std.specs.Prelude.{max}
use Rattle.std.proofs.lemmas.Grind.{common_steps}
use Rattle.vl_mean.specs.Execution.{labels_size}
use Rattle.vl_mean.specs.FlatLaw.{flat_scopes}
use Rattle.vl_flow_weight.proofs.Statements.{largest_done, largest_more, label_size}
use Rattle.vl_flow_weight.proofs.labels.labels_bits.Goals as goal

pub loop-label-init : goal.loop-label-init
loop-label-init c = omega arith

pub loop-label-preserved : goal.loop-label-preserved
loop-label-preserved c =
    let ds = c.args.decls.now in
    let ss = flat_scopes ds in
    let xs = c.args.all.now in
    let i = c.loop-label.label-index in
    let e = c.label-item.result in
    let front : drop i xs ≡ e ∷ drop (i + 1) xs = grind (arith, common_steps) in
    let one = label_size ds e c.bits_of.result c.self_size.result c.self_size.ensures.value c.bits_of.ensures in
    let next : c.max-bits.result ≡ max c.loop-label.bits c.bits_of.result = search rules in
    largest_more c.loop-label.bits c.bits_of.result (labels_size ss (drop (i + 1) xs)) c.max-bits.result
    (labels_size ss (drop i xs)) (labels_size ss xs) next
    (ap (labels_size ss) front ∙ ap (λ n. max n (labels_size ss (drop (i + 1) xs))) one) c.loop-label.invariant

pub returns : goal.returns
returns c =
    let ss = flat_scopes c.args.decls.now in
    let xs = c.args.all.now in
    let i = c.loop-label.label-index in
    let gone : drop i xs ≡ [] = grind (arith, common_steps) in
    largest_done c.loop-label.bits (labels_size ss (drop i xs)) (labels_size ss xs) (ap (labels_size ss) gone)
    c.loop-label.invariant
