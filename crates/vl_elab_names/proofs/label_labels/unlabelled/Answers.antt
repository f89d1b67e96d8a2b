use Rattle.std.proofs.Common.{◌≡◌, ◌∙◌, ℕ, List, length, ap, true, false, arith}
use Rattle.std.proofs.lemmas.Result.{IfOk-weaker}
use Rattle.vl_mean.specs.Declarations.{genblk, unlabelled, unused_genblk}
use Rattle.vl_elab_names.specs.Known.{AreNames}
use Rattle.vl_elab_names.proofs.Zeros.{goes_on, ends_here, ends_last, is_there}
use Rattle.vl_elab_names.proofs.label_labels.unlabelled.Goals as goal

pub returns-then-not-contains : goal.returns-then-not-contains
returns-then-not-contains c = λ all h e.
    let absent : c.contains.result ≡ false = assumption (c.if-not-contains.true) in
    c.in_ok-name.ensures
    ∙ ends_here c.args.count c.args.number c.loop-zeros.zeros all (omega arith)
    (is_there c.args.names.now all (genblk c.loop-zeros.zeros c.args.number) c.in_ok-name.name c.contains.result h
    c.in_ok-name.ensures c.contains.ensures ∙ absent) (c.loop-zeros.invariant all h e)
    ∙ ap (λ m. unused_genblk m 0 all c.args.number) e

pub loop-zeros-preserved : goal.loop-zeros-preserved
loop-zeros-preserved c = λ all h e.
    let present : c.contains.result ≡ true = assumption (c.if-not-contains.false) in
    goes_on c.args.count c.args.number c.loop-zeros.zeros all
    (is_there c.args.names.now all (genblk c.loop-zeros.zeros c.args.number) c.in_ok-name.name c.contains.result h
    c.in_ok-name.ensures c.contains.ensures ∙ present) (c.loop-zeros.invariant all h e)

pub returns : goal.returns
returns c =
    IfOk-weaker c.genblk-2.result (λ text. text ≡ genblk c.args.count c.args.number)
    (λ text. (all : List (List ℕ)) → AreNames c.args.names.now all → c.args.count ≡ length all
    → text ≡ unlabelled all c.args.number)
    (λ text k. λ all h e. k
    ∙ ends_last c.args.count c.args.number c.loop-zeros.zeros all (omega arith) (c.loop-zeros.invariant all h e)
    ∙ ap (λ m. unused_genblk m 0 all c.args.number) e) c.genblk-2.ensures
