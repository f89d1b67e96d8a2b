use Rattle.std.specs.Prelude.{◌≡◌, Err, ℕ, List, ◌+◌, ◌++◌, ◌∷◌, [], take}
use Rattle.std.proofs.Common.{rules, sym, subst, add-one}
use Rattle.rvfi_port.specs.declared.fault.PortFault.TheVariants as fault
use Rattle.rvfi_port.specs.Outputs.{AreOutputs}
use Rattle.rvfi_port.proofs.Cut.{outputs_push, outputs_refused, answered}
use Rattle.rvfi_port.proofs.output.outputs_of.Goals as goal

pub returns-in_err-id : goal.returns-in_err-id
returns-in_err-id c =
    let left : c.from_residual.result ≡ Err c.in_err-id.field-0.0 = search rules in
    rw left (answered _ _ (outputs_refused c.args.net.now c.args.names.now c.args.channels c.args.fields.now
    c.loop-field.made.items c.loop-field.field-index _ _ c.loop-field.invariant c.loop-field-test.true c.in_err-id.ensures))

pub returns-in_err-push : goal.returns-in_err-push
returns-in_err-push c =
    let left : c.from_residual-in_err-push.result ≡ Err fault.Memory = search rules in
    rw left tt

pub loop-field-preserved : goal.loop-field-preserved
loop-field-preserved c =
    let fields = c.args.fields.now in
    let i = c.loop-field.field-index in
    let made = c.loop-field.made.items in
    let P : List ℕ → Type 0 = λ ids. AreOutputs c.args.net.now c.args.names.now c.args.channels (take (i + 1) fields) ids in
    let Q : ℕ → Type 0 = λ k. AreOutputs c.args.net.now c.args.names.now c.args.channels (take k fields)
    (made ++ c.in_ok-id.id ∷ []) in
    subst P (sym c.in_ok-push.ensures.items) (subst Q (sym (add-one i))
    (outputs_push c.args.net.now c.args.names.now c.args.channels fields made i c.in_ok-id.id _ c.loop-field.invariant
    c.loop-field-test.true c.in_ok-id.ensures))
