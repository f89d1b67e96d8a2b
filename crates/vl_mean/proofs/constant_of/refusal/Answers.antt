use Rattle.std.specs.Prelude.{Option, Some, None}
use Rattle.std.proofs.Common.{◌≡◌, ◌∙◌, sym}
use Rattle.vl_mean.specs.declared.const_fault.ConstFault.{ConstFault}
use Rattle.vl_mean.specs.ConstantFaults.{first_fault}
use Rattle.vl_mean.specs.Params.{constant}
use Rattle.vl_mean.proofs.Faulty.{faulty}
use Rattle.vl_mean.proofs.constant_of.refusal.Goals as goal

none_some : (o : Option ConstFault) (f : ConstFault) → None ≡ o → o ≡ Some f → ⊥
none_some o f h k = cc

pub unreachable-requires : goal.unreachable-requires
unreachable-requires c =
    let there = faulty (constant c.args.params.now) c.args.expr.now c.requires.refused in
    none_some _ there.0
    (sym c.in-None.is ∙ c.first_fault.ensures
    ∙ (λ i. first_fault (constant c.args.params.now) (c.requires.no_decls i)
    (c.requires.no_values i) c.args.expr.now)) there.1

pub returns : goal.returns
returns c =
    sym (sym c.in-Some.is ∙ c.first_fault.ensures
    ∙ (λ i. first_fault (constant c.args.params.now) (c.requires.no_decls i) (c.requires.no_values i) c.args.expr.now))
