use Rattle.std.specs.Prelude.{◌≡◌}
use Rattle.std.proofs.Common.{refl, subst, rules}
use Rattle.fv_bits.specs.Bits.{bit}
use Rattle.vl_size.specs.Size.{is_true}
use Rattle.vl_mean.specs.FlatLaw.{flat_scopes}
use Rattle.vl_mean.specs.Scopes.{operand_in}
use Rattle.vl_lower_assign.specs.Frames.{cells_of}
use Rattle.vl_lower_assign.proofs.Tests.{path_there}
use Rattle.vl_lower_stmt.specs.Executes.{Evaluates}
use Rattle.vl_lower_stmt.proofs.Assumed.{assumed}
use Rattle.vl_lower_stmt.proofs.assumption.assume.Goals as goal

pub met_where-requires-clause-path : goal.met_where-requires-clause-path
met_where-requires-clause-path c =
    path_there c.args.net.now c.condition.new.net c.args.path c.in_ok-test.ensures.adds c.requires.path

pub returns : goal.returns
returns c = λ attrs p.
    let ds = c.args.layout.decls.now in
    let e = c.args.expr.now in
    let met = c.in_ok-met.ensures in
    let slice : c.as_slice.result.now ≡ c.args.frame.now.now.items = search rules in
    let test = subst (λ cs. Evaluates ds c.args.net.now c.condition.new.net cs 1
    (λ v. bit (is_true (operand_in (flat_scopes ds) v e))) c.in_ok-test.test) slice c.in_ok-test.ensures in
    assumed ds _ _ _ (cells_of c.args.frame.now) _ c.args.path c.in_ok-test.test c.in_ok-met.met attrs p e
    c.requires.frame c.requires.path test met.adds met.there met.value refl refl refl refl c.in_ok-push.ensures.ok
