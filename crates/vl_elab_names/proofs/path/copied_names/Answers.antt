use Rattle.std.proofs.Common.{◌≡◌, ◌∙◌, ◌++◌, [], ap, arith}
use Rattle.std.specs.Prelude.{drop}
use Rattle.std.proofs.lemmas.Grind.{common_steps}
use Rattle.vl_elab_names.specs.Path.{texts_of}
use Rattle.vl_elab_names.proofs.ModulesNames.{all_named}
use Rattle.vl_elab_names.proofs.path.copied_names.Goals as goal

pub loop-place-init : goal.loop-place-init
loop-place-init c = ap (λ names. names ++ texts_of c.args.map.now.entries) c.new-names.ensures

pub loop-place-preserved : goal.loop-place-preserved
loop-place-preserved c = c.in_ok-add_name.ensures ∙ c.loop-place.invariant

pub returns : goal.returns
returns c =
    let gone : drop c.loop-place.place c.args.map.now.entries ≡ [] = grind (arith, common_steps) in
    all_named c.args.map.now.entries c.loop-place.place c.loop-place.names gone c.loop-place.invariant
