use Rattle.std.proofs.Common.{◌≡◌, ◌+◌, [], ◌∷◌, ap, arith}
use Rattle.std.specs.Prelude.{drop, map}
use Rattle.std.proofs.lemmas.Grind.{common_steps}
use Rattle.vl_elab_spec.specs.Items.{placed_names}
use Rattle.vl_elab_names.specs.Known.{contains}
use Rattle.vl_elab_check_scope.proofs.NameLemmas.{twice_on, names_on, twice_end, names_end}
use Rattle.vl_elab_check_scope.proofs.twice.all_declared.Goals as goal

pub loop-name-preserved : goal.loop-name-preserved
loop-name-preserved c =
    let g = contains c.loop-name.earlier in
    let x = c.name-item.result in
    let here = drop c.loop-name.name-index c.args.all.now in
    let rest = drop (c.loop-name.name-index + 1) c.args.all.now in
    let front : drop c.loop-name.name-index c.args.all.now ≡ c.name-item.result
    ∷ drop (c.loop-name.name-index + 1) c.args.all.now = grind (arith, common_steps) in
    record {
      fault = twice_on g _ c.loop-name.fault _ _ x.name x.pos (placed_names here) (placed_names rest)
          (ap placed_names front) c.in_ok-fault.ensures.fault c.in_ok-fault.ensures.names
          c.loop-name.invariant.fault;
      names = names_on g _ _ x.name (map (λ x. x.name) here) (map (λ x. x.name) rest) (ap (map (λ x. x.name)) front)
          c.in_ok-fault.ensures.names c.loop-name.invariant.names;
    }

pub returns-clause-fault : goal.returns-clause-fault
returns-clause-fault c =
    let gone : drop c.loop-name.name-index c.args.all.now ≡ [] = grind (arith, common_steps) in
    twice_end (contains c.loop-name.earlier) c.loop-name.fault _
    (placed_names (drop c.loop-name.name-index c.args.all.now))
    (ap placed_names gone) c.loop-name.invariant.fault

pub returns-clause-names : goal.returns-clause-names
returns-clause-names c =
    let gone : drop c.loop-name.name-index c.args.all.now ≡ [] = grind (arith, common_steps) in
    names_end (contains c.loop-name.earlier) _ (map (λ x. x.name) (drop c.loop-name.name-index c.args.all.now))
    (ap (map (λ x. x.name)) gone) c.loop-name.invariant.names
