use Rattle.std.proofs.Common.{◌≡◌, ◌+◌, [], ◌∷◌, ap, arith}
use Rattle.std.specs.Prelude.{drop, map}
use Rattle.std.proofs.lemmas.Grind.{common_steps}
use Rattle.vl_elab_names.specs.Known.{contains}
use Rattle.vl_elab_check_scope.proofs.NameLemmas.{twice_on, names_on, twice_end, names_end}
use Rattle.vl_elab_check_scope.proofs.twice.all_genvars.Goals as goal

pub loop-text-preserved : goal.loop-text-preserved
loop-text-preserved c =
    let g = contains c.loop-text.earlier in
    let x = c.text-item.result in
    let here = drop c.loop-text.text-index c.args.all.now in
    let rest = drop (c.loop-text.text-index + 1) c.args.all.now in
    let front : drop c.loop-text.text-index c.args.all.now ≡ c.text-item.result
    ∷ drop (c.loop-text.text-index + 1) c.args.all.now = grind (arith, common_steps) in
    record {
      fault = twice_on g _ c.loop-text.fault _ _ x c.args.pos
          (map (λ text. (text, c.args.pos)) here) (map (λ text. (text, c.args.pos)) rest)
          (ap (map (λ text. (text, c.args.pos))) front) c.in_ok-fault.ensures.fault c.in_ok-fault.ensures.names
          c.loop-text.invariant.fault;
      names = names_on g _ _ x here rest front
          c.in_ok-fault.ensures.names c.loop-text.invariant.names;
    }

pub returns-clause-fault : goal.returns-clause-fault
returns-clause-fault c =
    let gone : drop c.loop-text.text-index c.args.all.now ≡ [] = grind (arith, common_steps) in
    twice_end (contains c.loop-text.earlier) c.loop-text.fault _
    (map (λ text. (text, c.args.pos)) (drop c.loop-text.text-index c.args.all.now))
    (ap (map (λ text. (text, c.args.pos))) gone) c.loop-text.invariant.fault

pub returns-clause-names : goal.returns-clause-names
returns-clause-names c =
    let gone : drop c.loop-text.text-index c.args.all.now ≡ [] = grind (arith, common_steps) in
    names_end (contains c.loop-text.earlier) _ (drop c.loop-text.text-index c.args.all.now)
    gone c.loop-text.invariant.names
