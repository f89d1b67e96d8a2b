use Rattle.std.proofs.Common.{◌≡◌, List}
use Rattle.std.proofs.lemmas.Result.{IfOk-weaker}
use Rattle.vl_mean.specs.Declarations.{bounds_of, vector_bounds}
use Rattle.vl_mean.specs.Scopes.{Scope}
use Rattle.vl_elab_const.specs.Numbers.{HaveNumbers}
use Rattle.vl_elab_const.specs.InRange.{AreBounds}
use Rattle.vl_elab_const.proofs.Extents.{no_range, some_range}
use Rattle.vl_elab_const.proofs.ranges.bounds_in.Goals as goal

pub returns-in-None : goal.returns-in-None
returns-in-None c = λ ss h b. no_range ss c.args.range.now c.in-None.is

pub returns-in-Some : goal.returns-in-Some
returns-in-Some c =
    IfOk-weaker c.pair_in.result
    (λ pair. (ss : List Scope) → HaveNumbers c.args.numbers.now ss → AreBounds (bounds_of ss c.in-Some.range)
    → pair ≡ bounds_of ss c.in-Some.range)
    (λ pair. (ss : List Scope) → HaveNumbers c.args.numbers.now ss
    → AreBounds (vector_bounds ss c.args.range.now) → pair ≡ vector_bounds ss c.args.range.now)
    (λ pair k. λ ss h b. some_range ss c.args.range.now c.in-Some.range pair c.in-Some.is (k ss h) b)
    c.pair_in.ensures
