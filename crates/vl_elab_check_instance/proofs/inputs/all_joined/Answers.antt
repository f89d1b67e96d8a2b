use Rattle.std.proofs.Common.{◌≡◌, ◌∙◌, ◌+◌, [], ◌∷◌, ap, sym, arith, Bool}
use Rattle.std.specs.Prelude.{drop}
use Rattle.std.proofs.lemmas.Grind.{common_steps}
use Rattle.vl_elab_names.specs.Known.{contains}
use Rattle.vl_elab_check_instance.specs.Clock.{is_clock, joined_to, with_clock, with_name}
use Rattle.vl_elab_check_instance.proofs.inputs.all_joined.Goals as goal

pub loop-given-init : goal.loop-given-init
loop-given-init c other =
    λ i. joined_to (is_clock (contains c.args.clocks.now) c.args.numbers.now) c.args.all.now
    (λ text. c.new-seen.ensures text i) (λ text. c.new-joined.ensures text i) other

pub loop-given-preserved : goal.loop-given-preserved
loop-given-preserved c other =
    let test = is_clock (contains c.args.clocks.now) c.args.numbers.now in
    let x = c.given-item.result in
    let rest = drop (c.loop-given.given-index + 1) c.args.all.now in
    let seen = contains c.loop-given.seen in
    let joined = contains c.loop-given.joined in
    let front : drop c.loop-given.given-index c.args.all.now ≡ c.given-item.result
    ∷ drop (c.loop-given.given-index + 1) c.args.all.now = grind (arith, common_steps) in
    (λ i. joined_to test rest (λ text. c.in_ok-add_connection.ensures.seen text i)
    (λ text. c.in_ok-add_connection.ensures.joined text i) other)
    ∙ ap (λ (b : Bool). joined_to test rest (with_name seen x.port) (with_clock b x.port seen joined) other)
    c.is_clock-test.ensures
    ∙ ap (λ xs. joined_to test xs seen joined other) (sym front) ∙ c.loop-given.invariant other

pub returns : goal.returns
returns c other =
    let test = is_clock (contains c.args.clocks.now) c.args.numbers.now in
    let gone : drop c.loop-given.given-index c.args.all.now ≡ [] = grind (arith, common_steps) in
    ap (λ xs. joined_to test xs (contains c.loop-given.seen) (contains c.loop-given.joined) other) (sym gone)
    ∙ c.loop-given.invariant other
