use Rattle.std.proofs.Common.{◌≡◌, ◌∙◌, ap, sym, [], Some}
use Rattle.vl_mean.specs.Constants.{settled}
use Rattle.vl_mean.specs.Params.{constant}
use Rattle.vl_size.specs.Divisors.{valid_size}
use Rattle.vl_size.specs.Size.{cell_name, value, no_names}
use Rattle.vl_mean.specs.Env.{cells_of}
use Rattle.vl_mean.proofs.Refused.{unless_memory}
use Rattle.vl_mean.proofs.Faulty.{faultless}
use Rattle.vl_mean.proofs.constant_of.constant.Goals as goal

pub returns-clause-refused : goal.returns-clause-refused
returns-clause-refused c =
    let none : c.decls.result.now ≡ [] = c.decls.ensures ∙ c.new-env.ensures.decls ∙ c.new.ensures in
    unless_memory c.refusal.result _
    (sym (sym c.in-None.is ∙ c.size_of.ensures.value ∙ (λ i. valid_size (none i) (c.in_ok-expr.ensures i))))

pub returns-in-Some-clause-size : goal.returns-in-Some-clause-size
returns-in-Some-clause-size c =
    let none : c.decls.result.now ≡ [] = c.decls.ensures ∙ c.new-env.ensures.decls ∙ c.new.ensures in
    ap Some c.const_of.ensures.width ∙ sym c.in-Some.is ∙ c.size_of.ensures.value
    ∙ (λ i. valid_size (none i) (c.in_ok-expr.ensures i))

pub returns-in-Some-clause-value : goal.returns-in-Some-clause-value
returns-in-Some-clause-value c =
    let none : c.new-env.result.decls ≡ [] = c.new-env.ensures.decls ∙ c.new.ensures in
    let zeros : cells_of c.new-env.result ≡ no_names = λ i name index. c.new-env.ensures.numbers
    (cell_name name index) i in
    c.const_of.ensures.value
    ∙ (λ i. value (none i) (zeros i) (sym c.const_of.ensures.width i) (sym c.const_of.ensures.signed i)
    (c.in_ok-expr.ensures i))

pub returns-in-Some-clause-faultless : goal.returns-in-Some-clause-faultless
returns-in-Some-clause-faultless c =
    let none : c.decls.result.now ≡ [] = c.decls.ensures ∙ c.new-env.ensures.decls ∙ c.new.ensures in
    faultless (constant c.args.params.now) (settled (constant c.args.params.now) c.args.expr.now) _
    (sym (sym c.in-Some.is ∙ c.size_of.ensures.value ∙ (λ i. valid_size (none i) (c.in_ok-expr.ensures i))))

pub refusal-requires-clause-refused : goal.refusal-requires-clause-refused
refusal-requires-clause-refused c =
    let none : c.decls.result.now ≡ [] = c.decls.ensures ∙ c.new-env.ensures.decls ∙ c.new.ensures in
    sym (sym c.in-None.is ∙ c.size_of.ensures.value ∙ (λ i. valid_size (none i) (c.in_ok-expr.ensures i))
    ∙ ap (valid_size []) (sym c.in_ok-expr.ensures))
