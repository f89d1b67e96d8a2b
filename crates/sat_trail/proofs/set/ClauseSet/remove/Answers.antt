use Rattle.std.proofs.Common.{false, not, cond, ◌&&◌, ap, sym, ◌∙◌}
use Rattle.std.specs.List.{list_any}
use Rattle.std.specs.Ordering.{int_eq}
use Rattle.std.specs.Cmp.Lexicographic.{pointwise}
use Rattle.lrat_check.specs.Sets.{same_set}
use Rattle.sat_trail.specs.Known as spec
use Rattle.sat_trail.specs.Sorted.{sorted}
use Rattle.sat_trail.proofs.Same.{contains_keys, sorted_same, without_key}
use Rattle.sat_trail.proofs.set.ClauseSet.remove.Goals as goal

pub returns-clause-test : goal.returns-clause-test
returns-clause-test c =
    let keys = c.self.inside.sets.keys in
    c.remove.ensures.test
    ∙ ap (λ z. list_any (λ key. pointwise int_eq z key.keys) keys) c.in_ok-key.ensures
    ∙ sym (contains_keys keys c.args.lits.now) ∙ ap (λ z. spec.contains z c.args.lits.now) c.self.view_is

pub returns-clause-others : goal.returns-clause-others
returns-clause-others c clause =
    let keys = c.self.inside.sets.keys in
    let old = list_any (λ key. pointwise int_eq (sorted clause) key.keys) keys in
    contains_keys c.remove.new.self.keys clause
    ∙ c.remove.ensures.updates.0 (record { keys = sorted clause })
    ∙ ap (λ z. cond (pointwise int_eq z (sorted clause)) false old) c.in_ok-key.ensures
    ∙ ap (λ b. cond b false old) (sorted_same clause c.args.lits.now)
    ∙ without_key (same_set clause c.args.lits.now) old
    ∙ ap (λ z. not (same_set clause c.args.lits.now) && z)
    (sym (contains_keys keys clause) ∙ ap (λ z. spec.contains z clause) c.self.view_is)
