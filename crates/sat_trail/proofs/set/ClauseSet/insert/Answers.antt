use Rattle.std.proofs.Common.{true, cond, ◌||◌, ap, sym, ◌∙◌}
use Rattle.std.specs.List.{list_any}
use Rattle.std.specs.Ordering.{int_eq}
use Rattle.std.specs.Cmp.Lexicographic.{pointwise}
use Rattle.lrat_check.specs.Sets.{same_set}
use Rattle.sat_trail.specs.Known as spec
use Rattle.sat_trail.specs.Sorted.{sorted}
use Rattle.sat_trail.proofs.Same.{contains_keys, sorted_same, with_key}
use Rattle.sat_trail.proofs.set.ClauseSet.insert.Goals as goal

pub returns : goal.returns
returns c clause =
    let keys = c.self.inside.sets.keys in
    let old = list_any (λ key. pointwise int_eq (sorted clause) key.keys) keys in
    contains_keys c.insert.new.self.keys clause
    ∙ c.in_ok-insert.ensures.updates.0 (record { keys = sorted clause })
    ∙ ap (λ z. cond (pointwise int_eq z (sorted clause)) true old) c.in_ok-key.ensures
    ∙ ap (λ b. cond b true old) (sorted_same clause c.args.lits.now)
    ∙ with_key (same_set clause c.args.lits.now) old
    ∙ ap (λ z. same_set clause c.args.lits.now || z)
    (sym (contains_keys keys clause) ∙ ap (λ z. spec.contains z clause) c.self.view_is)
