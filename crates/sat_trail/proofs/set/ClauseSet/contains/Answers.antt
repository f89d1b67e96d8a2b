use Rattle.std.proofs.Common.{ap, sym, ◌∙◌}
use Rattle.std.specs.List.{list_any}
use Rattle.std.specs.Ordering.{int_eq}
use Rattle.std.specs.Cmp.Lexicographic.{pointwise}
use Rattle.sat_trail.specs.Known as spec
use Rattle.sat_trail.proofs.Same.{contains_keys}
use Rattle.sat_trail.proofs.set.ClauseSet.contains.Goals as goal

pub returns : goal.returns
returns c =
    let keys = c.self.inside.sets.keys in
    c.contains.ensures
    ∙ ap (λ z. list_any (λ key. pointwise int_eq z key.keys) keys) c.in_ok-key.ensures
    ∙ sym (contains_keys keys c.args.lits.now) ∙ ap (λ z. spec.contains z c.args.lits.now) c.self.view_is
