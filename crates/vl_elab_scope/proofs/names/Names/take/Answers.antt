use Rattle.std.proofs.Common.{◌∙◌, ap, sym}
use Rattle.std.specs.Prelude.{drop}
use Rattle.vl_elab_scope.specs.Seen.{innermost}
use Rattle.vl_elab_scope.proofs.Levels.{left, named_left, none_empty, last_taken}
use Rattle.vl_elab_scope.proofs.names.Names.take.Goals as goal

pub invariant_of-self : goal.invariant_of-self
invariant_of-self c =
    named_left c.self.inside.levels.items c.pop-last.new.self.items (left c.self.inside.levels.items c.pop-last.new.self.items
    c.pop-last.result c.pop-last.ensures.items (λ e. sym c.self.inside.levels.ok.0
    ∙ (none_empty c.pop-last.result _ _ c.pop-last.ensures.cases e).0)) c.self.invariant

pub returns-clause-rest : goal.returns-clause-rest
returns-clause-rest c =
    left c.self.inside.levels.items c.pop-last.new.self.items c.pop-last.result c.pop-last.ensures.items
    (λ e. sym c.self.inside.levels.ok.0
    ∙ (none_empty c.pop-last.result _ _ c.pop-last.ensures.cases e).0) ∙ ap (drop 1) c.self.view_is

pub returns-clause-level : goal.returns-clause-level
returns-clause-level c =
    c.or_empty.ensures
    ∙ last_taken c.self.inside.levels.items c.pop-last.new.self.items c.pop-last.result c.pop-last.ensures.items
    (λ e. sym c.self.inside.levels.ok.0 ∙ (none_empty c.pop-last.result _ _ c.pop-last.ensures.cases e).0)
    ∙ ap innermost c.self.view_is
