use Rattle.std.proofs.Common.{◌∙◌, ap, sym}
use Rattle.std.specs.Prelude.{drop}
use Rattle.vl_elab_scope.proofs.Levels.{left, named_left, none_empty}
use Rattle.vl_elab_scope.proofs.names.Names.leave.Goals as goal

pub invariant_of-self : goal.invariant_of-self
invariant_of-self c =
    named_left c.self.inside.levels.items c.pop.new.self.items (left c.self.inside.levels.items c.pop.new.self.items
    c.pop.result c.pop.ensures.items (λ e. sym c.self.inside.levels.ok.0
    ∙ (none_empty c.pop.result _ _ c.pop.ensures.cases e).0)) c.self.invariant

pub returns : goal.returns
returns c =
    left c.self.inside.levels.items c.pop.new.self.items c.pop.result c.pop.ensures.items
    (λ e. sym c.self.inside.levels.ok.0
    ∙ (none_empty c.pop.result _ _ c.pop.ensures.cases e).0) ∙ ap (drop 1) c.self.view_is
