use Rattle.std.proofs.Common.{◌∙◌, ◌++◌, ap, sym, length}
use Rattle.vl_elab_scope.specs.Seen.{inward}
use Rattle.vl_elab_scope.proofs.Levels.{laid, laid_named, inward_length}
use Rattle.vl_elab_scope.proofs.names.Names.lay.Goals as goal

pub invariant_of-self-2 : goal.invariant_of-self-2
invariant_of-self-2 c =
    laid_named c.self.inside.levels.items c.others.inside.levels.items c.move_all.new.levels.items c.self.invariant
    c.others.invariant c.in_ok-move_all.ensures.levels

pub returns-clause-names : goal.returns-clause-names
returns-clause-names c =
    laid c.self.inside.levels.items c.others.inside.levels.items c.move_all.new.levels.items
    c.in_ok-move_all.ensures.levels
    ∙ ap (λ ns. ns ++ inward c.self.inside.levels.items) c.others.view_is
    ∙ ap (λ ns. c.args.others.now ++ ns) c.self.view_is

pub returns-clause-count : goal.returns-clause-count
returns-clause-count c =
    c.len-count.ensures ∙ c.others.inside.levels.ok.0 ∙ sym (inward_length c.others.inside.levels.items)
    ∙ ap length c.others.view_is
