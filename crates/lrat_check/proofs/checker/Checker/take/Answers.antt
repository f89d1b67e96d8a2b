use Rattle.std.proofs.Common.{sym, ap, ◌∙◌, ◌∷◌}
use Rattle.lrat_check.specs.declared.step.Step.TheVariants.{Delete}
use Rattle.lrat_check.specs.Steps.{verdict}
use Rattle.lrat_check.specs.Store.{held_of}
use Rattle.lrat_check.proofs.Stores.{deleted_held}
use Rattle.lrat_check.proofs.Sound.{verdict_deletes}
use Rattle.lrat_check.proofs.checker.Checker.take.Goals as goal

pub returns-in_ok-delete-in-Delete-clause-takes : goal.returns-in_ok-delete-in-Delete-clause-takes
returns-in_ok-delete-in-Delete-clause-takes c = λ steps.
    ap (λ s. verdict (held_of c.args.self.now.held) c.args.self.now.top (s ∷ steps))
    (c.in-Delete.is ∙ ap (Delete c.in-Delete.id) (sym c.as_slice-in-Delete.ensures))
    ∙ verdict_deletes (held_of c.args.self.now.held) c.args.self.now.top c.in-Delete.id
    c.as_slice-in-Delete.result.now (held_of c.delete.new.held) steps c.in_ok-delete-in-Delete.ensures.deletes

pub returns-in_ok-delete-in-Delete-clause-held : goal.returns-in_ok-delete-in-Delete-clause-held
returns-in_ok-delete-in-Delete-clause-held c = deleted_held c.in-Delete.id (held_of c.delete.new.held)
    (held_of c.args.self.now.held) c.as_slice-in-Delete.result.now c.requires.held
    c.in_ok-delete-in-Delete.ensures.deletes
