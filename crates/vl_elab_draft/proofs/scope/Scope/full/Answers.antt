use Rattle.std.specs.Option.{option_copied}
use Rattle.std.proofs.Common.{◌∙◌, ap}
use Rattle.vl_elab_draft.proofs.FullNames.{own_some}
use Rattle.vl_elab_draft.proofs.scope.Scope.full.Goals as goal

pub returns-in-Some : goal.returns-in-Some
returns-in-Some c =
    own_some c.args.self.now c.args.name.now c.self.inside.path c.self.inside.decls c.as_slice.result.now
    c.in-Some.place (option_copied c.text_at.result) (ap (λ s. s.path) c.self.view_is) (ap (λ s. s.decls) c.self.view_is)
    (c.as_slice.ensures.value ∙ c.self.invariant.1) c.in-Some.ensures c.text_at.ensures
