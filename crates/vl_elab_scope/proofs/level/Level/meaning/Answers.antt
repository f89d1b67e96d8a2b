use Rattle.std.proofs.Common.{◌∙◌, ap}
use Rattle.vl_elab_spec.specs.Meanings.{meaning_of}
use Rattle.vl_elab_scope.proofs.level.Level.meaning.Goals as goal

pub returns : goal.returns
returns c = c.meaning_among.ensures ∙ ap (λ ns. meaning_of ns c.args.name.now) c.self.view_is
