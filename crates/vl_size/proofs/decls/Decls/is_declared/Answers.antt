use Rattle.std.proofs.Common.{◌∙◌, ap}
use Rattle.std.specs.Prelude.{is_some}
use Rattle.vl_size.proofs.Entries.{named_declared, copied_some}
use Rattle.vl_size.proofs.decls.Decls.is_declared.Goals as goal

pub returns : goal.returns
returns c = c.is_some.ensures ∙ copied_some c.named.result ∙ ap is_some c.named.ensures.value
    ∙ named_declared c.args.self.now c.args.name.now
