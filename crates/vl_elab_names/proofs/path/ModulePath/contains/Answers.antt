use Rattle.std.specs.Prelude.{is_some}
use Rattle.std.proofs.Common.{◌∙◌, ap}
use Rattle.vl_size.proofs.Entries.{copied_some}
use Rattle.vl_mean.specs.Cells.{contains_name}
use Rattle.vl_elab_names.specs.Path.{texts_of}
use Rattle.vl_elab_names.proofs.ModulesNames.{contains_lookup}
use Rattle.vl_elab_names.proofs.path.ModulePath.contains.Goals as goal

pub returns : goal.returns
returns c =
    let es = c.self.inside.map.entries in
    c.is_some.ensures ∙ copied_some c.get.result ∙ ap is_some c.get.ensures.value
    ∙ contains_lookup c.bytes.result.now es ∙ ap (contains_name (texts_of es)) c.bytes.ensures
    ∙ ap (λ ns. contains_name ns c.args.name.now) c.self.view_is
