use Rattle.std.proofs.Common.{◌≡◌, ◌∙◌, List, ℕ}
use Rattle.std.proofs.lemmas.Result.{IfOk-weaker}
use Rattle.vl_elab_names.specs.Path.{texts_of}
use Rattle.vl_elab_names.proofs.path.ModulePath.names.Goals as goal

pub returns : goal.returns
returns c =
    IfOk-weaker c.copied_names.result (λ (names : List (List ℕ)). names ≡ texts_of c.self.inside.map.entries)
    (λ names. names ≡ c.args.self.now) (λ names e. e ∙ c.self.view_is) c.copied_names.ensures
