use Rattle.std.proofs.Common.{◌≡◌, ◌∙◌, ◌++◌, ap}
use Rattle.std.specs.Prelude.{codes}
use Rattle.std.proofs.lemmas.Result.{IfOk-weaker}
use Rattle.vl_tree.specs.ItemView.{block as block_of}
use Rattle.vl_mean.specs.Declarations.{block_name, label_of}
use Rattle.vl_elab_flatten.proofs.blocks.path_of.Goals as goal

pub returns : goal.returns
returns c =
    let path = c.args.here.now.path in
    IfOk-weaker c.inside_path.result (λ text. text ≡ path ++ c.in_ok-name.name ++ codes ".")
    (λ text. text
    ≡ path ++ block_name c.args.here.now.names c.args.number (label_of (block_of c.args.block.now)) ++ codes ".")
    (λ text h. h ∙ ap (λ name. path ++ name ++ codes ".") c.in_ok-name.ensures) c.inside_path.ensures
