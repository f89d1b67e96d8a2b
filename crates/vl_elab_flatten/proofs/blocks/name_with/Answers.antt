use Rattle.std.specs.Prelude.{◌≡◌, ℕ, List, length}
use Rattle.std.proofs.lemmas.Result.{IfOk-weaker}
use Rattle.vl_mean.specs.Declarations.{block_name}
use Rattle.vl_elab_names.specs.Known.{AreNames}
use Rattle.vl_elab_flatten.proofs.blocks.name_with.Goals as goal

pub returns : goal.returns
returns c =
    IfOk-weaker c.block_name.result
    (λ text. (all : List (List ℕ)) → AreNames c.set-set.result.now all → c.len-count.result ≡ length all
    → text ≡ block_name all c.args.number c.args.label.now)
    (λ text. text ≡ block_name c.args.here.now.names c.args.number c.args.label.now)
    (λ text h. h c.args.here.now.names c.set-set.ensures c.len-count.ensures) c.block_name.ensures
