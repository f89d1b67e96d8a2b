use Rattle.std.specs.Prelude.{◌≡◌, [], false}
use Rattle.std.proofs.Common.{◌∙◌, refl}
use Rattle.std.proofs.lemmas.Result.{IfOk-weaker}
use Rattle.vl_elab_spec.specs.Refused.{modules_twice}
use Rattle.vl_elab_names.specs.Table.{twice_by}
use Rattle.vl_elab_names.proofs.Places.{same_twice}
use Rattle.vl_elab_names.proofs.twice.modules_twice.Goals as goal

pub returns : goal.returns
returns c =
    let ms = c.args.all.now in
    IfOk-weaker c.first_twice.result (λ g. g ≡ twice_by (λ text. false) ms) (λ g. g ≡ modules_twice [] ms)
    (λ g h. h ∙ same_twice (λ text. false) [] ms (λ text. refl)) c.first_twice.ensures
