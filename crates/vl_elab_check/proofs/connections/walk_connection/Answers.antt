use Rattle.std.proofs.Common.{refl, ◌∙◌, ◌∷◌, []}
use Rattle.vl_mean.specs.Walk.{connection}
use Rattle.vl_elab_names.specs.Known.{contains}
use Rattle.vl_elab_check_scope.proofs.NameLemmas.{same_names}
use Rattle.vl_elab_check.proofs.connections.walk_connection.Goals as goal

pub returns-clause-walked : goal.returns-clause-walked
returns-clause-walked c ms at m u inside t before directions stands inner names known =
    let x = connection at m u inside before c.args.given.now in
    c.weighed.ensures ms x t (c.in_ok-fault.ensures at m u before directions stands inner names) c.value_nodes.ensures
    refl (c.given_place-pos.ensures x t refl (λ n. refl) refl c.value_nodes.ensures refl known) known

pub returns-clause-earlier : goal.returns-clause-earlier
returns-clause-earlier c before names text =
    c.in_ok-add_name.ensures text
    ∙ same_names (contains c.args.earlier.now) before names (c.args.given.now.port ∷ []) text
