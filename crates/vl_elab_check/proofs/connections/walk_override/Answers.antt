use Rattle.std.proofs.Common.{refl, ◌∙◌, ◌∷◌, []}
use Rattle.vl_mean.specs.Walk.{override}
use Rattle.vl_elab_names.specs.Known.{contains}
use Rattle.vl_elab_check_scope.proofs.NameLemmas.{same_names}
use Rattle.vl_elab_check.proofs.connections.walk_override.Goals as goal

pub returns-clause-walked : goal.returns-clause-walked
returns-clause-walked c ms at u t before same inner names known =
    let x = override at c.args.module.now u before c.args.given.now in
    c.weighed.ensures ms x t (c.in_ok-fault.ensures at u before same inner names) c.value_nodes.ensures refl
    (c.given_place-pos.ensures x t refl (λ n. refl) refl c.value_nodes.ensures refl known) known

pub returns-clause-earlier : goal.returns-clause-earlier
returns-clause-earlier c before names text =
    c.in_ok-add_name.ensures text
    ∙ same_names (contains c.args.earlier.now) before names (c.args.given.now.port ∷ []) text
