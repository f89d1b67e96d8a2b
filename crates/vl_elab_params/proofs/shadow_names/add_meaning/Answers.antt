use Rattle.std.proofs.Common.{◌∙◌, sym, subst}
use Rattle.vl_elab_spec.specs.Meanings.{Meaning, meaning_in}
use Rattle.vl_elab_scope.specs.Seen.{IsNamed, seen}
use Rattle.vl_elab_params.proofs.Shadowing.{kept_named, none_kept, one_kept}
use Rattle.vl_elab_params.proofs.shadow_names.add_meaning.Goals as goal

pub add-requires : goal.add-requires
add-requires c =
    kept_named c.args.names.now c.args.text.now _ c.in-Some.meaning.now _ c.meaning.ensures.named
    c.in-Some.ensures.value c.in_ok-copied-in-Some-2.ensures c.in_ok-copied-in-Some.ensures
