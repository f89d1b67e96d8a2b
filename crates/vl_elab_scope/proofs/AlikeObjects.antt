-- The nets and variables that names mean.
use Rattle.std.specs.Prelude.{◌≡◌, ℕ, List}
use Rattle.std.proofs.Common.{ap, sym, ◌∙◌}
use Rattle.vl_size.specs.Table.{declared_as}
use Rattle.vl_elab_spec.specs.Meanings.{Names, objects}
use Rattle.vl_elab_scope.specs.Seen.{object_of}
use Rattle.vl_elab_scope.proofs.ScopeObjects.{object_is}
use Rattle.vl_elab_scope.specs.Alike.{Alike}

pub same_object : (ns ms : List Names) → Alike ns ms → (text : List ℕ)
    → declared_as (objects ns) text ≡ declared_as (objects ms) text
same_object ns ms h text =
    object_is ns text h.named ∙ ap object_of (h.meaning text) ∙ sym (object_is ms text h.also_named)
