-- Between functions: When names mean in a step what they stand for in its scopes. Rule of this project.
use Rattle.std.specs.Prelude.{List}
use Rattle.vl_mean.specs.Scopes.{Scope}
use Rattle.vl_mean.specs.Walk.{Step, header, port, item, override, connection, block_step}
use Rattle.vl_elab_spec.specs.Items.{inner_meanings}
use Rattle.vl_elab_spec.specs.Meanings.{Names, meanings_at}
use Rattle.vl_elab_scope.specs.Seen.{AllNamed}
use Rattle.vl_elab_accepted_laws.specs.Sized.{AreSound}
use Rattle.vl_elab_accepted_laws.specs.Means.{AreMeant}

-- nets and variables stand under their own names; and where no name is one whose own declaration is refused, names
-- mean what they stand for
abbrev pub AreRight : List Names → List Scope → Type 0
AreRight ns ss = AllNamed ns × (AreSound ns → AreMeant ns ss)

-- of a connection, also those of the module that it leads to
abbrev pub IsRight : Step → Type 0
IsRight (header at x) = AreRight (meanings_at at) at.scopes
IsRight (port at u p q) = AreRight (meanings_at at) at.scopes
IsRight (item at x) = AreRight (meanings_at at) at.scopes
IsRight (override at m u given x) = AreRight (meanings_at at) at.scopes
IsRight (block_step at b) = AreRight (meanings_at at) at.scopes
IsRight (connection at m u inside given x) =
    AreRight (meanings_at at) at.scopes × AreRight (inner_meanings m u) inside
