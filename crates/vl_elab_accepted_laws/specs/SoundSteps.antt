-- Between functions: What is known of the steps of a design in which nothing is refused. Rule of this project.
use Rattle.std.specs.Prelude.{◌≡◌, if◌then◌else◌}
use Rattle.vl_tree.specs.ExprWellFormed.{IsName, IsValue}
use Rattle.vl_tree.specs.WellFormed.{IsWellFormed}
use Rattle.vl_size.specs.declared.decl.Class.TheVariants as class
use Rattle.vl_mean.specs.Scopes.{constant_in, is_clock}
use Rattle.vl_mean.specs.Walk.{Step, header, port, item, override, connection, block_step}
use Rattle.vl_elab_spec.specs.Items.{inner_meanings}
use Rattle.vl_elab_spec.specs.Meanings.{constants, meanings_at}
use Rattle.vl_elab_accepted_laws.specs.Sized.{AreSound}
use Rattle.vl_elab_spec.specs.Among.{AreAmong}
use Rattle.vl_elab_accepted_laws.specs.Joined.{PortsAreObjects}

-- no name in its place is one whose own declaration is refused, nor one in the module that an instance is joined to,
-- whose ports are nets and variables in it
abbrev pub HasSoundNames : Step → Type 0
HasSoundNames (header at x) = AreSound (meanings_at at)
HasSoundNames (port at u p q) = AreSound (meanings_at at)
HasSoundNames (item at x) = AreSound (meanings_at at)
HasSoundNames (override at m u given x) = AreSound (meanings_at at)
HasSoundNames (block_step at b) = AreSound (meanings_at at)
HasSoundNames (connection at m u inside given x) =
    AreSound (meanings_at at) × AreSound (inner_meanings m u) × PortsAreObjects m u

-- what is known to be a constant where its declarations stand is the same constant where their bounds are read
abbrev pub HasSoundBounds : Step → Type 0
HasSoundBounds (header at x) = Unit {0}
HasSoundBounds (port at u p q) = AreAmong (constants (meanings_at at)) (constant_in at.around)
HasSoundBounds (item at x) = AreAmong (constants (meanings_at at)) (constant_in at.around)
HasSoundBounds (override at m u given x) = Unit {0}
HasSoundBounds (connection at m u inside given x) = Unit {0}
HasSoundBounds (block_step at b) = Unit {0}

-- an input of the module that an instance is joined to is a net in it, or the clock where it is joined to the clock
abbrev pub HasOwnInput : Step → Type 0
HasOwnInput (header at x) = Unit {0}
HasOwnInput (port at u p q) = Unit {0}
HasOwnInput (item at x) = Unit {0}
HasOwnInput (override at m u given x) = Unit {0}
HasOwnInput (block_step at b) = Unit {0}
HasOwnInput (connection at m u inside given x) =
    u.input x.port ≡ (if is_clock at.scopes x.value then class.Clock else class.Net)

-- what it is made from is well formed
abbrev pub IsFormedStep : Step → Type 0
IsFormedStep (header at x) = Unit {0}
IsFormedStep (port at u p q) = IsName q.name × IsValue q.value
IsFormedStep (item at x) = IsWellFormed x
IsFormedStep (override at m u given x) = Unit {0}
IsFormedStep (block_step at b) = Unit {0}
IsFormedStep (connection at m u inside given x) = IsValue x.value
