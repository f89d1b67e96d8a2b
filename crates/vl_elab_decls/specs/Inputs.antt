-- Between functions: What the inputs of a module stand for, by how it is used. IEEE 1364-2005, section 12.3; that the
-- inputs `clock` and `reset` of the top module have a meaning of their own is a rule of this project.
use Rattle.std.specs.Prelude.{◌≡◌, ℕ, List, Bool, true, false, if◌then◌else◌}
use Rattle.vl_size.specs.declared.decl.Class.{Class}
use Rattle.vl_size.specs.declared.decl.Class.TheVariants as class
use Rattle.vl_mean.specs.Walk.{Use, top_input}
use Rattle.vl_elab_names.specs.Known.{contains}
use Rattle.vl_elab_decls.specs.declared.inputs.Inputs.{Inputs}
use Rattle.vl_elab_decls.specs.declared.inputs.Inputs.TheVariants as i

abbrev pub is_top : Inputs → Bool
is_top i.Top = true
is_top (i.Joined clocks) = false

abbrev pub class_of : Inputs → List ℕ → Class
class_of i.Top text = top_input text
class_of (i.Joined clocks) text = if contains clocks text then class.Clock else class.Net

-- the module is used so
pub record AreInputs (inputs : Inputs) (u : Use) : Type 0 where
  pub top : u.is_top ≡ is_top inputs
  pub stands : (text : List ℕ) → u.input text ≡ class_of inputs text
