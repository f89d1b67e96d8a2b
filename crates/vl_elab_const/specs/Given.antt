-- Between functions: What an instance gives to the parameters of its module, by name. IEEE 1364-2005, section 12.2.2.
use Rattle.std.specs.Prelude.{◌≡◌, ℕ, List, [], ◌∷◌, Bool, true, Option, Some, None, Box, bytes_eq, is_some}
use Rattle.std.specs.Prelude.{if◌then◌else◌}
use Rattle.std.specs.declared.alloc.Global.{Global}
use Rattle.std.specs.Map.{lookup}
use Rattle.vl_tree.specs.declared.part.Connection.{Connection}
use Rattle.vl_tree.specs.Expr.{Expr}
use Rattle.vl_size.specs.Size.{Operand, operand_of, no_names}
use Rattle.vl_mean.specs.Declarations.{Overrides, is_value_or, override_or}
use Rattle.vl_elab_spec.specs.Expressions.{known}
use Rattle.vl_elab_spec.specs.Items.{has_value}
use Rattle.vl_elab_spec.specs.Meanings.{Names, is_overridden}
use Rattle.vl_elab_scope.specs.Texts.{or_else}
use Rattle.vl_elab_const.specs.declared.given.Given.{Given}
use Rattle.vl_elab_const.specs.declared.given.Value.{Value}
use Rattle.vl_elab_const.specs.declared.given.Written.{Written}

-- what is given to a parameter, where something is given at all
abbrev pub value_in : Written → List ℕ → Option Value
value_in written text = lookup (λ key. bytes_eq text key.items) written.map.entries

abbrev pub value_among : Option (Box Written Global) → List ℕ → Option Value
value_among None text = None
value_among (Some b) text = value_in b.value text

-- what is given to a parameter
abbrev pub value_given : Given → List ℕ → Option Value
value_given given text = value_among given.written text

-- this name has this value
abbrev pub named_value : List ℕ → Value → List ℕ → Option Value
named_value text v other = if bytes_eq text other then Some v else None

-- without names
abbrev pub operand_or : Option Value → Operand → Operand
operand_or None x = x
operand_or (Some v) x = operand_of [] no_names v.expr

-- what is given has a value, or else the parameter's own is one
abbrev pub known_or : Option Value → Bool → Bool
known_or None known = known
known_or (Some v) known = v.has_value

-- each parameter has the value that it is given
pub record IsGiven (given : List ℕ → Option Value) (os : Overrides) : Type 0 where
  pub value : (text : List ℕ) (x : Operand) → override_or os text x ≡ operand_or (given text) x
  pub known : (text : List ℕ) (b : Bool) → is_value_or os text b ≡ known_or (given text) b
  pub there : (text : List ℕ) → is_overridden os text ≡ is_some (given text)

-- by what names mean, where that is told
abbrev pub is_value : Option (List Names) → Expr → Bool
is_value None e = true
is_value (Some ns) e = has_value ns e

-- of two with one name the first counts, and one without a value gives none
abbrev pub written_value : (Expr → Bool) → List Names → List ℕ → Option Expr → List ℕ → Option Value
written_value valued ns text None other = None
written_value valued ns text (Some e) other =
    named_value text (record { expr = known ns e; has_value = valued e }) other

abbrev pub first_value : (Expr → Bool) → List Names → List Connection → List ℕ → Option Value
first_value valued ns [] text = None
first_value valued ns (x ∷ xs) text =
    or_else (written_value valued ns x.port x.value text) (first_value valued ns xs text)
