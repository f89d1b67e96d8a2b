-- Between functions: What is known of an expression that isn't refused. Rule of this project.
use Rattle.std.specs.Prelude.{◌≡◌, ℕ, ◌≤◌, List, Bool, true, false, Some}
use Rattle.vl_tree.specs.Expr.{Expr}
use Rattle.vl_size.specs.Size.{size, is_constant}
use Rattle.vl_size.specs.Table.{IsShaped}
use Rattle.vl_mean.specs.Scopes.{is_clock_class}
use Rattle.vl_mean_flat.specs.Names.{Names as EachName}
use Rattle.vl_elab_spec.specs.Expressions.{known, wide_size}
use Rattle.vl_elab_spec.specs.Meanings.{Meaning, undeclared, constant, loop_variable, object, faulty, shapeless, later}
use Rattle.vl_elab_spec.specs.Meanings.{Names, meaning_in, objects}

-- its own declaration isn't refused
abbrev pub IsSound : Meaning → Type 0
IsSound undeclared = Unit {0}
IsSound (constant c selected) = Unit {0}
IsSound loop_variable = Unit {0}
IsSound (object d role scalar) = IsShaped d
IsSound faulty = ⊥
IsSound shapeless = ⊥
IsSound later = Unit {0}

-- no parameter is one whose own declaration is refused; nets and variables may be
abbrev pub IsSure : Meaning → Type 0
IsSure faulty = ⊥
IsSure m = Unit {0}

abbrev pub AreSure : List Names → Type 0
AreSure ns = (text : List ℕ) → IsSure (meaning_in ns text)

-- whatever a name means, its own declaration isn't refused
abbrev pub AreSound : List Names → Type 0
AreSound ns = (text : List ℕ) → IsSound (meaning_in ns text)

-- the name is that of a net or a variable, and not of the clock
abbrev pub IsRead : Meaning → Type 0
IsRead (object d role scalar) = is_clock_class d.class ≡ false
IsRead m = ⊥

-- with numbers in place of constants it has a size, which is that without a limit; it is constant where that is
-- demanded, and each name that is left is that of a net or a variable
pub record IsSized (ns : List Names) (fixed : Bool) (e : Expr) : Type 0 where
  pub bits : ℕ
  pub sized : size (objects ns) (known ns e) ≡ Some bits
  pub wide : wide_size ns e ≡ Some bits
  pub some : 1 ≤ bits
  pub few : bits ≤ 128
  pub constant : fixed ≡ true → is_constant (known ns e) ≡ true
  pub names : EachName (λ text. IsRead (meaning_in ns text)) (known ns e)
