-- Between functions: What names mean in scopes, as they are entered while a design is judged. Rule of this project.
use Rattle.std.specs.Prelude.{◌≡◌, ℕ, List, Bool, ◌&&◌}
use Rattle.vl_mean.specs.Scopes.{Scope, constant_in, declared_in, is_clock_decl}
use Rattle.vl_elab_spec.specs.Meanings.{Names, constants, is_undeclared, meaning_in}
use Rattle.vl_elab_scope.specs.Alike.{Alike}
use Rattle.vl_elab_spec.specs.Among.{AreAmong}
use Rattle.vl_elab_const.specs.Numbers.{HaveNumbers}

-- Names mean what is known of them, constants have their numbers, and what is known of them is right. A name is the
-- clock where the module calls it so and nothing within the module has it.
pub record Stands (names values : List Names) (clocks : List ℕ → Bool) (known : List Names) (ss : List Scope)
    : Type 0 where
  pub alike : Alike names known
  pub numbers : HaveNumbers values ss
  pub among : AreAmong (constants known) (constant_in ss)
  pub clock : (text : List ℕ)
      → is_clock_decl (declared_in ss text) ≡ (clocks text && is_undeclared (meaning_in values text))
