-- Between functions: Whether an expression is the clock by its plain name, over a test of the names that a module
-- calls so and the numbers of constants: what the functions that ask for it promise one another. That the clock is
-- joined by its name alone is a rule of this project.
use Rattle.std.specs.Prelude.{ℕ, List, [], ◌∷◌, Bool, false, ◌&&◌, ◌||◌, not, bytes_eq, Option, Some, None}
use Rattle.vl_tree.specs.declared.part.Connection.{Connection}
use Rattle.vl_tree.specs.Expr.{Expr, Selects, name, whole}
use Rattle.vl_elab_spec.specs.Meanings.{Names, is_undeclared, meaning_in}

-- a name by itself, which the module calls the clock and nothing within it has
abbrev pub is_clock_part : (List ℕ → Bool) → List Names → List ℕ → Selects → Bool
is_clock_part clocks values text whole = clocks text && is_undeclared (meaning_in values text)
is_clock_part clocks values text ss = false

-- such a name
abbrev pub is_clock_expr : (List ℕ → Bool) → List Names → Expr → Bool
is_clock_expr clocks values (name p text ss) = is_clock_part clocks values text ss
is_clock_expr clocks values e = false

-- what is joined, if anything is
abbrev pub is_clock : (List ℕ → Bool) → List Names → Option Expr → Bool
is_clock clocks values None = false
is_clock clocks values (Some e) = is_clock_expr clocks values e

-- ---- the ports that an instance joins to the clock; of two connections to a port the first counts

-- with a port more to which something is joined
abbrev pub with_name : (List ℕ → Bool) → List ℕ → List ℕ → Bool
with_name seen text other = bytes_eq other text || seen other

-- with a port more, if it is joined to the clock and to nothing before
abbrev pub with_clock : Bool → List ℕ → (List ℕ → Bool) → (List ℕ → Bool) → List ℕ → Bool
with_clock test text seen joined other = (bytes_eq other text && (not (seen text) && test)) || joined other

-- with those of these connections
abbrev pub joined_to : (Option Expr → Bool) → List Connection → (List ℕ → Bool) → (List ℕ → Bool) → List ℕ → Bool
joined_to test [] seen joined = joined
joined_to test (x ∷ xs) seen joined =
    joined_to test xs (with_name seen x.port) (with_clock (test x.value) x.port seen joined)
