-- Between functions: The sizes and the signs of names and of operations, from what the names mean and from those of
-- the operands, which have them by themselves. IEEE 1364-2005, sections 5.4 and 5.5.1.
use Rattle.std.specs.Prelude.{ℕ, max, false, ◌&&◌, Option, Some, None, is_none, if◌then◌else◌}
use Rattle.vl_tree.specs.declared.operator.BinaryOperator.{BinaryOperator}
use Rattle.vl_tree.specs.declared.operator.Cast.{Cast}
use Rattle.vl_tree.specs.declared.operator.UnaryOperator.{UnaryOperator}
use Rattle.vl_size.specs.declared.context.Context.{Context}
use Rattle.vl_size.specs.declared.decl.Decl.{Decl}
use Rattle.vl_size.specs.Sign.{cast_sign, sign_by}
use Rattle.vl_size.specs.Size.{◌>>=◌, size_by, unary_size}
use Rattle.vl_size.specs.Way.{keeps_size, way}
use Rattle.vl_elab_spec.specs.Meanings.{Meaning, constant, object}

abbrev pub no_context : Context
no_context = record { size = None; signed = false }

-- a memory as a whole has no size
abbrev pub object_context : Decl → Context
object_context d = if is_none d.words then record { size = Some d.width; signed = d.signed } else no_context

-- a name without selects
abbrev pub meant_context : Meaning → Context
meant_context (constant c selected) = record { size = Some c.width; signed = c.signed }
meant_context (object d role scalar) = object_context d
meant_context m = no_context

abbrev pub unary_bits : UnaryOperator → Option ℕ → Option ℕ
unary_bits op m = m >>= λ j. Some (unary_size op j)

abbrev pub unary_context : UnaryOperator → Context → Context
unary_context op c = record { size = unary_bits op c.size; signed = keeps_size op && c.signed }

-- of no division
abbrev pub binary_bits : BinaryOperator → Option ℕ → Option ℕ → Option ℕ
binary_bits op m n = m >>= λ j. n >>= λ k. Some (size_by (way op) j k)

abbrev pub binary_context : BinaryOperator → Context → Context → Context
binary_context op l r =
    record { size = binary_bits op l.size r.size; signed = sign_by (way op) l.signed r.signed }

abbrev pub choice_bits : Option ℕ → Option ℕ → Option ℕ → Option ℕ
choice_bits c m n = c >>= λ i. m >>= λ j. n >>= λ k. Some (max j k)

abbrev pub choice_context : Context → Context → Context → Context
choice_context c x y = record { size = choice_bits c.size x.size y.size; signed = x.signed && y.signed }

abbrev pub cast_context : Cast → Context → Context
cast_context to c = record { size = c.size; signed = cast_sign to }
