-- Between functions: Targets with values at first. IEEE 1364-2005, sections 4.2.1, 5.4, 6.2.1 and 9.9.1; that both are
-- constant, and that a target has at most 128 bits, are rules of this project.
use Rattle.std.specs.Prelude.{◌≡◌, ℕ, ◌+◌, [], List, IsSome, true, Option, Some, None, is_none, if◌then◌else◌}
use Rattle.fv_bits.specs.Bits.{as_int}
use Rattle.vl_tree.specs.Expr.{Expr, Selects}
use Rattle.vl_tree.specs.Lval.{Lval, Lvals, named, joined, no_lvals, more_lvals}
use Rattle.vl_size.specs.declared.decl.Decl.{Decl}
use Rattle.vl_size.specs.declared.own.Own.{Own}
use Rattle.vl_size.specs.Size.{◌>>=◌, index_of, is_constant, no_names, operand_of, size, vector_size, within, word_size}
use Rattle.vl_mean.specs.Constants.{settled}
use Rattle.vl_mean.specs.Scopes.{Scope, constant_in, declared_in}
use Rattle.vl_mean_flat.specs.FullNames.{flat_selects}

-- ---- constants

-- its size by itself, and the index that it is
pub record IsIndex (e : Expr) (x : Own) : Type 0 where
  pub sized : size [] e ≡ Some x.width
  pub index : index_of (operand_of [] no_names e) ≡ as_int x.width x.signed x.number

-- None where it has no size
abbrev pub IsOwn : Expr → Option Own → Type 0
IsOwn e None = size [] e ≡ None
IsOwn e (Some x) = IsIndex e x

-- ---- targets

-- how many bits selects by constants leave of a name; None where an index isn't constant, or isn't valid
abbrev pub selected_bits : Decl → Selects → Option ℕ
selected_bits d xs = if is_none d.words then vector_size [] d xs else word_size [] d xs

-- at most 128
abbrev pub few_bits : Option ℕ → Option ℕ
few_bits o = o >>= within

-- of both together
abbrev pub sum : Option ℕ → Option ℕ → Option ℕ
sum o p = o >>= λ m. p >>= λ n. within (m + n)

module _ (ss : List Scope) where
  abbrev pub named_bits : List ℕ → Selects → Option ℕ
  named_bits text xs = declared_in ss text >>= λ d. few_bits (selected_bits d (flat_selects ss xs))

  -- how many bits a target has
  abbrev mutual
    pub target_bits : Lval → Option ℕ
    target_bits (named p text xs) = named_bits text xs
    target_bits (joined p ls) = targets_bits ls

    pub targets_bits : Lvals → Option ℕ
    targets_bits no_lvals = Some 0
    targets_bits (more_lvals l ls) = sum (target_bits l) (targets_bits ls)

-- the target's indices are constant, and so is its value
pub record IsStart (ss : List Scope) (l : Lval) (e : Expr) : Type 0 where
  pub sized : IsSome (target_bits ss l)
  pub fixed : is_constant (settled (constant_in ss) e) ≡ true
