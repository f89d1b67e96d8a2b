-- Meaning: Where an expression is refused, and why: all refusals that are there, inner ones first. An expression whose
-- names have no known value or shape yet isn't refused for its size. IEEE 1364-2005, sections 4.2, 5.1 and 5.4; the
-- limits, and that a division stands in constants alone, are rules of this project.
use Rattle.std.specs.Prelude.{
  ℕ,
  ◌+◌,
  max,
  List,
  [],
  ◌∷◌,
  ◌++◌,
  Bool,
  true,
  false,
  ◌&&◌,
  ◌||◌,
  not,
  is_none,
  nat_le,
}
use Rattle.std.specs.Prelude.{int_le, Option, Some, None, pos, if◌then◌else◌}
use Rattle.fv_text.specs.declared.pos.Pos.{Pos}
use Rattle.vl_tree.specs.Expr.{
  Expr,
  Exprs,
  Selects,
  number,
  name,
  paren,
  unary,
  binary,
  conditional,
  concat,
  repeat,
  cast,
  none,
  more,
  whole,
  bit,
  part,
  indexed,
}
use Rattle.vl_size.specs.declared.context.Context.{Context}
use Rattle.vl_size.specs.declared.decl.Decl.{Decl}
use Rattle.vl_size.specs.Divisors.{own_context, zero_divisor}
use Rattle.vl_size.specs.Size.{◌>>=◌, some_bits, unary_size, size_by, divides, is_bound, goes_along}
use Rattle.vl_size.specs.Table.{span}
use Rattle.vl_size.specs.Way.{way}
use Rattle.vl_mean.specs.ConstantFaults.{capped, wide_times}
use Rattle.vl_mean.specs.Constants.{settled, vector_of}
use Rattle.vl_mean.specs.Scopes.{is_clock_class}
use Rattle.vl_elab_spec.specs.declared.elab_fault.ElabFault.{ElabFault}
use Rattle.vl_elab_spec.specs.declared.elab_fault.ElabFault.TheVariants as f
use Rattle.vl_elab_spec.specs.Meanings.{Meaning, undeclared, constant, loop_variable, object, faulty, shapeless, later}
use Rattle.vl_elab_spec.specs.Meanings.{Names, meaning_in, constants, is_known, bound, objects}

-- one, where the test says so
abbrev pub refused_if : Bool → ElabFault → List ElabFault
refused_if true g = g ∷ []
refused_if false g = []

-- more than 128 bits
abbrev pub too_wide : Pos → Option ℕ → List ElabFault
too_wide p None = []
too_wide p (Some n) = refused_if (not (nat_le n 128)) (f.TooWide p n)

abbrev pub divided_by_zero : Option Pos → List ElabFault
divided_by_zero None = []
divided_by_zero (Some p) = f.ZeroDivisor p ∷ []

module _ (ns : List Names) where
  -- ---- sizes without a limit; None where a name isn't known, or something else is refused

  abbrev pub if_known : Expr → Option ℕ → Option ℕ
  if_known e n = if is_known ns e then n else None

  -- the part `[l:r]`, as the declared range goes
  abbrev pub part_width : Decl → Expr → Expr → Option ℕ
  part_width d l r =
      let left = bound ns l in let right = bound ns r in
      let fits = is_bound left && (is_bound right && goes_along d left right) in
      if_known l (if_known r (if fits then Some (span left right) else None))

  -- the part `[s +: n]`
  abbrev pub count_width : Expr → Option ℕ
  count_width n = if_known n (wide_times (bound ns n) 1)

  abbrev pub vector_width : Decl → Selects → Option ℕ
  vector_width d whole = Some d.width
  vector_width d (bit p i whole) = Some 1
  vector_width d (part p l r whole) = part_width d l r
  vector_width d (indexed p s n whole) = count_width n
  vector_width d ss = None

  abbrev pub word_width : Decl → Selects → Option ℕ
  word_width d (bit p i ss) = vector_width d ss
  word_width d ss = None

  abbrev pub name_width : List ℕ → Meaning → Selects → Option ℕ
  name_width text (constant c selected) ss = vector_width (vector_of text c) ss
  name_width text (object d role scalar) ss = if is_none d.words then vector_width d ss else word_width d ss
  name_width text m ss = None

  abbrev mutual
    pub wide_size : Expr → Option ℕ
    wide_size (number p n) = Some n.width
    wide_size (name p text ss) = name_width text (meaning_in ns text) ss
    wide_size (paren p x) = wide_size x
    wide_size (unary p op x) = wide_size x >>= λ m. Some (unary_size op m)
    wide_size (binary p op x y) = wide_size x >>= λ m. wide_size y >>= λ n. Some (size_by (way op) m n)
    wide_size (conditional p c x y) = wide_size x >>= λ m. wide_size y >>= λ n. Some (max m n)
    wide_size (concat p es) = some_bits (wide_sizes es)
    wide_size (repeat p n es) = some_bits (wide_sizes es) >>= λ m. if_known n (wide_times (bound ns n) m)
    wide_size (cast p to x) = wide_size x

    pub wide_sizes : Exprs → Option ℕ
    wide_sizes none = Some 0
    wide_sizes (more e es) = wide_size e >>= λ m. wide_sizes es >>= λ n. Some (capped (m + n))

  -- ---- selects

  -- a bound past 32 signed bits
  abbrev pub far : Pos → Expr → List ElabFault
  far q e = refused_if (is_known ns e && not (is_bound (bound ns e))) (f.Range q)

  abbrev pub against : Decl → Pos → Expr → Expr → List ElabFault
  against d q l r =
      refused_if (is_known ns l && (is_known ns r && not (goes_along d (bound ns l) (bound ns r)))) (f.Range q)

  -- a count below 1
  abbrev pub no_copies : Pos → Expr → List ElabFault
  no_copies q n = refused_if (is_known ns n && not (int_le (pos 1) (bound ns n))) (f.Range q)

  -- behind a bit or a part
  abbrev pub none_behind : Selects → List ElabFault
  none_behind whole = []
  none_behind (bit q i ss) = f.Range q ∷ []
  none_behind (part q l r ss) = f.Range q ∷ []
  none_behind (indexed q s n ss) = f.Range q ∷ []

  -- of a vector that may be selected from, or else of none
  abbrev pub vector_selects : Bool → Decl → Selects → List ElabFault
  vector_selects may d whole = []
  vector_selects may d (bit q i ss) = refused_if (not may) (f.Range q) ++ none_behind ss
  vector_selects may d (part q l r ss) =
      refused_if (not may) (f.Range q) ++ far q l ++ far q r ++ against d q l r ++ none_behind ss
  vector_selects may d (indexed q s n ss) = refused_if (not may) (f.Range q) ++ no_copies q n ++ none_behind ss

  -- of a memory: the first select is an index, and a word is read as a vector, also one of one bit
  abbrev pub memory_selects : Pos → Decl → Selects → List ElabFault
  memory_selects p d whole = f.Range p ∷ []
  memory_selects p d (bit q i ss) = vector_selects true d ss
  memory_selects p d (part q l r ss) = f.Range q ∷ []
  memory_selects p d (indexed q s n ss) = f.Range q ∷ []

  abbrev pub object_selects : Pos → Bool → Decl → Selects → List ElabFault
  object_selects p scalar d ss =
      if is_none d.words then vector_selects (not scalar) d ss else memory_selects p d ss

  -- ---- names; what has to be constant has no net and no variable in it

  abbrev pub read_refusals : Bool → Pos → List ℕ → Meaning → Selects → List ElabFault
  read_refusals fixed p text undeclared ss = f.Unknown text p ∷ []
  read_refusals fixed p text loop_variable ss = f.Unknown text p ∷ []
  read_refusals fixed p text faulty ss = []
  read_refusals fixed p text shapeless ss = refused_if fixed (f.NotConstant p)
  read_refusals fixed p text later ss = f.NotConstant p ∷ []
  read_refusals fixed p text (constant c selected) ss = vector_selects selected (vector_of text c) ss
  read_refusals fixed p text (object d role scalar) ss =
      refused_if (is_clock_class d.class) (f.Clock p) ++ refused_if fixed (f.NotConstant p)
      ++ object_selects p scalar d ss

  -- a constant is selected from by constants
  abbrev pub is_constant_name : Meaning → Bool
  is_constant_name (constant c selected) = true
  is_constant_name m = false

  abbrev mutual
    pub refusals : Bool → Expr → List ElabFault
    refusals fixed (number p n) = []
    refusals fixed (name p text ss) =
        let m = meaning_in ns text in select_refusals (fixed || is_constant_name m) ss
        ++ read_refusals fixed p text m ss ++ too_wide p (name_width text m ss)
    refusals fixed (paren p x) = refusals fixed x ++ too_wide p (wide_size x)
    refusals fixed (unary p op x) = refusals fixed x ++ too_wide p (wide_size (unary p op x))
    refusals fixed (binary p op x y) =
        refusals (fixed || divides op) x ++ refusals (fixed || divides op) y ++ too_wide p (wide_size (binary p op x y))
    refusals fixed (conditional p c x y) =
        refusals fixed c ++ refusals fixed x ++ refusals fixed y ++ too_wide p (wide_size (conditional p c x y))
    refusals fixed (concat p es) = all_refusals fixed es ++ too_wide p (wide_size (concat p es))
    refusals fixed (repeat p n es) =
        refusals true n ++ all_refusals fixed es ++ no_copies p n ++ too_wide p (wide_size (repeat p n es))
    refusals fixed (cast p to x) = refusals fixed x ++ too_wide p (wide_size x)

    pub all_refusals : Bool → Exprs → List ElabFault
    all_refusals fixed none = []
    all_refusals fixed (more e es) = refusals fixed e ++ all_refusals fixed es

    -- bounds and counts have to be constant
    pub select_refusals : Bool → Selects → List ElabFault
    select_refusals fixed whole = []
    select_refusals fixed (bit q i ss) = refusals fixed i ++ select_refusals fixed ss
    select_refusals fixed (part q l r ss) = refusals true l ++ refusals true r ++ select_refusals fixed ss
    select_refusals fixed (indexed q s n ss) = refusals fixed s ++ refusals true n ++ select_refusals fixed ss

  -- ---- whole expressions

  -- as it is read
  abbrev pub known : Expr → Expr
  known e = settled (constants ns) e

  -- with the size and the sign of its place
  abbrev pub expr_refusals : Bool → Context → Expr → List ElabFault
  expr_refusals fixed c e = refusals fixed e ++ divided_by_zero (zero_divisor (objects ns) c (known e))

  -- with its own
  abbrev pub own_refusals : Bool → Expr → List ElabFault
  own_refusals fixed e = expr_refusals fixed (own_context (objects ns) (known e)) e
