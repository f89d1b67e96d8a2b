-- Between functions: Which refusal of an expression is answered, part by part: what the functions that go through it
-- promise one another. Rule of this project.
use Rattle.std.specs.Prelude.{ℕ, List, ◌++◌, Bool, true, ◌||◌, not, Option, None}
use Rattle.vl_tree.specs.declared.expr.Select.{Select}
use Rattle.vl_tree.specs.declared.expr.Select.TheVariants as s
use Rattle.vl_tree.specs.Expr.{
  Expr,
  Exprs,
  Selects,
  number,
  name,
  paren,
  unary,
  binary,
  conditional,
  concat,
  repeat,
  cast,
  none,
  more,
  whole,
  bit,
  part,
  indexed,
}
use Rattle.vl_size.specs.declared.decl.Decl.{Decl}
use Rattle.vl_size.specs.Size.{◌>>=◌, divides}
use Rattle.vl_elab_spec.specs.declared.elab_fault.ElabFault.{ElabFault}
use Rattle.vl_elab_spec.specs.declared.elab_fault.ElabFault.TheVariants as f
use Rattle.vl_mean.specs.ConstantFaults.{wide_times}
use Rattle.vl_elab_spec.specs.Expressions.{refused_if, too_wide, name_width, wide_size, far, against, no_copies}
use Rattle.vl_elab_spec.specs.Expressions.{if_known, read_refusals, is_constant_name}
use Rattle.vl_elab_spec.specs.Meanings.{Names, bound, meaning_in}
use Rattle.vl_elab_spec.specs.Refused.{lower_of, lowest}

-- of sizes that are there
abbrev pub of_one : (ℕ → Option ℕ) → Option ℕ → Option ℕ
of_one f m = m >>= f

abbrev pub of_two : (ℕ → ℕ → Option ℕ) → Option ℕ → Option ℕ → Option ℕ
of_two f m n = m >>= λ j. n >>= λ k. f j k

module _ (ns : List Names) where
  abbrev mutual
    pub fault : Bool → Expr → Option ElabFault
    fault fixed (number p n) = None
    fault fixed (name p text ss) =
        lower_of (lower_of (selects_fault (fixed || is_constant_name ns (meaning_in ns text)) ss)
        (lowest (read_refusals ns fixed p text (meaning_in ns text) ss)))
        (lowest (too_wide p (name_width ns text (meaning_in ns text) ss)))
    fault fixed (paren p x) = lower_of (fault fixed x) (lowest (too_wide p (wide_size ns x)))
    fault fixed (unary p op x) = lower_of (fault fixed x) (lowest (too_wide p (wide_size ns (unary p op x))))
    fault fixed (binary p op x y) =
        lower_of (lower_of (fault (fixed || divides op) x) (fault (fixed || divides op) y))
        (lowest (too_wide p (wide_size ns (binary p op x y))))
    fault fixed (conditional p c x y) =
        lower_of (lower_of (lower_of (fault fixed c) (fault fixed x)) (fault fixed y))
        (lowest (too_wide p (wide_size ns (conditional p c x y))))
    fault fixed (concat p es) = lower_of (faults fixed es) (lowest (too_wide p (wide_size ns (concat p es))))
    fault fixed (repeat p n es) =
        lower_of (lower_of (lower_of (fault true n) (faults fixed es)) (lowest (no_copies ns p n)))
        (lowest (too_wide p (wide_size ns (repeat p n es))))
    fault fixed (cast p to x) = lower_of (fault fixed x) (lowest (too_wide p (wide_size ns x)))

    pub faults : Bool → Exprs → Option ElabFault
    faults fixed none = None
    faults fixed (more e es) = lower_of (fault fixed e) (faults fixed es)

    pub selects_fault : Bool → Selects → Option ElabFault
    selects_fault fixed whole = None
    selects_fault fixed (bit q i ss) = lower_of (fault fixed i) (selects_fault fixed ss)
    selects_fault fixed (part q l r ss) = lower_of (lower_of (fault true l) (fault true r)) (selects_fault fixed ss)
    selects_fault fixed (indexed q i n ss) = lower_of (lower_of (fault fixed i) (fault true n)) (selects_fault fixed ss)

  -- so many copies of a size
  abbrev pub copied : Expr → Option ℕ → Option ℕ
  copied e n = of_one (λ m. if_known ns e (wide_times (bound ns e) m)) n

  -- of one select
  abbrev pub select_fault : Bool → Select → Option ElabFault
  select_fault fixed (s.Bit q i) = fault fixed i.value
  select_fault fixed (s.Part q l r) = lower_of (fault true l.value) (fault true r.value)
  select_fault fixed (s.Indexed q i n) = lower_of (fault fixed i.value) (fault true n.value)

  -- of a vector's select, but for those behind it
  abbrev pub alone : Bool → Decl → Select → List ElabFault
  alone may d (s.Bit q i) = refused_if (not may) (f.Range q)
  alone may d (s.Part q l r) =
      refused_if (not may) (f.Range q) ++ far ns q l.value ++ far ns q r.value ++ against ns d q l.value r.value
  alone may d (s.Indexed q i n) = refused_if (not may) (f.Range q) ++ no_copies ns q n.value
