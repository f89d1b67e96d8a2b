-- What has to be constant and isn't: of an expression's refusals one says so.
use Rattle.std.specs.Prelude.{◌≡◌, refl, ℕ, List, [], ◌∷◌, ◌++◌, Bool, true, false, ◌||◌, not, nat_le, is_none}
use Rattle.std.specs.Prelude.{Option, Some, None, if◌then◌else◌}
use Rattle.std.proofs.Common.{ap, sym, ◌∙◌}
use Rattle.fv_text.specs.declared.pos.Pos.{Pos}
use Rattle.vl_tree.specs.declared.expr.Select.{Select}
use Rattle.vl_tree.specs.declared.expr.Select.TheVariants as s
use Rattle.vl_tree.specs.Expr.{
  Expr,
  Exprs,
  Selects,
  number,
  name,
  paren,
  unary,
  binary,
  conditional,
  concat,
  repeat,
  cast,
  none,
  more,
  whole,
  bit,
  part,
  indexed,
}
use Rattle.vl_tree.specs.ExprView.{with_select}
use Rattle.vl_size.specs.declared.decl.Decl.{Decl}
use Rattle.vl_size.specs.Size.{divides}
use Rattle.vl_mean.specs.Constants.{vector_of}
use Rattle.vl_mean.specs.Scopes.{is_clock_class}
use Rattle.vl_elab_spec.specs.declared.elab_fault.ElabFault.{ElabFault}
use Rattle.vl_elab_spec.specs.declared.elab_fault.ElabFault.TheVariants as f
use Rattle.vl_elab_spec.specs.Expressions.{refused_if, too_wide, name_width, wide_size, far, against, no_copies}
use Rattle.vl_elab_spec.specs.Expressions.{none_behind, vector_selects, memory_selects, object_selects, read_refusals}
use Rattle.vl_elab_spec.specs.Expressions.{is_constant_name, refusals, all_refusals, select_refusals}
use Rattle.vl_elab_spec.specs.Items.{varies_by}
use Rattle.vl_elab_spec.specs.Meanings.{Meaning, undeclared, constant, loop_variable, object, faulty, shapeless, later}
use Rattle.vl_elab_spec.specs.Meanings.{Names, meaning_in}
use Rattle.vl_elab_check_instance.specs.Parts.{name_varies, varies, any_varies, selects_vary, select_varies}

varies_append : (xs ys : List ElabFault) → varies_by (xs ++ ys) ≡ (varies_by xs || varies_by ys)
varies_append [] ys = refl
varies_append (f.NoModule text ∷ xs) ys = varies_append xs ys
varies_append (f.Twice text p ∷ xs) ys = varies_append xs ys
varies_append (f.Unknown text p ∷ xs) ys = varies_append xs ys
varies_append (f.Port text p ∷ xs) ys = varies_append xs ys
varies_append (f.Param text p ∷ xs) ys = varies_append xs ys
varies_append (f.Recursive modules ∷ xs) ys = varies_append xs ys
varies_append (f.Range p ∷ xs) ys = varies_append xs ys
varies_append (f.GenLoop p ∷ xs) ys = varies_append xs ys
varies_append (f.TooManyBits n ∷ xs) ys = varies_append xs ys
varies_append (f.Clock p ∷ xs) ys = varies_append xs ys
varies_append (f.NotConstant p ∷ xs) ys = refl
varies_append (f.ZeroDivisor p ∷ xs) ys = varies_append xs ys
varies_append (f.TooWide p n ∷ xs) ys = varies_append xs ys
varies_append (f.TooLarge p ∷ xs) ys = varies_append xs ys
varies_append (f.Kind text p ∷ xs) ys = varies_append xs ys

two : (xs ys : List ElabFault) (a b : Bool) → a ≡ varies_by xs → b ≡ varies_by ys
    → (a || b) ≡ varies_by (xs ++ ys)
two xs ys a b h k = (λ i. h i || k i) ∙ sym (varies_append xs ys)

or_false : (b : Bool) → (b || false) ≡ b
or_false true = refl
or_false false = refl

-- with refusals behind them that don't say so
with_clear : (xs ys : List ElabFault) (a : Bool) → a ≡ varies_by xs → varies_by ys ≡ false
    → a ≡ varies_by (xs ++ ys)
with_clear xs ys a h k = sym (or_false a) ∙ two xs ys a false h (sym k)

clear : (xs ys : List ElabFault) → varies_by xs ≡ false → varies_by ys ≡ false → varies_by (xs ++ ys) ≡ false
clear xs ys h k = sym (with_clear xs ys false (sym h) k)

clear_if : (b : Bool) (g : ElabFault) → varies_by (g ∷ []) ≡ false → varies_by (refused_if b g) ≡ false
clear_if true g h = h
clear_if false g h = refl

wide : (p : Pos) (w : Option ℕ) → varies_by (too_wide p w) ≡ false
wide p None = refl
wide p (Some n) = clear_if (not (nat_le n 128)) (f.TooWide p n) refl

module _ (ns : List Names) where
  behind : (ss : Selects) → varies_by (none_behind ns ss) ≡ false
  behind whole = refl
  behind (bit q i ss) = refl
  behind (part q l r ss) = refl
  behind (indexed q i n ss) = refl

  copies : (q : Pos) (n : Expr) → varies_by (no_copies ns q n) ≡ false
  copies q n = clear_if _ (f.Range q) refl

  vector : (may : Bool) (d : Decl) (ss : Selects) → varies_by (vector_selects ns may d ss) ≡ false
  vector may d whole = refl
  vector may d (bit q i ss) =
      clear (refused_if (not may) (f.Range q)) (none_behind ns ss) (clear_if (not may) (f.Range q) refl) (behind ss)
  vector may d (part q l r ss) =
      let own = refused_if (not may) (f.Range q) in
      let first = clear own (far ns q l) (clear_if (not may) (f.Range q) refl) (clear_if _ (f.Range q) refl) in
      let second = clear (own ++ far ns q l) (far ns q r) first (clear_if _ (f.Range q) refl) in
      let third = clear (own ++ far ns q l ++ far ns q r) (against ns d q l r) second (clear_if _ (f.Range q) refl) in
      clear (own ++ far ns q l ++ far ns q r ++ against ns d q l r) (none_behind ns ss) third (behind ss)
  vector may d (indexed q i n ss) =
      let own = refused_if (not may) (f.Range q) in
      clear (own ++ no_copies ns q n) (none_behind ns ss)
      (clear own (no_copies ns q n) (clear_if (not may) (f.Range q) refl) (copies q n)) (behind ss)

  memory : (p : Pos) (d : Decl) (ss : Selects) → varies_by (memory_selects ns p d ss) ≡ false
  memory p d whole = refl
  memory p d (bit q i ss) = vector true d ss
  memory p d (part q l r ss) = refl
  memory p d (indexed q i n ss) = refl

  selected : (p : Pos) (scalar : Bool) (d : Decl) (ss : Selects)
      → varies_by (object_selects ns p scalar d ss) ≡ false
  selected p scalar d ss = by (is_none d.words)
    where
      by : (b : Bool) → varies_by (if b then vector_selects ns (not scalar) d ss
          else memory_selects ns p d ss) ≡ false
      by true = vector (not scalar) d ss
      by false = memory p d ss

  demanded : (p : Pos) (clock fixed : Bool) (gs : List ElabFault) → varies_by gs ≡ false
      → fixed ≡ varies_by (refused_if clock (f.Clock p) ++ refused_if fixed (f.NotConstant p) ++ gs)
  demanded p true true gs h = refl
  demanded p true false gs h = sym h
  demanded p false true gs h = refl
  demanded p false false gs h = sym h

  read : (fixed : Bool) (p : Pos) (text : List ℕ) (m : Meaning) (ss : Selects)
      → name_varies fixed m ≡ varies_by (read_refusals ns fixed p text m ss)
  read fixed p text undeclared ss = refl
  read fixed p text loop_variable ss = refl
  read fixed p text faulty ss = refl
  read true p text shapeless ss = refl
  read false p text shapeless ss = refl
  read fixed p text later ss = refl
  read fixed p text (constant c selected) ss = sym (vector selected (vector_of text c) ss)
  read fixed p text (object d role scalar) ss =
      demanded p (is_clock_class d.class) fixed (object_selects ns p scalar d ss) (selected p scalar d ss)

  mutual
    pub same_varies : (fixed : Bool) (e : Expr) → varies ns fixed e ≡ varies_by (refusals ns fixed e)
    same_varies fixed (number p n) = refl
    same_varies fixed (name p text ss) =
        let m = meaning_in ns text in
        let inner = select_refusals ns (fixed || is_constant_name ns m) ss in
        let own = read_refusals ns fixed p text m ss in
        with_clear (inner ++ own) (too_wide p (name_width ns text m ss)) _
        (two inner own _ _ (same_selects (fixed || is_constant_name ns m) ss) (read fixed p text m ss))
        (wide p (name_width ns text m ss))
    same_varies fixed (paren p x) =
        with_clear (refusals ns fixed x) (too_wide p (wide_size ns x)) _ (same_varies fixed x) (wide p (wide_size ns x))
    same_varies fixed (unary p op x) =
        let w = wide_size ns (unary p op x) in
        with_clear (refusals ns fixed x) (too_wide p w) _ (same_varies fixed x) (wide p w)
    same_varies fixed (binary p op x y) =
        let xs = refusals ns (fixed || divides op) x in
        let ys = refusals ns (fixed || divides op) y in
        let w = wide_size ns (binary p op x y) in
        with_clear (xs ++ ys) (too_wide p w) _
        (two xs ys _ _ (same_varies (fixed || divides op) x) (same_varies (fixed || divides op) y)) (wide p w)
    same_varies fixed (conditional p c x y) =
        let cs = refusals ns fixed c in
        let xs = refusals ns fixed x in
        let ys = refusals ns fixed y in
        let w = wide_size ns (conditional p c x y) in
        with_clear (cs ++ xs ++ ys) (too_wide p w) _
        (two (cs ++ xs) ys _ _ (two cs xs _ _ (same_varies fixed c) (same_varies fixed x)) (same_varies fixed y))
        (wide p w)
    same_varies fixed (concat p es) =
        let w = wide_size ns (concat p es) in
        with_clear (all_refusals ns fixed es) (too_wide p w) _ (same_any fixed es) (wide p w)
    same_varies fixed (repeat p n es) =
        let nn = refusals ns true n in
        let xs = all_refusals ns fixed es in
        let w = wide_size ns (repeat p n es) in
        with_clear (nn ++ xs ++ no_copies ns p n) (too_wide p w) _
        (with_clear (nn ++ xs) (no_copies ns p n) _ (two nn xs _ _ (same_varies true n) (same_any fixed es))
        (copies p n)) (wide p w)
    same_varies fixed (cast p to x) =
        with_clear (refusals ns fixed x) (too_wide p (wide_size ns x)) _ (same_varies fixed x) (wide p (wide_size ns x))

    same_any : (fixed : Bool) (es : Exprs) → any_varies ns fixed es ≡ varies_by (all_refusals ns fixed es)
    same_any fixed none = refl
    same_any fixed (more e es) =
        two (refusals ns fixed e) (all_refusals ns fixed es) _ _ (same_varies fixed e) (same_any fixed es)

    pub same_selects : (fixed : Bool) (ss : Selects)
        → selects_vary ns fixed ss ≡ varies_by (select_refusals ns fixed ss)
    same_selects fixed whole = refl
    same_selects fixed (bit q i ss) =
        two (refusals ns fixed i) (select_refusals ns fixed ss) _ _ (same_varies fixed i) (same_selects fixed ss)
    same_selects fixed (part q l r ss) =
        let ls = refusals ns true l in
        let rs = refusals ns true r in
        two (ls ++ rs) (select_refusals ns fixed ss) _ _ (two ls rs _ _ (same_varies true l) (same_varies true r))
        (same_selects fixed ss)
    same_selects fixed (indexed q i n ss) =
        let is = refusals ns fixed i in
        let nn = refusals ns true n in
        two (is ++ nn) (select_refusals ns fixed ss) _ _ (two is nn _ _ (same_varies fixed i) (same_varies true n))
        (same_selects fixed ss)

  -- a name that some scope declares
  pub name_is : (fixed b either : Bool) (text : List ℕ) (ss : Selects) (m : Meaning) (inner own r : Bool)
      → m ≡ meaning_in ns text → b ≡ is_constant_name ns m → either ≡ (fixed || b)
      → inner ≡ selects_vary ns either ss → own ≡ name_varies fixed m → r ≡ (inner || own)
      → r ≡ (selects_vary ns (fixed || is_constant_name ns (meaning_in ns text)) ss
      || name_varies fixed (meaning_in ns text))
  name_is fixed b either text ss m inner own r e hb he hi ho hr =
      hr ∙ (λ i. hi i || ho i) ∙ ap (λ x. selects_vary ns x ss || name_varies fixed m) (he ∙ ap (λ x. fixed || x) hb)
      ∙ ap (λ m. selects_vary ns (fixed || is_constant_name ns m) ss || name_varies fixed m) e

  -- one select before the others
  pub select_next : (fixed : Bool) (x : Select) (ss : Selects)
      → selects_vary ns fixed (with_select x ss) ≡ (select_varies ns fixed x || selects_vary ns fixed ss)
  select_next fixed (s.Bit q i) ss = refl
  select_next fixed (s.Part q l r) ss = refl
  select_next fixed (s.Indexed q i n) ss = refl

pub ruleset next = (select_next)
