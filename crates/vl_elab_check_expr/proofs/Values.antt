-- Bounds and counts whose values are known, and those whose aren't.
use Rattle.std.specs.Prelude.{◌≡◌, refl, ℕ, ◌≤◌, List, [], ◌∷◌, ◌++◌, length, Bool, true}
use Rattle.std.specs.Prelude.{false, ◌&&◌, not, is_some}
use Rattle.std.specs.Prelude.{◌-◌, is_none, get_or, take, drop, Option, Some, None, IfSome, ℤ, pos}
use Rattle.std.specs.Prelude.{int_le, if◌then◌else◌}
use Rattle.std.proofs.Common.{ap, sym, ◌∙◌, arith}
use Rattle.fv_text.specs.declared.pos.Pos.{Pos}
use Rattle.fv_bits.specs.Bits.{as_int}
use Rattle.vl_tree.specs.declared.expr.Select.{Select}
use Rattle.vl_tree.specs.declared.expr.Select.TheVariants as s
use Rattle.vl_tree.specs.Expr.{Expr, Selects}
use Rattle.vl_tree.specs.ExprView.{selects, with_select}
use Rattle.vl_size.specs.declared.decl.Decl.{Decl}
use Rattle.vl_size.specs.declared.own.Own.{Own}
use Rattle.vl_size.specs.Size.{is_bound, goes_along}
use Rattle.vl_size.specs.Table.{span}
use Rattle.vl_mean.specs.ConstantFaults.{wide_times}
use Rattle.vl_elab_spec.specs.declared.elab_fault.ElabFault.{ElabFault}
use Rattle.vl_elab_spec.specs.declared.elab_fault.ElabFault.TheVariants as f
use Rattle.vl_elab_spec.specs.Expressions.{refused_if, if_known, far, against, no_copies, part_width, vector_width}
use Rattle.vl_elab_spec.specs.Expressions.{none_behind, vector_selects}
use Rattle.vl_elab_spec.specs.Meanings.{Names, bound, is_known}
use Rattle.vl_elab_spec.specs.Refused.{lowest}
use Rattle.vl_elab_check_expr.specs.Judged.{alone}

abbrev int_of : Own → ℤ
int_of own = as_int own.width own.signed own.number

module _ (ns : List Names) where
  -- what is found of an expression's value
  pub record IsValue (e : Expr) (v : Option Own) : Type 0 where
    pub known : is_some v ≡ is_known ns e
    pub value : IfSome v (λ own. int_of own ≡ bound ns e)

  unknown : (e : Expr) (v : Option Own) → IsValue e v → v ≡ None → is_known ns e ≡ false
  unknown e None h k = sym h.known
  unknown e (Some own) h k = cc

  known_is : (e : Expr) (v : Option Own) (own : Own) → IsValue e v → v ≡ Some own → is_known ns e ≡ true
  known_is e None own h k = cc
  known_is e (Some x) own h k = sym h.known

  index : (e : Expr) (v : Option Own) (own : Own) → IsValue e v → v ≡ Some own → int_of own ≡ bound ns e
  index e None own h k = cc
  index e (Some x) own h k = let same : x ≡ own = cc in ap int_of (sym same) ∙ h.value

  pub times_none : (e : Expr) (v : Option Own) (m : ℕ) → IsValue e v → v ≡ None
      → None ≡ if_known ns e (wide_times (bound ns e) m)
  times_none e v m h k = ap (λ b. if b then wide_times (bound ns e) m else None) (sym (unknown e v h k))

  pub times_some : (e : Expr) (v : Option Own) (own : Own) (m : ℕ) (r : Option ℕ) → IsValue e v → v ≡ Some own
      → r ≡ wide_times (int_of own) m → r ≡ if_known ns e (wide_times (bound ns e) m)
  times_some e v own m r h k made =
      made ∙ ap (λ i. wide_times i m) (index e v own h k)
      ∙ ap (λ b. if b then wide_times (bound ns e) m else None) (sym (known_is e v own h k))

  pub far_none : (e : Expr) (v : Option Own) (q : Pos) → IsValue e v → v ≡ None → None ≡ lowest (far ns q e)
  far_none e v q h k =
      ap (λ b. lowest (refused_if (b && not (is_bound (bound ns e))) (f.Range q))) (sym (unknown e v h k))

  not_there : (b : Bool) (i : ℤ) → is_none (if b then Some i else None) ≡ not b
  not_there true i = refl
  not_there false i = refl

  pub far_some : (e : Expr) (v : Option Own) (own : Own) (q : Pos) (o : Option ℤ) (t : Bool) (r : Option ElabFault)
      → IsValue e v → v ≡ Some own → o ≡ (if is_bound (int_of own) then Some (int_of own) else None)
      → t ≡ is_none o
      → r ≡ lowest (refused_if t (f.Range q)) → r ≡ lowest (far ns q e)
  far_some e v own q o t r h k bounded test made =
      made ∙ ap (λ t. lowest (refused_if t (f.Range q))) (test ∙ ap is_none bounded
      ∙ not_there (is_bound (int_of own)) (int_of own))
      ∙ (λ j. lowest (refused_if (sym (known_is e v own h k) j && not (is_bound (index e v own h k j))) (f.Range q)))

  pub copies_none : (e : Expr) (v : Option Own) (q : Pos) → IsValue e v → v ≡ None
      → None ≡ lowest (no_copies ns q e)
  copies_none e v q h k =
      ap (λ b. lowest (refused_if (b && not (int_le (pos 1) (bound ns e))) (f.Range q))) (sym (unknown e v h k))

  pub copies_some : (e : Expr) (v : Option Own) (own : Own) (q : Pos) (t : Bool) (r : Option ElabFault)
      → IsValue e v → v ≡ Some own → t ≡ int_le (pos 1) (int_of own)
      → r ≡ lowest (refused_if (not t) (f.Range q)) → r ≡ lowest (no_copies ns q e)
  copies_some e v own q t r h k test made =
      made ∙ ap (λ t. lowest (refused_if (not t) (f.Range q))) test
      ∙ (λ j. lowest (refused_if (sym (known_is e v own h k) j && not (int_le (pos 1) (index e v own h k j)))
      (f.Range q)))

  module _ (l r : Expr) (v w : Option Own) (hl : IsValue l v) (hr : IsValue r w) (d : Decl) (q : Pos) where
    and_false : (b : Bool) → (b && false) ≡ false
    and_false true = refl
    and_false false = refl

    pub against_left : v ≡ None → None ≡ lowest (against ns d q l r)
    against_left k =
        ap (λ b. lowest (refused_if (b && (is_known ns r && not (goes_along d (bound ns l) (bound ns r))))
        (f.Range q)))
        (sym (unknown l v hl k))

    pub against_right : w ≡ None → None ≡ lowest (against ns d q l r)
    against_right k =
        ap (λ b. lowest (refused_if b (f.Range q))) (sym (and_false (is_known ns l)))
        ∙ ap (λ b. lowest (refused_if (is_known ns l && (b && not (goes_along d (bound ns l) (bound ns r))))
        (f.Range q))) (sym (unknown r w hr k))

    pub against_both : (x y : Own) (t : Bool) (g : Option ElabFault) → v ≡ Some x → w ≡ Some y
        → t ≡ goes_along d (int_of x) (int_of y) → g ≡ lowest (refused_if (not t) (f.Range q))
        → g ≡ lowest (against ns d q l r)
    against_both x y t g k m test made =
        made ∙ ap (λ t. lowest (refused_if (not t) (f.Range q))) test
        ∙ (λ j. lowest (refused_if (sym (known_is l v x hl k) j && (sym (known_is r w y hr m) j
        && not (goes_along d (index l v x hl k j) (index r w y hr m j)))) (f.Range q)))

    abbrev spanned : ℤ → ℤ → Option ℕ
    spanned i j = if is_bound i && (is_bound j && goes_along d i j) then Some (span i j) else None

    pub part_left : v ≡ None → None ≡ part_width ns d l r
    part_left k =
        ap (λ b. if b then if_known ns r (spanned (bound ns l) (bound ns r)) else None) (sym (unknown l v hl k))

    none_if : (b : Bool) (o : Option ℕ) → None ≡ o → None ≡ (if b then o else None)
    none_if true o h = h
    none_if false o h = refl

    pub part_right : w ≡ None → None ≡ part_width ns d l r
    part_right k =
        none_if (is_known ns l) (if_known ns r (spanned (bound ns l) (bound ns r)))
        (ap (λ b. if b then spanned (bound ns l) (bound ns r) else None) (sym (unknown r w hr k)))

    pub part_both : (x y : Own) (n : Option ℕ) → v ≡ Some x → w ≡ Some y
        → n ≡ spanned (int_of x) (int_of y)
        → n ≡ part_width ns d l r
    part_both x y n k m made =
        made ∙ (λ j. if sym (known_is l v x hl k) j then (if sym (known_is r w y hr m) j
        then spanned (index l v x hl k j) (index r w y hr m j) else None) else None)

  -- a vector has one select at most
  pub two_selects : (d : Decl) (ss : List Select) → 2 ≤ length ss → vector_width ns d (selects ss) ≡ None
  two_selects d [] h = absurd (omega arith)
  two_selects d (a ∷ []) h = absurd (omega arith)
  two_selects d (s.Bit p i ∷ s.Bit q j ∷ ss) h = refl
  two_selects d (s.Bit p i ∷ s.Part q j k ∷ ss) h = refl
  two_selects d (s.Bit p i ∷ s.Indexed q j k ∷ ss) h = refl
  two_selects d (s.Part p i l ∷ s.Bit q j ∷ ss) h = refl
  two_selects d (s.Part p i l ∷ s.Part q j k ∷ ss) h = refl
  two_selects d (s.Part p i l ∷ s.Indexed q j k ∷ ss) h = refl
  two_selects d (s.Indexed p i l ∷ s.Bit q j ∷ ss) h = refl
  two_selects d (s.Indexed p i l ∷ s.Part q j k ∷ ss) h = refl
  two_selects d (s.Indexed p i l ∷ s.Indexed q j k ∷ ss) h = refl

  -- the selects behind the first one
  pub vector_selects_next : (may : Bool) (d : Decl) (x : Select) (ss : Selects)
      → vector_selects ns may d (with_select x ss) ≡ alone ns may d x ++ none_behind ns ss
  vector_selects_next may d (s.Bit q i) ss = refl
  vector_selects_next may d (s.Part q l r) ss = refl
  vector_selects_next may d (s.Indexed q i n) ss = refl

pub ruleset bounds = (times_none, times_some)

pub ruleset selected = (two_selects)

taken : (ys : List Select) → take (length ys) ys ≡ ys
taken [] = refl
taken (y ∷ ys) = ap (λ l. y ∷ l) (taken ys)

rest_of : (y : Select) (ys : List Select) → take (length (y ∷ ys) - 1) ys ≡ ys
rest_of y ys = let n : length (y ∷ ys) - 1 ≡ length ys = omega arith in ap (λ n. take n ys) n ∙ taken ys

pub next_selects : (ns : List Names) (may : Bool) (d : Decl) (all : List Select) (x : Select) → 1 ≤ length all
    → x ≡ get_or all 0 x
    → vector_selects ns may d (selects all)
    ≡ alone ns may d x ++ none_behind ns (selects (take (length all - 1) (drop 1 all)))
next_selects ns may d [] x h e = absurd (omega arith)
next_selects ns may d (y ∷ ys) x h e =
    vector_selects_next ns may d y (selects ys)
    ∙ (λ i. alone ns may d (sym e i) ++ none_behind ns (selects (sym (rest_of y ys) i)))
