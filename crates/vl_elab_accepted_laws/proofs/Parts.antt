-- What the parts of an expression are, where they have sizes.
use Rattle.std.specs.Prelude.{◌≡◌, refl, ℕ, ◌≤◌, max, List, [], ◌∷◌, ◌++◌}
use Rattle.std.specs.Prelude.{Bool, true, false, ◌&&◌, ◌||◌, not, Option, Some, None, is_some, is_none}
use Rattle.std.specs.Prelude.{pos, int_le, if◌then◌else◌}
use Rattle.std.proofs.Common.{ap, sym, ◌∙◌, true≢false, subst, arith}
use Rattle.std.proofs.lemmas.Slice.Eq.{bytes_eq-Decides}
use Rattle.fv_text.specs.declared.pos.Pos.{Pos}
use Rattle.vl_tree.specs.declared.operator.BinaryOperator.{BinaryOperator}
use Rattle.vl_tree.specs.declared.operator.UnaryOperator.{UnaryOperator}
use Rattle.vl_tree.specs.Expr.{Expr, Exprs, Selects, number, name, unary, binary, conditional, concat, repeat}
use Rattle.vl_tree.specs.Expr.{whole, bit, part, indexed}
use Rattle.vl_tree.specs.ExprWellFormed.{IsSome}
use Rattle.vl_size.specs.declared.context.Context.{Context}
use Rattle.vl_size.specs.declared.decl.Decl.{Decl}
use Rattle.vl_size.specs.declared.way.Way.TheVariants as ways
use Rattle.vl_size.specs.Divisors.{if_none, own_zero_divisor, valid_size, zero_divisor}
use Rattle.vl_size.specs.Divisors.{selects_zero_divisor}
use Rattle.vl_size.specs.Sign.{sign}
use Rattle.vl_size.specs.Size.{◌>>=◌, within, only_if, some_bits, is_constant, are_constant, no_names, size_by}
use Rattle.vl_size.specs.Size.{unary_size, divides, operation_size, is_bound, goes_along, part_size, times, operand}
use Rattle.vl_size.specs.Size.{index_of, size, sizes, value, vector_size, word_size, cells_in}
use Rattle.vl_size.specs.Table.{span}
use Rattle.vl_size.specs.Way.{way}
use Rattle.vl_size.proofs.Rest.{within_near, within_some}
use Rattle.vl_mean.specs.declared.const_number.Const.{Const}
use Rattle.vl_mean.specs.ConstantFaults.{capped, wide_times}
use Rattle.vl_mean.specs.Constants.{settled_exprs, settled_selects, named_constant, number_or, number_of}
use Rattle.vl_mean.specs.Constants.{cut_to, vector_of, values_at, selected_constant}
use Rattle.vl_mean.specs.Scopes.{is_clock_class}
use Rattle.vl_mean_flat.specs.Names.{Names as EachName, AllNames, SelectsNames}
use Rattle.vl_elab_spec.specs.declared.elab_fault.ElabFault.{ElabFault}
use Rattle.vl_elab_spec.specs.declared.elab_fault.ElabFault.TheVariants as f
use Rattle.vl_elab_spec.specs.Expressions.{refused_if, too_wide, part_width}
use Rattle.vl_elab_spec.specs.Expressions.{vector_width, word_width, name_width, wide_size, wide_sizes, far, against}
use Rattle.vl_elab_spec.specs.Expressions.{no_copies, none_behind, vector_selects, memory_selects, object_selects}
use Rattle.vl_elab_spec.specs.Expressions.{read_refusals, is_constant_name, select_refusals}
use Rattle.vl_elab_spec.specs.Expressions.{known}
use Rattle.vl_elab_spec.specs.Meanings.{Meaning, undeclared, constant, loop_variable, object, faulty, shapeless, later}
use Rattle.vl_elab_spec.specs.Meanings.{Names, meaning_in, value_of, constants, is_known, bound, objects}
use Rattle.vl_elab_accepted_laws.proofs.Fresh.{NoneOf, none-front, none-back, not-refused, some-fault}
use Rattle.vl_elab_scope.specs.Seen.{AllNamed, object_of}
use Rattle.vl_elab_scope.specs.Texts.{selects_texts}
use Rattle.vl_elab_scope.proofs.Agree.{same_selects_divisor}
use Rattle.vl_elab_scope.proofs.ScopeObjects.{object_is}
use Rattle.vl_elab_accepted_laws.specs.Sized.{IsSound, AreSound, IsSure, AreSure, IsRead, IsSized}
use Rattle.vl_elab_accepted_laws.proofs.Fixed.{and_first, and_second, agree_on_none, fixed_size, fixed_divisor}
use Rattle.vl_elab_accepted_laws.proofs.Fixed.{fixed_index}
use Rattle.vl_elab_accepted_laws.proofs.Fixed.{fixed_vector}
use Rattle.vl_elab_accepted_laws.proofs.Tests.{passed, passed_both, narrow, or_true, or_left, both_none, bind_some}
use Rattle.vl_elab_accepted_laws.proofs.Tests.{if_some}
use Rattle.vl_elab_accepted_laws.proofs.Tests.{some_same, some_is, few_uncapped, uncapped, copied}
use Rattle.vl_elab_accepted_laws.proofs.Tests.{unary_least, by_range, operated}

module _ (ns : List Names) where
  abbrev pub ds : List Decl
  ds = objects ns

  abbrev pub of : Expr → Expr
  of e = known ns e

  abbrev pub of_exprs : Exprs → Exprs
  of_exprs es = settled_exprs (constants ns) es

  abbrev pub of_selects : Selects → Selects
  of_selects ss = settled_selects (constants ns) ss

  abbrev pub Read : List ℕ → Type 0
  Read text = IsRead (meaning_in ns text)

  -- ---- a constant with a size, over any declarations

  module _ (es : List Decl) (e : Expr) (k : ℕ) (c : is_constant (of e) ≡ true) (z : size es (of e) ≡ Some k) where
    pub known_true : own_zero_divisor es (of e) ≡ None → is_known ns e ≡ true
    known_true d =
        λ i. is_some (if_none ((fixed_divisor [] es (of e) c ∙ d) i) ((fixed_size [] es (of e) c ∙ z) i))

    bound_is : index_of (operand (Some k) (sign es (of e)) (λ w s. value es no_names w s (of e))) ≡ bound ns e
    bound_is =
        ap (λ o. index_of (operand o (sign es (of e)) (λ w s. value es no_names w s (of e)))) (sym z)
        ∙ fixed_index es [] (of e) c

  -- a part, and a count of bits
  module _ (es : List Decl) (d : Decl) (q : Pos) (l r : Expr) (j k : ℕ) (cl : is_constant (of l) ≡ true)
      (cr : is_constant (of r) ≡ true) (zl : size es (of l) ≡ Some j) (zr : size es (of r) ≡ Some k) where
    pub part_at : (is_bound (bound ns l) && (is_bound (bound ns r) && goes_along d (bound ns l) (bound ns r))) ≡ true
        → vector_size es d (part q (of l) (of r) whole) ≡ within (span (bound ns l) (bound ns r))
    part_at fits =
        (λ i. zl i >>= λ j. zr i >>= λ k. if cl i && cr i
        then part_size d (index_of (operand (Some j) (sign es (of l)) (λ w s. value es no_names w s (of l))))
        (index_of (operand (Some k) (sign es (of r)) (λ w s. value es no_names w s (of r))))
        else None)
        ∙ (λ i. part_size d (bound_is es l j cl zl i) (bound_is es r k cr zr i))
        ∙ ap (λ t. only_if t (span (bound ns l) (bound ns r))) fits

  pub fits_along : (d : Decl) (q : Pos) (l r : Expr) → is_known ns l ≡ true → is_known ns r ≡ true
      → NoneOf (far ns q l) → NoneOf (far ns q r) → NoneOf (against ns d q l r)
      → (is_bound (bound ns l) && (is_bound (bound ns r) && goes_along d (bound ns l) (bound ns r))) ≡ true
  fits_along d q l r kl kr fl fr a =
      λ i. passed (is_known ns l) (is_bound (bound ns l)) _ kl fl i
      && (passed (is_known ns r) (is_bound (bound ns r)) _ kr fr i
      && passed_both (is_known ns l) (is_known ns r) (goes_along d (bound ns l) (bound ns r)) _ kl kr a i)

  pub part_wide : (d : Decl) (l r : Expr) → is_known ns l ≡ true → is_known ns r ≡ true
      → (is_bound (bound ns l) && (is_bound (bound ns r) && goes_along d (bound ns l) (bound ns r))) ≡ true
      → part_width ns d l r ≡ Some (span (bound ns l) (bound ns r))
  part_wide d l r kl kr fits =
      λ i. if kl i then (if kr i then (if fits i then Some (span (bound ns l) (bound ns r)) else None) else None)
      else None

  pub count_at : (es : List Decl) (d : Decl) (q : Pos) (s n : Expr) (j k : ℕ) → is_constant (of n) ≡ true
      → size es (of s) ≡ Some j → size es (of n) ≡ Some k
      → vector_size es d (indexed q (of s) (of n) whole) ≡ times (bound ns n) 1
  count_at es d q s n j k c zs zn =
      (λ i. zs i >>= λ j. zn i >>= λ k. if c i
      then times (index_of (operand (Some k) (sign es (of n)) (λ w t. value es no_names w t (of n)))) 1 else None)
      ∙ ap (λ i. times i 1) (bound_is es n k c zn)

  -- ---- what selects are found to be

  pub record AreSelected (fixed : Bool) (ss : Selects) (o w : Option ℕ) : Type 0 where
    pub bits : ℕ
    pub sized : o ≡ Some bits
    pub wide : w ≡ Some bits
    pub some : 1 ≤ bits
    pub few : bits ≤ 128
    pub alone : fixed ≡ true → selects_texts (of_selects ss) ≡ []
    pub names : SelectsNames Read (of_selects ss)

  pub record AreSized (fixed : Bool) (es : Exprs) : Type 0 where
    pub bits : ℕ
    pub sized : sizes ds (of_exprs es) ≡ within bits
    pub wide : wide_sizes ns es ≡ Some (capped bits)
    pub some : IsSome es → 1 ≤ bits
    pub constant_all : fixed ≡ true → are_constant (of_exprs es) ≡ true
    pub names : AllNames Read (of_exprs es)

  pub record IsNamed (fixed : Bool) (p : Pos) (text : List ℕ) (ss : Selects) (m : Meaning) : Type 0 where
    pub bits : ℕ
    pub sized : size ds (named_constant p text (of_selects ss) (value_of m)) ≡ Some bits
    pub wide : name_width ns text m ss ≡ Some bits
    pub some : 1 ≤ bits
    pub few : bits ≤ 128
    pub constant_name : fixed ≡ true → is_constant (named_constant p text (of_selects ss) (value_of m)) ≡ true
    pub names : EachName Read (named_constant p text (of_selects ss) (value_of m))

  -- of a select of a constant, over a table of its name alone
  alone_sized : (p : Pos) (text : List ℕ) (c : Const) (xs : Selects)
      → size (vector_of text c ∷ []) (name p text xs)
      ≡ vector_size (vector_of text c ∷ []) (vector_of text c) xs
  alone_sized p text c xs =
      ap (λ t. (if t then Some (vector_of text c) else None) >>= λ d. if is_none d.words
      then vector_size (vector_of text c ∷ []) d xs else word_size (vector_of text c ∷ []) d xs)
      ((bytes_eq-Decides text text).1 refl)

  -- what has a size there has that without a limit
  record IsWide (d : Decl) (ss : Selects) (n : ℕ) : Type 0 where
    wide : vector_width ns d ss ≡ Some n
    some : 1 ≤ n
    few : n ≤ 128

  module _ (es : List Decl) (d : Decl) (may : Bool) (n : ℕ) where
    part_sized : (q : Pos) (l r : Expr) → NoneOf (vector_selects ns may d (part q l r whole))
        → own_zero_divisor es (of l) ≡ None → own_zero_divisor es (of r) ≡ None
        → vector_size es d (part q (of l) (of r) whole) ≡ Some n → IsWide d (part q l r whole) n
    part_sized q l r h dl dr z =
        let left = bind_some (size es (of l)) _ n z in
        let right = bind_some (size es (of r)) _ n left.next in
        let both = if_some (is_constant (of l) && is_constant (of r)) _ n right.next in
        let cl = and_first (is_constant (of l)) (is_constant (of r)) both.0 in
        let cr = and_second (is_constant (of l)) (is_constant (of r)) both.0 in
        let kl = known_true es l left.at cl left.first dl in
        let kr = known_true es r right.at cr right.first dr in
        let ranges = none-front _ (none_behind ns whole) h in
        let fits = fits_along d q l r kl kr
        (none-back (refused_if (not may) (f.Range q)) (far ns q l)
        (none-front (refused_if (not may) (f.Range q) ++ far ns q l) (far ns q r)
        (none-front (refused_if (not may) (f.Range q) ++ far ns q l ++ far ns q r) (against ns d q l r) ranges)))
        (none-back (refused_if (not may) (f.Range q) ++ far ns q l) (far ns q r)
        (none-front (refused_if (not may) (f.Range q) ++ far ns q l ++ far ns q r) (against ns d q l r) ranges))
        (none-back (refused_if (not may) (f.Range q) ++ far ns q l ++ far ns q r) (against ns d q l r) ranges) in
        let is = within_some (span (bound ns l) (bound ns r)) n
        (sym (part_at es d q l r left.at right.at cl cr left.first right.first fits) ∙ z) in
        record {
          wide = part_wide d l r kl kr fits ∙ ap Some (sym is.1);
          some = omega (arith, is.1);
          few = omega (arith, is.0, is.1);
        }

    count_sized : (q : Pos) (s m : Expr) → NoneOf (vector_selects ns may d (indexed q s m whole))
        → own_zero_divisor es (of m) ≡ None
        → vector_size es d (indexed q (of s) (of m) whole) ≡ Some n → IsWide d (indexed q s m whole) n
    count_sized q s m h dm z =
        let start = bind_some (size es (of s)) _ n z in
        let count = bind_some (size es (of m)) _ n start.next in
        let fixed = if_some (is_constant (of m)) _ n count.next in
        let km = known_true es m count.at fixed.0 count.first dm in
        let copies = copied (bound ns m) 1
        (passed (is_known ns m) (int_le (pos 1) (bound ns m)) (f.Range q) km
        (none-back (refused_if (not may) (f.Range q)) (no_copies ns q m)
        (none-front _ (none_behind ns whole) h))) (omega arith) in
        let is = within_some copies.bits n (sym copies.size_is
        ∙ sym (count_at es d q s m start.at count.at fixed.0 start.first count.first) ∙ z) in
        record {
          wide = ap (λ t. if t then wide_times (bound ns m) 1 else None) km ∙ copies.wide_is
              ∙ ap Some (omega (arith, is.0, is.1));
          some = omega (arith, copies.some, is.1);
          few = omega (arith, is.0, is.1);
        }

  -- ---- a name of a constant

  no_divisor : (p : Pos) (text : List ℕ) (c : Const) (xs : Selects) (n : ℕ)
      → valid_size (vector_of text c ∷ []) (name p text xs) ≡ Some n
      → (selects_zero_divisor (vector_of text c ∷ []) xs ≡ None)
      × (vector_size (vector_of text c ∷ []) (vector_of text c) xs ≡ Some n)
  no_divisor p text c xs n h = by (selects_zero_divisor (vector_of text c ∷ []) xs) refl h
    where
      by : (o : Option Pos) → selects_zero_divisor (vector_of text c ∷ []) xs ≡ o
          → if_none o (size (vector_of text c ∷ []) (name p text xs)) ≡ Some n
          → (selects_zero_divisor (vector_of text c ∷ []) xs ≡ None)
          × (vector_size (vector_of text c ∷ []) (vector_of text c) xs ≡ Some n)
      by None e h = (e, sym (alone_sized p text c xs) ∙ h)
      by (Some q) e h = cc

  -- its number, where it has one
  alone_wide : (p : Pos) (text : List ℕ) (c : Const) (may : Bool) (ss : Selects) (n : ℕ)
      → NoneOf (vector_selects ns may (vector_of text c) ss)
      → selects_zero_divisor (vector_of text c ∷ []) (of_selects ss) ≡ None
      → vector_size (vector_of text c ∷ []) (vector_of text c) (of_selects ss) ≡ Some n
      → IsWide (vector_of text c) ss n
  alone_wide p text c may whole n h d z =
      let same = some_same c.width n z in
      record { wide = z; some = omega (arith, same, c.some_bits); few = omega (arith, same, c.few_bits) }
  alone_wide p text c may (bit q i whole) n h d z =
      let start = bind_some (size (vector_of text c ∷ []) (of i)) _ n z in
      let same = some_same 1 n start.next in
      record { wide = start.next; some = omega (arith, same); few = omega (arith, same) }
  alone_wide p text c may (part q l r whole) n h d z =
      let inner = both_none _ _ (both_none _ (selects_zero_divisor (vector_of text c ∷ []) whole) d).0 in
      part_sized (vector_of text c ∷ []) (vector_of text c) may n q l r h inner.0 inner.1 z
  alone_wide p text c may (indexed q s m whole) n h d z =
      let inner = both_none _ _ (both_none _ (selects_zero_divisor (vector_of text c ∷ []) whole) d).0 in
      count_sized (vector_of text c ∷ []) (vector_of text c) may n q s m h inner.1 z
  alone_wide p text c may (bit q i (bit r j ss)) n h d z = cc
  alone_wide p text c may (bit q i (part r j k ss)) n h d z = cc
  alone_wide p text c may (bit q i (indexed r j k ss)) n h d z = cc
  alone_wide p text c may (part q i l (bit r j ss)) n h d z = cc
  alone_wide p text c may (part q i l (part r j k ss)) n h d z = cc
  alone_wide p text c may (part q i l (indexed r j k ss)) n h d z = cc
  alone_wide p text c may (indexed q i l (bit r j ss)) n h d z = cc
  alone_wide p text c may (indexed q i l (part r j k ss)) n h d z = cc
  alone_wide p text c may (indexed q i l (indexed r j k ss)) n h d z = cc

  -- ---- lists of parts

  some_within : (n : ℕ) → 1 ≤ n → n ≤ 128 → some_bits (within n) ≡ Some n
  some_within n h k = ap some_bits (within_near n k) ∙ some_is n h

  pub concat_sized : (fixed : Bool) (p : Pos) (es : Exprs) → IsSome es → AreSized fixed es
      → NoneOf (too_wide p (wide_size ns (concat p es))) → IsSized ns fixed (concat p es)
  concat_sized fixed p es s x h =
      let one = x.some s in
      let wide = ap some_bits x.wide ∙ some_is (capped x.bits) (omega (arith, one)) in
      let few = few_uncapped x.bits (narrow p (capped x.bits) (subst (λ o. NoneOf (too_wide p o)) wide h)) in
      record {
        bits = x.bits;
        sized = ap some_bits x.sized ∙ some_within x.bits one few;
        wide = wide ∙ ap Some (uncapped x.bits few);
        some = one;
        few = few;
        constant = x.constant_all;
        names = x.names;
      }

  pub repeat_sized : (fixed : Bool) (p : Pos) (n : Expr) (es : Exprs) → IsSome es → IsSized ns true n
      → AreSized fixed es
      → own_zero_divisor ds (of n) ≡ None → NoneOf (no_copies ns p n)
      → NoneOf (too_wide p (wide_size ns (repeat p n es))) → IsSized ns fixed (repeat p n es)
  repeat_sized fixed p n es s x y d c h =
      let one = y.some s in
      let fix = x.constant refl in
      let km = known_true ds n x.bits fix x.sized d in
      let copies = copied (bound ns n) (capped y.bits)
      (passed (is_known ns n) (int_le (pos 1) (bound ns n)) (f.Range p) km c) (omega (arith, one)) in
      let wide_bits = ap some_bits y.wide ∙ some_is (capped y.bits) (omega (arith, one)) in
      let wide = (λ i. wide_bits i >>= λ m. if km i then wide_times (bound ns n) m else None) ∙ copies.wide_is in
      let few = few_uncapped copies.bits (narrow p (capped copies.bits) (subst (λ o. NoneOf (too_wide p o)) wide h)) in
      let less = few_uncapped y.bits (omega (arith, copies.more, few)) in
      record {
        bits = copies.bits;
        sized = (λ i. x.sized i >>= λ k. (ap some_bits y.sized ∙ some_within y.bits one less) i >>= λ m.
            if fix i
            then times (index_of (operand (Some k) (sign ds (of n)) (λ w t. value ds no_names w t (of n)))) m
            else None)
            ∙ (λ i. times (bound_is ds n x.bits fix x.sized i) (sym (uncapped y.bits less) i)) ∙ copies.size_is
            ∙ within_near copies.bits few;
        wide = wide ∙ ap Some (uncapped copies.bits few);
        some = copies.some;
        few = few;
        constant = λ e i. fix i && y.constant_all e i;
        names = (x.names, y.names);
      }

  -- ---- operations

  pub unary_sized : (fixed : Bool) (p : Pos) (op : UnaryOperator) (x : Expr) → IsSized ns fixed x
      → IsSized ns fixed (unary p op x)
  unary_sized fixed p op x h =
      let range = unary_least op h.bits h.some h.few in
      record {
        bits = unary_size op h.bits;
        sized = ap (λ o. o >>= λ m. Some (unary_size op m)) h.sized;
        wide = ap (λ o. o >>= λ m. Some (unary_size op m)) h.wide;
        some = range.0;
        few = range.1;
        constant = h.constant;
        names = h.names;
      }

  pub binary_sized : (fixed : Bool) (p : Pos) (op : BinaryOperator) (x y : Expr) → IsSized ns (fixed || divides op) x
      → IsSized ns (fixed || divides op) y → IsSized ns fixed (binary p op x y)
  binary_sized fixed p op x y h k =
      let range = by_range (way op) h.bits k.bits h.some h.few k.some k.few in
      let both : (fixed || divides op) ≡ true → (is_constant (of x) && is_constant (of y)) ≡ true
      = λ e i. h.constant e i && k.constant e i in
      record {
        bits = size_by (way op) h.bits k.bits;
        sized = (λ i. h.sized i >>= λ m. k.sized i >>= λ n.
            operation_size op m n (is_constant (of x) && is_constant (of y)))
            ∙ operated op h.bits k.bits (is_constant (of x) && is_constant (of y)) h.few k.few
            (λ e. both (ap (λ t. fixed || t) e ∙ or_true fixed));
        wide = λ i. h.wide i >>= λ m. k.wide i >>= λ n. Some (size_by (way op) m n);
        some = range.0;
        few = range.1;
        constant = λ e. both (or_left fixed (divides op) e);
        names = (h.names, k.names);
      }

  pub conditional_sized : (fixed : Bool) (p : Pos) (c x y : Expr) → IsSized ns fixed c → IsSized ns fixed x
      → IsSized ns fixed y → IsSized ns fixed (conditional p c x y)
  conditional_sized fixed p c x y g h k =
      let range = by_range ways.Larger h.bits k.bits h.some h.few k.some k.few in
      record {
        bits = max h.bits k.bits;
        sized = λ i. g.sized i >>= λ l. h.sized i >>= λ m. k.sized i >>= λ n. Some (max m n);
        wide = λ i. h.wide i >>= λ m. k.wide i >>= λ n. Some (max m n);
        some = range.0;
        few = range.1;
        constant = λ e i. g.constant e i && (h.constant e i && k.constant e i);
        names = (g.names, (h.names, k.names));
      }

  -- ---- names

  -- a constant with selects is a number
  record IsNumber (p : Pos) (text : List ℕ) (ss : Selects) (k : Const) : Type 0 where
    bits : ℕ
    number_is : ℕ
    is : selected_constant p text (name p text (of_selects ss)) k
        ≡ number p (number_of (cut_to bits false number_is))
    wide : IsWide (vector_of text k) ss bits

  of_constant : (may : Bool) (c : Context) (p : Pos) (text : List ℕ) (ss : Selects) (k : Const)
      → NoneOf (vector_selects ns may (vector_of text k) ss)
      → (selects_zero_divisor ds (of_selects ss) ≡ None → AreSelected true ss
      (vector_size ds (vector_of text k) (of_selects ss)) (vector_width ns (vector_of text k) ss))
      → zero_divisor ds c (selected_constant p text (name p text (of_selects ss)) k) ≡ None → IsNumber p text ss k
  of_constant may c p text ss k h inner z = by (valid_size es x) refl
    where
      xs : Selects
      xs = of_selects ss

      x : Expr
      x = name p text xs

      es : List Decl
      es = vector_of text k ∷ []

      number_at : ℕ → ℕ
      number_at n = value es (cells_in (values_at text k)) n false x

      none_same : None ≡ valid_size es x → (n : ℕ) → valid_size es x ≡ Some n → ⊥
      none_same e n f = cc

      by : (o : Option ℕ) → valid_size es x ≡ o → IsNumber p text ss k
      by (Some n) e =
          let d = no_divisor p text k xs n e in
          record {
            bits = n;
            number_is = number_at n;
            is = ap (λ o. number_or p o x number_at) e;
            wide = alone_wide p text k may ss n h d.0 d.1;
          }
      by None e =
          let y = inner (sym (ap (λ o. zero_divisor ds c (number_or p o x number_at)) e) ∙ z) in
          let agree = agree_on_none es ds (selects_texts xs) (y.alone refl) in
          let undivided = same_selects_divisor es ds xs agree
          ∙ sym (ap (λ o. zero_divisor ds c (number_or p o x number_at)) e) ∙ z in
          let sized = alone_sized p text k xs ∙ fixed_vector es ds (vector_of text k) xs (y.alone refl) ∙ y.sized in
          absurd (none_same (sym e) y.bits (λ i. if_none (undivided i) (sized i)))

  of_number : (fixed may : Bool) (p : Pos) (text : List ℕ) (ss : Selects) (k : Const)
      → named_constant p text (of_selects ss) (Some k) ≡ selected_constant p text (name p text (of_selects ss)) k
      → IsNumber p text ss k → IsNamed fixed p text ss (constant k may)
  of_number fixed may p text ss k e x =
      let is = e ∙ x.is in
      let one = x.wide.some in
      let few = x.wide.few in
      record {
        bits = x.bits;
        sized = ap (size ds) is ∙ ap Some (omega (arith, one, few));
        wide = x.wide.wide;
        some = one;
        few = few;
        constant_name = λ f. ap is_constant is;
        names = subst (EachName Read) (sym is) tt;
      }

  -- what no name may mean
  refused_name : (xs ys : List ElabFault) (g : ElabFault) → NoneOf (xs ++ (g ∷ []) ++ ys) → ⊥
  refused_name xs ys g h = some-fault g [] (none-back xs (g ∷ []) (none-front (xs ++ g ∷ []) ys h))

  not_both : (a b : Bool) → b ≡ false → b ≡ true → a ≡ true
  not_both a b h k = absurd (true≢false (sym k ∙ h))

  -- what the selects of a vector are found to be, and those of a memory
  abbrev pub VectorOf : Bool → Pos → Selects → Type 0
  VectorOf fixed p ss =
      (may : Bool) (d : Decl) → 1 ≤ d.width → d.width ≤ 128 → NoneOf (select_refusals ns fixed ss)
      → NoneOf (vector_selects ns may d ss) → NoneOf (too_wide p (vector_width ns d ss))
      → selects_zero_divisor ds (of_selects ss) ≡ None
      → AreSelected fixed ss (vector_size ds d (of_selects ss)) (vector_width ns d ss)

  abbrev pub WordOf : Bool → Pos → Selects → Type 0
  WordOf fixed p ss =
      (d : Decl) → 1 ≤ d.width → d.width ≤ 128 → NoneOf (select_refusals ns fixed ss)
      → NoneOf (memory_selects ns p d ss) → NoneOf (too_wide p (word_width ns d ss))
      → selects_zero_divisor ds (of_selects ss) ≡ None
      → AreSelected fixed ss (word_size ds d (of_selects ss)) (word_width ns d ss)

  pub selected : (is_vector fixed may : Bool) (p : Pos) (d : Decl) (ss : Selects) → VectorOf fixed p ss
      → WordOf fixed p ss → 1 ≤ d.width → d.width ≤ 128 → NoneOf (select_refusals ns fixed ss)
      → NoneOf (if is_vector then vector_selects ns may d ss else memory_selects ns p d ss)
      → NoneOf (too_wide p (if is_vector then vector_width ns d ss else word_width ns d ss))
      → selects_zero_divisor ds (of_selects ss) ≡ None
      → AreSelected fixed ss (if is_vector then vector_size ds d (of_selects ss) else word_size ds d (of_selects ss))
      (if is_vector then vector_width ns d ss else word_width ns d ss)
  selected true fixed may p d ss vector word one few h k t z = vector may d one few h k t z
  selected false fixed may p d ss vector word one few h k t z = word d one few h k t z

  constant_fine : (fixed may : Bool) (c : Context) (p : Pos) (text : List ℕ) (ss : Selects) (k : Const)
      → VectorOf true p ss
      → NoneOf (select_refusals ns (fixed || true) ss ++ vector_selects ns may (vector_of text k) ss
      ++ too_wide p (vector_width ns (vector_of text k) ss))
      → zero_divisor ds c (selected_constant p text (name p text (of_selects ss)) k) ≡ None
      → IsNumber p text ss k
  constant_fine fixed may c p text ss k vector h z =
      let inner = select_refusals ns (fixed || true) ss in
      let selects = vector_selects ns may (vector_of text k) ss in
      let all = none-front (inner ++ selects) _ h in
      let read = none-back inner selects all in
      of_constant may c p text ss k read
      (λ d. vector may (vector_of text k) k.some_bits k.few_bits
      (subst (λ t. NoneOf (select_refusals ns t ss)) (or_true fixed) (none-front inner selects all)) read
      (none-back (inner ++ selects) _ h) d) z

  -- where no constant is demanded, each net and variable has a known shape
  module _ (named : AllNamed ns) (sure : AreSure ns) (Free : Type 0) (sound : Free → AreSound ns) where
    pub named_fine : (fixed : Bool) → (fixed ≡ false → Free) → (c : Context) (p : Pos) (text : List ℕ) (ss : Selects)
        (m : Meaning) → meaning_in ns text ≡ m
        → ((fixed : Bool) → (fixed ≡ false → Free) → VectorOf fixed p ss)
        → ((fixed : Bool) → (fixed ≡ false → Free) → WordOf fixed p ss)
        → NoneOf (select_refusals ns (fixed || is_constant_name ns m) ss ++ read_refusals ns fixed p text m ss
        ++ too_wide p (name_width ns text m ss))
        → zero_divisor ds c (named_constant p text (of_selects ss) (value_of m)) ≡ None → IsNamed fixed p text ss m
    named_fine fixed u c p text ss undeclared e vector word h z = absurd (refused_name _ _ _ h)
    named_fine fixed u c p text ss loop_variable e vector word h z = absurd (refused_name _ _ _ h)
    named_fine fixed u c p text ss later e vector word h z = absurd (refused_name _ _ _ h)
    named_fine fixed u c p text ss faulty e vector word h z = absurd (subst IsSure e (sure text))
    named_fine true u c p text ss shapeless e vector word h z = absurd (refused_name _ _ _ h)
    named_fine false u c p text ss shapeless e vector word h z = absurd (subst IsSound e (sound (u refl) text))
    named_fine fixed u c p text ss (object d role scalar) e vector word h z =
        let inner = select_refusals ns (fixed || false) ss in
        let clock = refused_if (is_clock_class d.class) (f.Clock p) in
        let constant_only = refused_if fixed (f.NotConstant p) in
        let is_vector = is_none d.words in
        let all = none-front (inner ++ (clock ++ constant_only ++ object_selects ns p scalar d ss)) _ h in
        let read = none-back inner (clock ++ constant_only ++ object_selects ns p scalar d ss) all in
        let front = none-front (clock ++ constant_only) (object_selects ns p scalar d ss) read in
        let varies = not-refused fixed _ (none-back clock constant_only front) in
        let shaped = subst IsSound e (sound (u varies) text) in
        let free = λ (e : (fixed || false) ≡ false). u varies in
        let x = selected is_vector (fixed || false) (not scalar) p d ss (vector (fixed || false) free)
        (word (fixed || false) free) shaped.some_bits shaped.few_bits
        (none-front inner (clock ++ constant_only ++ object_selects ns p scalar d ss) all)
        (none-back (clock ++ constant_only) (object_selects ns p scalar d ss) read)
        (none-back (inner ++ (clock ++ constant_only ++ object_selects ns p scalar d ss)) _ h) z in
        record {
          bits = x.bits;
          sized = ap (λ o. o >>= λ d. if is_none d.words then vector_size ds d (of_selects ss)
              else word_size ds d (of_selects ss)) (object_is ns text named ∙ ap object_of e) ∙ x.sized;
          wide = x.wide;
          some = x.some;
          few = x.few;
          constant_name = not_both false fixed varies;
          names = (
            subst IsRead (sym e) (not-refused (is_clock_class d.class) _ (none-front clock constant_only front)),
            x.names,
          );
        }
    named_fine fixed u c p text whole (constant k may) e vector word h z = record {
      bits = k.width;
      sized = refl;
      wide = refl;
      some = k.some_bits;
      few = k.few_bits;
      constant_name = λ f. refl;
      names = tt;
    }
    named_fine fixed u c p text (bit q i ss) (constant k may) e vector word h z =
        of_number fixed may p text (bit q i ss) k refl
        (constant_fine fixed may c p text (bit q i ss) k
        (vector true (λ e. absurd (true≢false e))) h z)
    named_fine fixed u c p text (part q l r ss) (constant k may) e vector word h z =
        of_number fixed may p text (part q l r ss) k refl
        (constant_fine fixed may c p text (part q l r ss) k
        (vector true (λ e. absurd (true≢false e))) h z)
    named_fine fixed u c p text (indexed q s n ss) (constant k may) e vector word h z =
        of_number fixed may p text (indexed q s n ss) k refl
        (constant_fine fixed may c p text (indexed q s n ss) k
        (vector true (λ e. absurd (true≢false e))) h z)
