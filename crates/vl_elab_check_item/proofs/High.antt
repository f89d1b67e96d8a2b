-- The refusals of an expression are of names, or have higher numbers.
use Rattle.std.specs.Prelude.{◌≡◌, refl, ℕ, List, [], ◌∷◌, ◌++◌, Bool, true, false, ◌||◌, not, nat_le, nat_lt, is_none}
use Rattle.std.specs.Prelude.{◌==◌, ◌&&◌, Option, Some, None, if◌then◌else◌}
use Rattle.std.proofs.Common.{ap, ◌∙◌, arith}
use Rattle.std.proofs.lemmas.Bool.Decides.{nat_tests}
use Rattle.fv_text.specs.declared.pos.Pos.{Pos}
use Rattle.vl_tree.specs.Expr.{
  Expr,
  Exprs,
  Selects,
  number,
  name,
  paren,
  unary,
  binary,
  conditional,
  concat,
  repeat,
  cast,
  none,
  more,
  whole,
  bit,
  part,
  indexed,
}
use Rattle.vl_size.specs.declared.decl.Decl.{Decl}
use Rattle.vl_size.specs.Places.{is_earlier}
use Rattle.vl_size.specs.Size.{divides}
use Rattle.vl_mean.specs.Constants.{vector_of}
use Rattle.vl_mean.specs.Runs.{Each}
use Rattle.vl_mean.specs.Scopes.{is_clock_class}
use Rattle.vl_elab_spec.specs.declared.elab_fault.ElabFault.{ElabFault}
use Rattle.vl_elab_spec.specs.declared.elab_fault.ElabFault.TheVariants as f
use Rattle.vl_elab_spec.specs.Expressions.{refused_if, too_wide, name_width, wide_size, far, against, no_copies}
use Rattle.vl_elab_spec.specs.Expressions.{none_behind, vector_selects, memory_selects, object_selects, read_refusals}
use Rattle.vl_elab_spec.specs.Expressions.{is_constant_name, refusals, all_refusals, select_refusals}
use Rattle.vl_elab_spec.specs.Items.{is_unknown, unknown_names}
use Rattle.vl_elab_spec.specs.Meanings.{Meaning, undeclared, constant, loop_variable, object, faulty, shapeless, later}
use Rattle.vl_elab_spec.specs.Meanings.{Names, meaning_in}
use Rattle.vl_elab_spec.specs.Refused.{comes_before, lower, lowest, place, rank}
use Rattle.vl_elab_check_item.specs.TurnParts.{if_unknown}

-- no number below that of an unknown name
abbrev IsHigh : ElabFault → Type 0
IsHigh g = nat_lt (rank g) 3 ≡ false

join : (gs hs : List ElabFault) → Each IsHigh gs → Each IsHigh hs → Each IsHigh (gs ++ hs)
join [] hs h k = k
join (g ∷ gs) hs h k = (h.0, join gs hs h.1 k)

high_if : (b : Bool) (g : ElabFault) → IsHigh g → Each IsHigh (refused_if b g)
high_if true g h = (h, tt)
high_if false g h = tt

wide : (p : Pos) (w : Option ℕ) → Each IsHigh (too_wide p w)
wide p None = tt
wide p (Some n) = high_if (not (nat_le n 128)) (f.TooWide p n) refl

module _ (ns : List Names) where
  behind : (ss : Selects) → Each IsHigh (none_behind ns ss)
  behind whole = tt
  behind (bit q i ss) = (refl, tt)
  behind (part q l r ss) = (refl, tt)
  behind (indexed q i n ss) = (refl, tt)

  copies : (q : Pos) (n : Expr) → Each IsHigh (no_copies ns q n)
  copies q n = high_if _ (f.Range q) refl

  vector : (may : Bool) (d : Decl) (ss : Selects) → Each IsHigh (vector_selects ns may d ss)
  vector may d whole = tt
  vector may d (bit q i ss) =
      join (refused_if (not may) (f.Range q)) (none_behind ns ss) (high_if (not may) (f.Range q) refl) (behind ss)
  vector may d (part q l r ss) =
      let own = refused_if (not may) (f.Range q) in
      let first = join own (far ns q l) (high_if (not may) (f.Range q) refl) (high_if _ (f.Range q) refl) in
      let second = join (own ++ far ns q l) (far ns q r) first (high_if _ (f.Range q) refl) in
      let third = join (own ++ far ns q l ++ far ns q r) (against ns d q l r) second (high_if _ (f.Range q) refl) in
      join (own ++ far ns q l ++ far ns q r ++ against ns d q l r) (none_behind ns ss) third (behind ss)
  vector may d (indexed q i n ss) =
      let own = refused_if (not may) (f.Range q) in
      join (own ++ no_copies ns q n) (none_behind ns ss)
      (join own (no_copies ns q n) (high_if (not may) (f.Range q) refl) (copies q n)) (behind ss)

  memory : (p : Pos) (d : Decl) (ss : Selects) → Each IsHigh (memory_selects ns p d ss)
  memory p d whole = (refl, tt)
  memory p d (bit q i ss) = vector true d ss
  memory p d (part q l r ss) = (refl, tt)
  memory p d (indexed q i n ss) = (refl, tt)

  selected : (p : Pos) (scalar : Bool) (d : Decl) (ss : Selects) → Each IsHigh (object_selects ns p scalar d ss)
  selected p scalar d ss = by (is_none d.words)
    where
      by : (b : Bool) → Each IsHigh (if b then vector_selects ns (not scalar) d ss
          else memory_selects ns p d ss)
      by true = vector (not scalar) d ss
      by false = memory p d ss

  read : (fixed : Bool) (p : Pos) (text : List ℕ) (m : Meaning) (ss : Selects)
      → Each IsHigh (read_refusals ns fixed p text m ss)
  read fixed p text undeclared ss = (refl, tt)
  read fixed p text loop_variable ss = (refl, tt)
  read fixed p text faulty ss = tt
  read fixed p text shapeless ss = high_if fixed (f.NotConstant p) refl
  read fixed p text later ss = (refl, tt)
  read fixed p text (constant c selected) ss = vector selected (vector_of text c) ss
  read fixed p text (object d role scalar) ss =
      let clock = refused_if (is_clock_class d.class) (f.Clock p) in
      let varies = refused_if fixed (f.NotConstant p) in
      join (clock ++ varies) (object_selects ns p scalar d ss)
      (join clock varies (high_if (is_clock_class d.class) (f.Clock p) refl) (high_if fixed (f.NotConstant p) refl))
      (selected p scalar d ss)

  mutual
    pub high : (fixed : Bool) (e : Expr) → Each IsHigh (refusals ns fixed e)
    high fixed (number p n) = tt
    high fixed (name p text ss) =
        let m = meaning_in ns text in
        let inner = select_refusals ns (fixed || is_constant_name ns m) ss in
        let own = read_refusals ns fixed p text m ss in
        join (inner ++ own) (too_wide p (name_width ns text m ss))
        (join inner own (high_selects (fixed || is_constant_name ns m) ss) (read fixed p text m ss))
        (wide p (name_width ns text m ss))
    high fixed (paren p x) =
        join (refusals ns fixed x) (too_wide p (wide_size ns x)) (high fixed x) (wide p (wide_size ns x))
    high fixed (unary p op x) =
        let w = wide_size ns (unary p op x) in
        join (refusals ns fixed x) (too_wide p w) (high fixed x) (wide p w)
    high fixed (binary p op x y) =
        let xs = refusals ns (fixed || divides op) x in
        let ys = refusals ns (fixed || divides op) y in
        let w = wide_size ns (binary p op x y) in
        join (xs ++ ys) (too_wide p w) (join xs ys (high (fixed || divides op) x) (high (fixed || divides op) y))
        (wide p w)
    high fixed (conditional p c x y) =
        let cs = refusals ns fixed c in
        let xs = refusals ns fixed x in
        let ys = refusals ns fixed y in
        let w = wide_size ns (conditional p c x y) in
        join (cs ++ xs ++ ys) (too_wide p w)
        (join (cs ++ xs) ys (join cs xs (high fixed c) (high fixed x)) (high fixed y)) (wide p w)
    high fixed (concat p es) =
        let w = wide_size ns (concat p es) in
        join (all_refusals ns fixed es) (too_wide p w) (all_high fixed es) (wide p w)
    high fixed (repeat p n es) =
        let nn = refusals ns true n in
        let xs = all_refusals ns fixed es in
        let w = wide_size ns (repeat p n es) in
        join (nn ++ xs ++ no_copies ns p n) (too_wide p w)
        (join (nn ++ xs) (no_copies ns p n) (join nn xs (high true n) (all_high fixed es)) (copies p n)) (wide p w)
    high fixed (cast p to x) =
        join (refusals ns fixed x) (too_wide p (wide_size ns x)) (high fixed x) (wide p (wide_size ns x))

    all_high : (fixed : Bool) (es : Exprs) → Each IsHigh (all_refusals ns fixed es)
    all_high fixed none = tt
    all_high fixed (more e es) =
        join (refusals ns fixed e) (all_refusals ns fixed es) (high fixed e) (all_high fixed es)

    high_selects : (fixed : Bool) (ss : Selects) → Each IsHigh (select_refusals ns fixed ss)
    high_selects fixed whole = tt
    high_selects fixed (bit q i ss) =
        join (refusals ns fixed i) (select_refusals ns fixed ss) (high fixed i) (high_selects fixed ss)
    high_selects fixed (part q l r ss) =
        let ls = refusals ns true l in
        let rs = refusals ns true r in
        join (ls ++ rs) (select_refusals ns fixed ss) (join ls rs (high true l) (high true r)) (high_selects fixed ss)
    high_selects fixed (indexed q i n ss) =
        let is = refusals ns fixed i in
        let nn = refusals ns true n in
        join (is ++ nn) (select_refusals ns fixed ss) (join is nn (high fixed i) (high true n)) (high_selects fixed ss)

  pub three_high : (x y z : Expr)
      → Each IsHigh (refusals ns true x ++ refusals ns true y ++ refusals ns true z)
  three_high x y z =
      join (refusals ns true x ++ refusals ns true y) (refusals ns true z)
      (join (refusals ns true x) (refusals ns true y) (high true x) (high true y)) (high true z)

-- ---- unknown names come before all else

unknown_rank : (g : ElabFault) → is_unknown g ≡ true → rank g ≡ 3
unknown_rank (f.NoModule text) h = cc
unknown_rank (f.Twice text p) h = cc
unknown_rank (f.Unknown text p) h = refl
unknown_rank (f.Port text p) h = cc
unknown_rank (f.Param text p) h = cc
unknown_rank (f.Recursive modules) h = cc
unknown_rank (f.Range p) h = cc
unknown_rank (f.GenLoop p) h = cc
unknown_rank (f.TooManyBits n) h = cc
unknown_rank (f.Clock p) h = cc
unknown_rank (f.NotConstant p) h = cc
unknown_rank (f.ZeroDivisor p) h = cc
unknown_rank (f.TooWide p n) h = cc
unknown_rank (f.TooLarge p) h = cc
unknown_rank (f.Kind text p) h = cc

-- another one has a number above
other_rank : (g : ElabFault) → IsHigh g → is_unknown g ≡ false → nat_lt 3 (rank g) ≡ true
other_rank (f.NoModule text) h k = cc
other_rank (f.Twice text p) h k = cc
other_rank (f.Unknown text p) h k = cc
other_rank (f.Port text p) h k = refl
other_rank (f.Param text p) h k = refl
other_rank (f.Recursive modules) h k = refl
other_rank (f.Range p) h k = refl
other_rank (f.GenLoop p) h k = refl
other_rank (f.TooManyBits n) h k = refl
other_rank (f.Clock p) h k = refl
other_rank (f.NotConstant p) h k = refl
other_rank (f.ZeroDivisor p) h k = refl
other_rank (f.TooWide p n) h k = refl
other_rank (f.TooLarge p) h k = refl
other_rank (f.Kind text p) h k = refl

less_apart : (x : ℕ) → nat_lt 3 x ≡ true → (x == 3) ≡ false
less_apart x h = grind (arith, nat_tests)

comes_first : (g h : ElabFault) → IsHigh g → is_unknown g ≡ false → is_unknown h ≡ true → comes_before g h ≡ true
comes_first g h a b c =
    ap (λ x. x || ((rank h == rank g) && is_earlier (place h) (place g)))
    ((λ i. nat_lt (unknown_rank h c i) (rank g)) ∙ other_rank g a b)

stays_first : (g h : ElabFault) → IsHigh h → is_unknown g ≡ true → is_unknown h ≡ false → comes_before g h ≡ false
stays_first g h a b c =
    let above : nat_lt (rank h) (rank g) ≡ false = ap (nat_lt (rank h)) (unknown_rank g b) ∙ a in
    let apart : (rank h == rank g) ≡ false =
    ap (λ x. rank h == x) (unknown_rank g b) ∙ less_apart (rank h) (other_rank h a c) in
    λ i. above i || (apart i && is_earlier (place h) (place g))

abbrev IfHigh : Option ElabFault → Type 0
IfHigh None = Unit {0}
IfHigh (Some g) = IsHigh g

high_lower : (g : ElabFault) (o : Option ElabFault) → IsHigh g → IfHigh o → IsHigh (lower g o)
high_lower g None h k = h
high_lower g (Some x) h k = by (comes_before g x)
  where
    by : (b : Bool) → IsHigh (if b then x else g)
    by true = k
    by false = h

high_lowest : (gs : List ElabFault) → Each IsHigh gs → IfHigh (lowest gs)
high_lowest [] h = tt
high_lowest (g ∷ gs) h = high_lower g (lowest gs) h.0 (high_lowest gs h.1)

kept : (g : ElabFault) → is_unknown g ≡ true → if_unknown (Some g) ≡ Some g
kept g h = ap (λ b. if b then Some g else None) h

dropped : (g : ElabFault) → is_unknown g ≡ false → if_unknown (Some g) ≡ None
dropped g h = ap (λ b. if b then Some g else None) h

one_more : (g : ElabFault) (o : Option ElabFault) → IsHigh g → IfHigh o
    → if_unknown (Some (lower g o)) ≡ (if is_unknown g then Some (lower g (if_unknown o)) else if_unknown o)
one_more g None h k = refl
one_more g (Some x) h k = by (is_unknown g) (is_unknown x) refl refl
  where
    both : (b : Bool) → is_unknown g ≡ true → is_unknown x ≡ true
        → if_unknown (Some (if b then x else g)) ≡ Some (if b then x else g)
    both true c d = kept x d
    both false c d = kept g c

    neither : (b : Bool) → is_unknown g ≡ false → is_unknown x ≡ false
        → if_unknown (Some (if b then x else g)) ≡ None
    neither true c d = dropped x d
    neither false c d = dropped g c

    by : (u v : Bool) → is_unknown g ≡ u → is_unknown x ≡ v
        → if_unknown (Some (if comes_before g x then x else g))
        ≡ (if u then Some (lower g (if v then Some x else None)) else (if v then Some x else None))
    by true true c d = both (comes_before g x) c d
    by true false c d =
        ap (λ b. if_unknown (Some (if b then x else g))) (stays_first g x k c d) ∙ kept g c
    by false true c d =
        ap (λ b. if_unknown (Some (if b then x else g))) (comes_first g x h c d) ∙ kept x d
    by false false c d = neither (comes_before g x) c d

pub unknown_first : (gs : List ElabFault) → Each IsHigh gs → if_unknown (lowest gs) ≡ lowest (unknown_names gs)
unknown_first [] h = refl
unknown_first (g ∷ gs) h =
    one_more g (lowest gs) h.0 (high_lowest gs h.1)
    ∙ ap (λ o. if is_unknown g then Some (lower g o) else o) (unknown_first gs h.1) ∙ by (is_unknown g)
  where
    by : (b : Bool) → (if b then Some (lower g (lowest (unknown_names gs))) else lowest (unknown_names gs))
        ≡ lowest (if b then g ∷ unknown_names gs else unknown_names gs)
    by true = refl
    by false = refl
