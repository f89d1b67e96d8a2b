-- No two well formed expressions spell one list of tokens: names, brackets and braces.
use Rattle.std.proofs.Common.{◌≡◌, ℕ, zero, suc, ◌≤◌, Bool, true, false, ◌==◌, List, [], ◌∷◌, length, Some, refl, sym}
use Rattle.std.proofs.Common.{ap, ◌∙◌, subst, arith, eq-eqb}
use Rattle.fv_text.specs.declared.kind.Kind.{Kind}
use Rattle.fv_text.specs.declared.kind.Kind.TheVariants as k
use Rattle.fv_text.specs.declared.number.Number.{Number}
use Rattle.fv_text.specs.declared.symbol.Symbol.{Symbol}
use Rattle.fv_text.specs.declared.symbol.Symbol.TheVariants as s
use Rattle.fv_text.specs.declared.token.Token.{Token}
use Rattle.vl_tree.specs.declared.operator.Cast.{Cast}
use Rattle.vl_tree.specs.Expr.{Expr, Exprs, Selects, number, paren, unary, binary, conditional, concat, repeat, cast}
use Rattle.vl_tree.specs.Expr.{none, whole, bit, part, indexed}
use Rattle.vl_tree.specs.Expr as tree
use Rattle.vl_tree.specs.ExprSpelling.{spell, spell_parts, spell_more, spell_selects, cast_name}
use Rattle.vl_tree.specs.ExprWellFormed.{IsWellFormed, AreWellFormed, AreSelects, IsSome}
use Rattle.vl_tree.specs.Phrase.{IsNext, Spells}
use Rattle.vl_parse_grammar.specs.Operators.{cast_of}
use Rattle.vl_parse_grammar.proofs.Steps.{apart}
use Rattle.vl_parse_grammar.proofs.ExprReads.{cast_same}
use Rattle.vl_parse_grammar.proofs.OneToken.{first, next_first, next_shorter, one_rest, one_kind, one_place, differ}
use Rattle.vl_parse_grammar.proofs.OneToken.{shorter, name_same}
use Rattle.vl_parse_grammar.proofs.OneExpr.{NoSelect, NoMore, by_first, is_select_end, is_expr_end, IsAtom}
use Rattle.vl_parse_grammar.proofs.OneExpr.{one_by_atoms}

-- behind an expression
abbrev pub Closed : List Token → Type 0
Closed ts = NoSelect ts × NoMore ts

pub closed_by : (kind : Kind) (ts m : List Token) → IsNext kind ts m → is_select_end kind ≡ true
    → is_expr_end kind ≡ true → Closed ts
closed_by kind ts m h e f = (by_first is_select_end kind ts m h e, by_first is_expr_end kind ts m h f)

-- what the first token of an atom is
abbrev class : Kind → ℕ
class (k.Number n) = 0
class (k.Name text) = 1
class (k.Symbol s.OpenParen) = 2
class (k.Symbol s.OpenBrace) = 3
class (k.System text) = 4
class t = 5

abbrev head : Expr → ℕ
head (number p n) = 0
head (tree.name p text ss) = 1
head (paren p x) = 2
head (concat p es) = 3
head (repeat p n es) = 3
head (cast p to x) = 4
head x = 6

heads : (x : Expr) (ts m : List Token) → IsAtom x → Spells (spell x) ts m → class (first ts) ≡ head x
heads (number p n) ts m h i = ap class (next_first (k.Number n) ts m i.1)
heads (tree.name p text ss) ts m h (q, (o, i, j)) = ap class (next_first (k.Name text) ts o i)
heads (paren p x) ts m h (q, (o, (o2, i, j), l)) = ap class (next_first (k.Symbol s.OpenParen) ts o2 i)
heads (concat p es) ts m h (q, (o, (o2, i, j), l)) = ap class (next_first (k.Symbol s.OpenBrace) ts o2 i)
heads (repeat p n es) ts m h (q, (o, (o2, i, j), l)) = ap class (next_first (k.Symbol s.OpenBrace) ts o2 i)
heads (cast p to x) ts m h (q, (o, i, j)) = ap class (next_first (k.System (cast_name to)) ts o i)
heads (unary p op x) ts m h i = absurd h
heads (binary p op x y) ts m h i = absurd h
heads (conditional p x y z) ts m h i = absurd h

heads_same : (x y : Expr) (ts us r q : List Token) → ts ≡ us → IsAtom x → IsAtom y → Spells (spell x) ts r
    → Spells (spell y) us q
    → (head x == head y) ≡ true
heads_same x y ts us r q e a b h i =
    eq-eqb (head x) (head y) (sym (heads x ts r a h) ∙ ap (λ vs. class (first vs)) e ∙ heads y us q b i)

pub number_one : (m n : Number) → k.Number m ≡ k.Number n → m ≡ n
number_one m n h = ap (λ kind. number_of m kind) h
  where
    number_of : Number → Kind → Number
    number_of z (k.Number x) = x
    number_of z kind = z

system_one : (x y : List ℕ) → k.System x ≡ k.System y → x ≡ y
system_one x y h = ap (λ kind. text_of x kind) h
  where
    text_of : List ℕ → Kind → List ℕ
    text_of z (k.System t) = t
    text_of z kind = z

cast_one : (x y : Cast) → cast_name x ≡ cast_name y → x ≡ y
cast_one x y h = some_same x y (sym (cast_same x) ∙ ap cast_of h ∙ cast_same y)
  where
    some_same : (x y : Cast) → Some x ≡ Some y → x ≡ y
    some_same x y h = cc

abbrev OneAt : ℕ → Type 0
OneAt n =
    (x y : Expr) (ts us r q : List Token) → length ts ≤ n → ts ≡ us → IsWellFormed x → IsWellFormed y
    → Spells (spell x) ts r → Spells (spell y) us q → Closed r → Closed q → (x ≡ y) × (r ≡ q)

abbrev pub is_comma : Kind → Bool
is_comma (k.Symbol s.Comma) = true
is_comma t = false

abbrev is_open : Kind → Bool
is_open (k.Symbol s.OpenBrace) = true
is_open t = false

abbrev is_colon : Kind → Bool
is_colon (k.Symbol s.Colon) = true
is_colon t = false

abbrev is_plus_colon : Kind → Bool
is_plus_colon (k.Symbol s.PlusColon) = true
is_plus_colon t = false

module _ (n : ℕ) (one : OneAt n) where
  behind_part : (es : Exprs) (m : List Token) (o : List Token) (r : List Token) → Spells (spell_more es) m o
      → IsNext (k.Symbol s.CloseBrace) o r → Closed m
  behind_part none m o r h i =
      closed_by (k.Symbol s.CloseBrace) m r (subst (λ us. IsNext (k.Symbol s.CloseBrace) us r) (sym h) i) refl refl
  behind_part (tree.more x es) m o r (m2, h, j) i = closed_by (k.Symbol s.Comma) m m2 h refl refl

  more_parts : (es fs : Exprs) (ts us m o r q : List Token) → length ts ≤ n → ts ≡ us → AreWellFormed es
      → AreWellFormed fs
      → Spells (spell_more es) ts m → Spells (spell_more fs) us o → IsNext (k.Symbol s.CloseBrace) m r
      → IsNext (k.Symbol s.CloseBrace) o q
      → (es ≡ fs) × (r ≡ q)
  more_parts none none ts us m o r q l e w v h h2 i i2 = (refl, one_rest _ _ m o r q (sym h ∙ e ∙ h2) i i2)
  more_parts (tree.more x es) (tree.more y fs) ts us m o r q l e w v (m2, h, (m3, j, g)) (o2, h2, (o3, j2, g2)) i i2 =
      let start_same = one_rest _ _ ts us m2 o2 e h h2 in
      let (same, rest_same) = one x y m2 o2 m3 o3 (omega (arith, l, next_shorter _ ts m2 h)) start_same w.0 v.0 j j2
      (behind_part es m3 m r g i) (behind_part fs o3 o q g2 i2) in
      let (others, end) = more_parts es fs m3 o3 m o r q
      (omega (arith, l, next_shorter _ ts m2 h, shorter (spell x) m2 m3 j)) rest_same w.1 v.1 g g2 i i2 in
      ((λ z. tree.more (same z) (others z)), end)
  more_parts none (tree.more y fs) ts us m o r q l e w v h (o2, h2, j2) i i2 =
      differ is_comma _ _ us m o2 r (sym e ∙ h) h2 i refl refl
  more_parts (tree.more x es) none ts us m o r q l e w v (m2, h, j) h2 i i2 =
      differ is_comma _ _ ts o m2 q (e ∙ h2) h i2 refl refl

  parts : (es fs : Exprs) (ts us m o r q : List Token) → length ts ≤ n → ts ≡ us → IsSome es → IsSome fs
      → AreWellFormed es → AreWellFormed fs
      → Spells (spell_parts es) ts m → Spells (spell_parts fs) us o → IsNext (k.Symbol s.CloseBrace) m r
      → IsNext (k.Symbol s.CloseBrace) o q
      → (es ≡ fs) × (r ≡ q)
  parts none fs ts us m o r q l e c d w v h h2 i i2 = absurd c
  parts (tree.more x es) none ts us m o r q l e c d w v h h2 i i2 = absurd d
  parts (tree.more x es) (tree.more y fs) ts us m o r q l e c d w v (m2, h, g) (o2, h2, g2) i i2 =
      let (same, rest_same) = one x y ts us m2 o2 l e w.0 v.0 h h2 (behind_part es m2 m r g i)
      (behind_part fs o2 o q g2 i2) in
      let (others, end) = more_parts es fs m2 o2 m o r q
      (omega (arith, l, shorter (spell x) ts m2 h)) rest_same w.1 v.1 g g2 i i2 in
      ((λ z. tree.more (same z) (others z)), end)

  -- the first part of a concatenation is no count
  no_count : {A : Type 0} (es : Exprs) (x : Expr) (ts us m m2 o o2 : List Token) → length ts ≤ n → ts ≡ us
      → IsSome es → AreWellFormed es → IsWellFormed x
      → Spells (spell_parts es) ts m → IsNext (k.Symbol s.CloseBrace) m m2 → Spells (spell x) us o
      → IsNext (k.Symbol s.OpenBrace) o o2 → A
  no_count none x ts us m m2 o o2 l e c w v h i h2 i2 = absurd c
  no_count (tree.more y none) x ts us m m2 o o2 l e c w v (m3, h, g) i h2 i2 =
      let (same, rest_same) = one y x ts us m3 o l e w.0 v h h2 (behind_part none m3 m m2 g i)
      (closed_by _ o o2 i2 refl refl) in
      differ is_open _ _ o m o2 m2 (sym rest_same ∙ g) i2 i refl refl
  no_count (tree.more y (tree.more z es)) x ts us m m2 o o2 l e c w v (m3, h, (m4, g, j)) i h2 i2 =
      let (same, rest_same) = one y x ts us m3 o l e w.0 v h h2 (closed_by _ m3 m4 g refl refl)
      (closed_by _ o o2 i2 refl refl) in
      differ is_open _ _ o m3 o2 m4 (sym rest_same) i2 g refl refl

  bracket : {A : Type 0} (x : Symbol) (ts us o m : List Token) → IsNext (k.Symbol s.OpenBracket) ts m → ts ≡ us
      → NoSelect us → A
  bracket x ts us o m h e f =
      apart (sym (ap is_select_end (next_first (k.Symbol s.OpenBracket) ts m h))
      ∙ ap (λ vs. is_select_end (first vs)) e ∙ f)

  selects : (ss tt2 : Selects) (ts us r q : List Token) → length ts ≤ n → ts ≡ us → AreSelects ss → AreSelects tt2
      → Spells (spell_selects ss) ts r → Spells (spell_selects tt2) us q → NoSelect r → NoSelect q → (ss ≡ tt2)
      × (r ≡ q)
  selects whole whole ts us r q l e w v h h2 f f2 = (refl, sym h ∙ e ∙ h2)
  selects whole (bit p x ss) ts us r q l e w v h (o, (g, (o2, (o3, i, j), i2)), j2) f f2 =
      bracket s.OpenBracket us r o o3 i (sym e ∙ h) f
  selects whole (part p x y ss) ts us r q l e w v h (o, (g, (o2, (o3, i, j), i2)), j2) f f2 =
      bracket s.OpenBracket us r o o3 i (sym e ∙ h) f
  selects whole (indexed p x y ss) ts us r q l e w v h (o, (g, (o2, (o3, i, j), i2)), j2) f f2 =
      bracket s.OpenBracket us r o o3 i (sym e ∙ h) f
  selects (bit p x ss) whole ts us r q l e w v (o, (g, (o2, (o3, i, j), i2)), j2) h f f2 =
      bracket s.OpenBracket ts q o o3 i (e ∙ h) f2
  selects (part p x y ss) whole ts us r q l e w v (o, (g, (o2, (o3, i, j), i2)), j2) h f f2 =
      bracket s.OpenBracket ts q o o3 i (e ∙ h) f2
  selects (indexed p x y ss) whole ts us r q l e w v (o, (g, (o2, (o3, i, j), i2)), j2) h f f2 =
      bracket s.OpenBracket ts q o o3 i (e ∙ h) f2
  selects (bit p x ss) (bit p2 x2 ss2) ts us r q l e w v (m, (g, (m2, (m3, i, j), i1)), j1)
      (o, (g2, (o2, (o3, i2, j2), i3)), j3) f f2 =
      let start_same = one_rest _ _ ts us m3 o3 e i i2 in
      let (same, end_same) = one x x2 m3 o3 m2 o2 (omega (arith, l, next_shorter _ ts m3 i)) start_same w.0 v.0 j j2
      (closed_by _ m2 m i1 refl refl) (closed_by _ o2 o i3 refl refl) in
      let (others, end) = selects ss ss2 m o r q
      (omega (arith, l, next_shorter _ ts m3 i, shorter (spell x) m3 m2 j, next_shorter _ m2 m i1))
      (one_rest _ _ m2 o2 m o end_same i1 i3) w.1 v.1 j1 j3 f f2 in
      ((λ z. bit (one_place p p2 ts us e g g2 z) (same z) (others z)), end)
  selects (part p x y ss) (part p2 x2 y2 ss2) ts us r q l e w v
      (m, (g, (m2, (m3, i, (m4, j, (m5, c, d))), i1)), j1)
      (o, (g2, (o2, (o3, i2, (o4, j2, (o5, c2, d2))), i3)), j3) f f2 =
      let start_same = one_rest _ _ ts us m3 o3 e i i2 in
      let (same, colon_same) = one x x2 m3 o3 m4 o4 (omega (arith, l, next_shorter _ ts m3 i)) start_same w.0 v.0 j j2
      (closed_by _ m4 m5 c refl refl) (closed_by _ o4 o5 c2 refl refl) in
      let (same2, end_same) = one y y2 m5 o5 m2 o2
      (omega (arith, l, next_shorter _ ts m3 i, shorter (spell x) m3 m4 j, next_shorter _ m4 m5 c))
      (one_rest _ _ m4 o4 m5 o5 colon_same c c2) w.1 v.1 d d2 (closed_by _ m2 m i1 refl refl)
      (closed_by _ o2 o i3 refl refl) in
      let (others, end) = selects ss ss2 m o r q
      (omega (
        arith,
        l,
        next_shorter _ ts m3 i,
        shorter (spell x) m3 m4 j,
        next_shorter _ m4 m5 c,
        shorter
            (spell y) m5 m2 d,
        next_shorter _ m2 m i1,
      ))
      (one_rest _ _ m2 o2 m o end_same i1 i3) w.2 v.2 j1 j3 f f2 in
      ((λ z. part (one_place p p2 ts us e g g2 z) (same z) (same2 z) (others z)), end)
  selects (indexed p x y ss) (indexed p2 x2 y2 ss2) ts us r q l e w v
      (m, (g, (m2, (m3, i, (m4, j, (m5, c, d))), i1)), j1)
      (o, (g2, (o2, (o3, i2, (o4, j2, (o5, c2, d2))), i3)), j3) f f2 =
      let start_same = one_rest _ _ ts us m3 o3 e i i2 in
      let (same, colon_same) = one x x2 m3 o3 m4 o4 (omega (arith, l, next_shorter _ ts m3 i)) start_same w.0 v.0 j j2
      (closed_by _ m4 m5 c refl refl) (closed_by _ o4 o5 c2 refl refl) in
      let (same2, end_same) = one y y2 m5 o5 m2 o2
      (omega (arith, l, next_shorter _ ts m3 i, shorter (spell x) m3 m4 j, next_shorter _ m4 m5 c))
      (one_rest _ _ m4 o4 m5 o5 colon_same c c2) w.1 v.1 d d2 (closed_by _ m2 m i1 refl refl)
      (closed_by _ o2 o i3 refl refl) in
      let (others, end) = selects ss ss2 m o r q
      (omega (
        arith,
        l,
        next_shorter _ ts m3 i,
        shorter (spell x) m3 m4 j,
        next_shorter _ m4 m5 c,
        shorter
            (spell y) m5 m2 d,
        next_shorter _ m2 m i1,
      ))
      (one_rest _ _ m2 o2 m o end_same i1 i3) w.2 v.2 j1 j3 f f2 in
      ((λ z. indexed (one_place p p2 ts us e g g2 z) (same z) (same2 z) (others z)), end)
  selects (bit p x ss) (part p2 x2 y2 ss2) ts us r q l e w v (m, (g, (m2, (m3, i, j), i1)), j1)
      (o, (g2, (o2, (o3, i2, (o4, j2, (o5, c2, d2))), i3)), j3) f f2 =
      let (same, end_same) = one x x2 m3 o3 m2 o4 (omega (arith, l, next_shorter _ ts m3 i))
      (one_rest _ _ ts us m3 o3 e i i2) w.0 v.0 j j2
      (closed_by _ m2 m i1 refl refl) (closed_by _ o4 o5 c2 refl refl) in
      differ is_colon _ _ o4 m2 o5 m (sym end_same) c2 i1 refl refl
  selects (part p2 x2 y2 ss2) (bit p x ss) ts us r q l e w v
      (o, (g2, (o2, (o3, i2, (o4, j2, (o5, c2, d2))), i3)), j3) (m, (g, (m2, (m3, i, j), i1)), j1) f f2 =
      let (same, end_same) = one x2 x o3 m3 o4 m2 (omega (arith, l, next_shorter _ ts o3 i2))
      (one_rest _ _ ts us o3 m3 e i2 i) w.0 v.0 j2 j
      (closed_by _ o4 o5 c2 refl refl) (closed_by _ m2 m i1 refl refl) in
      differ is_colon _ _ o4 m2 o5 m end_same c2 i1 refl refl
  selects (bit p x ss) (indexed p2 x2 y2 ss2) ts us r q l e w v (m, (g, (m2, (m3, i, j), i1)), j1)
      (o, (g2, (o2, (o3, i2, (o4, j2, (o5, c2, d2))), i3)), j3) f f2 =
      let (same, end_same) = one x x2 m3 o3 m2 o4 (omega (arith, l, next_shorter _ ts m3 i))
      (one_rest _ _ ts us m3 o3 e i i2) w.0 v.0 j j2
      (closed_by _ m2 m i1 refl refl) (closed_by _ o4 o5 c2 refl refl) in
      differ is_plus_colon _ _ o4 m2 o5 m (sym end_same) c2 i1 refl refl
  selects (indexed p2 x2 y2 ss2) (bit p x ss) ts us r q l e w v
      (o, (g2, (o2, (o3, i2, (o4, j2, (o5, c2, d2))), i3)), j3) (m, (g, (m2, (m3, i, j), i1)), j1) f f2 =
      let (same, end_same) = one x2 x o3 m3 o4 m2 (omega (arith, l, next_shorter _ ts o3 i2))
      (one_rest _ _ ts us o3 m3 e i2 i) w.0 v.0 j2 j
      (closed_by _ o4 o5 c2 refl refl) (closed_by _ m2 m i1 refl refl) in
      differ is_plus_colon _ _ o4 m2 o5 m end_same c2 i1 refl refl
  selects (part p x y ss) (indexed p2 x2 y2 ss2) ts us r q l e w v
      (m, (g, (m2, (m3, i, (m4, j, (m5, c, d))), i1)), j1)
      (o, (g2, (o2, (o3, i2, (o4, j2, (o5, c2, d2))), i3)), j3) f f2 =
      let (same, end_same) = one x x2 m3 o3 m4 o4 (omega (arith, l, next_shorter _ ts m3 i))
      (one_rest _ _ ts us m3 o3 e i i2) w.0 v.0 j j2
      (closed_by _ m4 m5 c refl refl) (closed_by _ o4 o5 c2 refl refl) in
      differ is_plus_colon _ _ o4 m4 o5 m5 (sym end_same) c2 c refl refl
  selects (indexed p2 x2 y2 ss2) (part p x y ss) ts us r q l e w v
      (o, (g2, (o2, (o3, i2, (o4, j2, (o5, c2, d2))), i3)), j3)
      (m, (g, (m2, (m3, i, (m4, j, (m5, c, d))), i1)), j1) f f2 =
      let (same, end_same) = one x2 x o3 m3 o4 m4 (omega (arith, l, next_shorter _ ts o3 i2))
      (one_rest _ _ ts us o3 m3 e i2 i) w.0 v.0 j2 j
      (closed_by _ o4 o5 c2 refl refl) (closed_by _ m4 m5 c refl refl) in
      differ is_plus_colon _ _ o4 m4 o5 m5 end_same c2 c refl refl

-- atoms, where the expressions in them are shorter
atom_by : (n : ℕ) → OneAt n → (x y : Expr) (ts us r q : List Token) → length ts ≤ suc n → ts ≡ us → IsAtom x
    → IsAtom y → IsWellFormed x → IsWellFormed y
    → Spells (spell x) ts r → Spells (spell y) us q → NoSelect r → NoSelect q → (x ≡ y) × (r ≡ q)
atom_by n one (unary p op x) y ts us r q l e a b w v h i f f2 = absurd a
atom_by n one (binary p op x z) y ts us r q l e a b w v h i f f2 = absurd a
atom_by n one (conditional p x z z2) y ts us r q l e a b w v h i f f2 = absurd a
atom_by n one (number p x) (number p2 y) ts us r q l e a b w v (g, h) (g2, i) f f2 = (
  (λ z. number (one_place p p2 ts us e g g2 z)
      (number_one x y (one_kind _ _ ts us r q e h i) z)),
  one_rest _ _ ts us r q e h i,
)
atom_by n one (tree.name p x ss) (tree.name p2 y ss2) ts us r q l e a b w v (g, (m, h, j)) (g2, (o, i, j2)) f f2 =
    let (same, end) = selects n one ss ss2 m o r q (omega (arith, l, next_shorter _ ts m h))
    (one_rest _ _ ts us m o e h i) w.1 v.1 j j2 f f2 in
    ((λ z. tree.name (one_place p p2 ts us e g g2 z) (name_same x y (one_kind _ _ ts us m o e h i) z) (same z)), end)
atom_by n one (paren p x) (paren p2 y) ts us r q l e a b w v (g, (m, (m2, h, j), c)) (g2, (o, (o2, i, j2), d)) f f2 =
    let (same, end) = one x y m2 o2 m o (omega (arith, l, next_shorter _ ts m2 h))
    (one_rest _ _ ts us m2 o2 e h i) w v j j2
    (closed_by _ m r c refl refl) (closed_by _ o q d refl refl) in
    ((λ z. paren (one_place p p2 ts us e g g2 z) (same z)), one_rest _ _ m o r q end c d)
atom_by n one (concat p es) (concat p2 fs) ts us r q l e a b w v (g, (m, (m2, h, j), c))
    (g2, (o, (o2, i, j2), d)) f f2 =
    let (same, end) = parts n one es fs m2 o2 m o r q (omega (arith, l, next_shorter _ ts m2 h))
    (one_rest _ _ ts us m2 o2 e h i) w.0 v.0 w.1 v.1 j j2 c d in
    ((λ z. concat (one_place p p2 ts us e g g2 z) (same z)), end)
atom_by n one (repeat p x es) (repeat p2 y fs) ts us r q l e a b w v
    (g, (m, (m2, h, (m3, j, (m4, (m5, h1, j1), c1))), c)) (g2, (o, (o2, i, (o3, j2, (o4, (o5, i1, j3), d1))), d)) f f2 =
    let (count, inner) = one x y m2 o2 m3 o3 (omega (arith, l, next_shorter _ ts m2 h))
    (one_rest _ _ ts us m2 o2 e h i) w.0 v.0 j j2
    (closed_by _ m3 m5 h1 refl refl) (closed_by _ o3 o5 i1 refl refl) in
    let (same, end) = parts n one es fs m5 o5 m4 o4 m o
    (omega (arith, l, next_shorter _ ts m2 h, shorter (spell x) m2 m3 j, next_shorter _ m3 m5 h1))
    (one_rest _ _ m3 o3 m5 o5 inner h1 i1)
    w.1 v.1 w.2 v.2 j1 j3 c1 d1 in
    ((λ z. repeat (one_place p p2 ts us e g g2 z) (count z) (same z)), one_rest _ _ m o r q end c d)
atom_by n one (concat p es) (repeat p2 y fs) ts us r q l e a b w v
    (g, (m, (m2, h, j), c)) (g2, (o, (o2, i, (o3, j2, (o4, (o5, i1, j3), d1))), d)) f f2 =
    no_count n one es y m2 o2 m r o3 o5 (omega (arith, l, next_shorter _ ts m2 h))
    (one_rest _ _ ts us m2 o2 e h i) w.0 w.1 v.0 j c j2 i1
atom_by n one (repeat p2 y fs) (concat p es) ts us r q l e a b w v
    (g2, (o, (o2, i, (o3, j2, (o4, (o5, i1, j3), d1))), d)) (g, (m, (m2, h, j), c)) f f2 =
    no_count n one es y m2 o2 m q o3 o5
    (omega (arith, l, next_shorter _ ts o2 i, ap length (one_rest _ _ us ts m2 o2 (sym e) h i)))
    (one_rest _ _ us ts m2 o2 (sym e) h i) v.0 v.1 w.0 j c j2 i1
atom_by n one (cast p to x) (cast p2 to2 y) ts us r q l e a b w v (g, (m, h, (m2, (m3, h1, j), c)))
    (g2, (o, i, (o2, (o3, i1, j2), d))) f f2 =
    let (same, end) = one x y m3 o3 m2 o2 (omega (arith, l, next_shorter _ ts m h, next_shorter _ m m3 h1))
    (one_rest _ _ m o m3 o3 (one_rest _ _ ts us m o e h i) h1 i1) w v j j2 (closed_by _ m2 r c refl refl)
    (closed_by _ o2 q d refl refl) in (
      (λ z. cast (one_place p p2 ts us e g g2 z)
          (cast_one to to2 (system_one (cast_name to) (cast_name to2) (one_kind _ _ ts us m o e h i)) z) (same z)),
      one_rest _ _ m2 o2 r q end c d,
    )
atom_by n one x y ts us r q l e a b w v h i f f2 = apart (heads_same x y ts us r q e a b h i)

begins_some : {A : Type 0} (x : Expr) (ts m : List Token) → length ts ≤ 0 → IsAtom x → Spells (spell x) ts m → A
begins_some (number p n) [] m l a h = absurd h.0
begins_some (tree.name p text ss) [] m l a h = absurd h.0
begins_some (paren p x) [] m l a h = absurd h.0
begins_some (concat p es) [] m l a h = absurd h.0
begins_some (repeat p n es) [] m l a h = absurd h.0
begins_some (cast p to x) [] m l a h = absurd h.0
begins_some x [] m l a h = absurd a
begins_some x (t ∷ ts) m l a h = absurd (omega (arith, l))

atoms_at : (n : ℕ) (x y : Expr) (ts us r q : List Token) → length ts ≤ n → ts ≡ us → IsAtom x → IsAtom y
    → IsWellFormed x → IsWellFormed y
    → Spells (spell x) ts r → Spells (spell y) us q → NoSelect r → NoSelect q → (x ≡ y) × (r ≡ q)
atoms_at zero x y ts us r q l e a b w v h i f f2 = begins_some x ts r l a h
atoms_at (suc n) x y ts us r q l e a b w v h i f f2 =
    atom_by n (one_by_atoms n (atoms_at n)) x y ts us r q l e a b w v h i f f2

one_at : (n : ℕ) → OneAt n
one_at n = one_by_atoms n (atoms_at n)

-- no two expressions are spelled by one list
pub one_expr : (x y : Expr) (ts us r q : List Token) → ts ≡ us → IsWellFormed x → IsWellFormed y
    → Spells (spell x) ts r → Spells (spell y) us q → Closed r → Closed q → (x ≡ y) × (r ≡ q)
one_expr x y ts us r q e w v h i f f2 = one_at (length ts) x y ts us r q (omega arith) e w v h i f f2

pub one_selects : (ss xs : Selects) (ts us r q : List Token) → ts ≡ us → AreSelects ss → AreSelects xs
    → Spells (spell_selects ss) ts r → Spells (spell_selects xs) us q → NoSelect r → NoSelect q → (ss ≡ xs) × (r ≡ q)
one_selects ss xs ts us r q e w v h i f f2 =
    selects (length ts) (one_at (length ts)) ss xs ts us r q (omega arith) e w v h i f f2
