-- No two well formed expressions spell one list of tokens.
use Rattle.std.proofs.Common.{◌≡◌, ℕ, zero, suc, ◌≤◌, Bool, true, false, List, [], ◌∷◌, length, Some, None, refl, sym}
use Rattle.std.proofs.Common.{ap, ◌∙◌, arith}
use Rattle.fv_text.specs.declared.kind.Kind.{Kind}
use Rattle.fv_text.specs.declared.kind.Kind.TheVariants as k
use Rattle.fv_text.specs.declared.symbol.Symbol.TheVariants as s
use Rattle.fv_text.specs.declared.token.Token.{Token}
use Rattle.vl_tree.specs.declared.operator.UnaryOperator.{UnaryOperator}
use Rattle.vl_tree.specs.declared.operator.UnaryOperator.TheVariants as u
use Rattle.vl_tree.specs.declared.operator.BinaryOperator.{BinaryOperator}
use Rattle.vl_tree.specs.declared.operator.BinaryOperator.TheVariants as b
use Rattle.vl_tree.specs.Expr.{Expr, Exprs, Selects, number, paren, unary, binary, conditional, concat, repeat, cast}
use Rattle.vl_tree.specs.Expr.{none, whole, bit, part, indexed}
use Rattle.vl_tree.specs.Expr as tree
use Rattle.vl_tree.specs.ExprSpelling.{spell, unary_sign, binary_sign, cast_name}
use Rattle.vl_tree.specs.ExprWellFormed.{IsWellFormed}
use Rattle.vl_tree.specs.Phrase.{BeginsAt, IsNext, Spells}
use Rattle.vl_parse_grammar.specs.Operators.{unary_of, binary_of}
use Rattle.vl_parse_grammar.specs.Grammar as g
use Rattle.vl_parse_grammar.specs.Grammar.{on_more, on_selects}
use Rattle.vl_parse_grammar.proofs.Steps.{is_pop, apart}
use Rattle.vl_parse_grammar.proofs.ExprReads.{no_select}
use Rattle.vl_parse_grammar.proofs.OneToken.{first, next_first, next_shorter, one_rest, one_kind, one_place, differ}
use Rattle.vl_parse_grammar.proofs.OneToken.{shorter, symbol_same}
use Rattle.vl_parse_grammar.proofs.Build.{Elem, prefix_at, atom, operation, question, colon, flat, place_of, IsPlaced}
use Rattle.vl_parse_grammar.proofs.Build.{one_of_list}

-- no bracket of a select comes next
abbrev pub NoSelect : List Token → Type 0
NoSelect ts = is_pop (on_selects (first ts)) ≡ true

-- no operator comes next
abbrev pub NoMore : List Token → Type 0
NoMore ts = is_pop (on_more g.plain 0 0 (first ts)) ≡ true

pub by_first : (test : Kind → Bool) (kind : Kind) (ts m : List Token) → IsNext kind ts m → test kind ≡ true
    → test (first ts) ≡ true
by_first test kind ts m h e = ap test (next_first kind ts m h) ∙ e

abbrev pub is_select_end : Kind → Bool
is_select_end t = is_pop (on_selects t)

abbrev pub is_expr_end : Kind → Bool
is_expr_end t = is_pop (on_more g.plain 0 0 t)

unary_back : (op : UnaryOperator) → (elim (unary_of (unary_sign op)) as
    (λ _. UnaryOperator) [ Some o ↦ o | None ↦ u.Plus ]) ≡ op
unary_back u.Plus = refl
unary_back op = refl

unary_one : (x y : UnaryOperator) → unary_sign x ≡ unary_sign y → x ≡ y
unary_one x y h =
    sym (unary_back x) ∙ ap (λ z. elim (unary_of z) as (λ _. UnaryOperator) [ Some o ↦ o | None ↦ u.Plus ]) h
    ∙ unary_back y

binary_back : (op : BinaryOperator) → (elim (binary_of (binary_sign op)) as
    (λ _. BinaryOperator) [ Some o ↦ o | None ↦ b.Add ]) ≡ op
binary_back b.Multiply = refl
binary_back op = refl

binary_one : (x y : BinaryOperator) → binary_sign x ≡ binary_sign y → x ≡ y
binary_one x y h =
    sym (binary_back x) ∙ ap (λ z. elim (binary_of z) as (λ _. BinaryOperator) [ Some o ↦ o | None ↦ b.Add ]) h
    ∙ binary_back y

-- whether the kind is that of an operator before an operand
abbrev is_prefix : Kind → Bool
is_prefix (k.Symbol x) = elim (unary_of x) [ Some op ↦ true | None ↦ false ]
is_prefix t = false

prefix_true : (op : UnaryOperator) → is_prefix (k.Symbol (unary_sign op)) ≡ true
prefix_true u.Plus = refl
prefix_true op = refl

-- of an operator between operands
abbrev is_between : Kind → Bool
is_between (k.Symbol x) = elim (binary_of x) [ Some op ↦ true | None ↦ false ]
is_between t = false

between_true : (op : BinaryOperator) → is_between (k.Symbol (binary_sign op)) ≡ true
between_true b.Multiply = refl
between_true op = refl

more_false : (op : BinaryOperator) → is_expr_end (k.Symbol (binary_sign op)) ≡ false
more_false b.Multiply = refl
more_false op = refl

abbrev is_question : Kind → Bool
is_question (k.Symbol s.Question) = true
is_question t = false

abbrev pub IsAtom : Expr → Type 0
IsAtom (unary p op x) = ⊥
IsAtom (binary p op x y) = ⊥
IsAtom (conditional p x y z) = ⊥
IsAtom x = Unit {0}

abbrev SpellsFlat : List Elem → List Token → List Token → Type 0
SpellsFlat [] ts rest = ts ≡ rest
SpellsFlat (prefix_at p op ∷ r) ts rest =
    BeginsAt p ts × ((m : List Token) × IsNext (k.Symbol (unary_sign op)) ts m × SpellsFlat r m rest)
SpellsFlat (atom x ∷ r) ts rest = (m : List Token) × Spells (spell x) ts m × SpellsFlat r m rest
SpellsFlat (operation op ∷ r) ts rest = (m : List Token) × IsNext (k.Symbol (binary_sign op)) ts m × SpellsFlat r m rest
SpellsFlat (question ∷ r) ts rest = (m : List Token) × IsNext (k.Symbol s.Question) ts m × SpellsFlat r m rest
SpellsFlat (colon ∷ r) ts rest = (m : List Token) × IsNext (k.Symbol s.Colon) ts m × SpellsFlat r m rest

flat_spelled : (x : Expr) (r : List Elem) (ts m rest : List Token) → Spells (spell x) ts m → SpellsFlat r m rest
    → SpellsFlat (flat x r) ts rest
flat_spelled (number p n) r ts m rest h l = (m, h, l)
flat_spelled (tree.name p text ss) r ts m rest h l = (m, h, l)
flat_spelled (paren p x) r ts m rest h l = (m, h, l)
flat_spelled (concat p es) r ts m rest h l = (m, h, l)
flat_spelled (repeat p n es) r ts m rest h l = (m, h, l)
flat_spelled (cast p to x) r ts m rest h l = (m, h, l)
flat_spelled (unary p op x) r ts m rest (q, (i, h, j)) l = (q, (i, h, flat_spelled x r i m rest j l))
flat_spelled (binary p op x y) r ts m rest (q, (i, h, (o, j, f))) l =
    flat_spelled x (operation op ∷ flat y r) ts i rest h (o, j, flat_spelled y r o m rest f l)
flat_spelled (conditional p x y z) r ts m rest (q, (i, h, (o, j, (i2, f, (o2, e, v))))) l =
    flat_spelled x (question ∷ flat y (colon ∷ flat z r)) ts i rest h
    (o, j, flat_spelled y (colon ∷ flat z r) o i2 rest f (o2, e, flat_spelled z r o2 m rest v l))

begins : (x : Expr) (ts m : List Token) → Spells (spell x) ts m → BeginsAt (place_of x) ts
begins (number p n) ts m h = h.0
begins (tree.name p text ss) ts m h = h.0
begins (paren p x) ts m h = h.0
begins (concat p es) ts m h = h.0
begins (repeat p n es) ts m h = h.0
begins (cast p to x) ts m h = h.0
begins (unary p op x) ts m h = h.0
begins (binary p op x y) ts m h = h.0
begins (conditional p x y z) ts m h = h.0

placed : (x : Expr) (ts m : List Token) → Spells (spell x) ts m → IsPlaced x
placed (number p n) ts m h = tt
placed (tree.name p text ss) ts m h = tt
placed (paren p x) ts m h = tt
placed (concat p es) ts m h = tt
placed (repeat p n es) ts m h = tt
placed (cast p to x) ts m h = tt
placed (unary p op x) ts m (q, (i, h, j)) = placed x i m j
placed (binary p op x y) ts m (q, (i, h, (o, j, f))) =
    (one_place p (place_of x) ts ts refl q (begins x ts i h), placed x ts i h, placed y o m f)
placed (conditional p x y z) ts m (q, (i, h, (o, j, (i2, f, (o2, e, v))))) =
    (one_place p (place_of x) ts ts refl q (begins x ts i h), placed x ts i h, placed y o i2 f, placed z o2 m v)

-- operands and what is between them take turns; so many colons are to come
abbrev mutual
  IsOperand : List Elem → ℕ → Type 0
  IsOperand (prefix_at p op ∷ r) q = IsOperand r q
  IsOperand (atom x ∷ r) q = IsAtom x × IsWellFormed x × IsMore r q
  IsOperand r q = ⊥

  IsMore : List Elem → ℕ → Type 0
  IsMore [] zero = Unit {0}
  IsMore (operation op ∷ r) q = IsOperand r q
  IsMore (question ∷ r) q = IsOperand r (suc q)
  IsMore (colon ∷ r) (suc q) = IsOperand r q
  IsMore r q = ⊥

flat_turns : (x : Expr) (q : ℕ) (r : List Elem) → IsWellFormed x → IsMore r q → IsOperand (flat x r) q
flat_turns (number p n) q r w h = (tt, w, h)
flat_turns (tree.name p text ss) q r w h = (tt, w, h)
flat_turns (paren p x) q r w h = (tt, w, h)
flat_turns (concat p es) q r w h = (tt, w, h)
flat_turns (repeat p n es) q r w h = (tt, w, h)
flat_turns (cast p to x) q r w h = (tt, w, h)
flat_turns (unary p op x) q r w h = flat_turns x q r w.1 h
flat_turns (binary p op x y) q r w h = flat_turns x q (operation op ∷ flat y r) w.2 (flat_turns y q r w.3 h)
flat_turns (conditional p x y z) q r w h =
    flat_turns x q (question ∷ flat y (colon ∷ flat z r)) w.1
    (flat_turns y (suc q) (colon ∷ flat z r) w.2 (flat_turns z q r w.3 h))

atom_first : (x : Expr) (ts m : List Token) → IsAtom x → Spells (spell x) ts m → is_prefix (first ts) ≡ false
atom_first (number p n) ts m h i = ap is_prefix (next_first (k.Number n) ts m i.1)
atom_first (tree.name p text ss) ts m h (q, (o, i, j)) = ap is_prefix (next_first (k.Name text) ts o i)
atom_first (paren p x) ts m h (q, (o, (o2, i, j), l)) = ap is_prefix (next_first (k.Symbol s.OpenParen) ts o2 i)
atom_first (concat p es) ts m h (q, (o, (o2, i, j), l)) = ap is_prefix (next_first (k.Symbol s.OpenBrace) ts o2 i)
atom_first (repeat p n es) ts m h (q, (o, (o2, i, j), l)) = ap is_prefix (next_first (k.Symbol s.OpenBrace) ts o2 i)
atom_first (cast p to x) ts m h (q, (o, i, j)) = ap is_prefix (next_first (k.System (cast_name to)) ts o i)
atom_first (unary p op x) ts m h i = absurd h
atom_first (binary p op x y) ts m h i = absurd h
atom_first (conditional p x y z) ts m h i = absurd h

-- no bracket of a select comes behind an operand
flat_no_select : (r : List Elem) (q : ℕ) (m rest : List Token) → IsMore r q → SpellsFlat r m rest → NoSelect rest
    → NoSelect m
flat_no_select [] q m rest h i l = ap (λ ts. is_select_end (first ts)) i ∙ l
flat_no_select (operation op ∷ r) q m rest h (o, i, j) l =
    by_first is_select_end (k.Symbol (binary_sign op)) m o i (no_select op)
flat_no_select (question ∷ r) q m rest h (o, i, j) l = by_first is_select_end (k.Symbol s.Question) m o i refl
flat_no_select (colon ∷ r) q m rest h (o, i, j) l = by_first is_select_end (k.Symbol s.Colon) m o i refl
flat_no_select (prefix_at p op ∷ r) zero m rest h i l = absurd h
flat_no_select (prefix_at p op ∷ r) (suc q) m rest h i l = absurd h
flat_no_select (atom x ∷ r) zero m rest h i l = absurd h
flat_no_select (atom x ∷ r) (suc q) m rest h i l = absurd h

clash : {A : Type 0} (test : Kind → Bool) (kind : Kind) (ts us m : List Token) → ts ≡ us → IsNext kind ts m
    → test kind ≡ true
    → test (first us) ≡ false → A
clash test kind ts us m e h i f =
    apart (sym f ∙ sym (ap (λ vs. test (first vs)) e) ∙ ap test (next_first kind ts m h) ∙ i)

differ_end : {A : Type 0} (op : BinaryOperator) (ts m r : List Token) → ts ≡ r
    → IsNext (k.Symbol (binary_sign op)) ts m → NoMore r → A
differ_end op ts m r e h f =
    apart (sym (more_false op) ∙ sym (ap is_expr_end (next_first (k.Symbol (binary_sign op)) ts m h))
    ∙ ap (λ us. is_expr_end (first us)) e ∙ f)

question_end : {A : Type 0} (ts m r : List Token) → ts ≡ r → IsNext (k.Symbol s.Question) ts m → NoMore r → A
question_end ts m r e h f =
    apart (sym (ap is_expr_end (next_first (k.Symbol s.Question) ts m h)) ∙ ap (λ us. is_expr_end (first us)) e ∙ f)

module _ (n : ℕ)
    (one_atom : (x y : Expr) (ts us r q : List Token) → length ts ≤ n → ts ≡ us → IsAtom x → IsAtom y
    → IsWellFormed x → IsWellFormed y
    → Spells (spell x) ts r → Spells (spell y) us q → NoSelect r → NoSelect q → (x ≡ y) × (r ≡ q)) where
  mutual
    one_operand : (x y : List Elem) (d : ℕ) (ts us r q : List Token) → length ts ≤ n → ts ≡ us → IsOperand x d
        → IsOperand y d
        → SpellsFlat x ts r → SpellsFlat y us q → NoSelect r × NoMore r → NoSelect q × NoMore q → (x ≡ y) × (r ≡ q)
    one_operand (prefix_at p op ∷ x) (prefix_at p2 op2 ∷ y) d ts us r q l e a a2 (i, (m, h, j)) (i2, (o, h2, j2)) f f2 =
        let same = unary_one op op2 (symbol_same (unary_sign op) (unary_sign op2) (one_kind _ _ ts us m o e h h2)) in
        let (others, end) = one_operand x y d m o r q (omega (arith, l, next_shorter _ ts m h))
        (one_rest _ _ ts us m o e h h2) a a2 j j2 f f2 in
        ((λ v. prefix_at (one_place p p2 ts us e i i2 v) (same v) ∷ others v), end)
    one_operand (atom z ∷ x) (atom z2 ∷ y) d ts us r q l e a a2 (m, h, j) (o, h2, j2) f f2 =
        let (first_same, rest_same) = one_atom z z2 ts us m o l e a.0 a2.0 a.1 a2.1 h h2
        (flat_no_select x d m r a.2 j f.0) (flat_no_select y d o q a2.2 j2 f2.0) in
        let (others, end) = one_more x y d m o r q
        (omega (arith, l, shorter (spell z) ts m h)) rest_same a.2 a2.2 j j2 f f2 in
        ((λ v. atom (first_same v) ∷ others v), end)
    one_operand (prefix_at p op ∷ x) (atom z ∷ y) d ts us r q l e a a2 (i, (m, h, j)) (o, h2, j2) f f2 =
        clash is_prefix (k.Symbol (unary_sign op)) ts us m e h (prefix_true op) (atom_first z us o a2.0 h2)
    one_operand (atom z ∷ x) (prefix_at p op ∷ y) d ts us r q l e a a2 (o, h2, j2) (i, (m, h, j)) f f2 =
        clash is_prefix (k.Symbol (unary_sign op)) us ts m (sym e) h (prefix_true op) (atom_first z ts o a.0 h2)
    one_operand x (operation op ∷ y) d ts us r q l e a a2 h i f f2 = absurd a2
    one_operand x (question ∷ y) d ts us r q l e a a2 h i f f2 = absurd a2
    one_operand x (colon ∷ y) d ts us r q l e a a2 h i f f2 = absurd a2
    one_operand x [] d ts us r q l e a a2 h i f f2 = absurd a2
    one_operand x (prefix_at p op ∷ y) d ts us r q l e a a2 h i f f2 = absurd a
    one_operand x (atom z ∷ y) d ts us r q l e a a2 h i f f2 = absurd a

    one_more : (x y : List Elem) (d : ℕ) (ts us r q : List Token) → length ts ≤ n → ts ≡ us → IsMore x d → IsMore y d
        → SpellsFlat x ts r → SpellsFlat y us q → NoSelect r × NoMore r → NoSelect q × NoMore q → (x ≡ y) × (r ≡ q)
    one_more [] [] d ts us r q l e a a2 h h2 f f2 = (refl, sym h ∙ e ∙ h2)
    one_more [] (operation op ∷ y) d ts us r q l e a a2 h (o, i, j) f f2 =
        differ_end op us o r (sym (sym h ∙ e)) i f.1
    one_more (operation op ∷ x) [] d ts us r q l e a a2 (m, i, j) h f f2 = differ_end op ts m q (e ∙ h) i f2.1
    one_more [] (question ∷ y) d ts us r q l e a a2 h (o, i, j) f f2 = question_end us o r (sym (sym h ∙ e)) i f.1
    one_more (question ∷ x) [] d ts us r q l e a a2 (m, i, j) h f f2 = question_end ts m q (e ∙ h) i f2.1
    one_more (operation op ∷ x) (operation op2 ∷ y) d ts us r q l e a a2 (m, h, j) (o, h2, j2) f f2 =
        let same = binary_one op op2 (symbol_same (binary_sign op) (binary_sign op2) (one_kind _ _ ts us m o e h h2)) in
        let (others, end) = one_operand x y d m o r q (omega (arith, l, next_shorter _ ts m h))
        (one_rest _ _ ts us m o e h h2) a a2 j j2 f f2 in
        ((λ v. operation (same v) ∷ others v), end)
    one_more (question ∷ x) (question ∷ y) d ts us r q l e a a2 (m, h, j) (o, h2, j2) f f2 =
        let (others, end) = one_operand x y (suc d) m o r q (omega (arith, l, next_shorter _ ts m h))
        (one_rest _ _ ts us m o e h h2) a a2 j j2 f f2 in
        (ap (λ z. question ∷ z) others, end)
    one_more (colon ∷ x) (colon ∷ y) (suc d) ts us r q l e a a2 (m, h, j) (o, h2, j2) f f2 =
        let (others, end) = one_operand x y d m o r q (omega (arith, l, next_shorter _ ts m h))
        (one_rest _ _ ts us m o e h h2) a a2 j j2 f f2 in
        (ap (λ z. colon ∷ z) others, end)
    one_more (operation op ∷ x) (question ∷ y) d ts us r q l e a a2 (m, h, j) (o, h2, j2) f f2 =
        differ is_between _ _ ts us m o e h h2 (between_true op) refl
    one_more (question ∷ x) (operation op ∷ y) d ts us r q l e a a2 (m, h, j) (o, h2, j2) f f2 =
        differ is_between _ _ us ts o m (sym e) h2 h (between_true op) refl
    one_more (operation op ∷ x) (colon ∷ y) (suc d) ts us r q l e a a2 (m, h, j) (o, h2, j2) f f2 =
        differ is_between _ _ ts us m o e h h2 (between_true op) refl
    one_more (colon ∷ x) (operation op ∷ y) (suc d) ts us r q l e a a2 (m, h, j) (o, h2, j2) f f2 =
        differ is_between _ _ us ts o m (sym e) h2 h (between_true op) refl
    one_more (question ∷ x) (colon ∷ y) (suc d) ts us r q l e a a2 (m, h, j) (o, h2, j2) f f2 =
        differ is_question _ _ ts us m o e h h2 refl refl
    one_more (colon ∷ x) (question ∷ y) (suc d) ts us r q l e a a2 (m, h, j) (o, h2, j2) f f2 =
        differ is_question _ _ us ts o m (sym e) h2 h refl refl
    one_more x (prefix_at p op ∷ y) zero ts us r q l e a a2 h i f f2 = absurd a2
    one_more x (prefix_at p op ∷ y) (suc d) ts us r q l e a a2 h i f f2 = absurd a2
    one_more x (atom z ∷ y) zero ts us r q l e a a2 h i f f2 = absurd a2
    one_more x (atom z ∷ y) (suc d) ts us r q l e a a2 h i f f2 = absurd a2
    one_more x (colon ∷ y) zero ts us r q l e a a2 h i f f2 = absurd a2
    one_more (colon ∷ x) y zero ts us r q l e a a2 h i f f2 = absurd a
    one_more [] y (suc d) ts us r q l e a a2 h i f f2 = absurd a
    one_more x [] (suc d) ts us r q l e a a2 h i f f2 = absurd a2
    one_more (prefix_at p op ∷ x) y zero ts us r q l e a a2 h i f f2 = absurd a
    one_more (prefix_at p op ∷ x) y (suc d) ts us r q l e a a2 h i f f2 = absurd a
    one_more (atom z ∷ x) y zero ts us r q l e a a2 h i f f2 = absurd a
    one_more (atom z ∷ x) y (suc d) ts us r q l e a a2 h i f f2 = absurd a

  pub one_by_atoms : (x y : Expr) (ts us r q : List Token) → length ts ≤ n → ts ≡ us → IsWellFormed x → IsWellFormed y
      → Spells (spell x) ts r → Spells (spell y) us q → NoSelect r × NoMore r → NoSelect q × NoMore q → (x ≡ y)
      × (r ≡ q)
  one_by_atoms x y ts us r q l e w v h i f f2 =
      let (same, end) = one_operand (flat x []) (flat y []) 0 ts us r q l e (flat_turns x 0 [] w tt)
      (flat_turns y 0 [] v tt)
      (flat_spelled x [] ts r r h refl) (flat_spelled y [] us q q i refl) f f2 in
      (one_of_list x y w v (placed x ts r h) (placed y us q i) same, end)
