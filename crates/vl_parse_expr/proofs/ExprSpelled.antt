-- What nodes of expressions spell, and what loops over their lists keep.
use Rattle.std.proofs.Common.{◌≡◌, List, [], ◌∷◌, ◌++◌, refl, sym, subst}
use Rattle.std.specs.Prelude.{Option, Some, None, Result, Ok, Err, IfOk}
use Rattle.fv_text.specs.declared.pos.Pos.{Pos}
use Rattle.fv_text.specs.declared.kind.Kind.{Kind}
use Rattle.fv_text.specs.declared.kind.Kind.TheVariants as k
use Rattle.fv_text.specs.declared.symbol.Symbol.{Symbol}
use Rattle.fv_text.specs.declared.symbol.Symbol.TheVariants as s
use Rattle.fv_text.specs.declared.token.Token.{Token}
use Rattle.vl_tree.specs.declared.operator.BinaryOperator.{BinaryOperator}
use Rattle.vl_tree.specs.declared.operator.BinaryOperator.TheVariants as b
use Rattle.vl_tree.specs.declared.expr.Select.{Select}
use Rattle.vl_tree.specs.declared.expr.Select.TheVariants as v
use Rattle.vl_tree.specs.Phrase.{Spells, IsNext, BeginsAt, sign, ◌▸◌}
use Rattle.vl_tree.specs.Expr.{Expr, Exprs, number, name, paren, unary, binary, conditional, concat, repeat}
use Rattle.vl_tree.specs.Expr.{cast, whole, bit, exprs}
use Rattle.vl_tree.specs.ExprView.{selects}
use Rattle.vl_tree.specs.ExprSpelling.{spell, spell_parts, spell_more, spell_selects, binary_sign}
use Rattle.vl_tree.specs.ExprWellFormed.{IsWellFormed, AreWellFormed, AreSelects, IsSome}
use Rattle.vl_parse_cursor.specs.declared.lead.Joint.TheVariants as joint
use Rattle.vl_parse_grammar.specs.Operators.{binary_of}
use Rattle.vl_parse_cursor.specs.Lead.{joint_of, joint_of_sign, joint_of_binary}
use Rattle.vl_parse_expr.specs.Levels.{place}

-- a fact of the value of a result, from another
pub if_ok_then : {A E : Type 0} (P Q : A → Type 0) (r : Result A E) → IfOk r P → ((x : A) → P x → Q x) → IfOk r Q
if_ok_then P Q (Ok x) h f = f x h
if_ok_then P Q (Err e) h f = tt

begins : (e : Expr) (ts rest : List Token) → Spells (spell e) ts rest → BeginsAt (place e) ts
begins (number p n) ts rest h = h.0
begins (name p text ss) ts rest h = h.0
begins (paren p a) ts rest h = h.0
begins (unary p op a) ts rest h = h.0
begins (binary p op a b) ts rest h = h.0
begins (conditional p c a b) ts rest h = h.0
begins (concat p es) ts rest h = h.0
begins (repeat p n es) ts rest h = h.0
begins (cast p to a) ts rest h = h.0

pub binary_spelled : (op : BinaryOperator) (a b : Expr) (start middle behind rest : List Token)
    → Spells (spell a) start middle
    → IsNext (k.Symbol (binary_sign op)) middle behind → Spells (spell b) behind rest
    → Spells (spell (binary (place a) op a b)) start rest
binary_spelled op a b start middle behind rest h i j = (begins a start middle h, (middle, h, (behind, i, j)))

pub conditional_spelled : (c a b : Expr) (start middle first colon second rest : List Token)
    → Spells (spell c) start middle
    → IsNext (k.Symbol s.Question) middle first → Spells (spell a) first colon → IsNext (k.Symbol s.Colon) colon second
    → Spells (spell b) second rest → Spells (spell (conditional (place c) c a b)) start rest
conditional_spelled c a b start middle first colon second rest h i j l m =
    (begins c start middle h, (middle, h, (first, i, (colon, j, (second, l, m)))))

-- the lists so far, and one more

more_pushed : (es : List Expr) (e : Expr) (start middle behind rest : List Token)
    → Spells (spell_more (exprs es)) start middle
    → IsNext (k.Symbol s.Comma) middle behind → Spells (spell e) behind rest
    → Spells (spell_more (exprs (es ++ e ∷ []))) start rest
more_pushed [] e start middle behind rest h i j =
    (behind, subst (λ ts. IsNext (k.Symbol s.Comma) ts behind) (sym h) i, (rest, j, refl))
more_pushed (x ∷ es) e start middle behind rest (m, h, (n, i, j)) l o =
    (m, h, (n, i, more_pushed es e n middle behind rest j l o))

pub parts_pushed : (es : List Expr) (e : Expr) (start middle behind rest : List Token) → IsSome (exprs es)
    → Spells (spell_parts (exprs es)) start middle
    → IsNext (k.Symbol s.Comma) middle behind → Spells (spell e) behind rest
    → Spells (spell_parts (exprs (es ++ e ∷ []))) start rest
parts_pushed [] e start middle behind rest n h i j = absurd n
parts_pushed (x ∷ es) e start middle behind rest n (m, h, l) i j = (m, h, more_pushed es e m middle behind rest l i j)

pub parts_first : (e : Expr) (start rest : List Token) → Spells (spell e) start rest
    → Spells (spell_parts (exprs (e ∷ []))) start rest
parts_first e start rest h = (rest, h, refl)

pub exprs_pushed : (es : List Expr) (e : Expr) → AreWellFormed (exprs es) → IsWellFormed e
    → AreWellFormed (exprs (es ++ e ∷ []))
exprs_pushed [] e h i = (i, tt)
exprs_pushed (x ∷ es) e h i = (h.0, exprs_pushed es e h.1 i)

pub exprs_some : (es : List Expr) (e : Expr) → IsSome (exprs (es ++ e ∷ []))
exprs_some [] e = tt
exprs_some (x ∷ es) e = tt

pub selects_pushed : (ss : List Select) (x : Select) (start middle rest : List Token)
    → Spells (spell_selects (selects ss)) start middle
    → Spells (spell_selects (selects (x ∷ []))) middle rest → Spells (spell_selects (selects (ss ++ x ∷ []))) start rest
selects_pushed [] x start middle rest h i = subst (λ ts. Spells (spell_selects (selects (x ∷ []))) ts rest) (sym h) i
selects_pushed (v.Bit p a ∷ ss) x start middle rest (m, h, j) i = (m, h, selects_pushed ss x m middle rest j i)
selects_pushed (v.Part p a b ∷ ss) x start middle rest (m, h, j) i = (m, h, selects_pushed ss x m middle rest j i)
selects_pushed (v.Indexed p a b ∷ ss) x start middle rest (m, h, j) i = (m, h, selects_pushed ss x m middle rest j i)

pub selects_formed : (ss : List Select) (x : Select) → AreSelects (selects ss) → AreSelects (selects (x ∷ []))
    → AreSelects (selects (ss ++ x ∷ []))
selects_formed [] x h i = i
selects_formed (v.Bit p a ∷ ss) x h i = (h.0, selects_formed ss x h.1 i)
selects_formed (v.Part p a b ∷ ss) x h i = (h.0, h.1, selects_formed ss x h.2 i)
selects_formed (v.Indexed p a b ∷ ss) x h i = (h.0, h.1, selects_formed ss x h.2 i)

pub concat_spelled : (p : Pos) (es : Exprs) (start inside rest : List Token) → BeginsAt p start
    → IsNext (k.Symbol s.OpenBrace) start inside
    → Spells (spell_parts es ▸ sign s.CloseBrace) inside rest → Spells (spell (concat p es)) start rest
concat_spelled p es start inside rest at o (m, h, i) = (at, (m, (inside, o, h), i))

pub repeat_spelled : (p : Pos) (n : Expr) (es : Exprs) (start inside middle inner behind rest : List Token)
    → BeginsAt p start
    → IsNext (k.Symbol s.OpenBrace) start inside → Spells (spell n) inside middle
    → IsNext (k.Symbol s.OpenBrace) middle inner
    → Spells (spell_parts es ▸ sign s.CloseBrace) inner behind → IsNext (k.Symbol s.CloseBrace) behind rest
    → Spells (spell (repeat p n es)) start rest
repeat_spelled p n es start inside middle inner behind rest at o h q (m, i, j) l =
    (at, (behind, (inside, o, (middle, h, (m, (inner, q, i), j))), l))

pub bit_spelled : (p : Pos) (a : Expr) (start inside close rest : List Token) → BeginsAt p start
    → IsNext (k.Symbol s.OpenBracket) start inside
    → Spells (spell a) inside close → IsNext (k.Symbol s.CloseBracket) close rest
    → Spells (spell_selects (bit p a whole)) start rest
bit_spelled p a start inside close rest at o h i = (rest, (at, (close, (inside, o, h), i)), refl)

joint_binary : (w : Symbol) (op : BinaryOperator) → joint_of_sign w ≡ joint.Binary op
    → k.Symbol w ≡ k.Symbol (binary_sign op)
joint_binary s.Star b.Multiply h = refl
joint_binary s.Slash b.Divide h = refl
joint_binary s.Percent b.Remainder h = refl
joint_binary s.Plus b.Add h = refl
joint_binary s.Minus b.Subtract h = refl
joint_binary s.LessLess b.ShiftLeft h = refl
joint_binary s.GreaterGreater b.ShiftRight h = refl
joint_binary s.LessLessLess b.ArithmeticShiftLeft h = refl
joint_binary s.GreaterGreaterGreater b.ArithmeticShiftRight h = refl
joint_binary s.Less b.Less h = refl
joint_binary s.LessEqual b.LessEqual h = refl
joint_binary s.Greater b.Greater h = refl
joint_binary s.GreaterEqual b.GreaterEqual h = refl
joint_binary s.EqualEqual b.Equal h = refl
joint_binary s.BangEqual b.NotEqual h = refl
joint_binary s.EqualEqualEqual b.CaseEqual h = refl
joint_binary s.BangEqualEqual b.CaseNotEqual h = refl
joint_binary s.And b.BitwiseAnd h = refl
joint_binary s.Caret b.BitwiseXor h = refl
joint_binary s.TildeCaret b.BitwiseXnor h = refl
joint_binary s.CaretTilde b.BitwiseXnorCaretFirst h = refl
joint_binary s.Or b.BitwiseOr h = refl
joint_binary s.AndAnd b.LogicalAnd h = refl
joint_binary s.OrOr b.LogicalOr h = refl
joint_binary w op h = cc

pub binary_kind : (t : Kind) (op : BinaryOperator) → joint_of t ≡ joint.Binary op → t ≡ k.Symbol (binary_sign op)
binary_kind (k.Symbol w) op h = joint_binary w op h
binary_kind t op h = cc

question_found : (found : Option BinaryOperator) → joint_of_binary found ≡ joint.Question → ⊥
question_found None h = cc
question_found (Some op) h = cc

question_sign : (w : Symbol) → joint_of_sign w ≡ joint.Question → k.Symbol w ≡ k.Symbol s.Question
question_sign s.Question h = refl
question_sign w h = absurd (question_found (binary_of w) h)

pub question_kind : (t : Kind) → joint_of t ≡ joint.Question → t ≡ k.Symbol s.Question
question_kind (k.Symbol w) h = question_sign w h
question_kind t h = cc

next_of : (kind : Kind) (t : Token) (tokens rest : List Token) → tokens ≡ t ∷ rest → t.kind ≡ kind
    → IsNext kind tokens rest
next_of kind t tokens rest e h = subst (λ ts. IsNext kind ts rest) (sym e) (h, refl)

pub binary_found : (op : BinaryOperator) (a b : Expr) (t : Token) (start tokens behind rest : List Token)
    → Spells (spell a) start tokens
    → tokens ≡ t ∷ behind → joint_of t.kind ≡ joint.Binary op → Spells (spell b) behind rest
    → Spells (spell (binary (place a) op a b)) start rest
binary_found op a b t start tokens behind rest h e j i =
    binary_spelled op a b start tokens behind rest h (next_of _ t tokens behind e (binary_kind t.kind op j)) i

pub conditional_found : (c a b : Expr) (t : Token) (start tokens behind colon second rest : List Token)
    → Spells (spell c) start tokens
    → tokens ≡ t ∷ behind → joint_of t.kind ≡ joint.Question → Spells (spell a) behind colon
    → Spells (sign s.Colon) colon second
    → Spells (spell b) second rest → Spells (spell (conditional (place c) c a b)) start rest
conditional_found c a b t start tokens behind colon second rest h e j i o l =
    conditional_spelled c a b start tokens behind colon second rest h
    (next_of _ t tokens behind e (question_kind t.kind j)) i o l

pub ruleset expr_spelled =
    (parts_pushed, parts_first, exprs_pushed, exprs_some, selects_pushed, selects_formed, bit_spelled)
