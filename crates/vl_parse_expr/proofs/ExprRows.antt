-- What is read of expressions, row by row.
use Rattle.std.proofs.Common.{◌≡◌, ℕ, zero, suc, ◌+◌, ◌-◌, ◌≤◌, ◌<◌, Bool, true, false, List, [], ◌∷◌, length, refl}
use Rattle.std.proofs.Common.{sym, ap, ◌∙◌, arith}
use Rattle.std.specs.Prelude.{Ok, Err, Option, Some, None}
use Rattle.fv_text.specs.declared.kind.Kind.{Kind}
use Rattle.fv_text.specs.declared.kind.Kind.TheVariants as k
use Rattle.fv_text.specs.declared.number.Number.{Number}
use Rattle.fv_text.specs.declared.symbol.Symbol.{Symbol}
use Rattle.fv_text.specs.declared.symbol.Symbol.TheVariants as s
use Rattle.vl_tree.specs.declared.operator.UnaryOperator.{UnaryOperator}
use Rattle.vl_tree.specs.declared.operator.BinaryOperator.{BinaryOperator}
use Rattle.vl_tree.specs.declared.operator.Cast.{Cast}
use Rattle.vl_parse_grammar.specs.Machine as machine
use Rattle.vl_parse_grammar.specs.Machine.{Move, take, bad, syntax, deep, then}
use Rattle.vl_parse_grammar.specs.Operators.{unary_of, binary_of, cast_of}
use Rattle.vl_parse_grammar.specs.Grammar.{Rule, Stand, plain, first_in_braces, Outcome, expand, read, sign, expr}
use Rattle.vl_parse_grammar.specs.Grammar.{operand}
use Rattle.vl_parse_grammar.specs.Grammar.{more, selects, select_end, parts, in_parens, is_known, if_known, on_operand}
use Rattle.vl_parse_grammar.specs.Grammar.{on_operand_sign, on_unary, on_cast, on_binary}
use Rattle.vl_parse_cursor.specs.declared.lead.Lead.{Lead}
use Rattle.vl_parse_cursor.specs.declared.lead.Lead.TheVariants as lead
use Rattle.vl_parse_cursor.specs.declared.lead.Joint.{Joint}
use Rattle.vl_parse_cursor.specs.declared.lead.Joint.TheVariants as joint
use Rattle.vl_parse_cursor.specs.Lead.{lead_of, lead_of_number, lead_of_unary, lead_of_sign, lead_of_cast, joint_of}
use Rattle.vl_parse_cursor.specs.Lead.{joint_of_binary, joint_of_sign}
use Rattle.vl_parse_expr.specs.Levels.{Rests, RestsAt}
use Rattle.vl_parse_cursor.specs.Next.{IsOther, behind, behind_name}
use Rattle.vl_tree.specs.declared.operator.BinaryOperator.TheVariants as b
use Rattle.vl_tree.specs.ExprWellFormed.{binds}
use Rattle.vl_parse_cursor.proofs.Tokens.{sign_row, kinds_length, name_here}
use Rattle.vl_parse_cursor.specs.Parts.{row_read, row_deep, row_bad}

abbrev pub is_unary : Lead → Bool
is_unary (lead.Unary op) = true
is_unary l = false

abbrev pub is_binary : Joint → Bool
is_binary (joint.Binary op) = true
is_binary j = false

-- what an operand's first token makes, by what it begins
abbrev pub by_lead : Stand → ℕ → ℕ → Lead → Move Rule
by_lead st c o (lead.Number n) = take 0 ((more st c o, 0) ∷ [])
by_lead st c o lead.Name = take 0 ((selects, o) ∷ (more st c o, 0) ∷ [])
by_lead st c o lead.Paren = take (suc o) ((expr, suc o) ∷ (sign s.CloseParen, 0) ∷ (more st c o, 0) ∷ [])
by_lead st c o lead.Brace = take (suc o) ((operand first_in_braces 0 0, suc o) ∷ (more st c o, 0) ∷ [])
by_lead st c o (lead.Unary op) = take (suc o) ((operand st c (suc o), 0) ∷ [])
by_lead st c o (lead.Cast to) = take 0 ((in_parens, o) ∷ (more st c o, 0) ∷ [])
by_lead st c o lead.Nothing = bad

lead_number : (st : Stand) (c o : ℕ) (n : Number) (b : Bool)
    → if_known b (take 0 ((more st c o, 0) ∷ [])) ≡ by_lead st c o (lead_of_number b n)
lead_number st c o n true = refl
lead_number st c o n false = refl

lead_unary : (st : Stand) (c o : ℕ) (op : Option UnaryOperator) → on_unary st c o op ≡ by_lead st c o (lead_of_unary op)
lead_unary st c o None = refl
lead_unary st c o (Some op) = refl

lead_cast : (st : Stand) (c o : ℕ) (to : Option Cast) → on_cast st c o to ≡ by_lead st c o (lead_of_cast to)
lead_cast st c o None = refl
lead_cast st c o (Some to) = refl

lead_sign : (st : Stand) (c o : ℕ) (w : Symbol) → on_operand_sign st c o w ≡ by_lead st c o (lead_of_sign w)
lead_sign st c o s.OpenParen = refl
lead_sign st c o s.OpenBrace = refl
lead_sign st c o w = lead_unary st c o (unary_of w)

pub lead_made : (st : Stand) (c o : ℕ) (t : Kind) → on_operand st c o t ≡ by_lead st c o (lead_of t)
lead_made st c o (k.Number n) = lead_number st c o n (is_known n)
lead_made st c o (k.Symbol w) = lead_sign st c o w
lead_made st c o (k.System text) = lead_cast st c o (cast_of text)
lead_made st c o (k.Name text) = refl
lead_made st c o t = refl

made : (st : Stand) (c o : ℕ) (t : Kind) (l : Lead) → lead_of t ≡ l → expand (operand st c o) t ≡ by_lead st c o l
made st c o t l h = lead_made st c o t ∙ ap (by_lead st c o) h

pub operand_end : (st : Stand) (c o n : ℕ) → read (operand st c o) n [] ≡ Err (syntax 0)
unfolding read machine.reads
operand_end st c o n = refl

pub operand_number : (st : Stand) (c o n : ℕ) (t : Kind) (ts : List Kind) (m : Number) → lead_of t ≡ lead.Number m
    → read (operand st c o) n (t ∷ ts) ≡ read (more st c o) n ts
operand_number st c o n t ts m h = row_read (operand st c o) n t ts 0 _ (made st c o t _ h) (omega arith)

name_after : (st : Stand) (c o n : ℕ) (text : List ℕ) (ts : List Kind)
    → read (operand st c o) n (k.Name text ∷ ts) ≡ then (read selects (n - o) ts) (λ r. read (more st c o) n r)
name_after st c zero n text ts = row_read (operand st c 0) n (k.Name text) ts 0 _ refl (omega arith)
    ∙ ap (λ m. then (read selects m ts) (λ r. read (more st c 0) n r)) (omega arith)
name_after st c (suc o) n text ts = row_read (operand st c (suc o)) n (k.Name text) ts 0 _ refl (omega arith)

name_sign : (w : Symbol) → lead_of_sign w ≡ lead.Name → ⊥
name_sign s.OpenParen h = absurd (differ h)
  where
    differ : lead.Paren ≡ lead.Name → ⊥
    differ h = cc
name_sign s.OpenBrace h = absurd (differ h)
  where
    differ : lead.Brace ≡ lead.Name → ⊥
    differ h = cc
name_sign w h = by_unary (unary_of w) h
  where
    by_unary : (op : Option UnaryOperator) → lead_of_unary op ≡ lead.Name → ⊥
    by_unary None h = cc
    by_unary (Some op) h = cc

pub operand_name : (st : Stand) (c o n : ℕ) (t : Kind) (ts : List Kind) → lead_of t ≡ lead.Name
    → read (operand st c o) n (t ∷ ts) ≡ then (behind_name (t ∷ ts))
    (λ u. then (read selects (n - o) u) (λ r. read (more st c o) n r))
operand_name st c o n (k.Name text) ts h = name_after st c o n text ts
    ∙ ap (λ a. then a (λ u. then (read selects (n - o) u) (λ r. read (more st c o) n r))) (sym (name_here text ts))
operand_name st c o n (k.Symbol w) ts h = absurd (name_sign w h)
operand_name st c o n (k.Number m) ts h = by_known (is_known m) h
  where
    by_known : (b : Bool) → lead_of_number b m ≡ lead.Name
        → read (operand st c o) n (k.Number m ∷ ts) ≡
        then (behind_name (k.Number m ∷ ts)) (λ u. then (read selects (n - o) u) (λ r. read (more st c o) n r))
    by_known true h = cc
    by_known false h = cc
operand_name st c o n (k.System text) ts h = by_cast (cast_of text) h
  where
    by_cast : (to : Option Cast) → lead_of_cast to ≡ lead.Name
        → read (operand st c o) n (k.System text ∷ ts) ≡
        then (behind_name (k.System text ∷ ts)) (λ u. then (read selects (n - o) u) (λ r. read (more st c o) n r))
    by_cast None h = cc
    by_cast (Some to) h = cc
operand_name st c o n t ts h = cc

pub operand_cast : (st : Stand) (c o n : ℕ) (t : Kind) (ts : List Kind) (to : Cast) → lead_of t ≡ lead.Cast to
    → read (operand st c o) n (t ∷ ts) ≡ then (read in_parens (n - o) ts) (λ r. read (more st c o) n r)
operand_cast st c zero n t ts to h = row_read (operand st c 0) n t ts 0 _ (made st c 0 t _ h) (omega arith)
    ∙ ap (λ m. then (read in_parens m ts) (λ r. read (more st c 0) n r)) (omega arith)
operand_cast st c (suc o) n t ts to h =
    row_read (operand st c (suc o)) n t ts 0 _ (made st c (suc o) t _ h) (omega arith)

pub operand_brace : (st : Stand) (c o n : ℕ) (t : Kind) (ts : List Kind) → lead_of t ≡ lead.Brace → 0 < n - o
    → read (operand st c o) n (t ∷ ts) ≡ then (read (operand first_in_braces 0 0) (n - o - 1) ts)
    (λ r. read (more st c o) n r)
operand_brace st c o n t ts h l = row_read (operand st c o) n t ts (suc o) _ (made st c o t _ h) (omega (arith, l))
    ∙ ap (λ m. then (read (operand first_in_braces 0 0) m ts) (λ r. read (more st c o) n r)) (omega (arith, l))

pub operand_brace_deep : (st : Stand) (c o n : ℕ) (t : Kind) (ts : List Kind) → lead_of t ≡ lead.Brace → n - o ≡ 0
    → read (operand st c o) n (t ∷ ts) ≡ Err (deep (suc (length ts)))
operand_brace_deep st c o n t ts h l = row_deep (operand st c o) n t ts (suc o) _ (made st c o t _ h) (omega (arith, l))

unary_move : (st : Stand) (c o : ℕ) (t : Kind) (l : Lead) → lead_of t ≡ l → is_unary l ≡ true
    → expand (operand st c o) t ≡ take (suc o) ((operand st c (suc o), 0) ∷ [])
unary_move st c o t (lead.Unary op) e h = made st c o t (lead.Unary op) e
unary_move st c o t (lead.Number n) e h = cc
unary_move st c o t lead.Name e h = cc
unary_move st c o t lead.Paren e h = cc
unary_move st c o t lead.Brace e h = cc
unary_move st c o t (lead.Cast to) e h = cc
unary_move st c o t lead.Nothing e h = cc

pub operand_unary : (st : Stand) (c o n : ℕ) (t : Kind) (ts : List Kind) → is_unary (lead_of t) ≡ true → o < n
    → read (operand st c o) n (t ∷ ts) ≡ read (operand st c (o + 1)) n ts
operand_unary st c o n t ts h l =
    row_read (operand st c o) n t ts (suc o) _ (unary_move st c o t (lead_of t) refl h) (omega (arith, l))
    ∙ ap (λ m. read (operand st c m) n ts) (omega arith)

pub operand_unary_deep : (st : Stand) (c o n : ℕ) (t : Kind) (ts : List Kind) → is_unary (lead_of t) ≡ true → o ≡ n
    → read (operand st c o) n (t ∷ ts) ≡ Err (deep (suc (length ts)))
operand_unary_deep st c o n t ts h l =
    row_deep (operand st c o) n t ts (suc o) _ (unary_move st c o t (lead_of t) refl h) (omega (arith, l))

pub operand_wrong : (st : Stand) (c o n : ℕ) (t : Kind) (ts : List Kind) → lead_of t ≡ lead.Nothing
    → read (operand st c o) n (t ∷ ts) ≡ Err (syntax (suc (length ts)))
operand_wrong st c o n t ts h = row_bad (operand st c o) n t ts (made st c o t _ h)

-- brackets

pub parens_row : (n : ℕ) (ts : List Kind) → 0 < n
    → read in_parens n (k.Symbol s.OpenParen ∷ ts) ≡ then (read expr (n - 1) ts) (λ r. read (sign s.CloseParen) n r)
parens_row n ts h = row_read in_parens n (k.Symbol s.OpenParen) ts 1 _ refl h

pub parens_deep : (n : ℕ) (ts : List Kind) → n ≡ 0
    → read in_parens n (k.Symbol s.OpenParen ∷ ts) ≡ Err (deep (suc (length ts)))
parens_deep n ts h = row_deep in_parens n (k.Symbol s.OpenParen) ts 1 _ refl (omega (arith, h))

pub parens_wrong : (n : ℕ) (ts : List Kind) → IsOther (k.Symbol s.OpenParen) ts
    → read in_parens n ts ≡ Err (syntax (length ts))
unfolding read machine.reads
parens_wrong n [] h = refl
parens_wrong n (k.Symbol s.OpenParen ∷ ts) h = absurd (h refl)
parens_wrong n (t ∷ ts) h = refl

paren_sign : (w : Symbol) → lead_of_sign w ≡ lead.Paren → k.Symbol w ≡ k.Symbol s.OpenParen
paren_sign s.OpenParen h = refl
paren_sign w h = cc

-- an operand in brackets
pub lead_paren : (t : Kind) → lead_of t ≡ lead.Paren → t ≡ k.Symbol s.OpenParen
lead_paren (k.Symbol w) h = paren_sign w h
lead_paren (k.Number n) h = by_known (is_known n) h
  where
    by_known : (b : Bool) → lead_of_number b n ≡ lead.Paren → k.Number n ≡ k.Symbol s.OpenParen
    by_known true h = cc
    by_known false h = cc
lead_paren (k.System text) h = by_cast (cast_of text) h
  where
    by_cast : (to : Option Cast) → lead_of_cast to ≡ lead.Paren → k.System text ≡ k.Symbol s.OpenParen
    by_cast None h = cc
    by_cast (Some to) h = cc
lead_paren t h = cc

then_then : (a : Outcome) (f g : List Kind → Outcome) → then (then a f) g ≡ then a (λ r. then (f r) g)
then_then (Ok r) f g = refl
then_then (Err e) f g = refl

sign_room : (w : Symbol) (m n : ℕ) (ts : List Kind) → read (sign w) m ts ≡ read (sign w) n ts
sign_room w m n ts = sign_row w m ts ∙ sym (sign_row w n ts)

paren_room : (st : Stand) (c o n : ℕ) (ts : List Kind) → 0 < n - o
    → read (operand st c o) n (k.Symbol s.OpenParen ∷ ts) ≡
    then (read in_parens (n - o) (k.Symbol s.OpenParen ∷ ts)) (λ r. read (more st c o) n r)
paren_room st c o n ts l =
    row_read (operand st c o) n (k.Symbol s.OpenParen) ts (suc o) _ refl (omega (arith, l))
    ∙ ap (λ m. then (read expr m ts) (λ r. then (read (sign s.CloseParen) n r) (λ q. read (more st c o) n q)))
    (omega (arith, l))
    ∙ ap (λ f. then (read expr (n - o - 1) ts) f)
    (λ i r. then (sign_room s.CloseParen n (n - o) r i) (λ q. read (more st c o) n q))
    ∙ sym (then_then (read expr (n - o - 1) ts) (λ r. read (sign s.CloseParen) (n - o) r) (λ r. read (more st c o) n r))
    ∙ ap (λ a. then a (λ r. read (more st c o) n r)) (sym (parens_row (n - o) ts l))

paren_full : (st : Stand) (c o n : ℕ) (ts : List Kind) → n - o ≡ 0
    → read (operand st c o) n (k.Symbol s.OpenParen ∷ ts) ≡
    then (read in_parens (n - o) (k.Symbol s.OpenParen ∷ ts)) (λ r. read (more st c o) n r)
paren_full st c o n ts l =
    row_deep (operand st c o) n (k.Symbol s.OpenParen) ts (suc o) _ refl (omega (arith, l))
    ∙ ap (λ a. then a (λ r. read (more st c o) n r)) (sym (parens_deep (n - o) ts l))

paren_left : (m : ℕ) (st : Stand) (c o n : ℕ) (ts : List Kind) → n - o ≡ m
    → read (operand st c o) n (k.Symbol s.OpenParen ∷ ts) ≡
    then (read in_parens (n - o) (k.Symbol s.OpenParen ∷ ts)) (λ r. read (more st c o) n r)
paren_left zero st c o n ts e = paren_full st c o n ts e
paren_left (suc m) st c o n ts e = paren_room st c o n ts (omega (arith, e))

pub operand_paren : (st : Stand) (c o n : ℕ) (t : Kind) (ts : List Kind) → lead_of t ≡ lead.Paren
    → read (operand st c o) n (t ∷ ts) ≡ then (read in_parens (n - o) (t ∷ ts)) (λ r. read (more st c o) n r)
operand_paren st c o n t ts h = rw (lead_paren t h) (paren_left (n - o) st c o n ts refl)

-- behind an operand

by_operator : (st : Stand) (c o : ℕ) (w : Symbol) (found : Option BinaryOperator) (op : BinaryOperator)
    → joint_of_binary found ≡ joint.Binary op → on_binary st c o w found ≡ take (suc o) ((operand st c (suc o), 0) ∷ [])
by_operator st c o w None op h = cc
by_operator st c o w (Some found) op h = refl

binary_sign_made : (st : Stand) (c o : ℕ) (w : Symbol) (op : BinaryOperator) → joint_of_sign w ≡ joint.Binary op
    → on_binary st c o w (binary_of w) ≡ take (suc o) ((operand st c (suc o), 0) ∷ [])
binary_sign_made st c o s.Question op h = cc
binary_sign_made st c o w op h = by_operator st c o w (binary_of w) op h

binary_made : (st : Stand) (c o : ℕ) (t : Kind) (op : BinaryOperator) → joint_of t ≡ joint.Binary op
    → expand (more st c o) t ≡ take (suc o) ((operand st c (suc o), 0) ∷ [])
binary_made st c o (k.Symbol w) op h = binary_sign_made st c o w op h
binary_made st c o t op h = cc

binary_move : (st : Stand) (c o : ℕ) (t : Kind) (j : Joint) → joint_of t ≡ j → is_binary j ≡ true
    → expand (more st c o) t ≡ take (suc o) ((operand st c (suc o), 0) ∷ [])
binary_move st c o t (joint.Binary op) e h = binary_made st c o t op e
binary_move st c o t joint.Question e h = cc
binary_move st c o t joint.Nothing e h = cc

pub more_binary : (st : Stand) (c o n : ℕ) (t : Kind) (ts : List Kind) → is_binary (joint_of t) ≡ true → o < n
    → read (more st c o) n (t ∷ ts) ≡ read (operand st c (o + 1)) n ts
more_binary st c o n t ts h l =
    row_read (more st c o) n t ts (suc o) _ (binary_move st c o t (joint_of t) refl h) (omega (arith, l))
    ∙ ap (λ m. read (operand st c m) n ts) (omega arith)

pub more_binary_deep : (st : Stand) (c o n : ℕ) (t : Kind) (ts : List Kind) → is_binary (joint_of t) ≡ true → o ≡ n
    → read (more st c o) n (t ∷ ts) ≡ Err (deep (suc (length ts)))
more_binary_deep st c o n t ts h l =
    row_deep (more st c o) n t ts (suc o) _ (binary_move st c o t (joint_of t) refl h) (omega (arith, l))

question_found : (found : Option BinaryOperator) → joint_of_binary found ≡ joint.Question → ⊥
question_found None h = absurd (differ h)
  where
    differ : joint.Nothing ≡ joint.Question → ⊥
    differ h = cc
question_found (Some op) h = absurd (differ h)
  where
    differ : joint.Binary op ≡ joint.Question → ⊥
    differ h = cc

question_sign : (w : Symbol) → joint_of_sign w ≡ joint.Question → w ≡ s.Question
question_sign s.Question h = refl
question_sign w h = absurd (question_found (binary_of w) h)

question_made : (st : Stand) (c o : ℕ) (t : Kind) → joint_of t ≡ joint.Question
    → expand (more st c o) t ≡ take (suc o) ((operand st (suc c) (suc o), 0) ∷ [])
question_made st c o (k.Symbol w) h = ap (λ w. on_binary st c o w (binary_of w)) (question_sign w h)
question_made st c o t h = cc

pub more_question : (st : Stand) (c o n : ℕ) (t : Kind) (ts : List Kind) → joint_of t ≡ joint.Question → o < n
    → read (more st c o) n (t ∷ ts) ≡ read (operand st (c + 1) (o + 1)) n ts
more_question st c o n t ts h l = row_read (more st c o) n t ts (suc o) _ (question_made st c o t h) (omega (arith, l))
    ∙ ap (λ m. read (operand st m (suc o)) n ts) (omega arith)
    ∙ ap (λ m. read (operand st (c + 1) m) n ts) (omega arith)

pub more_question_deep : (st : Stand) (c o n : ℕ) (t : Kind) (ts : List Kind) → joint_of t ≡ joint.Question → o ≡ n
    → read (more st c o) n (t ∷ ts) ≡ Err (deep (suc (length ts)))
more_question_deep st c o n t ts h l =
    row_deep (more st c o) n t ts (suc o) _ (question_made st c o t h) (omega (arith, l))

colon_wait : (st : Stand) (c o n : ℕ) (ts : List Kind) → Rests 0 ts
    → read (more st (suc c) o) n ts ≡ then (behind s.Colon ts) (λ r. read (operand st c o) n r)
unfolding behind read machine.reads
colon_wait plain c o n [] h = refl
colon_wait first_in_braces c o n [] h = refl
colon_wait plain c o n (k.Symbol s.Star ∷ ts) h = absurd (omega (arith, h))
colon_wait plain c o n (k.Symbol s.Slash ∷ ts) h = absurd (omega (arith, h))
colon_wait plain c o n (k.Symbol s.Percent ∷ ts) h = absurd (omega (arith, h))
colon_wait plain c o n (k.Symbol s.Plus ∷ ts) h = absurd (omega (arith, h))
colon_wait plain c o n (k.Symbol s.Minus ∷ ts) h = absurd (omega (arith, h))
colon_wait plain c o n (k.Symbol s.LessLess ∷ ts) h = absurd (omega (arith, h))
colon_wait plain c o n (k.Symbol s.GreaterGreater ∷ ts) h = absurd (omega (arith, h))
colon_wait plain c o n (k.Symbol s.LessLessLess ∷ ts) h = absurd (omega (arith, h))
colon_wait plain c o n (k.Symbol s.GreaterGreaterGreater ∷ ts) h = absurd (omega (arith, h))
colon_wait plain c o n (k.Symbol s.Less ∷ ts) h = absurd (omega (arith, h))
colon_wait plain c o n (k.Symbol s.LessEqual ∷ ts) h = absurd (omega (arith, h))
colon_wait plain c o n (k.Symbol s.Greater ∷ ts) h = absurd (omega (arith, h))
colon_wait plain c o n (k.Symbol s.GreaterEqual ∷ ts) h = absurd (omega (arith, h))
colon_wait plain c o n (k.Symbol s.EqualEqual ∷ ts) h = absurd (omega (arith, h))
colon_wait plain c o n (k.Symbol s.BangEqual ∷ ts) h = absurd (omega (arith, h))
colon_wait plain c o n (k.Symbol s.EqualEqualEqual ∷ ts) h = absurd (omega (arith, h))
colon_wait plain c o n (k.Symbol s.BangEqualEqual ∷ ts) h = absurd (omega (arith, h))
colon_wait plain c o n (k.Symbol s.And ∷ ts) h = absurd (omega (arith, h))
colon_wait plain c o n (k.Symbol s.Caret ∷ ts) h = absurd (omega (arith, h))
colon_wait plain c o n (k.Symbol s.TildeCaret ∷ ts) h = absurd (omega (arith, h))
colon_wait plain c o n (k.Symbol s.CaretTilde ∷ ts) h = absurd (omega (arith, h))
colon_wait plain c o n (k.Symbol s.Or ∷ ts) h = absurd (omega (arith, h))
colon_wait plain c o n (k.Symbol s.AndAnd ∷ ts) h = absurd (omega (arith, h))
colon_wait plain c o n (k.Symbol s.OrOr ∷ ts) h = absurd (omega (arith, h))
colon_wait plain c o n (k.Symbol s.Question ∷ ts) h = absurd (omega (arith, h))
colon_wait plain c o n (k.Symbol s.Colon ∷ ts) h = refl
colon_wait plain c o n (t ∷ ts) h = refl
colon_wait first_in_braces c o n (k.Symbol s.Star ∷ ts) h = absurd (omega (arith, h))
colon_wait first_in_braces c o n (k.Symbol s.Slash ∷ ts) h = absurd (omega (arith, h))
colon_wait first_in_braces c o n (k.Symbol s.Percent ∷ ts) h = absurd (omega (arith, h))
colon_wait first_in_braces c o n (k.Symbol s.Plus ∷ ts) h = absurd (omega (arith, h))
colon_wait first_in_braces c o n (k.Symbol s.Minus ∷ ts) h = absurd (omega (arith, h))
colon_wait first_in_braces c o n (k.Symbol s.LessLess ∷ ts) h = absurd (omega (arith, h))
colon_wait first_in_braces c o n (k.Symbol s.GreaterGreater ∷ ts) h = absurd (omega (arith, h))
colon_wait first_in_braces c o n (k.Symbol s.LessLessLess ∷ ts) h = absurd (omega (arith, h))
colon_wait first_in_braces c o n (k.Symbol s.GreaterGreaterGreater ∷ ts) h = absurd (omega (arith, h))
colon_wait first_in_braces c o n (k.Symbol s.Less ∷ ts) h = absurd (omega (arith, h))
colon_wait first_in_braces c o n (k.Symbol s.LessEqual ∷ ts) h = absurd (omega (arith, h))
colon_wait first_in_braces c o n (k.Symbol s.Greater ∷ ts) h = absurd (omega (arith, h))
colon_wait first_in_braces c o n (k.Symbol s.GreaterEqual ∷ ts) h = absurd (omega (arith, h))
colon_wait first_in_braces c o n (k.Symbol s.EqualEqual ∷ ts) h = absurd (omega (arith, h))
colon_wait first_in_braces c o n (k.Symbol s.BangEqual ∷ ts) h = absurd (omega (arith, h))
colon_wait first_in_braces c o n (k.Symbol s.EqualEqualEqual ∷ ts) h = absurd (omega (arith, h))
colon_wait first_in_braces c o n (k.Symbol s.BangEqualEqual ∷ ts) h = absurd (omega (arith, h))
colon_wait first_in_braces c o n (k.Symbol s.And ∷ ts) h = absurd (omega (arith, h))
colon_wait first_in_braces c o n (k.Symbol s.Caret ∷ ts) h = absurd (omega (arith, h))
colon_wait first_in_braces c o n (k.Symbol s.TildeCaret ∷ ts) h = absurd (omega (arith, h))
colon_wait first_in_braces c o n (k.Symbol s.CaretTilde ∷ ts) h = absurd (omega (arith, h))
colon_wait first_in_braces c o n (k.Symbol s.Or ∷ ts) h = absurd (omega (arith, h))
colon_wait first_in_braces c o n (k.Symbol s.AndAnd ∷ ts) h = absurd (omega (arith, h))
colon_wait first_in_braces c o n (k.Symbol s.OrOr ∷ ts) h = absurd (omega (arith, h))
colon_wait first_in_braces c o n (k.Symbol s.Question ∷ ts) h = absurd (omega (arith, h))
colon_wait first_in_braces c o n (k.Symbol s.Colon ∷ ts) h = refl
colon_wait first_in_braces c o n (t ∷ ts) h = refl

-- where a colon has to come
pub colon_row : (st : Stand) (c o n : ℕ) (ts : List Kind) → Rests 0 ts
    → read (more st (c + 1) o) n ts ≡ then (behind s.Colon ts) (λ r. read (operand st c o) n r)
colon_row st c o n ts h = (let e : c + 1 ≡ suc c = omega arith in rw e (colon_wait st c o n ts h))

-- an expression ends where no operator comes
pub rest_row : (o n : ℕ) (ts : List Kind) → Rests 0 ts → read (more plain 0 o) n ts ≡ Ok ts
unfolding read machine.reads
rest_row o n [] h = refl
rest_row o n (k.Symbol s.Star ∷ ts) h = absurd (omega (arith, h))
rest_row o n (k.Symbol s.Slash ∷ ts) h = absurd (omega (arith, h))
rest_row o n (k.Symbol s.Percent ∷ ts) h = absurd (omega (arith, h))
rest_row o n (k.Symbol s.Plus ∷ ts) h = absurd (omega (arith, h))
rest_row o n (k.Symbol s.Minus ∷ ts) h = absurd (omega (arith, h))
rest_row o n (k.Symbol s.LessLess ∷ ts) h = absurd (omega (arith, h))
rest_row o n (k.Symbol s.GreaterGreater ∷ ts) h = absurd (omega (arith, h))
rest_row o n (k.Symbol s.LessLessLess ∷ ts) h = absurd (omega (arith, h))
rest_row o n (k.Symbol s.GreaterGreaterGreater ∷ ts) h = absurd (omega (arith, h))
rest_row o n (k.Symbol s.Less ∷ ts) h = absurd (omega (arith, h))
rest_row o n (k.Symbol s.LessEqual ∷ ts) h = absurd (omega (arith, h))
rest_row o n (k.Symbol s.Greater ∷ ts) h = absurd (omega (arith, h))
rest_row o n (k.Symbol s.GreaterEqual ∷ ts) h = absurd (omega (arith, h))
rest_row o n (k.Symbol s.EqualEqual ∷ ts) h = absurd (omega (arith, h))
rest_row o n (k.Symbol s.BangEqual ∷ ts) h = absurd (omega (arith, h))
rest_row o n (k.Symbol s.EqualEqualEqual ∷ ts) h = absurd (omega (arith, h))
rest_row o n (k.Symbol s.BangEqualEqual ∷ ts) h = absurd (omega (arith, h))
rest_row o n (k.Symbol s.And ∷ ts) h = absurd (omega (arith, h))
rest_row o n (k.Symbol s.Caret ∷ ts) h = absurd (omega (arith, h))
rest_row o n (k.Symbol s.TildeCaret ∷ ts) h = absurd (omega (arith, h))
rest_row o n (k.Symbol s.CaretTilde ∷ ts) h = absurd (omega (arith, h))
rest_row o n (k.Symbol s.Or ∷ ts) h = absurd (omega (arith, h))
rest_row o n (k.Symbol s.AndAnd ∷ ts) h = absurd (omega (arith, h))
rest_row o n (k.Symbol s.OrOr ∷ ts) h = absurd (omega (arith, h))
rest_row o n (k.Symbol s.Question ∷ ts) h = absurd (omega (arith, h))
rest_row o n (k.Symbol s.Comma ∷ ts) h = refl
rest_row o n (t ∷ ts) h = refl

-- the first expression in braces was no count
pub first_row : (o n : ℕ) (ts : List Kind) → Rests 0 ts → IsOther (k.Symbol s.OpenBrace) ts
    → read (more first_in_braces 0 o) n ts ≡ read parts n ts
unfolding read machine.reads
first_row o n [] h i = refl
first_row o n (k.Symbol s.Star ∷ ts) h i = absurd (omega (arith, h))
first_row o n (k.Symbol s.Slash ∷ ts) h i = absurd (omega (arith, h))
first_row o n (k.Symbol s.Percent ∷ ts) h i = absurd (omega (arith, h))
first_row o n (k.Symbol s.Plus ∷ ts) h i = absurd (omega (arith, h))
first_row o n (k.Symbol s.Minus ∷ ts) h i = absurd (omega (arith, h))
first_row o n (k.Symbol s.LessLess ∷ ts) h i = absurd (omega (arith, h))
first_row o n (k.Symbol s.GreaterGreater ∷ ts) h i = absurd (omega (arith, h))
first_row o n (k.Symbol s.LessLessLess ∷ ts) h i = absurd (omega (arith, h))
first_row o n (k.Symbol s.GreaterGreaterGreater ∷ ts) h i = absurd (omega (arith, h))
first_row o n (k.Symbol s.Less ∷ ts) h i = absurd (omega (arith, h))
first_row o n (k.Symbol s.LessEqual ∷ ts) h i = absurd (omega (arith, h))
first_row o n (k.Symbol s.Greater ∷ ts) h i = absurd (omega (arith, h))
first_row o n (k.Symbol s.GreaterEqual ∷ ts) h i = absurd (omega (arith, h))
first_row o n (k.Symbol s.EqualEqual ∷ ts) h i = absurd (omega (arith, h))
first_row o n (k.Symbol s.BangEqual ∷ ts) h i = absurd (omega (arith, h))
first_row o n (k.Symbol s.EqualEqualEqual ∷ ts) h i = absurd (omega (arith, h))
first_row o n (k.Symbol s.BangEqualEqual ∷ ts) h i = absurd (omega (arith, h))
first_row o n (k.Symbol s.And ∷ ts) h i = absurd (omega (arith, h))
first_row o n (k.Symbol s.Caret ∷ ts) h i = absurd (omega (arith, h))
first_row o n (k.Symbol s.TildeCaret ∷ ts) h i = absurd (omega (arith, h))
first_row o n (k.Symbol s.CaretTilde ∷ ts) h i = absurd (omega (arith, h))
first_row o n (k.Symbol s.Or ∷ ts) h i = absurd (omega (arith, h))
first_row o n (k.Symbol s.AndAnd ∷ ts) h i = absurd (omega (arith, h))
first_row o n (k.Symbol s.OrOr ∷ ts) h i = absurd (omega (arith, h))
first_row o n (k.Symbol s.Question ∷ ts) h i = absurd (omega (arith, h))
first_row o n (k.Symbol s.OpenBrace ∷ ts) h i = absurd (i refl)
first_row o n (k.Symbol s.Comma ∷ ts) h i = refl
first_row o n (t ∷ ts) h i = refl

-- or it was one
pub count_row : (o n : ℕ) (ts : List Kind) → 0 < n - o
    → read (more first_in_braces 0 o) n (k.Symbol s.OpenBrace ∷ ts)
    ≡ then (read expr (n - o - 1) ts) (λ r. then (read parts (n - o - 1) r) (λ q. read (sign s.CloseBrace) n q))
count_row o n ts l = row_read (more first_in_braces 0 o) n (k.Symbol s.OpenBrace) ts (suc o) _ refl (omega (arith, l))
    ∙ ap (λ m. then (read expr m ts) (λ r. then (read parts m r) (λ q. read (sign s.CloseBrace) n q)))
    (omega (arith, l))

pub count_deep : (o n : ℕ) (ts : List Kind) → n - o ≡ 0
    → read (more first_in_braces 0 o) n (k.Symbol s.OpenBrace ∷ ts) ≡ Err (deep (suc (length ts)))
count_deep o n ts l = row_deep (more first_in_braces 0 o) n (k.Symbol s.OpenBrace) ts (suc o) _ refl (omega (arith, l))

pub parts_comma : (n : ℕ) (ts : List Kind)
    → read parts n (k.Symbol s.Comma ∷ ts) ≡ then (read expr n ts) (λ r. read parts n r)
parts_comma n ts = row_read parts n (k.Symbol s.Comma) ts 0 _ refl (omega arith)

pub parts_end : (n : ℕ) (ts : List Kind) → IsOther (k.Symbol s.Comma) ts → read parts n ts ≡ behind s.CloseBrace ts
unfolding behind read machine.reads
parts_end n [] h = refl
parts_end n (k.Symbol s.Comma ∷ ts) h = absurd (h refl)
parts_end n (k.Symbol s.CloseBrace ∷ ts) h = refl
parts_end n (t ∷ ts) h = refl

-- selects

pub selects_row : (n : ℕ) (ts : List Kind) → 0 < n
    → read selects n (k.Symbol s.OpenBracket ∷ ts) ≡
    then (read expr (n - 1) ts) (λ r. then (read select_end (n - 1) r) (λ q. read selects n q))
selects_row n ts l = row_read selects n (k.Symbol s.OpenBracket) ts 1 _ refl l

pub selects_deep : (n : ℕ) (ts : List Kind) → n ≡ 0
    → read selects n (k.Symbol s.OpenBracket ∷ ts) ≡ Err (deep (suc (length ts)))
selects_deep n ts l = row_deep selects n (k.Symbol s.OpenBracket) ts 1 _ refl (omega (arith, l))

pub selects_end : (n : ℕ) (ts : List Kind) → IsOther (k.Symbol s.OpenBracket) ts → read selects n ts ≡ Ok ts
unfolding read machine.reads
selects_end n [] h = refl
selects_end n (k.Symbol s.OpenBracket ∷ ts) h = absurd (h refl)
selects_end n (t ∷ ts) h = refl

pub select_part : (n : ℕ) (ts : List Kind)
    → read select_end n (k.Symbol s.Colon ∷ ts) ≡ then (read expr n ts) (λ r. read (sign s.CloseBracket) n r)
select_part n ts = row_read select_end n (k.Symbol s.Colon) ts 0 _ refl (omega arith)

pub select_indexed : (n : ℕ) (ts : List Kind)
    → read select_end n (k.Symbol s.PlusColon ∷ ts) ≡ then (read expr n ts) (λ r. read (sign s.CloseBracket) n r)
select_indexed n ts = row_read select_end n (k.Symbol s.PlusColon) ts 0 _ refl (omega arith)

pub select_bit : (n : ℕ) (ts : List Kind) → IsOther (k.Symbol s.Colon) ts → IsOther (k.Symbol s.PlusColon) ts
    → read select_end n ts ≡ behind s.CloseBracket ts
unfolding behind read machine.reads
select_bit n [] h i = refl
select_bit n (k.Symbol s.Colon ∷ ts) h i = absurd (h refl)
select_bit n (k.Symbol s.PlusColon ∷ ts) h i = absurd (i refl)
select_bit n (k.Symbol s.CloseBracket ∷ ts) h i = refl
select_bit n (t ∷ ts) h i = refl

-- operators bind at most at ten
binds_few : (op : BinaryOperator) → binds op ≤ 10
binds_few b.LogicalOr = omega arith
binds_few _ = omega arith

pub rests_high : (least : ℕ) (ts : List Kind) → 10 < least → Rests least ts
rests_high least [] h = tt
rests_high least (t ∷ ts) h = by_joint (joint_of t)
  where
    by_joint : (j : Joint) → RestsAt least j
    by_joint (joint.Binary op) = omega (arith, h, binds_few op)
    by_joint joint.Question = omega (arith, h)
    by_joint joint.Nothing = tt

pub ruleset of_read_expr = (rest_row, kinds_length)

pub ruleset of_chain = (rests_high, kinds_length)

pub ruleset of_climb = (more_binary, more_binary_deep, more_question, more_question_deep, colon_row, kinds_length)

pub ruleset of_operand = (
  operand_end,
  operand_number,
  operand_name,
  operand_cast,
  operand_brace,
  operand_brace_deep,
  operand_unary,
  operand_unary_deep,
  operand_wrong,
  operand_paren,
  kinds_length,
)

pub ruleset of_read_parens = (parens_row, parens_deep, parens_wrong, sign_row, kinds_length)

pub ruleset of_braces = (first_row, count_row, count_deep, sign_row, kinds_length)

pub ruleset of_parts_behind = (parts_comma, parts_end, kinds_length)

pub ruleset of_read_selects = (selects_end, kinds_length)

pub ruleset of_read_select = (selects_row, selects_deep, kinds_length)

pub ruleset of_read_select_end = (select_part, select_indexed, select_bit, sign_row, kinds_length)
