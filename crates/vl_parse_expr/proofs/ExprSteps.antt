-- What reading comes to on tokens, at each way that an operand begins and is gone on with, and where it stops.
use Rattle.std.proofs.Common.{◌≡◌, ℕ, suc, ◌+◌, ◌-◌, ◌<◌, List, ◌∷◌, length, sym, ap, ◌∙◌, subst}
use Rattle.std.proofs.Common.{arith}
use Rattle.std.specs.Prelude.{Result, Ok, Err}
use Rattle.fv_text.specs.declared.kind.Kind.{Kind}
use Rattle.fv_text.specs.declared.number.Number.{Number}
use Rattle.fv_text.specs.declared.symbol.Symbol.TheVariants as s
use Rattle.fv_text.specs.declared.token.Token.{Token}
use Rattle.vl_tree.specs.declared.operator.UnaryOperator.{UnaryOperator}
use Rattle.vl_tree.specs.declared.operator.BinaryOperator.{BinaryOperator}
use Rattle.vl_tree.specs.declared.operator.Cast.{Cast}
use Rattle.vl_parse_grammar.specs.Machine.{syntax, deep, then}
use Rattle.vl_parse_grammar.specs.Grammar.{Outcome, read, selects, in_parens, first_in_braces, operand, more}
use Rattle.vl_parse_cursor.specs.declared.stop.Stop.{Stop}
use Rattle.vl_parse_cursor.specs.declared.stop.Stop.TheVariants as stop
use Rattle.vl_parse_cursor.specs.declared.lead.Lead.TheVariants as lead
use Rattle.vl_parse_cursor.specs.declared.lead.Joint.TheVariants as joint
use Rattle.vl_parse_cursor.specs.Goes.{Goes, Ends}
use Rattle.vl_parse_cursor.specs.Lead.{lead_of, joint_of}
use Rattle.vl_parse_cursor.specs.Next.{behind, behind_name, kinds_in}
use Rattle.vl_parse_cursor.proofs.Tokens.{kinds_length}
use Rattle.vl_parse_expr.specs.declared.level.Level.{Level}
use Rattle.vl_parse_expr.specs.Levels.{stand_of, operand_at, more_at, Rests}
use Rattle.vl_parse_expr.proofs.ExprRows as rows

-- where a part ends, the whole does
pub ends_then : (e : Stop) (o : Outcome) (f : List Kind → Outcome) → Ends e o → Ends e (then o f)
ends_then (stop.Wrong left) o f h = ap (λ r. then r f) h
ends_then (stop.TooDeep left) o f h = ap (λ r. then r f) h
ends_then stop.Memory o f h = tt

pub ends_as : (e : Stop) (o r : Outcome) → o ≡ r → Ends e r → Ends e o
ends_as e o r h g = subst (λ q. Ends e q) (sym h) g

-- a call that reading goes on to
pub goes_as : {X : Type 0} (view : X → Outcome) (result : Result X Stop) (o r : Outcome) → o ≡ r
    → Goes view result r → Goes view result o
goes_as view result o r h g = subst (λ q. Goes view result q) (sym h) g

many : (ts rest : List Token) (t : Token) → ts ≡ t ∷ rest → suc (length (kinds_in rest)) ≡ length ts
many ts rest t e = ap suc (kinds_length rest) ∙ ap length (sym e)

-- the first token of an operand

pub begins_number : (l : Level) (o : ℕ) (ts rest : List Token) (t : Token) (m : Number) → ts ≡ t ∷ rest
    → lead_of t.kind ≡ lead.Number m → operand_at l o (kinds_in ts) ≡ more_at l o (kinds_in rest)
begins_number l o ts rest t m e h = ap (λ us. operand_at l o (kinds_in us)) e
    ∙ rows.operand_number (stand_of l.stand) l.colons o l.room t.kind (kinds_in rest) m h

pub begins_name : (l : Level) (o : ℕ) (ts rest : List Token) (t : Token) → ts ≡ t ∷ rest
    → lead_of t.kind ≡ lead.Name
    → operand_at l o (kinds_in ts)
    ≡ then (behind_name (kinds_in ts)) (λ u. then (read selects (l.room - o) u) (λ r. more_at l o r))
begins_name l o ts rest t e h = ap (λ us. operand_at l o (kinds_in us)) e
    ∙ rows.operand_name (stand_of l.stand) l.colons o l.room t.kind (kinds_in rest) h
    ∙ ap (λ us. then (behind_name (kinds_in us)) (λ u. then (read selects (l.room - o) u) (λ r. more_at l o r)))
    (sym e)

pub begins_paren : (l : Level) (o : ℕ) (ts rest : List Token) (t : Token) → ts ≡ t ∷ rest
    → lead_of t.kind ≡ lead.Paren
    → operand_at l o (kinds_in ts) ≡ then (read in_parens (l.room - o) (kinds_in ts)) (λ r. more_at l o r)
begins_paren l o ts rest t e h = ap (λ us. operand_at l o (kinds_in us)) e
    ∙ rows.operand_paren (stand_of l.stand) l.colons o l.room t.kind (kinds_in rest) h
    ∙ ap (λ us. then (read in_parens (l.room - o) (kinds_in us)) (λ r. more_at l o r)) (sym e)

pub begins_cast : (l : Level) (o : ℕ) (ts rest : List Token) (t : Token) (to : Cast) → ts ≡ t ∷ rest
    → lead_of t.kind ≡ lead.Cast to
    → operand_at l o (kinds_in ts) ≡ then (read in_parens (l.room - o) (kinds_in rest)) (λ r. more_at l o r)
begins_cast l o ts rest t to e h = ap (λ us. operand_at l o (kinds_in us)) e
    ∙ rows.operand_cast (stand_of l.stand) l.colons o l.room t.kind (kinds_in rest) to h

pub begins_brace : (l : Level) (o inside : ℕ) (ts rest : List Token) (t : Token) → ts ≡ t ∷ rest
    → lead_of t.kind ≡ lead.Brace → 0 < l.room - o → inside ≡ l.room - o - 1
    → operand_at l o (kinds_in ts)
    ≡ then (read (operand first_in_braces 0 0) inside (kinds_in rest)) (λ r. more_at l o r)
begins_brace l o inside ts rest t e h some same = ap (λ us. operand_at l o (kinds_in us)) e
    ∙ rows.operand_brace (stand_of l.stand) l.colons o l.room t.kind (kinds_in rest) h some
    ∙ ap (λ n. then (read (operand first_in_braces 0 0) n (kinds_in rest)) (λ r. more_at l o r)) (sym same)

pub begins_brace_deep : (l : Level) (o : ℕ) (ts rest : List Token) (t : Token) → ts ≡ t ∷ rest
    → lead_of t.kind ≡ lead.Brace → l.room - o ≡ 0 → operand_at l o (kinds_in ts) ≡ Err (deep (length ts))
begins_brace_deep l o ts rest t e h none = ap (λ us. operand_at l o (kinds_in us)) e
    ∙ rows.operand_brace_deep (stand_of l.stand) l.colons o l.room t.kind (kinds_in rest) h none
    ∙ ap (λ n. Err (deep n)) (many ts rest t e)

pub begins_unary : (l : Level) (o now : ℕ) (ts rest : List Token) (t : Token) (op : UnaryOperator)
    → ts ≡ t ∷ rest
    → lead_of t.kind ≡ lead.Unary op → o < l.room → now ≡ o + 1
    → operand_at l o (kinds_in ts) ≡ operand_at l now (kinds_in rest)
begins_unary l o now ts rest t op e h some same = ap (λ us. operand_at l o (kinds_in us)) e
    ∙ rows.operand_unary (stand_of l.stand) l.colons o l.room t.kind (kinds_in rest) (ap rows.is_unary h) some
    ∙ ap (λ n. operand_at l n (kinds_in rest)) (sym same)

pub begins_unary_deep : (l : Level) (o : ℕ) (ts rest : List Token) (t : Token) (op : UnaryOperator)
    → ts ≡ t ∷ rest
    → lead_of t.kind ≡ lead.Unary op → o ≡ l.room → operand_at l o (kinds_in ts) ≡ Err (deep (length ts))
begins_unary_deep l o ts rest t op e h none = ap (λ us. operand_at l o (kinds_in us)) e
    ∙ rows.operand_unary_deep (stand_of l.stand) l.colons o l.room t.kind (kinds_in rest) (ap rows.is_unary h) none
    ∙ ap (λ n. Err (deep n)) (many ts rest t e)

pub begins_wrong : (l : Level) (o : ℕ) (ts rest : List Token) (t : Token) → ts ≡ t ∷ rest
    → lead_of t.kind ≡ lead.Nothing → operand_at l o (kinds_in ts) ≡ Err (syntax (length ts))
begins_wrong l o ts rest t e h = ap (λ us. operand_at l o (kinds_in us)) e
    ∙ rows.operand_wrong (stand_of l.stand) l.colons o l.room t.kind (kinds_in rest) h
    ∙ ap (λ n. Err (syntax n)) (many ts rest t e)

-- what stands behind an operand

pub joins_binary : (l : Level) (o now : ℕ) (ts rest : List Token) (t : Token) (op : BinaryOperator)
    → ts ≡ t ∷ rest
    → joint_of t.kind ≡ joint.Binary op → o < l.room → now ≡ o + 1
    → more_at l o (kinds_in ts) ≡ operand_at l now (kinds_in rest)
joins_binary l o now ts rest t op e h some same = ap (λ us. more_at l o (kinds_in us)) e
    ∙ rows.more_binary (stand_of l.stand) l.colons o l.room t.kind (kinds_in rest) (ap rows.is_binary h) some
    ∙ ap (λ n. operand_at l n (kinds_in rest)) (sym same)

pub joins_binary_deep : (l : Level) (o : ℕ) (ts rest : List Token) (t : Token) (op : BinaryOperator)
    → ts ≡ t ∷ rest
    → joint_of t.kind ≡ joint.Binary op → o ≡ l.room → more_at l o (kinds_in ts) ≡ Err (deep (length ts))
joins_binary_deep l o ts rest t op e h none = ap (λ us. more_at l o (kinds_in us)) e
    ∙ rows.more_binary_deep (stand_of l.stand) l.colons o l.room t.kind (kinds_in rest) (ap rows.is_binary h) none
    ∙ ap (λ n. Err (deep n)) (many ts rest t e)

-- the level within a conditional has one colon more to come
pub joins_question : (l inner : Level) (o now : ℕ) (ts rest : List Token) (t : Token) → inner.stand ≡ l.stand
    → inner.room ≡ l.room → inner.colons ≡ l.colons + 1 → ts ≡ t ∷ rest
    → joint_of t.kind ≡ joint.Question
    → o < l.room → now ≡ o + 1 → more_at l o (kinds_in ts) ≡ operand_at inner now (kinds_in rest)
joins_question l inner o now ts rest t stand room colons e h some same = ap (λ us. more_at l o (kinds_in us)) e
    ∙ rows.more_question (stand_of l.stand) l.colons o l.room t.kind (kinds_in rest) h some
    ∙ sym (λ i. read (operand (stand_of (stand i)) (colons i) (same i)) (room i) (kinds_in rest))

pub joins_question_deep : (l : Level) (o : ℕ) (ts rest : List Token) (t : Token) → ts ≡ t ∷ rest
    → joint_of t.kind ≡ joint.Question → o ≡ l.room → more_at l o (kinds_in ts) ≡ Err (deep (length ts))
joins_question_deep l o ts rest t e h none = ap (λ us. more_at l o (kinds_in us)) e
    ∙ rows.more_question_deep (stand_of l.stand) l.colons o l.room t.kind (kinds_in rest) h none
    ∙ ap (λ n. Err (deep n)) (many ts rest t e)

pub joins_colon : (l inner : Level) (o : ℕ) (ts : List Kind) → inner.stand ≡ l.stand → inner.room ≡ l.room
    → inner.colons ≡ l.colons + 1 → Rests 0 ts
    → more_at inner o ts ≡ then (behind s.Colon ts) (λ r. operand_at l o r)
joins_colon l inner o ts stand room colons h =
    (λ i. read (more (stand_of (stand i)) (colons i) o) (room i) ts)
    ∙ rows.colon_row (stand_of l.stand) l.colons o l.room ts h
