-- What the machine reads as an expression is spelled by a well formed tree.
use Rattle.std.proofs.Common.{◌≡◌, ℕ, zero, suc, Bool, true, false, List, [], ◌∷◌, Option, Some, None, refl, sym, ap}
use Rattle.std.proofs.Common.{◌∙◌, subst, arith}
use Rattle.fv_text.specs.declared.kind.Kind.{Kind}
use Rattle.fv_text.specs.declared.kind.Kind.TheVariants as k
use Rattle.fv_text.specs.declared.number.Number.{Number}
use Rattle.fv_text.specs.declared.symbol.Symbol.{Symbol}
use Rattle.fv_text.specs.declared.symbol.Symbol.TheVariants as s
use Rattle.vl_tree.specs.declared.operator.UnaryOperator.{UnaryOperator}
use Rattle.vl_tree.specs.declared.operator.BinaryOperator.{BinaryOperator}
use Rattle.vl_tree.specs.declared.operator.Cast.{Cast}
use Rattle.vl_tree.specs.Expr as tree
use Rattle.vl_tree.specs.Expr.{Expr, Exprs, Selects}
use Rattle.vl_tree.specs.ExprSpelling.{spell, spell_more, spell_selects, spell_value}
use Rattle.vl_tree.specs.ExprWellFormed.{IsWellFormed, AreWellFormed, AreSelects, IsValue, binds, level}
use Rattle.vl_parse_grammar.specs.Machine.{take}
use Rattle.vl_parse_grammar.specs.Operators.{cast_of, binary_of, unary_of}
use Rattle.vl_parse_grammar.specs.Grammar.{
  Stand,
  first_in_braces,
  sign,
  operand,
  more,
  selects,
  select_end,
  parts,
  in_parens,
  value,
  expr,
  is_known,
  if_known,
  on_operand_sign,
  on_unary,
  on_cast,
  on_no_operator,
  on_binary,
  on_end,
}
use Rattle.vl_parse_grammar.specs.Grammar as g
use Rattle.vl_parse_grammar.proofs.Named.{Named, Derives, plain}
use Rattle.vl_parse_grammar.proofs.Onto.{onto}
use Rattle.vl_parse_grammar.proofs.Steps.{apart}
use Rattle.vl_parse_grammar.proofs.TokenTrees.{Moved, unary_same, binary_same, cast_text, known_number, sign_tree}
use Rattle.vl_parse_grammar.proofs.Spine.{Spine, start, prefix, left, ask, choice, before, waits, IsFormed, State}
use Rattle.vl_parse_grammar.proofs.Spine.{reduce}
use Rattle.vl_parse_grammar.proofs.Spine.{Whole, done, asked, applied, nowhere, binds_range, floor_range, floor_none}

-- an expression that the tokens are, up to others
pub record Found (ts ks : List Kind) : Type 0 where
  pub tree : Expr
  pub same : ts ≡ onto (spell tree) ks
  pub formed : IsWellFormed tree

-- what is behind an opening brace, up to the closing one
pub data Braced (ts ks : List Kind) : Type 0 where
  joined : (x : Expr) (es : Exprs) → ts ≡ onto (spell x) (onto (spell_more es) (k.Symbol s.CloseBrace ∷ ks))
      → IsWellFormed x
      → AreWellFormed es → Braced ts ks
  repeated : (n x : Expr) (es : Exprs)
      → ts ≡ onto (spell n) (k.Symbol s.OpenBrace ∷ onto (spell x) (onto (spell_more es)
      (k.Symbol s.CloseBrace ∷ k.Symbol s.CloseBrace ∷ ks)))
      → IsWellFormed n → IsWellFormed x → AreWellFormed es → Braced ts ks

abbrev Done : Stand → List Kind → List Kind → Type 0
Done g.plain ts ks = Found ts ks
Done first_in_braces ts ks = Braced ts ks

record FoundParts (ts ks : List Kind) : Type 0 where
  trees : Exprs
  same : ts ≡ onto (spell_more trees) (k.Symbol s.CloseBrace ∷ ks)
  formed : AreWellFormed trees

pub record FoundSelects (ts ks : List Kind) : Type 0 where
  pub trees : Selects
  pub same : ts ≡ onto (spell_selects trees) ks
  pub formed : AreSelects trees

data SelectEnd (ts ks : List Kind) : Type 0 where
  one_bit : ts ≡ k.Symbol s.CloseBracket ∷ ks → SelectEnd ts ks
  a_part : (x : Expr) → ts ≡ k.Symbol s.Colon ∷ onto (spell x) (k.Symbol s.CloseBracket ∷ ks) → IsWellFormed x
      → SelectEnd ts ks
  from_index : (x : Expr) → ts ≡ k.Symbol s.PlusColon ∷ onto (spell x) (k.Symbol s.CloseBracket ∷ ks)
      → IsWellFormed x → SelectEnd ts ks

pub record InParens (ts ks : List Kind) : Type 0 where
  pub tree : Expr
  pub same : ts ≡ k.Symbol s.OpenParen ∷ onto (spell tree) (k.Symbol s.CloseParen ∷ ks)
  pub formed : IsWellFormed tree

abbrev OperandAt : ℕ → Type 0
OperandAt d =
    (stand : Stand) (q o : ℕ) (p : Spine) (all : List Kind) (ts rest : List Named) → waits p ≡ q → IsFormed p
    → all ≡ before p (plain ts)
    → Derives d (operand stand q o) ts rest → Done stand all (plain rest)

abbrev MoreAt : ℕ → Type 0
MoreAt d =
    (stand : Stand) (q o : ℕ) (p : Spine) (x : Expr) (all : List Kind) (ts rest : List Named) → waits p ≡ q
    → State p x all (plain ts)
    → level x ≡ 12 → Derives d (more stand q o) ts rest → Done stand all (plain rest)

abbrev PartsAt : ℕ → Type 0
PartsAt d = (ts rest : List Named) → Derives d parts ts rest → FoundParts (plain ts) (plain rest)

abbrev SelectsAt : ℕ → Type 0
SelectsAt d = (ts rest : List Named) → Derives d selects ts rest → FoundSelects (plain ts) (plain rest)

abbrev SelectEndAt : ℕ → Type 0
SelectEndAt d = (ts rest : List Named) → Derives d select_end ts rest → SelectEnd (plain ts) (plain rest)

abbrev ParensAt : ℕ → Type 0
ParensAt d = (ts rest : List Named) → Derives d in_parens ts rest → InParens (plain ts) (plain rest)

no_suc : {A : Type 0} (n : ℕ) → suc n ≡ 0 → A
no_suc n h = absurd (no h)
  where
    no : suc n ≡ 0 → ⊥
    no h = cc

-- an operand of the highest level
atom : (p : Spine) (x : Expr) (all ks ts : List Kind) → IsFormed p → all ≡ before p ks → ks ≡ onto (spell x) ts
    → IsWellFormed x
    → level x ≡ 12 → State p x all ts
atom p x all ks ts f h e w l =
    record { same = h ∙ ap (before p) e; formed = w; spine = f; fits = rw l (omega (arith, floor_range p)) }

whole_by : (d : ℕ) → OperandAt d → (ts rest : List Named) → Derives d expr ts rest → Found (plain ts) (plain rest)
whole_by d one ts rest h = one g.plain 0 0 start (plain ts) ts rest refl tt refl h

moved_rest : (stand : Stand) (all : List Kind) (m rest : List Named) → m ≡ rest → Done stand all (plain m)
    → Done stand all (plain rest)
moved_rest stand all m rest e x = subst (λ r. Done stand all (plain r)) e x

number_by : (d : ℕ) → MoreAt d → (stand : Stand) (q o : ℕ) (p : Spine) (all : List Kind) (n : Number) (t : Named)
    (ts rest : List Named)
    → waits p ≡ q → IsFormed p → all ≡ before p (k.Number n ∷ plain ts) → (b : Bool) → is_known n ≡ b
    → Moved d t ts rest (if_known b (take 0 ((more stand q o, 0) ∷ []))) → Done stand all (plain rest)
number_by d on stand q o p all n t ts rest e f z true i (m, h, j) =
    moved_rest stand all m rest j
    (on stand q o p (tree.number nowhere n) all ts m e
    (atom p (tree.number nowhere n) all (k.Number n ∷ plain ts) (plain ts) f z refl (known_number n i) refl) refl h)
number_by d on stand q o p all n t ts rest e f z false i h = absurd h

cast_by : (d : ℕ) → MoreAt d → ParensAt d
    → (stand : Stand) (q o : ℕ) (p : Spine) (all : List Kind) (text : List ℕ) (t : Named)
    (ts rest : List Named) → waits p ≡ q → IsFormed p → all ≡ before p (k.System text ∷ plain ts) → (c : Option Cast)
    → cast_of text ≡ c
    → Moved d t ts rest (on_cast stand q o c) → Done stand all (plain rest)
cast_by d on inside stand q o p all text t ts rest e f z (Some to) i (m, h, (m2, g, j)) =
    let x = inside ts m h in
    moved_rest stand all m2 rest j
    (on stand q o p (tree.cast nowhere to x.tree) all m m2 e
    (atom p (tree.cast nowhere to x.tree) all (k.System text ∷ plain ts) (plain m) f z
    (λ v. k.System (cast_text text to i v) ∷ x.same v) x.formed refl) refl g)
cast_by d on inside stand q o p all text t ts rest e f z None i h = absurd h

unary_by : (d : ℕ) → OperandAt d → (stand : Stand) (q o : ℕ) (p : Spine) (all : List Kind) (y : Symbol) (t : Named)
    (ts rest : List Named) → waits p ≡ q → IsFormed p → all ≡ before p (k.Symbol y ∷ plain ts)
    → (c : Option UnaryOperator) → unary_of y ≡ c
    → Moved d t ts rest (on_unary stand q o c) → Done stand all (plain rest)
unary_by d one stand q o p all y t ts rest e f z (Some op) i (m, h, j) =
    moved_rest stand all m rest j
    (one stand q (suc o) (prefix op p) all ts m e f
    (z ∙ ap (λ v. before p (k.Symbol v ∷ plain ts)) (unary_same y op i)) h)
unary_by d one stand q o p all y t ts rest e f z None i h = absurd h

sign_by : (d : ℕ) → OperandAt d → MoreAt d
    → (stand : Stand) (q o : ℕ) (p : Spine) (all : List Kind) (y : Symbol) (t : Named)
    (ts rest : List Named) → waits p ≡ q → IsFormed p → all ≡ before p (k.Symbol y ∷ plain ts)
    → Moved d t ts rest (on_operand_sign stand q o y) → Done stand all (plain rest)
sign_by d one on stand q o p all s.OpenParen t ts rest e f z (m, h, (m2, i, (m3, j, l))) =
    let x = whole_by d one ts m h in
    moved_rest stand all m3 rest l
    (on stand q o p (tree.paren nowhere x.tree) all m2 m3 e
    (atom p (tree.paren nowhere x.tree) all (k.Symbol s.OpenParen ∷ plain ts) (plain m2) f z
    (ap (λ v. k.Symbol s.OpenParen ∷ v) (x.same
    ∙ ap (onto (spell x.tree)) (sign_tree d s.CloseParen m m2 i))) x.formed refl) refl j)
sign_by d one on stand q o p all s.OpenBrace t ts rest e f z (m, h, (m2, j, l)) =
    moved_rest stand all m2 rest l (by_braces (one first_in_braces 0 0 start (plain ts) ts m refl tt refl h))
  where
    by_braces : Braced (plain ts) (plain m) → Done stand all (plain m2)
    by_braces (joined x es same w v) =
        on stand q o p (tree.concat nowhere (tree.more x es)) all m m2 e
        (atom p (tree.concat nowhere (tree.more x es)) all (k.Symbol s.OpenBrace ∷ plain ts) (plain m) f z
        (ap (λ u. k.Symbol s.OpenBrace ∷ u) same) (tt, (w, v)) refl) refl j
    by_braces (repeated n x es same u w v) =
        on stand q o p (tree.repeat nowhere n (tree.more x es)) all m m2 e
        (atom p (tree.repeat nowhere n (tree.more x es)) all (k.Symbol s.OpenBrace ∷ plain ts) (plain m) f z
        (ap (λ u. k.Symbol s.OpenBrace ∷ u) same) (u, tt, (w, v)) refl) refl j
sign_by d one on stand q o p all y t ts rest e f z h =
    unary_by d one stand q o p all y t ts rest e f z (unary_of y) refl h

operand_by : (d : ℕ) → OperandAt d → MoreAt d → SelectsAt d → ParensAt d → OperandAt (suc d)
operand_by d one on selected inside stand q o p all ((k.Number n, w) ∷ ts) rest e f z h =
    number_by d on stand q o p all n (k.Number n, w) ts rest e f z (is_known n) refl h
operand_by d one on selected inside stand q o p all ((k.Name text, w) ∷ ts) rest e f z (m, h, (m2, i, j)) =
    let ss = selected ts m h in
    moved_rest stand all m2 rest j
    (on stand q o p (tree.name nowhere text ss.trees) all m m2 e
    (atom p (tree.name nowhere text ss.trees) all (k.Name text ∷ plain ts) (plain m) f z
    (ap (λ u. k.Name text ∷ u) ss.same) (w, ss.formed) refl) refl i)
operand_by d one on selected inside stand q o p all ((k.System text, w) ∷ ts) rest e f z h =
    cast_by d on inside stand q o p all text (k.System text, w) ts rest e f z (cast_of text) refl h
operand_by d one on selected inside stand q o p all ((k.Symbol y, w) ∷ ts) rest e f z h =
    sign_by d one on stand q o p all y (k.Symbol y, w) ts rest e f z h
operand_by d one on selected inside stand q o p all [] rest e f z h = apart h.0
operand_by d one on selected inside stand q o p all (t ∷ ts) rest e f z h = absurd h

-- at the end of an expression
end_of : (p : Spine) (x : Expr) (all ks : List Kind) → waits p ≡ 0 → State p x all ks → Found all ks
end_of p x all ks z w = by_whole (applied p x all ks w)
  where
    by_whole : Whole (waits p) all ks → Found all ks
    by_whole (done y e f q) = record { tree = y; same = e; formed = f }
    by_whole (asked c y o v q) = no_suc (waits o) (q ∙ z)

record AtColon (q : ℕ) (all ks : List Kind) : Type 0 where
  spine : Spine
  waiting : waits spine ≡ q
  formed : IsFormed spine
  same : all ≡ before spine ks

suc_same : (m n : ℕ) → suc m ≡ suc n → m ≡ n
suc_same m n h = cc

at_colon : (q : ℕ) (p : Spine) (x : Expr) (all ks : List Kind) → waits p ≡ suc q
    → State p x all (k.Symbol s.Colon ∷ ks) → AtColon q all ks
at_colon q p x all ks z w = by_whole (applied p x all (k.Symbol s.Colon ∷ ks) w)
  where
    by_whole : Whole (waits p) all (k.Symbol s.Colon ∷ ks) → AtColon q all ks
    by_whole (done y e f h) = no_suc q (sym z ∙ h)
    by_whole (asked c y o v h) =
        let (one, two, three, four) = v.spine in
        record {
          spine = choice c y o;
          waiting = suc_same (waits o) q (h ∙ z);
          formed = (one, two, v.formed, three, four);
          same = v.same;
        }

braced_by : (d : ℕ) → OperandAt d → PartsAt d
    → (o : ℕ) (p : Spine) (x : Expr) (all : List Kind) (y : Symbol) (t : Named)
    (ts rest : List Named) → waits p ≡ 0 → State p x all (k.Symbol y ∷ plain ts)
    → Moved d t ts rest (on_end first_in_braces o y)
    → Braced all (plain rest)
braced_by d one many o p x all s.Comma t ts rest z w (m, h, (m2, i, j)) =
    let first = end_of p x all (k.Symbol s.Comma ∷ plain ts) z w in
    let second = whole_by d one ts m h in
    let others = many m m2 i in
    joined first.tree (tree.more second.tree others.trees)
    (first.same ∙ ap (λ u. onto (spell first.tree) (k.Symbol s.Comma ∷ u))
    (second.same ∙ ap (onto (spell second.tree))
    (others.same ∙ ap (λ r. onto (spell_more others.trees) (k.Symbol s.CloseBrace ∷ plain r)) j)))
    first.formed (second.formed, others.formed)
braced_by d one many o p x all s.CloseBrace t ts rest z w h =
    let first = end_of p x all (k.Symbol s.CloseBrace ∷ plain ts) z w in
    joined first.tree tree.none (first.same ∙ ap
    (λ r. onto (spell first.tree) (k.Symbol s.CloseBrace ∷ plain r)) h) first.formed tt
braced_by d one many o p x all s.OpenBrace t ts rest z w (m, h, (m2, i, (m3, j, l))) =
    let count = end_of p x all (k.Symbol s.OpenBrace ∷ plain ts) z w in
    let first = whole_by d one ts m h in
    let others = many m m2 i in
    repeated count.tree first.tree others.trees
    (count.same ∙ ap (λ u. onto (spell count.tree) (k.Symbol s.OpenBrace ∷ u))
    (first.same ∙ ap (onto (spell first.tree))
    (others.same ∙ ap (λ u. onto (spell_more others.trees) (k.Symbol s.CloseBrace ∷ u))
    (sign_tree d s.CloseBrace m2 m3 j ∙ ap (λ r. k.Symbol s.CloseBrace ∷ plain r) l))))
    count.formed first.formed others.formed
braced_by d one many o p x all y t ts rest z w h = absurd h

end_by : (d : ℕ) → OperandAt d → PartsAt d
    → (stand : Stand) (o : ℕ) (p : Spine) (x : Expr) (all : List Kind) (y : Symbol) (n : _)
    (ts rest : List Named) → waits p ≡ 0 → State p x all (k.Symbol y ∷ plain ts)
    → Moved d (k.Symbol y, n) ts rest (on_end stand o y)
    → Done stand all (plain rest)
end_by d one many g.plain o p x all y n ts rest z w h =
    subst (λ r. Found all (plain r)) (sym h) (end_of p x all (k.Symbol y ∷ plain ts) z w)
end_by d one many first_in_braces o p x all y n ts rest z w h =
    braced_by d one many o p x all y (k.Symbol y, n) ts rest z w h

no_operator_by : (d : ℕ) → OperandAt d → PartsAt d
    → (stand : Stand) (q o : ℕ) (p : Spine) (x : Expr) (all : List Kind) (y : Symbol) (n : _)
    (ts rest : List Named) → waits p ≡ q → State p x all (k.Symbol y ∷ plain ts) → level x ≡ 12
    → Moved d (k.Symbol y, n) ts rest (on_no_operator stand q o y) → Done stand all (plain rest)
no_operator_by d one many stand q o p x all s.Question n ts rest z w l (m, h, j) =
    let r = reduce 1 p x all (k.Symbol s.Question ∷ plain ts) (omega arith) (rw l (omega arith)) w in
    moved_rest stand all m rest j
    (one stand (suc q) (suc o) (ask r.x r.p) all ts m (ap suc (r.waiting ∙ z))
    (r.now.formed, r.tight, floor_none r.p r.low, r.now.spine) r.now.same h)
no_operator_by d one many stand (suc q) o p x all s.Colon n ts rest z w l (m, h, j) =
    let c = at_colon q p x all (plain ts) z w in
    moved_rest stand all m rest j (one stand q o c.spine all ts m c.waiting c.formed c.same h)
no_operator_by d one many stand (suc q) o p x all y n ts rest z w l h = absurd h
no_operator_by d one many stand zero o p x all y n ts rest z w l h = end_by d one many stand o p x all y n ts rest z w h

binary_by : (d : ℕ) → OperandAt d → PartsAt d
    → (stand : Stand) (q o : ℕ) (p : Spine) (x : Expr) (all : List Kind) (y : Symbol) (n : _)
    (ts rest : List Named) → waits p ≡ q → State p x all (k.Symbol y ∷ plain ts) → level x ≡ 12
    → (c : Option BinaryOperator) → binary_of y ≡ c
    → Moved d (k.Symbol y, n) ts rest (on_binary stand q o y c) → Done stand all (plain rest)
binary_by d one many stand q o p x all y n ts rest z w l (Some op) i (m, h, j) =
    let r = reduce (binds op) p x all (k.Symbol y ∷ plain ts) (binds_range op).1
    (rw l (omega (arith, (binds_range op).1))) w in
    moved_rest stand all m rest j
    (one stand q (suc o) (left r.x op r.p) all ts m (r.waiting ∙ z) (r.now.formed, r.tight, r.low, r.now.spine)
    (r.now.same ∙ ap (λ v. before r.p (onto (spell r.x) (k.Symbol v ∷ plain ts))) (binary_same y op i)) h)
binary_by d one many stand q o p x all y n ts rest z w l None i h =
    no_operator_by d one many stand q o p x all y n ts rest z w l h

more_by : (d : ℕ) → OperandAt d → PartsAt d → MoreAt (suc d)
more_by d one many stand q o p x all ((k.Symbol y, n) ∷ ts) rest z w l h =
    binary_by d one many stand q o p x all y n ts rest z w l (binary_of y) refl h
more_by d one many g.plain zero o p x all [] rest z w l h =
    subst (λ r. Found all (plain r)) (sym h.1) (end_of p x all [] z w)
more_by d one many g.plain zero o p x all (t ∷ ts) rest z w l h =
    subst (λ r. Found all (plain r)) (sym h) (end_of p x all (plain (t ∷ ts)) z w)
more_by d one many g.plain (suc q) o p x all [] rest z w l h = apart h.0
more_by d one many g.plain (suc q) o p x all (t ∷ ts) rest z w l h = absurd h
more_by d one many first_in_braces q o p x all [] rest z w l h = apart h.0
more_by d one many first_in_braces q o p x all (t ∷ ts) rest z w l h = absurd h

parts_by : (d : ℕ) → OperandAt d → PartsAt d → PartsAt (suc d)
parts_by d one many ((k.Symbol s.CloseBrace, n) ∷ ts) rest h =
    record { trees = tree.none; same = ap (λ r. k.Symbol s.CloseBrace ∷ plain r) h; formed = tt }
parts_by d one many ((k.Symbol s.Comma, n) ∷ ts) rest (m, h, (m2, i, j)) =
    let first = whole_by d one ts m h in
    let others = many m m2 i in
    record {
      trees = tree.more first.tree others.trees;
      same = ap (λ u. k.Symbol s.Comma ∷ u)
          (first.same ∙ ap (onto (spell first.tree))
          (others.same ∙ ap (λ r. onto (spell_more others.trees) (k.Symbol s.CloseBrace ∷ plain r)) j));
      formed = (first.formed, others.formed);
    }
parts_by d one many [] rest h = apart h.0
parts_by d one many ((k.Symbol y, n) ∷ ts) rest h = absurd h
parts_by d one many (t ∷ ts) rest h = absurd h

select_end_by : (d : ℕ) → OperandAt d → SelectEndAt (suc d)
select_end_by d inner ((k.Symbol s.CloseBracket, n) ∷ ts) rest h =
    one_bit (ap (λ r. k.Symbol s.CloseBracket ∷ plain r) h)
select_end_by d inner ((k.Symbol s.Colon, n) ∷ ts) rest (m, h, (m2, i, j)) =
    let x = whole_by d inner ts m h in
    a_part x.tree
    (ap (λ u. k.Symbol s.Colon ∷ u) (x.same ∙ ap (onto (spell x.tree))
    (sign_tree d s.CloseBracket m m2 i ∙ ap (λ r. k.Symbol s.CloseBracket ∷ plain r) j)))
    x.formed
select_end_by d inner ((k.Symbol s.PlusColon, n) ∷ ts) rest (m, h, (m2, i, j)) =
    let x = whole_by d inner ts m h in
    from_index x.tree
    (ap (λ u. k.Symbol s.PlusColon ∷ u) (x.same
    ∙ ap (onto (spell x.tree)) (sign_tree d s.CloseBracket m m2 i ∙ ap (λ r. k.Symbol s.CloseBracket ∷ plain r) j)))
    x.formed
select_end_by d inner [] rest h = apart h.0
select_end_by d inner ((k.Symbol y, n) ∷ ts) rest h = absurd h
select_end_by d inner (t ∷ ts) rest h = absurd h

no_selects : (ts rest : List Named) → rest ≡ ts → FoundSelects (plain ts) (plain rest)
no_selects ts rest h = record { trees = tree.whole; same = ap plain (sym h); formed = tt }

selects_by : (d : ℕ) → OperandAt d → SelectEndAt d → SelectsAt d → SelectsAt (suc d)
selects_by d inner ending others ((k.Symbol s.OpenBracket, n) ∷ ts) rest (m, h, (m2, i, (m3, j, l))) =
    let x = whole_by d inner ts m h in
    let ss = others m2 m3 j in
    by_end x.tree x.formed x.same ss.trees ss.formed (ss.same ∙ ap (λ r. onto (spell_selects ss.trees) (plain r)) l)
    (ending m m2 i)
  where
    by_end : (x : Expr) → IsWellFormed x → plain ts ≡ onto (spell x) (plain m) → (ss : Selects) → AreSelects ss
        → plain m2 ≡ onto (spell_selects ss) (plain rest) → SelectEnd (plain m) (plain m2)
        → FoundSelects (k.Symbol s.OpenBracket ∷ plain ts) (plain rest)
    by_end x w e ss v f (one_bit g) = record {
      trees = tree.bit nowhere x ss;
      same = ap (λ u. k.Symbol s.OpenBracket ∷ u)
          (e ∙ ap (onto (spell x)) (g ∙ ap (λ u. k.Symbol s.CloseBracket ∷ u) f));
      formed = (w, v);
    }
    by_end x w e ss v f (a_part y g z) = record {
      trees = tree.part nowhere x y ss;
      same = ap (λ u. k.Symbol s.OpenBracket ∷ u)
          (e ∙ ap (onto (spell x)) (g ∙ ap (λ u. k.Symbol s.Colon ∷ onto (spell y) (k.Symbol s.CloseBracket ∷ u)) f));
      formed = (w, z, v);
    }
    by_end x w e ss v f (from_index y g z) = record {
      trees = tree.indexed nowhere x y ss;
      same = ap (λ u. k.Symbol s.OpenBracket ∷ u)
          (e ∙ ap (onto (spell x)) (g ∙ ap (λ u. k.Symbol s.PlusColon
          ∷ onto (spell y) (k.Symbol s.CloseBracket ∷ u)) f));
      formed = (w, z, v);
    }
selects_by d inner ending others [] rest h = no_selects [] rest h.1
selects_by d inner ending others ((k.Symbol y, n) ∷ ts) rest h = no_selects ((k.Symbol y, n) ∷ ts) rest h
selects_by d inner ending others (t ∷ ts) rest h = no_selects (t ∷ ts) rest h

parens_by : (d : ℕ) → OperandAt d → ParensAt (suc d)
parens_by d inner ((k.Symbol s.OpenParen, n) ∷ ts) rest (m, h, (m2, i, j)) =
    let x = whole_by d inner ts m h in
    record {
      tree = x.tree;
      same = ap (λ u. k.Symbol s.OpenParen ∷ u)
          (x.same ∙ ap (onto (spell x.tree)) (sign_tree d s.CloseParen m m2 i
          ∙ ap (λ r. k.Symbol s.CloseParen ∷ plain r) j));
      formed = x.formed;
    }
parens_by d inner [] rest h = apart h.0
parens_by d inner ((k.Symbol y, n) ∷ ts) rest h = absurd h
parens_by d inner (t ∷ ts) rest h = absurd h

mutual
  operand_tree : (d : ℕ) → OperandAt d
  operand_tree zero stand q o p all ts rest e f z h = absurd h
  operand_tree (suc d) stand q o p all ts rest e f z h =
      operand_by d (operand_tree d) (more_tree d) (selects_tree d) (parens_tree d) stand q o p all ts rest e f z h

  more_tree : (d : ℕ) → MoreAt d
  more_tree zero stand q o p x all ts rest z w l h = absurd h
  more_tree (suc d) stand q o p x all ts rest z w l h =
      more_by d (operand_tree d) (parts_tree d) stand q o p x all ts rest z w l h

  parts_tree : (d : ℕ) → PartsAt d
  parts_tree zero ts rest h = absurd h
  parts_tree (suc d) ts rest h = parts_by d (operand_tree d) (parts_tree d) ts rest h

  pub selects_tree : (d : ℕ) → SelectsAt d
  selects_tree zero ts rest h = absurd h
  selects_tree (suc d) ts rest h = selects_by d (operand_tree d) (select_end_tree d) (selects_tree d) ts rest h

  select_end_tree : (d : ℕ) → SelectEndAt d
  select_end_tree zero ts rest h = absurd h
  select_end_tree (suc d) ts rest h = select_end_by d (operand_tree d) ts rest h

  pub parens_tree : (d : ℕ) → ParensAt d
  parens_tree zero ts rest h = absurd h
  parens_tree (suc d) ts rest h = parens_by d (operand_tree d) ts rest h

pub expr_tree : (d : ℕ) (ts rest : List Named) → Derives d expr ts rest → Found (plain ts) (plain rest)
expr_tree d ts rest h = whole_by d (operand_tree d) ts rest h

pub record FoundValue (ts ks : List Kind) : Type 0 where
  pub tree : Option Expr
  pub same : ts ≡ onto (spell_value tree) ks
  pub formed : IsValue tree

no_value : (ts rest : List Named) → rest ≡ ts → FoundValue (plain ts) (plain rest)
no_value ts rest h = record { tree = None; same = ap plain (sym h); formed = tt }

pub value_tree : (d : ℕ) (ts rest : List Named) → Derives d value ts rest → FoundValue (plain ts) (plain rest)
value_tree zero ts rest h = absurd h
value_tree (suc d) ((k.Symbol s.Equal, n) ∷ ts) rest (m, h, j) =
    let x = expr_tree d ts m h in
    record {
      tree = Some x.tree;
      same = ap (λ u. k.Symbol s.Equal ∷ u) (x.same ∙ ap (λ r. onto (spell x.tree) (plain r)) j);
      formed = x.formed;
    }
value_tree (suc d) [] rest h = no_value [] rest h.1
value_tree (suc d) ((k.Symbol y, n) ∷ ts) rest h = no_value ((k.Symbol y, n) ∷ ts) rest h
value_tree (suc d) (t ∷ ts) rest h = no_value (t ∷ ts) rest h
