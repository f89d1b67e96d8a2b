-- What the machine reads as the parts of items is spelled by well formed trees: initial blocks, events, instances,
-- heads of loops.
use Rattle.std.proofs.Common.{◌≡◌, ℕ, zero, suc, List, [], ◌∷◌, ◌++◌, Option, Some, None, refl, ap, ◌∙◌}
use Rattle.std.specs.Prelude.{All}
use Rattle.std.proofs.lemmas.List.Elements.{All-cons, All-nil}
use Rattle.fv_text.specs.declared.keyword.Keyword.TheVariants as word
use Rattle.fv_text.specs.declared.kind.Kind.{Kind}
use Rattle.fv_text.specs.declared.kind.Kind.TheVariants as k
use Rattle.fv_text.specs.declared.symbol.Symbol.TheVariants as s
use Rattle.vl_tree.specs.declared.part.Assignment.{Assignment}
use Rattle.vl_tree.specs.declared.part.Connection.{Connection}
use Rattle.vl_tree.specs.declared.part.EventKind.{EventKind}
use Rattle.vl_tree.specs.declared.part.EventKind.TheVariants as v
use Rattle.vl_tree.specs.declared.part.LoopHead.{LoopHead}
use Rattle.vl_tree.specs.declared.stmt.AssignKind.TheVariants as a
use Rattle.vl_tree.specs.Expr.{Expr}
use Rattle.vl_tree.specs.ExprSpelling as expr
use Rattle.vl_tree.specs.ExprWellFormed.{IsName, IsValue}
use Rattle.vl_tree.specs.ItemSpelling.{
  spell_head,
  spell_assignment,
  spell_event_kind,
  spell_optional,
  spell_connection,
  spell_connections,
  spell_overrides,
}
use Rattle.vl_tree.specs.Lval.{Lval, named, joined, more_lvals}
use Rattle.vl_tree.specs.LvalSpelling as lval
use Rattle.vl_tree.specs.LvalWellFormed as lval_well
use Rattle.vl_tree.specs.Stmt.{Stmt, Stmts, begin, assign, no_stmts, more_stmts}
use Rattle.vl_tree.specs.StmtSpelling.{spell, spell_all}
use Rattle.vl_tree.specs.StmtWellFormed.{IsWellFormed, AreWellFormed, IsInitial, AreInitial}
use Rattle.vl_tree.specs.WellFormed.{IsAssignment, IsConnection, AreOverrides, IsEvent, IsHead}
use Rattle.vl_parse_grammar.specs.Grammar as g
use Rattle.vl_parse_grammar.specs.Grammar.{
  Rule,
  sign,
  name,
  initial_stmt,
  initial_stmts,
  assignment,
  assignments,
  event,
  event_inside,
  overrides,
  connections,
  first_connection,
  connection,
  more_connections,
  connected,
  connected_value,
  loop_head,
  loop_variable,
  on_operand,
  on_initial_stmt,
}
use Rattle.vl_parse_grammar.proofs.Named.{Named, Derives, plain}
use Rattle.vl_parse_grammar.proofs.Onto.{onto}
use Rattle.vl_parse_grammar.proofs.Steps.{apart}
use Rattle.vl_parse_grammar.proofs.Spine.{nowhere}
use Rattle.vl_parse_grammar.proofs.TokenTrees.{sign_tree, name_tree, again_tree}
use Rattle.vl_parse_grammar.proofs.ExprTrees.{expr_tree, selects_tree}
use Rattle.vl_parse_grammar.proofs.DeclarationTrees.{Turn, Split, many_split, last_of, Tail, closes, goes_on, tail_tree}
use Rattle.vl_parse_grammar.proofs.DeclarationTrees.{FoundList, list_of, target_tree, targets_tree}
use Rattle.vl_parse_grammar.proofs.StmtTrees.{no_attributes}

-- behind `initial`
pub record FoundInitial (ts ks : List Kind) : Type 0 where
  pub tree : Stmt
  pub same : ts ≡ onto (spell tree) ks
  pub initial : IsInitial tree
  pub formed : IsWellFormed tree

record AllInitial (ts ks : List Kind) : Type 0 where
  trees : Stmts
  same : ts ≡ onto (spell_all trees) (k.Keyword word.End ∷ ks)
  initial : AreInitial trees
  formed : AreWellFormed trees

abbrev InitialAt : ℕ → Type 0
InitialAt d = (ts rest : List Named) → Derives d initial_stmt ts rest → FoundInitial (plain ts) (plain rest)

abbrev InitialsAt : ℕ → Type 0
InitialsAt d = (ts rest : List Named) → Derives d initial_stmts ts rest → AllInitial (plain ts) (plain rest)

assigned_by : (d : ℕ) (l : Lval) (ts : List Kind) (us rest : List Named) → ts ≡ onto (lval.spell l) (plain us)
    → lval_well.IsWellFormed l
    → Turn d (sign s.Equal ∷ g.expr ∷ sign s.Semicolon ∷ []) us rest → FoundInitial ts (plain rest)
assigned_by d l ts us rest e w (m, h, (m2, i, (m3, j, f))) =
    let x = expr_tree d m m2 i in
    record {
      tree = assign [] nowhere l a.Blocking x.tree;
      same = e ∙ ap (onto (lval.spell l)) (sign_tree d s.Equal us m h ∙ ap (λ u. k.Symbol s.Equal ∷ u)
          (x.same ∙ ap (onto (expr.spell x.tree)) (sign_tree d s.Semicolon m2 m3 j
          ∙ ap (λ r. k.Symbol s.Semicolon ∷ plain r) f)));
      initial = (refl, refl);
      formed = (no_attributes, w, x.formed);
    }

initial_by : (d : ℕ) → InitialsAt d → InitialAt (suc d)
initial_by d all ((k.Keyword word.Begin, w) ∷ ts) rest (m, h, j) =
    let xs = all ts m h in
    record {
      tree = begin [] nowhere None xs.trees;
      same = ap (λ u. k.Keyword word.Begin ∷ u)
          (xs.same ∙ ap (λ r. onto (spell_all xs.trees) (k.Keyword word.End ∷ plain r)) j);
      initial = (refl, refl, xs.initial);
      formed = (no_attributes, tt, xs.formed);
    }
initial_by d all ((k.Name text, w) ∷ ts) rest (m, h, others) =
    let ss = selects_tree d ts m h in
    assigned_by d (named nowhere text ss.trees) (k.Name text ∷ plain ts) m rest (ap (λ u. k.Name text ∷ u) ss.same)
    (w, ss.formed) others
initial_by d all ((k.Symbol s.OpenBrace, w) ∷ ts) rest (m, h, (m2, i, others)) =
    let x = target_tree d ts m h in
    let xs = targets_tree d m m2 i in
    assigned_by d (joined nowhere (more_lvals x.tree xs.trees)) (k.Symbol s.OpenBrace ∷ plain ts) m2 rest
    (ap (λ u. k.Symbol s.OpenBrace ∷ u) (x.same ∙ ap (onto (lval.spell x.tree)) xs.same))
    (tt, (x.formed, xs.formed)) others
initial_by d all [] rest h = apart h.0
initial_by d all ((k.Symbol y, w) ∷ ts) rest h = absurd h
initial_by d all ((k.Keyword y, w) ∷ ts) rest h = absurd h
initial_by d all (t ∷ ts) rest h = absurd h

one_more : (d : ℕ) → InitialAt (suc d) → InitialsAt d → (t : Named) (ts rest : List Named)
    → Split d initial_stmts t ts rest (on_initial_stmt t.0)
    → AllInitial (plain (t ∷ ts)) (plain rest)
one_more d one all t ts rest f =
    let x = one (t ∷ ts) f.middle f.first in
    let xs = all f.middle rest f.others in
    record {
      trees = more_stmts x.tree xs.trees;
      same = x.same ∙ ap (onto (spell x.tree)) xs.same;
      initial = (x.initial, xs.initial);
      formed = (x.formed, xs.formed);
    }

initials_by : (d : ℕ) → InitialAt (suc d) → InitialsAt d → InitialsAt (suc d)
initials_by d one all ((k.Keyword word.End, w) ∷ ts) rest h =
    record { trees = no_stmts; same = ap (λ r. k.Keyword word.End ∷ plain r) h; initial = tt; formed = tt }
initials_by d one all [] rest h = apart h.0
initials_by d one all ((k.Keyword y, w) ∷ ts) rest h =
    one_more d one all (k.Keyword y, w) ts rest
    (many_split d initial_stmts (k.Keyword y, w) ts rest (on_initial_stmt (k.Keyword y)) h)
initials_by d one all (t ∷ ts) rest h =
    one_more d one all t ts rest (many_split d initial_stmts t ts rest (on_initial_stmt t.0) h)

mutual
  pub initial_tree : (d : ℕ) → InitialAt d
  initial_tree zero ts rest h = absurd h
  initial_tree (suc d) ts rest h = initial_by d (initials_tree d) ts rest h

  initials_tree : (d : ℕ) → InitialsAt d
  initials_tree zero ts rest h = absurd h
  initials_tree (suc d) ts rest h = initials_by d (initial_by d (initials_tree d)) (initials_tree d) ts rest h

-- continuous assignments
record FoundAssignment (d : ℕ) (xs : List Rule) (ts rest : List Named) : Type 0 where
  tree : Assignment
  middle : List Named
  same : plain ts ≡ onto (spell_assignment tree) (plain middle)
  formed : IsAssignment tree
  others : Turn d xs middle rest

assignment_tree : (d : ℕ) (xs : List Rule) (ts rest : List Named) → Turn d (assignment ++ xs) ts rest
    → FoundAssignment d xs ts rest
assignment_tree d xs ts rest (m, h, (m2, i, (m3, j, others))) =
    let l = target_tree d ts m h in
    let x = expr_tree d m2 m3 j in
    record {
      tree = record { target = l.tree; value = x.tree };
      middle = m3;
      same =
          l.same ∙ ap (onto (lval.spell l.tree)) (sign_tree d s.Equal m m2 i ∙ ap (λ u. k.Symbol s.Equal ∷ u) x.same);
      formed = (l.formed, x.formed);
      others = others;
    }

assignments_tail : (d : ℕ) (ts rest : List Named) → Derives (suc d) assignments ts rest
    → Tail spell_assignment IsAssignment assignments (k.Symbol s.Semicolon) d ts rest
assignments_tail d ((k.Symbol s.Comma, w) ∷ ts) rest h =
    let x = assignment_tree d (assignments ∷ []) ts rest h in
    goes_on x.tree x.middle (ap (λ u. k.Symbol s.Comma ∷ u) x.same) x.formed
    (last_of d assignments x.middle rest x.others)
assignments_tail d ((k.Symbol s.Semicolon, w) ∷ ts) rest h = closes (ap (λ r. k.Symbol s.Semicolon ∷ plain r) h)
assignments_tail d [] rest h = apart h.0
assignments_tail d ((k.Symbol y, w) ∷ ts) rest h = absurd h
assignments_tail d (t ∷ ts) rest h = absurd h

pub assignments_tree : (d : ℕ) (ts rest : List Named) → Turn d (assignment ++ assignments ∷ []) ts rest
    → FoundList spell_assignment IsAssignment (k.Symbol s.Semicolon) (plain ts) (plain rest)
assignments_tree d ts rest h =
    let x = assignment_tree d (assignments ∷ []) ts rest h in
    list_of spell_assignment IsAssignment assignments (k.Symbol s.Semicolon) (plain ts) (plain x.middle)
    (plain rest) x.tree x.same x.formed
    (tail_tree spell_assignment IsAssignment assignments (k.Symbol s.Semicolon) assignments_tail d x.middle rest
    (last_of d assignments x.middle rest x.others))

-- events
pub record FoundEvent (ts ks : List Kind) : Type 0 where
  pub kind : EventKind
  pub same : ts ≡ onto (spell_event_kind kind) ks
  pub formed : IsEvent kind

inside_tree : (d : ℕ) (ts rest : List Named) → Derives d event_inside ts rest
    → FoundEvent (k.Symbol s.OpenParen ∷ plain ts) (plain rest)
inside_tree zero ts rest h = absurd h
inside_tree (suc d) ((k.Symbol s.Star, w) ∷ ts) rest (m, h, j) = record {
  kind = v.Spaced;
  same = ap (λ u. k.Symbol s.OpenParen ∷ k.Symbol s.Star ∷ u)
      (sign_tree d s.CloseParen ts m h ∙ ap (λ r. k.Symbol s.CloseParen ∷ plain r) j);
  formed = tt;
}
inside_tree (suc d) ((k.Symbol s.CloseAttribute, w) ∷ ts) rest h = record {
  kind = v.CloseJoined;
  same = ap (λ r. k.Symbol s.OpenParen ∷ k.Symbol s.CloseAttribute ∷ plain r) h;
  formed = tt;
}
inside_tree (suc d) ((k.Keyword word.Posedge, w) ∷ ts) rest (m, h, (m2, i, j)) =
    let x = name_tree d ts m h in
    record {
      kind = v.Posedge x.text;
      same = ap (λ u. k.Symbol s.OpenParen ∷ k.Keyword word.Posedge ∷ u) (x.same ∙ ap (λ u. k.Name x.text ∷ u)
          (sign_tree d s.CloseParen m m2 i ∙ ap (λ r. k.Symbol s.CloseParen ∷ plain r) j));
      formed = x.fine;
    }
inside_tree (suc d) [] rest h = apart h.0
inside_tree (suc d) ((k.Symbol y, w) ∷ ts) rest h = absurd h
inside_tree (suc d) ((k.Keyword y, w) ∷ ts) rest h = absurd h
inside_tree (suc d) (t ∷ ts) rest h = absurd h

pub event_tree : (d : ℕ) (ts rest : List Named) → Derives d event ts rest → FoundEvent (plain ts) (plain rest)
event_tree zero ts rest h = absurd h
event_tree (suc d) ((k.Symbol s.Star, w) ∷ ts) rest h =
    record { kind = v.Bare; same = ap (λ r. k.Symbol s.Star ∷ plain r) h; formed = tt }
event_tree (suc d) ((k.Symbol s.OpenAttribute, w) ∷ ts) rest (m, h, j) = record {
  kind = v.OpenJoined;
  same = ap (λ u. k.Symbol s.OpenAttribute ∷ u)
      (sign_tree d s.CloseParen ts m h ∙ ap (λ r. k.Symbol s.CloseParen ∷ plain r) j);
  formed = tt;
}
event_tree (suc d) ((k.Symbol s.OpenParen, w) ∷ ts) rest h = inside_tree d ts rest (last_of d event_inside ts rest h)
event_tree (suc d) [] rest h = apart h.0
event_tree (suc d) ((k.Symbol y, w) ∷ ts) rest h = absurd h
event_tree (suc d) (t ∷ ts) rest h = absurd h

-- connections
record FoundOptional (ts ks : List Kind) : Type 0 where
  tree : Option Expr
  same : ts ≡ onto (spell_optional tree) (k.Symbol s.CloseParen ∷ ks)
  formed : IsValue tree

in_value : (d : ℕ) (t : Named) (ts rest : List Named)
    → Split d (sign s.CloseParen) t ts rest (on_operand g.plain 0 0 t.0)
    → FoundOptional (plain (t ∷ ts)) (plain rest)
in_value d t ts rest f =
    let x = expr_tree (suc d) (t ∷ ts) f.middle f.first in
    record {
      tree = Some x.tree;
      same = x.same ∙ ap (onto (expr.spell x.tree)) (sign_tree d s.CloseParen f.middle rest f.others);
      formed = x.formed;
    }

value_in_parens : (d : ℕ) (ts rest : List Named) → Derives d connected_value ts rest
    → FoundOptional (plain ts) (plain rest)
value_in_parens zero ts rest h = absurd h
value_in_parens (suc d) ((k.Symbol s.CloseParen, w) ∷ ts) rest h =
    record { tree = None; same = ap (λ r. k.Symbol s.CloseParen ∷ plain r) h; formed = tt }
value_in_parens (suc d) [] rest h = apart h.0
value_in_parens (suc d) ((k.Symbol y, w) ∷ ts) rest h =
    in_value d (k.Symbol y, w) ts rest (many_split d (sign s.CloseParen) (k.Symbol y, w) ts rest
    (on_operand g.plain 0 0 (k.Symbol y)) h)
value_in_parens (suc d) (t ∷ ts) rest h =
    in_value d t ts rest (many_split d (sign s.CloseParen) t ts rest (on_operand g.plain 0 0 t.0) h)

record InBrackets (ts ks : List Kind) : Type 0 where
  tree : Option Expr
  same : ts ≡ k.Symbol s.OpenParen ∷ onto (spell_optional tree) (k.Symbol s.CloseParen ∷ ks)
  formed : IsValue tree

connected_tree : (d : ℕ) (ts rest : List Named) → Derives d connected ts rest → InBrackets (plain ts) (plain rest)
connected_tree zero ts rest h = absurd h
connected_tree (suc d) ((k.Symbol s.OpenParen, w) ∷ ts) rest h =
    let x = value_in_parens d ts rest (last_of d connected_value ts rest h) in
    record { tree = x.tree; same = ap (λ u. k.Symbol s.OpenParen ∷ u) x.same; formed = x.formed }
connected_tree (suc d) [] rest h = apart h.0
connected_tree (suc d) ((k.Symbol y, w) ∷ ts) rest h = absurd h
connected_tree (suc d) (t ∷ ts) rest h = absurd h

record FoundConnection (d : ℕ) (xs : List Rule) (ts rest : List Named) : Type 0 where
  tree : Connection
  middle : List Named
  same : k.Symbol s.Dot ∷ plain ts ≡ onto (spell_connection tree) (plain middle)
  formed : IsConnection tree
  others : Turn d xs middle rest

behind_dot : (d : ℕ) (xs : List Rule) (ts rest : List Named) → Turn d (name ∷ connected ∷ xs) ts rest
    → FoundConnection d xs ts rest
behind_dot d xs ts rest (m, h, (m2, i, others)) =
    let x = name_tree d ts m h in
    let y = connected_tree d m m2 i in
    record {
      tree = record { pos = nowhere; port = x.text; value = y.tree };
      middle = m2;
      same = ap (λ u. k.Symbol s.Dot ∷ u) (x.same ∙ ap (λ u. k.Name x.text ∷ u) y.same);
      formed = (x.fine, y.formed);
      others = others;
    }

record OneConnection (ts ks : List Kind) : Type 0 where
  tree : Connection
  same : ts ≡ onto (spell_connection tree) ks
  formed : IsConnection tree

connection_tree : (d : ℕ) (ts rest : List Named) → Derives d connection ts rest → OneConnection (plain ts) (plain rest)
connection_tree zero ts rest h = absurd h
connection_tree (suc d) ((k.Symbol s.Dot, w) ∷ ts) rest h =
    let x = behind_dot d [] ts rest h in
    record {
      tree = x.tree;
      same = x.same ∙ ap (λ r. onto (spell_connection x.tree) (plain r)) x.others;
      formed = x.formed;
    }
connection_tree (suc d) [] rest h = apart h.0
connection_tree (suc d) ((k.Symbol y, w) ∷ ts) rest h = absurd h
connection_tree (suc d) (t ∷ ts) rest h = absurd h

connections_tail : (d : ℕ) (ts rest : List Named) → Derives (suc d) more_connections ts rest
    → Tail spell_connection IsConnection more_connections (k.Symbol s.CloseParen) d ts rest
connections_tail d ((k.Symbol s.Comma, w) ∷ ts) rest (m, h, others) =
    let x = connection_tree d ts m h in
    goes_on x.tree m (ap (λ u. k.Symbol s.Comma ∷ u) x.same) x.formed (last_of d more_connections m rest others)
connections_tail d ((k.Symbol s.CloseParen, w) ∷ ts) rest h = closes (ap (λ r. k.Symbol s.CloseParen ∷ plain r) h)
connections_tail d [] rest h = apart h.0
connections_tail d ((k.Symbol y, w) ∷ ts) rest h = absurd h
connections_tail d (t ∷ ts) rest h = absurd h

record FoundConnections (ts ks : List Kind) : Type 0 where
  trees : List Connection
  same : ts ≡ onto (spell_connections trees) ks
  formed : All IsConnection trees

behind_bracket : (d : ℕ) (ts rest : List Named) → Derives d first_connection ts rest
    → FoundConnections (k.Symbol s.OpenParen ∷ plain ts) (plain rest)
behind_bracket zero ts rest h = absurd h
behind_bracket (suc d) ((k.Symbol s.CloseParen, w) ∷ ts) rest h = record {
  trees = [];
  same = ap (λ r. k.Symbol s.OpenParen ∷ k.Symbol s.CloseParen ∷ plain r) h;
  formed = All-nil IsConnection;
}
behind_bracket (suc d) ((k.Symbol s.Dot, w) ∷ ts) rest h =
    let x = behind_dot d (more_connections ∷ []) ts rest h in
    let xs = tail_tree spell_connection IsConnection more_connections
    (k.Symbol s.CloseParen) connections_tail d x.middle rest
    (last_of d more_connections x.middle rest x.others) in
    record {
      trees = x.tree ∷ xs.trees;
      same = ap (λ u. k.Symbol s.OpenParen ∷ u) (x.same ∙ ap (onto (spell_connection x.tree)) xs.same);
      formed = All-cons IsConnection x.tree xs.trees x.formed xs.formed;
    }
behind_bracket (suc d) [] rest h = apart h.0
behind_bracket (suc d) ((k.Symbol y, w) ∷ ts) rest h = absurd h
behind_bracket (suc d) (t ∷ ts) rest h = absurd h

connections_tree : (d : ℕ) (ts rest : List Named) → Derives d connections ts rest
    → FoundConnections (plain ts) (plain rest)
connections_tree zero ts rest h = absurd h
connections_tree (suc d) ((k.Symbol s.OpenParen, w) ∷ ts) rest h =
    behind_bracket d ts rest (last_of d first_connection ts rest h)
connections_tree (suc d) [] rest h = apart h.0
connections_tree (suc d) ((k.Symbol y, w) ∷ ts) rest h = absurd h
connections_tree (suc d) (t ∷ ts) rest h = absurd h

-- an instance behind the name of its module
pub record FoundInstance (ts ks : List Kind) : Type 0 where
  pub overrides : Option (List Connection)
  pub name : List ℕ
  pub connections : List Connection
  pub same : ts ≡ onto (spell_overrides overrides)
      (k.Name name ∷ onto (spell_connections connections) (k.Symbol s.Semicolon ∷ ks))
  pub formed : AreOverrides overrides × IsName name × All IsConnection connections

pub overrides_tree : (d : ℕ) (ts rest : List Named) → Derives d overrides ts rest
    → FoundInstance (plain ts) (plain rest)
overrides_tree zero ts rest h = absurd h
overrides_tree (suc d) ((k.Symbol s.Hash, w) ∷ ts) rest (m, h, (m2, i, (m3, j, (m4, l, e)))) =
    let os = connections_tree d ts m h in
    let x = name_tree d m m2 i in
    let cs = connections_tree d m2 m3 j in
    record {
      overrides = Some os.trees;
      name = x.text;
      connections = cs.trees;
      same = ap (λ u. k.Symbol s.Hash ∷ u) (os.same
          ∙ ap (onto (spell_connections os.trees)) (x.same ∙ ap (λ u. k.Name x.text ∷ u)
          (cs.same ∙ ap (onto (spell_connections cs.trees))
          (sign_tree d s.Semicolon m3 m4 l ∙ ap (λ r. k.Symbol s.Semicolon ∷ plain r) e))));
      formed = (os.formed, x.fine, cs.formed);
    }
overrides_tree (suc d) ((k.Name text, w) ∷ ts) rest (m, h, (m2, i, j)) =
    let cs = connections_tree d ts m h in
    record {
      overrides = None;
      name = text;
      connections = cs.trees;
      same = ap (λ u. k.Name text ∷ u) (cs.same ∙ ap (onto (spell_connections cs.trees))
          (sign_tree d s.Semicolon m m2 i ∙ ap (λ r. k.Symbol s.Semicolon ∷ plain r) j));
      formed = (tt, w, cs.formed);
    }
overrides_tree (suc d) [] rest h = apart h.0
overrides_tree (suc d) ((k.Symbol y, w) ∷ ts) rest h = absurd h
overrides_tree (suc d) (t ∷ ts) rest h = absurd h

-- heads of loops
pub record FoundHead (ts ks : List Kind) : Type 0 where
  pub tree : LoopHead
  pub same : ts ≡ onto (spell_head tree) ks
  pub formed : IsHead tree

in_head : (d : ℕ) (ts rest : List Named) → Derives d loop_variable ts rest
    → FoundHead (k.Symbol s.OpenParen ∷ plain ts) (plain rest)
unfolding spell_head
in_head zero ts rest h = absurd h
in_head (suc d) ((k.Name text, w) ∷ ts) rest
    (m, h, (m2, i, (m3, j, (m4, l, (m5, f, (m6, e, (m7, o, (m8, q, (m9, r, y))))))))) =
    let first = expr_tree d m m2 i in
    let second = expr_tree d m3 m4 l in
    let third = expr_tree d m7 m8 q in
    record {
      tree = record {
        variable = text;
        start = first.tree;
        condition = second.tree;
        next_variable = text;
        next = third.tree;
      };
      same = ap (λ u. k.Symbol s.OpenParen ∷ k.Name text ∷ u)
          (sign_tree d s.Equal ts m h ∙ ap (λ u. k.Symbol s.Equal ∷ u)
          (first.same ∙ ap (onto (expr.spell first.tree))
          (sign_tree d s.Semicolon m2 m3 j ∙ ap (λ u. k.Symbol s.Semicolon ∷ u)
          (second.same ∙ ap (onto (expr.spell second.tree))
          (sign_tree d s.Semicolon m4 m5 f ∙ ap (λ u. k.Symbol s.Semicolon ∷ u)
          (again_tree d text m5 m6 e ∙ ap (λ u. k.Name text ∷ u)
          (sign_tree d s.Equal m6 m7 o ∙ ap (λ u. k.Symbol s.Equal ∷ u)
          (third.same ∙ ap (onto (expr.spell third.tree))
          (sign_tree d s.CloseParen m8 m9 r ∙ ap (λ u. k.Symbol s.CloseParen ∷ plain u) y)))))))));
      formed = (w, refl, first.formed, second.formed, third.formed);
    }
in_head (suc d) [] rest h = apart h.0
in_head (suc d) (t ∷ ts) rest h = absurd h

pub head_tree : (d : ℕ) (ts rest : List Named) → Derives d loop_head ts rest → FoundHead (plain ts) (plain rest)
head_tree zero ts rest h = absurd h
head_tree (suc d) ((k.Symbol s.OpenParen, w) ∷ ts) rest h = in_head d ts rest (last_of d loop_variable ts rest h)
head_tree (suc d) [] rest h = apart h.0
head_tree (suc d) ((k.Symbol y, w) ∷ ts) rest h = absurd h
head_tree (suc d) (t ∷ ts) rest h = absurd h
