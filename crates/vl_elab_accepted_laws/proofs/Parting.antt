-- The parts of items and ports that aren't refused are known.
use Rattle.std.specs.Prelude.{◌≡◌, refl, ℕ, List, [], ◌∷◌, Bool, true, false, ◌&&◌, not, Option, Some, None}
use Rattle.std.proofs.Common.{sym, true≢false, subst}
use Rattle.fv_text.specs.declared.pos.Pos.{Pos}
use Rattle.vl_tree.specs.declared.declaration.DeclaredName.{DeclaredName}
use Rattle.vl_tree.specs.declared.declaration.FullPort.{FullPort}
use Rattle.vl_tree.specs.declared.declaration.NetKind.{NetKind}
use Rattle.vl_tree.specs.declared.declaration.NetKind.TheVariants as net
use Rattle.vl_tree.specs.declared.declaration.Port.{Port}
use Rattle.vl_tree.specs.declared.declaration.Range.{Range}
use Rattle.vl_tree.specs.declared.part.Assignment.{Assignment}
use Rattle.vl_tree.specs.declared.part.EventKind.{EventKind}
use Rattle.vl_tree.specs.declared.part.EventKind.TheVariants as e
use Rattle.vl_tree.specs.declared.source.Module.{Module}
use Rattle.vl_tree.specs.DeclarationWellFormed.{IsDeclaredName}
use Rattle.vl_tree.specs.Expr.{Expr, whole}
use Rattle.vl_tree.specs.ExprWellFormed as expr
use Rattle.vl_tree.specs.ExprWellFormed.{IsName, IsValue}
use Rattle.vl_tree.specs.Lval.{Lval, named}
use Rattle.vl_tree.specs.LvalWellFormed as lval
use Rattle.vl_tree.specs.Stmt as stmt
use Rattle.vl_tree.specs.Stmt.{Stmt, Stmts, no_stmts, more_stmts}
use Rattle.vl_tree.specs.StmtWellFormed as stmts
use Rattle.vl_tree.specs.Item.{
  Item,
  declaration,
  integer,
  genvar,
  parameter,
  assign,
  always,
  initial,
  instance,
  generate,
  for_loop,
  if_only,
  if_else,
}
use Rattle.vl_tree.specs.WellFormed.{IsWellFormed, IsAssignment}
use Rattle.vl_size.specs.declared.context.Context.{Context}
use Rattle.vl_size.specs.declared.decl.Class.{Class}
use Rattle.vl_size.specs.declared.decl.Class.TheVariants as class
use Rattle.vl_size.specs.declared.decl.Decl.{Decl}
use Rattle.vl_mean.specs.Declarations.{class_of_attributes, class_of_kind, joined_attributes}
use Rattle.vl_mean.specs.Parts.{equation, starts, declares_all}
use Rattle.vl_mean.specs.Parts.{optional_value, values_of, port_kind, assignments, block_part, initial_parts}
use Rattle.vl_mean.specs.Parts.{all_initial_parts, item_parts, step_parts}
use Rattle.vl_mean.specs.Runs.{Each}
use Rattle.vl_mean.specs.Scopes.{Scope}
use Rattle.vl_mean.specs.Walk.{Place, Use, port}
use Rattle.vl_mean_flat.specs.Flattened.{Known}
use Rattle.vl_mean_flat.proofs.EachOf.{both}
use Rattle.vl_elab_accepted_laws.proofs.Fresh.{NoneOf, none-front, none-back, not-refused}
use Rattle.vl_elab_accepted_laws.proofs.Plain.{all-each}
use Rattle.vl_elab_spec.specs.declared.elab_fault.ElabFault.{ElabFault}
use Rattle.vl_elab_spec.specs.Expressions.{refused_if, expr_refusals}
use Rattle.vl_elab_spec.specs.Items.{given_value, declared_value, name_refusals, names_refusals, port_net}
use Rattle.vl_elab_spec.specs.Items.{port_refusals, assignments_refusals, item_refusals, event_refusals}
use Rattle.vl_elab_spec.specs.Meanings.{Names, meanings_at, may_have_words, is_variable_class}
use Rattle.vl_elab_spec.specs.Statements.{target_width, target_refusals, assigned_in, assignment_refusals}
use Rattle.vl_elab_spec.specs.Statements.{initial_refusals, all_initial_refusals, stmt_refusals}
use Rattle.vl_elab_scope.specs.Seen.{AllNamed}
use Rattle.vl_elab_accepted_laws.specs.Sized.{AreSound}
use Rattle.vl_elab_accepted_laws.specs.Means.{AreMeant}
use Rattle.vl_elab_accepted_laws.proofs.Knowing.{known_expr, known_target, known_stmt}
use Rattle.vl_elab_accepted_laws.specs.Right.{AreRight}
use Rattle.vl_elab_accepted_laws.proofs.Spots.{HasWidth, start_fits}

module _ (ns : List Names) (ss : List Scope) (n : AllNamed ns) (m : AreMeant ns ss) where
  -- ---- assignments

  known_equation : (continuous fixed value : Bool) (l : Lval) (x : Expr) → lval.IsWellFormed l → expr.IsWellFormed x
      → NoneOf (assignment_refusals ns continuous fixed value l x) → Known (equation ss l ss x)
  known_equation continuous fixed value l x wl we h =
      let c : Context = assigned_in ns (target_width ns l) x in (
        known_target ns ss continuous fixed l n m wl
            (none-front (target_refusals ns continuous fixed l) (expr_refusals ns value c x) h),
        known_expr ns ss value c x n m we
            (none-back (target_refusals ns continuous fixed l) (expr_refusals ns value c x) h),
      )

  known_start : (continuous fixed : Bool) (l : Lval) (x : Expr) → lval.IsWellFormed l → expr.IsWellFormed x
      → NoneOf (assignment_refusals ns continuous fixed true l x) → Known (starts ss l x)
  known_start continuous fixed l x wl we h =
      let c : Context = assigned_in ns (target_width ns l) x in
      let hl = none-front (target_refusals ns continuous fixed l) (expr_refusals ns true c x) h in
      let he = none-back (target_refusals ns continuous fixed l) (expr_refusals ns true c x) h in
      let width : HasWidth ns ss n m l x = start_fits ns ss n m continuous fixed c l x wl we hl he in (
        known_target ns ss continuous fixed l n m wl hl,
        known_expr ns ss true c x n m we he,
        width.some,
        width.few,
      )

  -- ---- values of declared names

  known_given : (p : Pos) (kind : NetKind) (text : List ℕ) (value : Option Expr) → IsName text → IsValue value
      → NoneOf (given_value ns p kind text value) → Each Known (optional_value ss kind text value)
  known_given p kind text None wn w h = tt
  known_given p net.Wire text (Some x) wn w h =
      (known_equation true true false (named p text whole) x (wn, tt) w h, tt)
  known_given p net.Reg text (Some x) wn w h =
      (known_start false true (named p text whole) x (wn, tt) w h, tt)

  no_value : (a : Bool) → (a && false) ≡ true → ⊥
  no_value true h = true≢false (sym h)
  no_value false h = true≢false (sym h)

  allowed : (b : Bool) (g : ElabFault) → NoneOf (refused_if (not b) g) → b ≡ true
  allowed true g h = refl
  allowed false g h = absurd (true≢false (not-refused true g h))

  -- a memory has no value
  known_declared : (p : Pos) (kind : NetKind) (c : Class) (text : List ℕ) (words : Option Range) (value : Option Expr)
      → IsName text → IsValue value → may_have_words c words value ≡ true
      → NoneOf (declared_value ns p kind text words value) → Each Known (optional_value ss kind text value)
  known_declared p kind c text None value wn w k h = known_given p kind text value wn w h
  known_declared p kind c text (Some r) None wn w k h = tt
  known_declared p kind c text (Some r) (Some x) wn w k h = absurd (no_value (is_variable_class c) k)

  known_names : (kind : NetKind) (c : Class) (shape : Option Range) (xs : List DeclaredName)
      → Each IsDeclaredName xs → NoneOf (names_refusals ns kind c shape xs) → Each Known (values_of ss kind xs)
  known_names kind c shape [] w h = tt
  known_names kind c shape (x ∷ xs) w h =
      let here = none-front (name_refusals ns kind c shape x) (names_refusals ns kind c shape xs) h in
      both Known (optional_value ss kind x.name x.value) (values_of ss kind xs)
      (known_declared x.pos kind c x.name x.words x.value w.0.0 w.0.2
      (allowed (may_have_words c x.words x.value) _ (none-back _ _ (none-front _ _ here)))
      (none-back _ (declared_value ns x.pos kind x.name x.words x.value) here))
      (known_names kind c shape xs w.1
      (none-back (name_refusals ns kind c shape x) (names_refusals ns kind c shape xs) h))

  known_declarations : (path : List ℕ) (ds : List Decl) → Each Known (declares_all path ds)
  known_declarations path [] = tt
  known_declarations path (d ∷ ds) = (tt, known_declarations path ds)

  -- ---- assignments and blocks

  known_assignments : (xs : List Assignment) → Each IsAssignment xs → NoneOf (assignments_refusals ns xs)
      → Each Known (assignments ss xs)
  known_assignments [] w h = tt
  known_assignments (x ∷ xs) w h = (
    known_equation true true false x.target x.value w.0.0 w.0.1
        (none-front (assignment_refusals ns true true false x.target x.value) (assignments_refusals ns xs) h),
    known_assignments xs w.1
        (none-back (assignment_refusals ns true true false x.target x.value) (assignments_refusals ns xs) h),
  )

  known_block : (kind : EventKind) (s : Stmt) → stmts.IsWellFormed s → NoneOf (stmt_refusals ns s)
      → Each Known (block_part ss kind s ∷ [])
  known_block e.Bare s w h = (known_stmt ns ss s n m w h, tt)
  known_block e.Spaced s w h = (known_stmt ns ss s n m w h, tt)
  known_block e.OpenJoined s w h = (known_stmt ns ss s n m w h, tt)
  known_block e.CloseJoined s w h = (known_stmt ns ss s n m w h, tt)
  known_block (e.Posedge text) s w h = (known_stmt ns ss s n m w h, tt)

  mutual
    known_initial : (s : Stmt) → stmts.IsWellFormed s → NoneOf (initial_refusals ns s)
        → Each Known (initial_parts ss s)
    known_initial (stmt.begin attrs p label xs) w h = known_all_initial xs w.2 h
    known_initial (stmt.assign attrs p l kind x) w h = (known_start false true l x w.1 w.2 h, tt)
    known_initial (stmt.if_only attrs p x s) w h = tt
    known_initial (stmt.if_else attrs p x s t) w h = tt
    known_initial (stmt.case attrs p kind x arms) w h = tt
    known_initial (stmt.assume attrs p x) w h = tt
    known_initial (stmt.empty attrs p) w h = tt

    known_all_initial : (xs : Stmts) → stmts.AreWellFormed xs → NoneOf (all_initial_refusals ns xs)
        → Each Known (all_initial_parts ss xs)
    known_all_initial no_stmts w h = tt
    known_all_initial (more_stmts x xs) w h =
        both Known (initial_parts ss x) (all_initial_parts ss xs)
        (known_initial x w.0 (none-front (initial_refusals ns x) (all_initial_refusals ns xs) h))
        (known_all_initial xs w.1 (none-back (initial_refusals ns x) (all_initial_refusals ns xs) h))

  same_kind : (o : Option NetKind) → port_net o ≡ port_kind o
  same_kind None = refl
  same_kind (Some kind) = refl

-- ---- items and ports

pub known_item : (ms : List Module) (at : Place) (x : Item) → AreRight (meanings_at at) at.scopes
    → AreSound (meanings_at at) → IsWellFormed x → item_refusals ms at x ≡ [] → Each Known (item_parts at x)
known_item ms at (declaration attrs p d) r s w h =
    let ns = meanings_at at in
    both Known _ (values_of at.scopes d.net d.names) (known_declarations ns at.scopes r.0 (r.1 s) at.path _)
    (known_names ns at.scopes r.0 (r.1 s) d.net
    (class_of_attributes (class_of_kind d.net) (joined_attributes attrs)) d.shape.range d.names
    (all-each IsDeclaredName d.names w.1.1.1) (none-back _ _ h))
known_item ms at (integer attrs p xs) r s w h =
    let ns = meanings_at at in
    both Known _ (values_of at.scopes net.Reg xs) (known_declarations ns at.scopes r.0 (r.1 s) at.path _)
    (known_names ns at.scopes r.0 (r.1 s) net.Reg
    (class_of_attributes class.Variable (joined_attributes attrs)) None xs
    (all-each IsDeclaredName xs w.1.1) (none-back _ _ h))
known_item ms at (genvar attrs p xs) r s w h = tt
known_item ms at (parameter attrs p kind xs) r s w h = tt
known_item ms at (assign attrs p xs) r s w h =
    known_assignments (meanings_at at) at.scopes r.0 (r.1 s) xs (all-each IsAssignment xs w.1.1) h
known_item ms at (always attrs p event y) r s w h =
    known_block (meanings_at at) at.scopes r.0 (r.1 s) event.kind y w.2
    (none-back (event_refusals (meanings_at at) event.pos event.kind) (stmt_refusals (meanings_at at) y) h)
known_item ms at (initial attrs p y) r s w h = known_initial (meanings_at at) at.scopes r.0 (r.1 s) y w.2 h
known_item ms at (instance attrs p x) r s w h = tt
known_item ms at (generate attrs p mark) r s w h = tt
known_item ms at (for_loop attrs p head b) r s w h = tt
known_item ms at (if_only attrs p c b) r s w h = tt
known_item ms at (if_else attrs p c b d) r s w h = tt

pub known_port : (at : Place) (u : Use) (p : Port) (q : FullPort) → AreRight (meanings_at at) at.scopes
    → AreSound (meanings_at at) → IsName q.name → IsValue q.value → port_refusals at p.pos q ≡ []
    → Each Known (step_parts (port at u p q))
known_port at u p q r s wn w h =
    let ns = meanings_at at in (
      tt,
      known_given ns at.scopes r.0 (r.1 s) p.pos (port_kind q.net) q.name q.value wn w
          (subst (λ kind. NoneOf (given_value ns p.pos kind q.name q.value))
          (same_kind ns at.scopes r.0 (r.1 s) q.net) (none-back _ _ h)),
    )
