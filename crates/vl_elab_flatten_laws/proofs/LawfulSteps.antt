-- The parts of steps that aren't refused are drivers and values at first of a design without hierarchy.
use Rattle.std.specs.Prelude.{◌≡◌, refl, ℕ, List, [], ◌∷◌, ◌++◌, Bool, true, false, ◌&&◌, not, is_none, All, bytes_eq}
use Rattle.std.specs.Prelude.{find, if◌then◌else◌, Option, Some, None, IsSome}
use Rattle.std.proofs.Common.{ap, sym, ◌∙◌, subst, true≢false}
use Rattle.std.proofs.lemmas.List.Elements.{All-nil, All-cons}
use Rattle.fv_text.specs.declared.pos.Pos.{Pos}
use Rattle.vl_tree.specs.declared.declaration.DeclaredName.{DeclaredName}
use Rattle.vl_tree.specs.declared.declaration.Direction.{Direction}
use Rattle.vl_tree.specs.declared.declaration.Direction.TheVariants as direction
use Rattle.vl_tree.specs.declared.declaration.FullPort.{FullPort}
use Rattle.vl_tree.specs.declared.declaration.NetKind.{NetKind}
use Rattle.vl_tree.specs.declared.declaration.NetKind.TheVariants as net
use Rattle.vl_tree.specs.declared.declaration.Range.{Range}
use Rattle.vl_tree.specs.declared.part.Assignment.{Assignment}
use Rattle.vl_tree.specs.declared.part.EventKind.{EventKind}
use Rattle.vl_tree.specs.declared.part.EventKind.TheVariants as event
use Rattle.vl_tree.specs.declared.source.Module.{Module}
use Rattle.vl_tree.specs.DeclarationWellFormed.{IsDeclaredName}
use Rattle.vl_tree.specs.Expr.{Expr, name, whole}
use Rattle.vl_tree.specs.ExprWellFormed as expr
use Rattle.vl_tree.specs.ExprWellFormed.{IsName, IsValue}
use Rattle.vl_tree.specs.Item.{Item, declaration, integer, genvar, parameter, assign, always, initial, instance}
use Rattle.vl_tree.specs.Item.{generate, for_loop, if_only, if_else}
use Rattle.vl_tree.specs.Lval.{Lval, named}
use Rattle.vl_tree.specs.LvalWellFormed as lval
use Rattle.vl_tree.specs.Stmt as stmt
use Rattle.vl_tree.specs.Stmt.{Stmt, Stmts, no_stmts, more_stmts}
use Rattle.vl_tree.specs.StmtWellFormed as stmts
use Rattle.vl_tree.specs.WellFormed.{IsAssignment, IsWellFormed}
use Rattle.vl_size.specs.declared.context.Context.{Context}
use Rattle.vl_size.specs.declared.decl.Class.{Class}
use Rattle.vl_size.specs.declared.decl.Class.TheVariants as class
use Rattle.vl_size.specs.declared.decl.Decl.{Decl}
use Rattle.vl_size.specs.Size.{size}
use Rattle.vl_size.specs.Table.{declared_as}
use Rattle.vl_mean.specs.FlatLaw.{IsAssigned, IsBlock, IsReadIn, IsTarget, assigned_context, is_net, is_variable}
use Rattle.vl_mean.specs.Parts.{Part, declares, equation, combinational, clocked, starts, plain_target, plain, here}
use Rattle.vl_mean.specs.Parts.{optional_value, values_of, port_kind, assignments, block_part, initial_parts}
use Rattle.vl_mean.specs.Parts.{all_initial_parts, declares_all}
use Rattle.vl_mean.specs.Declarations.{class_of_attributes}
use Rattle.vl_mean.specs.Runs.{Each}
use Rattle.vl_mean.specs.Scopes.{Scope}
use Rattle.vl_mean_flat.specs.FullNames.{flat_expr, flat_lval, flat_stmt}
use Rattle.vl_mean_flat.proofs.EachOf.{both}
use Rattle.vl_mean_flat.proofs.FoundNames.{AreScopes}
use Rattle.vl_elab_spec.specs.declared.elab_fault.ElabFault.{ElabFault}
use Rattle.vl_elab_spec.specs.Expressions.{expr_refusals, refused_if}
use Rattle.vl_elab_spec.specs.Items.{assignments_refusals, declared_value, event_refusals, given_value, name_refusals}
use Rattle.vl_elab_spec.specs.Items.{names_refusals, port_net}
use Rattle.vl_elab_spec.specs.Meanings.{Names, is_variable_class, may_have_words}
use Rattle.vl_elab_spec.specs.Statements.{all_initial_refusals, assigned_in, assignment_refusals, initial_refusals}
use Rattle.vl_elab_spec.specs.Statements.{stmt_refusals, target_refusals, target_width}
use Rattle.vl_elab_accepted_laws.proofs.Fresh.{NoneOf, none-front, none-back, not-refused}
use Rattle.vl_elab_accepted_laws.proofs.Plain.{all-each}
use Rattle.vl_elab_scope.specs.Seen.{AllNamed}
use Rattle.vl_elab_accepted_laws.specs.Means.{AreMeant}
use Rattle.vl_elab_flatten_laws.proofs.Blocks.{flat_block}
use Rattle.vl_elab_flatten_laws.proofs.Targets.{flat_assigned, flat_assignment}

module _ (es : List Decl) where
  -- what an equation is without hierarchy
  abbrev pub IsEquation : List Scope → Lval → List Scope → Expr → Type 0
  IsEquation ts l ss e =
      IsAssigned es is_net true (flat_lval ts l)
      × IsReadIn es (assigned_context es (flat_lval ts l) (flat_expr ss e)) (flat_expr ss e)

  abbrev pub IsDrawnPart : Part → Type 0
  IsDrawnPart (declares d) = Unit {0}
  IsDrawnPart (equation ts l ss e) = IsEquation ts l ss e
  IsDrawnPart (combinational ss s) = IsBlock es (flat_stmt ss s)
  IsDrawnPart (clocked ss s) = IsBlock es (flat_stmt ss s)
  IsDrawnPart (starts ss l e) = IsAssigned es is_variable true (flat_lval ss l)

  pub declarations_drawn : (path : List ℕ) (ds : List Decl) → Each IsDrawnPart (declares_all path ds)
  declarations_drawn path [] = tt
  declarations_drawn path (d ∷ ds) = (tt, declarations_drawn path ds)

  module _ (ns : List Names) (ss : List Scope) (n : AllNamed ns) (m : AreMeant ns ss) (laid : AreScopes es ss) where
    -- ---- values of declared names

    -- a name by itself is the same target wherever it stands in the text
    plain_assigned : (may : Decl → Bool) (p : Pos) (text : List ℕ)
        → IsAssigned es may true (flat_lval ss (named p text whole))
        → IsAssigned es may true (flat_lval ss (plain_target text))
    plain_assigned may p text h = (
      (
        record { sized = h.0.0.sized; divided = h.0.0.divided; clockless = h.0.0.clockless },
        h.0.1,
        h.0.2,
      ),
      h.1,
    )

    pub drawn_given : (p : Pos) (kind : NetKind) (text : List ℕ) (value : Option Expr) → IsName text → IsValue value
        → NoneOf (given_value ns p kind text value) → Each IsDrawnPart (optional_value ss kind text value)
    drawn_given p kind text None wn w h = tt
    drawn_given p net.Wire text (Some x) wn w h =
        let y = flat_assignment ns ss es n m laid true true false (named p text whole) x (wn, tt) w h in
        ((plain_assigned is_net p text y.0, y.1), tt)
    drawn_given p net.Reg text (Some x) wn w h =
        let y = flat_assignment ns ss es n m laid false true true (named p text whole) x (wn, tt) w h in
        (plain_assigned is_variable p text y.0, tt)

    no_value : (a : Bool) → (a && false) ≡ true → ⊥
    no_value true h = true≢false (sym h)
    no_value false h = true≢false (sym h)

    allowed : (b : Bool) (g : ElabFault) → NoneOf (refused_if (not b) g) → b ≡ true
    allowed true g h = refl
    allowed false g h = absurd (true≢false (not-refused true g h))

    drawn_declared : (p : Pos) (kind : NetKind) (c : Class) (text : List ℕ) (words : Option Range) (value : Option Expr)
        → IsName text → IsValue value → may_have_words c words value ≡ true
        → NoneOf (declared_value ns p kind text words value) → Each IsDrawnPart (optional_value ss kind text value)
    drawn_declared p kind c text None value wn w k h = drawn_given p kind text value wn w h
    drawn_declared p kind c text (Some r) None wn w k h = tt
    drawn_declared p kind c text (Some r) (Some x) wn w k h = absurd (no_value (is_variable_class c) k)

    pub drawn_names : (kind : NetKind) (c : Class) (shape : Option Range) (xs : List DeclaredName)
        → Each IsDeclaredName xs → NoneOf (names_refusals ns kind c shape xs)
        → Each IsDrawnPart (values_of ss kind xs)
    drawn_names kind c shape [] w h = tt
    drawn_names kind c shape (x ∷ xs) w h =
        let here = none-front (name_refusals ns kind c shape x) (names_refusals ns kind c shape xs) h in
        both IsDrawnPart (optional_value ss kind x.name x.value) (values_of ss kind xs)
        (drawn_declared x.pos kind c x.name x.words x.value w.0.0 w.0.2
        (allowed (may_have_words c x.words x.value) _ (none-back _ _ (none-front _ _ here)))
        (none-back _ (declared_value ns x.pos kind x.name x.words x.value) here))
        (drawn_names kind c shape xs w.1
        (none-back (name_refusals ns kind c shape x) (names_refusals ns kind c shape xs) h))

    -- ---- assignments and blocks

    pub drawn_assignments : (xs : List Assignment) → Each IsAssignment xs → NoneOf (assignments_refusals ns xs)
        → Each IsDrawnPart (assignments ss xs)
    drawn_assignments [] w h = tt
    drawn_assignments (x ∷ xs) w h = (
      flat_assignment ns ss es n m laid true true false x.target x.value w.0.0 w.0.1
          (none-front (assignment_refusals ns true true false x.target x.value) (assignments_refusals ns xs) h),
      drawn_assignments xs w.1
          (none-back (assignment_refusals ns true true false x.target x.value) (assignments_refusals ns xs) h),
    )

    pub drawn_block : (kind : EventKind) (s : Stmt) → stmts.IsWellFormed s → NoneOf (stmt_refusals ns s)
        → Each IsDrawnPart (block_part ss kind s ∷ [])
    drawn_block event.Bare s w h = (flat_block ns ss es n m laid s w h, tt)
    drawn_block event.Spaced s w h = (flat_block ns ss es n m laid s w h, tt)
    drawn_block event.OpenJoined s w h = (flat_block ns ss es n m laid s w h, tt)
    drawn_block event.CloseJoined s w h = (flat_block ns ss es n m laid s w h, tt)
    drawn_block (event.Posedge text) s w h = (flat_block ns ss es n m laid s w h, tt)

    mutual
      pub drawn_initial : (s : Stmt) → stmts.IsWellFormed s → NoneOf (initial_refusals ns s)
          → Each IsDrawnPart (initial_parts ss s)
      drawn_initial (stmt.begin attrs p label xs) w h = drawn_all_initial xs w.2 h
      drawn_initial (stmt.assign attrs p l kind x) w h =
          ((flat_assignment ns ss es n m laid false true true l x w.1 w.2 h).0, tt)
      drawn_initial (stmt.if_only attrs p x s) w h = tt
      drawn_initial (stmt.if_else attrs p x s t) w h = tt
      drawn_initial (stmt.case attrs p kind x arms) w h = tt
      drawn_initial (stmt.assume attrs p x) w h = tt
      drawn_initial (stmt.empty attrs p) w h = tt

      drawn_all_initial : (xs : Stmts) → stmts.AreWellFormed xs → NoneOf (all_initial_refusals ns xs)
          → Each IsDrawnPart (all_initial_parts ss xs)
      drawn_all_initial no_stmts w h = tt
      drawn_all_initial (more_stmts x xs) w h =
          both IsDrawnPart (initial_parts ss x) (all_initial_parts ss xs)
          (drawn_initial x w.0 (none-front (initial_refusals ns x) (all_initial_refusals ns xs) h))
          (drawn_all_initial xs w.1 (none-back (initial_refusals ns x) (all_initial_refusals ns xs) h))
