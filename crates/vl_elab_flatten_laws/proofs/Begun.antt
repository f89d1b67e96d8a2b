-- The values at first of steps that aren't refused may be written.
use Rattle.std.specs.Prelude.{◌≡◌, refl, ℕ, List, [], ◌∷◌, Bool, true, false, ◌&&◌, not, Option, Some, None, All}
use Rattle.std.specs.Prelude.{if◌then◌else◌}
use Rattle.std.proofs.Common.{sym, true≢false, subst}
use Rattle.fv_text.specs.declared.pos.Pos.{Pos}
use Rattle.vl_tree.specs.declared.declaration.DeclaredName.{DeclaredName}
use Rattle.vl_tree.specs.declared.declaration.Direction.{Direction}
use Rattle.vl_tree.specs.declared.declaration.Direction.TheVariants as direction
use Rattle.vl_tree.specs.declared.declaration.FullPort.{FullPort}
use Rattle.vl_tree.specs.declared.declaration.NetKind.{NetKind}
use Rattle.vl_tree.specs.declared.declaration.NetKind.TheVariants as net
use Rattle.vl_tree.specs.declared.declaration.Port.{Port}
use Rattle.vl_tree.specs.declared.declaration.Range.{Range}
use Rattle.vl_tree.specs.declared.part.Assignment.{Assignment}
use Rattle.vl_tree.specs.declared.part.EventKind.{EventKind}
use Rattle.vl_tree.specs.declared.part.EventKind.TheVariants as e
use Rattle.vl_tree.specs.declared.source.Module.{Module}
use Rattle.vl_tree.specs.DeclarationWellFormed.{IsDeclaredName}
use Rattle.vl_tree.specs.Expr.{Expr, whole}
use Rattle.vl_tree.specs.ExprWellFormed.{IsName, IsValue}
use Rattle.vl_tree.specs.Lval.{Lval, named}
use Rattle.vl_tree.specs.Stmt as stmt
use Rattle.vl_tree.specs.Stmt.{Stmt, Stmts, no_stmts, more_stmts}
use Rattle.vl_tree.specs.StmtWellFormed as stmts
use Rattle.vl_tree.specs.Item.{
  Item,
  declaration,
  integer,
  genvar,
  parameter,
  assign,
  always,
  initial,
  instance,
  generate,
  for_loop,
  if_only,
  if_else,
}
use Rattle.vl_tree.specs.WellFormed.{IsModule, IsWellFormed}
use Rattle.vl_size.specs.declared.decl.Class.{Class}
use Rattle.vl_size.specs.declared.decl.Class.TheVariants as class
use Rattle.vl_size.specs.declared.decl.Decl.{Decl}
use Rattle.vl_mean.specs.Declarations.{class_of_attributes, class_of_kind, joined_attributes, port_named, ports_of}
use Rattle.vl_mean.specs.Parts.{Part, declares_all, design, parts_of_steps, connection_part, port_part, with_target}
use Rattle.vl_mean.specs.Parts.{optional_value, plain_target, values_of, port_kind, assignments, block_part}
use Rattle.vl_mean.specs.Parts.{initial_parts, target_of}
use Rattle.vl_mean.specs.Parts.{all_initial_parts, item_parts, step_parts}
use Rattle.vl_mean.specs.Runs.{Each}
use Rattle.vl_mean.specs.Scopes.{Scope, is_clock}
use Rattle.vl_mean.specs.Walk.{Place, Step, Use, header, port, item, override, connection, block_step, walk}
use Rattle.vl_mean_flat.proofs.EachOf.{both}
use Rattle.vl_elab_accepted_laws.proofs.Fresh.{IsFine, NoneOf, none-front, none-back, not-refused}
use Rattle.vl_elab_accepted_laws.proofs.Loops.{AreFine}
use Rattle.vl_elab_accepted_laws.proofs.NoneRefused.{walk-fine}
use Rattle.vl_elab_accepted_laws.proofs.Plain.{all-each}
use Rattle.vl_elab_spec.specs.declared.elab_fault.ElabFault.{ElabFault}
use Rattle.vl_elab_spec.specs.Expressions.{refused_if}
use Rattle.vl_elab_spec.specs.Items.{given_value, declared_value, name_refusals, names_refusals, port_net}
use Rattle.vl_elab_spec.specs.Items.{port_refusals, item_refusals}
use Rattle.vl_elab_spec.specs.Meanings.{Names, meanings_at, may_have_words, is_variable_class}
use Rattle.vl_elab_accepted_laws.specs.Unrefused.{NoStepRefused}
use Rattle.vl_elab_spec.specs.Statements.{initial_refusals, all_initial_refusals}
use Rattle.vl_elab_accepted_laws.specs.Sized.{AreSound}
use Rattle.vl_elab_accepted_laws.specs.Right.{AreRight, IsRight}
use Rattle.vl_elab_accepted_laws.proofs.MeantWalked.{walk_is_right}
use Rattle.vl_elab_accepted_laws.specs.SoundSteps.{HasSoundNames, IsFormedStep}
use Rattle.vl_elab_accepted_laws.proofs.SoundWalked.{walk_sound, walk_formed}
use Rattle.vl_elab_emit.proofs.Refusing.{starts as starts_are}
use Rattle.vl_elab_emit.specs.Begins.{Begins}
use Rattle.vl_elab_emit.specs.Starts.{IsStart}

module _ (ns : List Names) (ss : List Scope) (r : AreRight ns ss) (s : AreSound ns) where
  -- wherever the name stands
  at_name : (p : Pos) (text : List ℕ) (x : Expr) → IsStart ss (named p text whole) x → IsStart ss (plain_target text) x
  at_name p text x h = record { sized = h.sized; fixed = h.fixed }

  begun_given : (p : Pos) (kind : NetKind) (text : List ℕ) (value : Option Expr) → IsName text → IsValue value
      → NoneOf (given_value ns p kind text value) → Each Begins (optional_value ss kind text value)
  begun_given p kind text None wn w h = tt
  begun_given p net.Wire text (Some x) wn w h = (tt, tt)
  begun_given p net.Reg text (Some x) wn w h =
      (at_name p text x (starts_are ns ss (named p text whole) x r s (wn, tt) w h), tt)

  no_value : (a : Bool) → (a && false) ≡ true → ⊥
  no_value true h = true≢false (sym h)
  no_value false h = true≢false (sym h)

  allowed : (b : Bool) (g : ElabFault) → NoneOf (refused_if (not b) g) → b ≡ true
  allowed true g h = refl
  allowed false g h = absurd (true≢false (not-refused true g h))

  -- a memory has no value
  begun_declared : (p : Pos) (kind : NetKind) (c : Class) (text : List ℕ) (words : Option Range) (value : Option Expr)
      → IsName text → IsValue value → may_have_words c words value ≡ true
      → NoneOf (declared_value ns p kind text words value) → Each Begins (optional_value ss kind text value)
  begun_declared p kind c text None value wn w k h = begun_given p kind text value wn w h
  begun_declared p kind c text (Some q) None wn w k h = tt
  begun_declared p kind c text (Some q) (Some x) wn w k h = absurd (no_value (is_variable_class c) k)

  begun_names : (kind : NetKind) (c : Class) (shape : Option Range) (xs : List DeclaredName)
      → Each IsDeclaredName xs → NoneOf (names_refusals ns kind c shape xs) → Each Begins (values_of ss kind xs)
  begun_names kind c shape [] w h = tt
  begun_names kind c shape (x ∷ xs) w h =
      let here = none-front (name_refusals ns kind c shape x) (names_refusals ns kind c shape xs) h in
      both Begins (optional_value ss kind x.name x.value) (values_of ss kind xs)
      (begun_declared x.pos kind c x.name x.words x.value w.0.0 w.0.2
      (allowed (may_have_words c x.words x.value) _ (none-back _ _ (none-front _ _ here)))
      (none-back _ (declared_value ns x.pos kind x.name x.words x.value) here))
      (begun_names kind c shape xs w.1
      (none-back (name_refusals ns kind c shape x) (names_refusals ns kind c shape xs) h))

  begun_declarations : (path : List ℕ) (ds : List Decl) → Each Begins (declares_all path ds)
  begun_declarations path [] = tt
  begun_declarations path (d ∷ ds) = (tt, begun_declarations path ds)

  begun_assignments : (xs : List Assignment) → Each Begins (assignments ss xs)
  begun_assignments [] = tt
  begun_assignments (x ∷ xs) = (tt, begun_assignments xs)

  begun_block : (kind : EventKind) (x : Stmt) → Each Begins (block_part ss kind x ∷ [])
  begun_block e.Bare x = (tt, tt)
  begun_block e.Spaced x = (tt, tt)
  begun_block e.OpenJoined x = (tt, tt)
  begun_block e.CloseJoined x = (tt, tt)
  begun_block (e.Posedge text) x = (tt, tt)

  mutual
    begun_initial : (x : Stmt) → stmts.IsWellFormed x → NoneOf (initial_refusals ns x)
        → Each Begins (initial_parts ss x)
    begun_initial (stmt.begin attrs p label xs) w h = begun_all_initial xs w.2 h
    begun_initial (stmt.assign attrs p l kind x) w h = (starts_are ns ss l x r s w.1 w.2 h, tt)
    begun_initial (stmt.if_only attrs p x y) w h = tt
    begun_initial (stmt.if_else attrs p x y z) w h = tt
    begun_initial (stmt.case attrs p kind x arms) w h = tt
    begun_initial (stmt.assume attrs p x) w h = tt
    begun_initial (stmt.empty attrs p) w h = tt

    begun_all_initial : (xs : Stmts) → stmts.AreWellFormed xs → NoneOf (all_initial_refusals ns xs)
        → Each Begins (all_initial_parts ss xs)
    begun_all_initial no_stmts w h = tt
    begun_all_initial (more_stmts x xs) w h =
        both Begins (initial_parts ss x) (all_initial_parts ss xs)
        (begun_initial x w.0 (none-front (initial_refusals ns x) (all_initial_refusals ns xs) h))
        (begun_all_initial xs w.1 (none-back (initial_refusals ns x) (all_initial_refusals ns xs) h))

  same_kind : (o : Option NetKind) → port_net o ≡ port_kind o
  same_kind None = refl
  same_kind (Some kind) = refl

begun_item : (ms : List Module) (at : Place) (x : Item) → AreRight (meanings_at at) at.scopes
    → AreSound (meanings_at at) → IsWellFormed x → item_refusals ms at x ≡ [] → Each Begins (item_parts at x)
begun_item ms at (declaration attrs p d) r s w h =
    let ns = meanings_at at in
    both Begins _ (values_of at.scopes d.net d.names) (begun_declarations ns at.scopes r s at.path _)
    (begun_names ns at.scopes r s d.net
    (class_of_attributes (class_of_kind d.net) (joined_attributes attrs)) d.shape.range d.names
    (all-each IsDeclaredName d.names w.1.1.1) (none-back _ _ h))
begun_item ms at (integer attrs p xs) r s w h =
    let ns = meanings_at at in
    both Begins _ (values_of at.scopes net.Reg xs) (begun_declarations ns at.scopes r s at.path _)
    (begun_names ns at.scopes r s net.Reg
    (class_of_attributes class.Variable (joined_attributes attrs)) None xs
    (all-each IsDeclaredName xs w.1.1) (none-back _ _ h))
begun_item ms at (genvar attrs p xs) r s w h = tt
begun_item ms at (parameter attrs p kind xs) r s w h = tt
begun_item ms at (assign attrs p xs) r s w h = begun_assignments (meanings_at at) at.scopes r s xs
begun_item ms at (always attrs p event y) r s w h = begun_block (meanings_at at) at.scopes r s event.kind y
begun_item ms at (initial attrs p y) r s w h = begun_initial (meanings_at at) at.scopes r s y w.2 h
begun_item ms at (instance attrs p x) r s w h = tt
begun_item ms at (generate attrs p mark) r s w h = tt
begun_item ms at (for_loop attrs p head b) r s w h = tt
begun_item ms at (if_only attrs p c b) r s w h = tt
begun_item ms at (if_else attrs p c b d) r s w h = tt

begun_port : (at : Place) (u : Use) (p : Port) (q : FullPort) → AreRight (meanings_at at) at.scopes
    → AreSound (meanings_at at) → IsName q.name → IsValue q.value → port_refusals at p.pos q ≡ []
    → Each Begins (step_parts (port at u p q))
begun_port at u p q r s wn w h =
    let ns = meanings_at at in (
      tt,
      begun_given ns at.scopes r s p.pos (port_kind q.net) q.name q.value wn w
          (subst (λ kind. NoneOf (given_value ns p.pos kind q.name q.value))
          (same_kind ns at.scopes r s q.net) (none-back _ _ h)),
    )

-- what an instance joins to a port begins with no value
begun_input : (b : Bool) (x : Part) → Begins x → Each Begins (if b then [] else x ∷ [])
begun_input true x h = tt
begun_input false x h = (h, tt)

begun_output : (o : Option Lval) (f : Lval → List Part) → ((l : Lval) → Each Begins (f l))
    → Each Begins (with_target o f)
begun_output None f h = tt
begun_output (Some l) f h = h l

begun_connection : (ss inside : List Scope) (d : Direction) (text : List ℕ) (x : Expr)
    → Each Begins (connection_part ss inside d text x)
begun_connection ss inside direction.Input text x = begun_input (is_clock ss (Some x)) _ tt
begun_connection ss inside direction.Output text x = begun_output (target_of x) _ (λ l. (tt, tt))

begun_joined : (ss inside : List Scope) (o : Option FullPort) (value : Option Expr)
    → Each Begins (port_part ss inside o value)
begun_joined ss inside None value = tt
begun_joined ss inside (Some p) None = tt
begun_joined ss inside (Some p) (Some x) = begun_connection ss inside p.direction p.name x

begun_step : (ms : List Module) (x : Step) → IsRight x → HasSoundNames x → IsFormedStep x → IsFine ms x
    → Each Begins (step_parts x)
begun_step ms (header at x) r s w h = tt
begun_step ms (port at u p q) r s w h = begun_port at u p q r s w.0 w.1 h
begun_step ms (item at x) r s w h = begun_item ms at x r s w h
begun_step ms (override at m u given x) r s w h = tt
begun_step ms (block_step at b) r s w h = tt
begun_step ms (connection at m u inside given x) r s w h =
    begun_joined at.scopes inside (port_named (ports_of m.ports) x.port) x.value

begun_steps : (ms : List Module) (xs : List Step) → Each IsRight xs → Each HasSoundNames xs → Each IsFormedStep xs
    → AreFine ms xs → Each Begins (parts_of_steps xs)
begun_steps ms [] r s w h = tt
begun_steps ms (x ∷ xs) r s w h =
    both Begins (step_parts x) (parts_of_steps xs) (begun_step ms x r.0 s.0 w.0 h.0)
    (begun_steps ms xs r.1 s.1 w.1 h.1)

pub all_begin : (ms : List Module) (top : List ℕ) → All IsModule ms → NoStepRefused ms top
    → Each Begins (design ms top)
all_begin ms top formed e =
    begun_steps ms (walk ms top) (walk_is_right ms top) (walk_sound ms top formed e) (walk_formed ms top formed e)
    (walk-fine ms top e)
