-- The parts of a step have the scopes of the step.
use Rattle.std.specs.Prelude.{ℕ, Bool, true, false, List, [], ◌∷◌, Option, Some, None, if◌then◌else◌}
use Rattle.vl_tree.specs.declared.declaration.DeclaredName.{DeclaredName}
use Rattle.vl_tree.specs.declared.declaration.Direction.{Direction}
use Rattle.vl_tree.specs.declared.declaration.Direction.TheVariants as direction
use Rattle.vl_tree.specs.declared.declaration.FullPort.{FullPort}
use Rattle.vl_tree.specs.declared.declaration.NetKind.{NetKind}
use Rattle.vl_tree.specs.declared.declaration.NetKind.TheVariants as net
use Rattle.vl_tree.specs.declared.part.Assignment.{Assignment}
use Rattle.vl_tree.specs.declared.part.EventKind.{EventKind}
use Rattle.vl_tree.specs.declared.part.EventKind.TheVariants as e
use Rattle.vl_tree.specs.Expr.{Expr}
use Rattle.vl_tree.specs.Item.{Item, declaration, integer, genvar, parameter, assign, always, initial, instance}
use Rattle.vl_tree.specs.Item.{generate, for_loop, if_only, if_else}
use Rattle.vl_tree.specs.Lval.{Lval}
use Rattle.vl_tree.specs.Stmt as stmt
use Rattle.vl_tree.specs.Stmt.{Stmt, Stmts, no_stmts, more_stmts}
use Rattle.vl_size.specs.declared.decl.Decl.{Decl}
use Rattle.vl_mean.specs.Declarations.{declared_by, port_decl, port_named, ports_of}
use Rattle.vl_mean.specs.Parts.{Part, equation, declares_all, optional_value, values_of, port_kind, assignments}
use Rattle.vl_mean.specs.Parts.{block_part, initial_parts, all_initial_parts, target_of, with_target, connection_part}
use Rattle.vl_mean.specs.Parts.{port_part, item_parts, step_parts, parts_of_steps}
use Rattle.vl_mean.specs.Runs.{Each}
use Rattle.vl_mean.specs.Scopes.{Scope, is_clock}
use Rattle.vl_mean.specs.Walk.{Place, Step, header, port, item, override, connection, block_step}
use Rattle.vl_mean_flat.specs.StepScopes.{StepScopes, PartScopes}
use Rattle.vl_mean_flat.proofs.EachOf.{both}

module _ (P : List Scope → Type 0) where
  abbrev Of : List Part → Type 0
  Of ps = Each (PartScopes P) ps

  of_declares : (path : List ℕ) (ds : List Decl) → Of (declares_all path ds)
  of_declares path [] = tt
  of_declares path (d ∷ ds) = (tt, of_declares path ds)

  module _ (ss : List Scope) (h : P ss) where
    of_optional : (kind : NetKind) (text : List ℕ) (value : Option Expr) → Of (optional_value ss kind text value)
    of_optional kind text None = tt
    of_optional net.Wire text (Some x) = ((h, h), tt)
    of_optional net.Reg text (Some x) = (h, tt)

    of_values : (kind : NetKind) (xs : List DeclaredName) → Of (values_of ss kind xs)
    of_values kind [] = tt
    of_values kind (x ∷ xs) =
        both (PartScopes P) (optional_value ss kind x.name x.value) (values_of ss kind xs)
        (of_optional kind x.name x.value) (of_values kind xs)

    of_assignments : (xs : List Assignment) → Of (assignments ss xs)
    of_assignments [] = tt
    of_assignments (x ∷ xs) = ((h, h), of_assignments xs)

    of_block : (kind : EventKind) (s : Stmt) → Of (block_part ss kind s ∷ [])
    of_block e.Bare s = (h, tt)
    of_block e.Spaced s = (h, tt)
    of_block e.OpenJoined s = (h, tt)
    of_block e.CloseJoined s = (h, tt)
    of_block (e.Posedge text) s = (h, tt)

    mutual
      of_initial : (s : Stmt) → Of (initial_parts ss s)
      of_initial (stmt.begin attrs p label xs) = of_all_initial xs
      of_initial (stmt.assign attrs p l kind e) = (h, tt)
      of_initial (stmt.if_only attrs p e x) = tt
      of_initial (stmt.if_else attrs p e x y) = tt
      of_initial (stmt.case attrs p kind e arms) = tt
      of_initial (stmt.assume attrs p e) = tt
      of_initial (stmt.empty attrs p) = tt

      of_all_initial : (xs : Stmts) → Of (all_initial_parts ss xs)
      of_all_initial no_stmts = tt
      of_all_initial (more_stmts x xs) =
          both (PartScopes P) (initial_parts ss x) (all_initial_parts ss xs) (of_initial x) (of_all_initial xs)

    -- ---- connections

    module _ (inside : List Scope) (k : P inside) where
      of_target : (l : Option Lval) (f : Expr) → Of (with_target l (λ l. equation ss l inside f ∷ []))
      of_target None f = tt
      of_target (Some l) f = ((h, k), tt)

      of_input : (b : Bool) (l : Lval) (x : Expr) → Of (if b then [] else equation inside l ss x ∷ [])
      of_input true l x = tt
      of_input false l x = ((k, h), tt)

      of_connection : (p : Option FullPort) (value : Option Expr) → Of (port_part ss inside p value)
      of_connection None value = tt
      of_connection (Some p) None = tt
      of_connection (Some p) (Some x) = by p.direction
        where
          by : (d : Direction) → Of (connection_part ss inside d p.name x)
          by direction.Input = of_input (is_clock ss (Some x)) _ x
          by direction.Output = of_target (target_of x) _

  of_item : (at : Place) (x : Item) → P at.scopes → Of (item_parts at x)
  of_item at (declaration attrs p d) h =
      both (PartScopes P) (declares_all at.path (declared_by at.around (declaration attrs p d)))
      (values_of at.scopes d.net d.names)
      (of_declares at.path (declared_by at.around (declaration attrs p d))) (of_values at.scopes h d.net d.names)
  of_item at (integer attrs p xs) h =
      both (PartScopes P) (declares_all at.path (declared_by at.around (integer attrs p xs)))
      (values_of at.scopes net.Reg xs)
      (of_declares at.path (declared_by at.around (integer attrs p xs))) (of_values at.scopes h net.Reg xs)
  of_item at (assign attrs p xs) h = of_assignments at.scopes h xs
  of_item at (always attrs p event s) h = of_block at.scopes h event.kind s
  of_item at (initial attrs p s) h = of_initial at.scopes h s
  of_item at (genvar attrs p xs) h = tt
  of_item at (parameter attrs p kind xs) h = tt
  of_item at (instance attrs p x) h = tt
  of_item at (generate attrs p mark) h = tt
  of_item at (for_loop attrs p head b) h = tt
  of_item at (if_only attrs p c b) h = tt
  of_item at (if_else attrs p c b d) h = tt

  of_step : (x : Step) → StepScopes P x → Of (step_parts x)
  of_step (header at x) h = tt
  of_step (port at u p q) h =
      both (PartScopes P) (declares_all at.path (port_decl at.around u.is_top u.input q ∷ []))
      (optional_value at.scopes (port_kind q.net) q.name q.value)
      (tt, tt) (of_optional at.scopes h (port_kind q.net) q.name q.value)
  of_step (item at x) h = of_item at x h
  of_step (override at m u given x) h = tt
  of_step (block_step at b) h = tt
  of_step (connection at m u inside given x) h =
      of_connection at.scopes h.0 inside h.1 (port_named (ports_of m.ports) x.port) x.value

  pub of_steps : (xs : List Step) → Each (StepScopes P) xs → Of (parts_of_steps xs)
  of_steps [] h = tt
  of_steps (x ∷ xs) h = both (PartScopes P) (step_parts x) (parts_of_steps xs) (of_step x h.0) (of_steps xs h.1)
