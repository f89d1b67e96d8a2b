-- Declarations, assignments, events and what instances give and join are refused alike over names that mean the same.
use Rattle.std.specs.Prelude.{◌≡◌, refl, ℕ, List, [], ◌∷◌, ◌++◌, Bool, true, false, ◌&&◌, not, Option, Some, None}
use Rattle.std.specs.Prelude.{is_none, if◌then◌else◌}
use Rattle.std.proofs.Common.{ap, ◌∙◌}
use Rattle.fv_text.specs.declared.pos.Pos.{Pos}
use Rattle.vl_tree.specs.declared.declaration.DeclaredName.{DeclaredName}
use Rattle.vl_tree.specs.declared.declaration.NetKind.{NetKind}
use Rattle.vl_tree.specs.declared.declaration.Parameter.{Parameter}
use Rattle.vl_tree.specs.declared.declaration.Range.{Range}
use Rattle.vl_tree.specs.declared.part.Assignment.{Assignment}
use Rattle.vl_tree.specs.declared.part.EventKind.{EventKind}
use Rattle.vl_tree.specs.declared.part.EventKind.TheVariants as e
use Rattle.vl_tree.specs.Expr.{Expr, whole}
use Rattle.vl_tree.specs.Lval.{Lval, Lvals, named, joined, no_lvals, more_lvals}
use Rattle.vl_size.specs.declared.context.Context.{Context}
use Rattle.vl_size.specs.declared.decl.Class.{Class}
use Rattle.vl_size.specs.Divisors.{own_context}
use Rattle.vl_size.specs.Size.{is_bound}
use Rattle.vl_size.specs.Table.{span}
use Rattle.vl_elab_spec.specs.declared.elab_fault.ElabFault.{ElabFault}
use Rattle.vl_elab_spec.specs.declared.elab_fault.ElabFault.TheVariants as f
use Rattle.vl_elab_spec.specs.Expressions.{refused_if, too_wide, refusals, expr_refusals, known}
use Rattle.vl_elab_spec.specs.Items.{range_refusals, width_refusals, value_context, given_value, declared_value}
use Rattle.vl_elab_spec.specs.Items.{name_refusals, names_refusals, assignments_refusals, edge_refusals, event_refusals}
use Rattle.vl_elab_spec.specs.Items.{genvar_refusals, given_context, override_value, is_net, is_net_name, varies_by}
use Rattle.vl_elab_spec.specs.Items.{is_net_target, are_net_targets, output_target, joined_context}
use Rattle.vl_elab_spec.specs.Meanings.{Names, meaning_in, is_known_range, is_known_bound, declared_width, bound}
use Rattle.vl_elab_spec.specs.Meanings.{may_have_words, objects}
use Rattle.vl_elab_spec.specs.Statements.{assigned_in}
use Rattle.vl_elab_scope.specs.Alike.{Alike}
use Rattle.vl_elab_scope.proofs.Exprs as x
use Rattle.vl_elab_scope.proofs.Sizes as z
use Rattle.vl_elab_scope.proofs.Stmts as s

module _ (ns ms : List Names) (h : Alike ns ms) where
  -- ---- ranges

  same_known_bound : (a : Expr) → is_known_bound ns a ≡ is_known_bound ms a
  same_known_bound a = λ i. z.same_is_known ns ms h a i && is_bound (z.same_bound ns ms h a i)

  pub same_known_range : (r : Option Range) → is_known_range ns r ≡ is_known_range ms r
  same_known_range None = refl
  same_known_range (Some r) = λ i. same_known_bound r.left i && same_known_bound r.right i

  pub same_declared_width : (r : Option Range) → declared_width ns r ≡ declared_width ms r
  same_declared_width None = refl
  same_declared_width (Some r) = λ i. span (z.same_bound ns ms h r.left i) (z.same_bound ns ms h r.right i)

  pub same_range : (r : Option Range) → range_refusals ns r ≡ range_refusals ms r
  same_range None = refl
  same_range (Some r) =
      λ i. x.same_own ns ms h true r.left i ++ x.same_own ns ms h true r.right i ++ x.same_far ns ms h r.pos r.left i
      ++ x.same_far ns ms h r.pos r.right i

  pub same_width : (p : Pos) (r : Option Range) → width_refusals ns p r ≡ width_refusals ms p r
  same_width p r = λ i. if same_known_range r i then too_wide p (Some (same_declared_width r i)) else []

  -- ---- parameters

  same_in_range : (r : Option Range) (a : Expr)
      → (if is_known_range ns r then assigned_in ns (Some (declared_width ns r)) a
      else own_context (objects ns) (known ns a))
      ≡ (if is_known_range ms r then assigned_in ms (Some (declared_width ms r)) a
      else own_context (objects ms) (known ms a))
  same_in_range r a =
      let given : assigned_in ns (Some (declared_width ns r)) a ≡ assigned_in ms (Some (declared_width ms r)) a =
      s.same_assigned_in ns ms h (Some (declared_width ns r)) a
      ∙ ap (λ w. assigned_in ms (Some w) a) (same_declared_width r) in
      λ i. if same_known_range r i then given i else z.same_context ns ms h a i

  pub same_value_context : (r : Option Range) (a : Expr) → value_context ns r a ≡ value_context ms r a
  same_value_context None a = z.same_context ns ms h a
  same_value_context (Some r) a = same_in_range (Some r) a

  -- ---- declared names

  pub same_given : (p : Pos) (kind : NetKind) (text : List ℕ) (value : Option Expr)
      → given_value ns p kind text value ≡ given_value ms p kind text value
  same_given p kind text None = refl
  same_given p kind text (Some a) =
      s.same_assignment ns ms h (is_net kind) true (not (is_net kind)) (named p text whole) a

  same_declared : (p : Pos) (kind : NetKind) (text : List ℕ) (words : Option Range) (value : Option Expr)
      → declared_value ns p kind text words value ≡ declared_value ms p kind text words value
  same_declared p kind text None value = same_given p kind text value
  same_declared p kind text (Some r) None = refl
  same_declared p kind text (Some r) (Some a) = x.same_own ns ms h (not (is_net kind)) a

  same_name : (kind : NetKind) (c : Class) (shape : Option Range) (n : DeclaredName)
      → name_refusals ns kind c shape n ≡ name_refusals ms kind c shape n
  same_name kind c shape n =
      λ i. same_range n.words i ++ same_width n.pos shape i
      ++ refused_if (not (may_have_words c n.words n.value)) (f.Range n.pos)
      ++ same_declared n.pos kind n.name n.words n.value i

  pub same_names : (kind : NetKind) (c : Class) (shape : Option Range) (all : List DeclaredName)
      → names_refusals ns kind c shape all ≡ names_refusals ms kind c shape all
  same_names kind c shape [] = refl
  same_names kind c shape (n ∷ all) = λ i. same_name kind c shape n i ++ same_names kind c shape all i

  -- ---- assignments and events

  pub same_assignments : (all : List Assignment) → assignments_refusals ns all ≡ assignments_refusals ms all
  same_assignments [] = refl
  same_assignments (a ∷ all) =
      λ i. s.same_assignment ns ms h true true false a.target a.value i ++ same_assignments all i

  pub same_event : (p : Pos) (kind : EventKind) → event_refusals ns p kind ≡ event_refusals ms p kind
  same_event p (e.Posedge text) = ap (edge_refusals p text) (h.meaning text)
  same_event p e.Bare = refl
  same_event p e.Spaced = refl
  same_event p e.OpenJoined = refl
  same_event p e.CloseJoined = refl

  pub same_genvar : (a : Expr) → genvar_refusals ns a ≡ genvar_refusals ms a
  same_genvar a =
      x.same_expr ns ms h true (assigned_in ns (Some 32) a) a
      ∙ ap (λ c. expr_refusals ms true c a) (s.same_assigned_in ns ms h (Some 32) a)

  -- ---- what outputs are joined to

  mutual
    same_net : (l : Lval) → is_net_target ns l ≡ is_net_target ms l
    same_net (named p text ss) =
        λ i. is_net_name (h.meaning text i) && not (varies_by (x.same_select_refusals ns ms h true ss i))
    same_net (joined p ls) = same_nets ls

    same_nets : (ls : Lvals) → are_net_targets ns ls ≡ are_net_targets ms ls
    same_nets no_lvals = refl
    same_nets (more_lvals l ls) = λ i. same_net l i && same_nets ls i

  pub same_output : (text : List ℕ) (p : Pos) (a : Expr) (l : Option Lval)
      → output_target ns text p a l ≡ output_target ms text p a l
  same_output text p a None = λ i. x.same_refusals ns ms h false a i ++ f.Port text p ∷ []
  same_output text p a (Some l) =
      λ i. refused_if (not (same_net l i)) (f.Port text p) ++ s.same_target ns ms h true true l i

  same_joined_in : (w : Option ℕ) (a : Expr) → joined_context ns w a ≡ joined_context ms w a
  same_joined_in None a = z.same_context ns ms h a
  same_joined_in (Some w) a = s.same_assigned_in ns ms h (Some w) a

  -- an input
  pub same_input : (w : Option ℕ) (a : Expr)
      → expr_refusals ns false (joined_context ns w a) a ≡ expr_refusals ms false (joined_context ms w a) a
  same_input w a =
      x.same_expr ns ms h false (joined_context ns w a) a
      ∙ ap (λ c. expr_refusals ms false c a) (same_joined_in w a)
