-- The parts of a step are refused alike over names that mean the same.
use Rattle.std.specs.Prelude.{◌≡◌, List, ◌++◌, Bool, Option}
use Rattle.std.proofs.Common.{ap, ◌∙◌}
use Rattle.fv_text.specs.declared.pos.Pos.{Pos}
use Rattle.vl_tree.specs.declared.declaration.DeclaredName.{DeclaredName}
use Rattle.vl_tree.specs.declared.declaration.FullPort.{FullPort}
use Rattle.vl_tree.specs.declared.declaration.NetKind.{NetKind}
use Rattle.vl_tree.specs.declared.declaration.Range.{Range}
use Rattle.vl_tree.specs.declared.part.Event.{Event}
use Rattle.vl_tree.specs.Stmt.{Stmt}
use Rattle.vl_size.specs.declared.decl.Class.{Class}
use Rattle.vl_elab_spec.specs.declared.elab_fault.ElabFault.{ElabFault}
use Rattle.vl_elab_spec.specs.declared.elab_fault.ElabFault.TheVariants as f
use Rattle.vl_elab_spec.specs.Expressions.{refused_if}
use Rattle.vl_elab_spec.specs.Items.{range_refusals, names_refusals, event_refusals, port_net}
use Rattle.vl_elab_spec.specs.Meanings.{Names}
use Rattle.vl_elab_spec.specs.Refused.{lower_of, lowest}
use Rattle.vl_elab_spec.specs.Statements.{stmt_refusals}
use Rattle.vl_elab_check_expr.proofs.Lowest.{lowest_two}
use Rattle.vl_elab_scope.specs.Alike.{Alike}
use Rattle.vl_elab_scope.proofs.Items as y
use Rattle.vl_elab_scope.proofs.Stmts as s
use Rattle.vl_elab_check_item.specs.ItemParts.{port_parts}

module _ (ns ms : List Names) (same : Alike ns ms) where
  -- a declaration, behind names that stand twice
  pub declared_alike : (twice : List ElabFault) (r : Option Range) (kind : NetKind) (c d : Class)
      (xs ys : List DeclaredName) (first range inner both whole : Option ElabFault) → first ≡ lowest twice
      → range ≡ lowest (range_refusals ns r) → inner ≡ lowest (names_refusals ns kind c r xs) → c ≡ d → xs ≡ ys
      → both ≡ lower_of first range → whole ≡ lower_of both inner
      → whole ≡ lowest (twice ++ range_refusals ms r ++ names_refusals ms kind d r ys)
  declared_alike twice r kind c d xs ys first range inner both whole hf hr hi hc hx hb hw =
      hw ∙ lowest_two (twice ++ range_refusals ms r) (names_refusals ms kind d r ys) both inner
      (hb ∙ lowest_two twice (range_refusals ms r) first range hf (hr ∙ ap lowest (y.same_range ns ms same r)))
      (hi ∙ (λ i. lowest (names_refusals ns kind (hc i) r (hx i)))
      ∙ ap lowest (y.same_names ns ms same kind d r ys))

  -- the same of integers
  pub integers_alike : (twice : List ElabFault) (r : Option Range) (kind : NetKind) (c d : Class)
      (xs : List DeclaredName) (first inner whole : Option ElabFault) → first ≡ lowest twice
      → inner ≡ lowest (names_refusals ns kind c r xs) → c ≡ d → whole ≡ lower_of first inner
      → whole ≡ lowest (twice ++ names_refusals ms kind d r xs)
  integers_alike twice r kind c d xs first inner whole hf hi hc hw =
      hw ∙ lowest_two twice (names_refusals ms kind d r xs) first inner hf
      (hi ∙ ap (λ e. lowest (names_refusals ns kind e r xs)) hc ∙ ap lowest (y.same_names ns ms same kind d r xs))

  pub always_alike : (event : Event) (x : Stmt)
      → event_refusals ns event.pos event.kind ++ stmt_refusals ns x
      ≡ event_refusals ms event.pos event.kind ++ stmt_refusals ms x
  always_alike event x = λ i. y.same_event ns ms same event.pos event.kind i ++ s.same_stmt ns ms same x i

  pub port_alike : (is_twice : Bool) (p : Pos) (q : FullPort) → port_parts ns is_twice p q ≡ port_parts ms is_twice p q
  port_alike is_twice p q =
      λ i. refused_if is_twice (f.Twice q.name p) ++ y.same_range ns ms same q.shape.range i
      ++ y.same_width ns ms same p q.shape.range i
      ++ y.same_given ns ms same p (port_net q.net) q.name q.value i
