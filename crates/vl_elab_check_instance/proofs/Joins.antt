-- What an instance gives and joins is refused alike over names that mean the same.
use Rattle.std.specs.Prelude.{◌≡◌, refl, ℕ, List, [], ◌∷◌, ◌++◌, Bool, true, false, Option, Some, None}
use Rattle.std.specs.Prelude.{is_none, bytes_eq, if◌then◌else◌}
use Rattle.std.proofs.Common.{ap, ◌∙◌}
use Rattle.std.proofs.lemmas.Slice.Eq.{bytes_eq-Decides}
use Rattle.vl_tree.specs.declared.declaration.Direction.{Direction}
use Rattle.vl_tree.specs.declared.declaration.Direction.TheVariants as direction
use Rattle.vl_tree.specs.declared.declaration.FullPort.{FullPort}
use Rattle.vl_tree.specs.declared.declaration.Parameter.{Parameter}
use Rattle.vl_tree.specs.declared.declaration.Range.{Range}
use Rattle.vl_tree.specs.declared.part.Connection.{Connection}
use Rattle.vl_tree.specs.Expr.{Expr}
use Rattle.vl_mean.specs.Declarations.{port_named}
use Rattle.vl_mean.specs.Parts.{target_of}
use Rattle.vl_mean.specs.Scopes.{is_clock}
use Rattle.vl_mean.specs.Walk.{Place}
use Rattle.vl_elab_spec.specs.declared.elab_fault.ElabFault.TheVariants as f
use Rattle.vl_elab_spec.specs.Expressions.{refused_if, expr_refusals}
use Rattle.vl_elab_spec.specs.Items.{given_context, override_value, object_width, joined_context, joined_value}
use Rattle.vl_elab_spec.specs.Items.{joined_refusals}
use Rattle.vl_elab_spec.specs.Meanings.{Names, meaning_in, declared_width}
use Rattle.vl_elab_spec.specs.Statements.{assigned_in}
use Rattle.vl_elab_scope.specs.Alike.{Alike}
use Rattle.vl_elab_scope.proofs.Exprs as x
use Rattle.vl_elab_scope.proofs.Items as y
use Rattle.vl_elab_scope.proofs.Sizes as z
use Rattle.vl_elab_scope.proofs.Stmts as s
use Rattle.vl_elab_check_item.specs.ItemParts.{override_parts}
use Rattle.vl_elab_check_instance.specs.Joined.{port_with, port_if, connection_parts}
use Rattle.vl_elab_check_instance.specs.Ports.{direction_of}

module _ (ns ms ins ims : List Names) (same : Alike ns ms) (inner : Alike ins ims) where
  -- ---- overrides

  same_given_in : (r : Option Range) (e : Expr) → given_context ns ins r e ≡ given_context ms ims r e
  same_given_in None e = z.same_context ns ms same e
  same_given_in (Some r) e =
      let given : assigned_in ns (Some (declared_width ins (Some r))) e
      ≡ assigned_in ms (Some (declared_width ims (Some r))) e =
      s.same_assigned_in ns ms same (Some (declared_width ins (Some r))) e
      ∙ ap (λ w. assigned_in ms (Some w) e) (y.same_declared_width ins ims inner (Some r)) in
      λ i. if y.same_known_range ins ims inner (Some r) i then given i else z.same_context ns ms same e i

  same_override : (p : Option Parameter) (value : Option Expr)
      → override_value ns ins p value ≡ override_value ms ims p value
  same_override p None = refl
  same_override None (Some e) = x.same_refusals ns ms same true e
  same_override (Some p) (Some e) =
      x.same_expr ns ms same true (given_context ns ins p.shape.range e) e
      ∙ ap (λ c. expr_refusals ms true c e) (same_given_in p.shape.range e)

  pub override_alike : (a b : Bool) (p q : Option Parameter) (c : Connection) → a ≡ b → p ≡ q
      → override_parts ns ins a p c ≡ override_parts ms ims b q c
  override_alike a b p q c e h =
      (λ i. override_parts ns ins (e i) (h i) c)
      ∙ (λ i. refused_if b (f.Twice c.port c.pos) ++ refused_if (is_none q) (f.Param c.port c.pos)
      ++ same_override q c.value i)

  -- ---- connections

  module _ (at : Place) (c : Connection) where
    same_value : (q : FullPort) (d : Direction) (e : Expr)
        → joined_value at ns ins q d c e ≡ joined_value at ms ims q d c e
    same_value q direction.Input e =
        let own : expr_refusals ns false (joined_context ns (object_width (meaning_in ins q.name)) e) e
        ≡ expr_refusals ms false (joined_context ms (object_width (meaning_in ims q.name)) e) e =
        y.same_input ns ms same (object_width (meaning_in ins q.name)) e
        ∙ ap (λ m. expr_refusals ms false (joined_context ms (object_width m) e) e) (inner.meaning q.name) in
        λ i. if is_clock at.scopes (Some e) then [] else own i
    same_value q direction.Output e = y.same_output ns ms same c.port c.pos e (target_of e)

    same_joined : (q : Option FullPort) (value : Option Expr)
        → joined_refusals at ns ins q c value ≡ joined_refusals at ms ims q c value
    same_joined None None = refl
    same_joined None (Some e) = λ i. x.same_refusals ns ms same false e i ++ f.Port c.port c.pos ∷ []
    same_joined (Some q) None = refl
    same_joined (Some q) (Some e) = same_value q q.direction e

    pub connection_alike : (a b : Bool) (p q : Option FullPort) → a ≡ b
        → ((value : Option Expr) → joined_refusals at ns ins p c value ≡ joined_refusals at ns ins q c value)
        → connection_parts at ns ins a p c ≡ connection_parts at ms ims b q c
    connection_alike a b p q e h =
        (λ i. refused_if (e i) (f.Twice c.port c.pos) ++ h c.value i)
        ∙ (λ i. refused_if b (f.Twice c.port c.pos) ++ same_joined q c.value i)

-- ---- of a port the direction and the name count

abbrev IsNamed : List ℕ → Option FullPort → Type 0
IsNamed text None = Unit {0}
IsNamed text (Some q) = text ≡ q.name

port_is_named : (ps : List FullPort) (text : List ℕ) → IsNamed text (port_named ps text)
port_is_named [] text = tt
port_is_named (p ∷ ps) text = by (bytes_eq text p.name) refl (port_is_named ps text)
  where
    by : (b : Bool) → bytes_eq text p.name ≡ b → IsNamed text (port_named ps text)
        → IsNamed text (if b then Some p else port_named ps text)
    by true e h = (bytes_eq-Decides text p.name).0 e
    by false e h = h

some_same : (d e : Direction) → Some d ≡ Some e → d ≡ e
some_same d e h = cc

module _ (at : Place) (ns inner : List Names) (c : Connection) where
  by_name : (p q : FullPort) → p.name ≡ q.name → (d : Direction) (e : Expr)
      → joined_value at ns inner p d c e ≡ joined_value at ns inner q d c e
  by_name p q h direction.Input e =
      λ i. if is_clock at.scopes (Some e) then [] else expr_refusals ns false
      (joined_context ns (object_width (meaning_in inner (h i))) e) e
  by_name p q h direction.Output e = refl

  by_port : (d : Option Direction) (text : List ℕ) (q : Option FullPort) → d ≡ direction_of q → IsNamed text q
      → (value : Option Expr)
      → joined_refusals at ns inner (port_if d text) c value ≡ joined_refusals at ns inner q c value
  by_port None text None e h value = refl
  by_port (Some d) text None e h value = cc
  by_port None text (Some q) e h value = cc
  by_port (Some d) text (Some q) e h None = refl
  by_port (Some d) text (Some q) e h (Some a) =
      by_name (port_with d text) q h d a ∙ ap (λ d. joined_value at ns inner q d c a) (some_same d q.direction e)

  pub port_alike : (d : Option Direction) (ps : List FullPort) → d ≡ direction_of (port_named ps c.port)
      → (value : Option Expr) → joined_refusals at ns inner (port_if d c.port) c value
      ≡ joined_refusals at ns inner (port_named ps c.port) c value
  port_alike d ps e = by_port d c.port (port_named ps c.port) e (port_is_named ps c.port)
