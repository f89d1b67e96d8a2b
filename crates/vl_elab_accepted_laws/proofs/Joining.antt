-- The parts of a connection that isn't refused are known.
use Rattle.std.specs.Prelude.{◌≡◌, refl, ℕ, List, [], ◌∷◌, Bool, true, false, Option, Some, None}
use Rattle.std.specs.Prelude.{if◌then◌else◌}
use Rattle.std.proofs.Common.{ap, sym, subst}
use Rattle.fv_text.specs.declared.pos.Pos.{Pos}
use Rattle.vl_tree.specs.declared.declaration.Direction.{Direction}
use Rattle.vl_tree.specs.declared.declaration.Direction.TheVariants as direction
use Rattle.vl_tree.specs.declared.declaration.FullPort.{FullPort}
use Rattle.vl_tree.specs.declared.part.Connection.{Connection}
use Rattle.vl_tree.specs.declared.source.Module.{Module}
use Rattle.vl_tree.specs.Expr.{Expr, Exprs, number, name, paren, unary, binary, conditional, concat, repeat, cast, none}
use Rattle.vl_tree.specs.Expr.{more, whole}
use Rattle.vl_tree.specs.ExprWellFormed as expr
use Rattle.vl_tree.specs.Lval.{Lval, Lvals, named, joined, no_lvals, more_lvals}
use Rattle.vl_tree.specs.LvalWellFormed as lval
use Rattle.vl_size.specs.declared.context.Context.{Context}
use Rattle.vl_size.specs.Size.{◌>>=◌}
use Rattle.vl_mean.specs.Constants.{named_constant}
use Rattle.vl_mean.specs.Declarations.{ports_of, port_named}
use Rattle.vl_mean.specs.Parts.{equation, here, plain, plain_target, target_of, targets_of, with_target}
use Rattle.vl_mean.specs.Parts.{connection_part, port_part, step_parts}
use Rattle.vl_mean.specs.Runs.{Each}
use Rattle.vl_mean.specs.Scopes.{Scope, is_clock}
use Rattle.vl_mean.specs.Walk.{Place, Use, connection}
use Rattle.vl_mean_flat.specs.Flattened.{IsSeen, Known}
use Rattle.vl_mean_flat.specs.Names.{Names as EachName, ExprNames, TargetNames}
use Rattle.vl_elab_accepted_laws.proofs.Fresh.{NoneOf, none-back}
use Rattle.vl_elab_spec.specs.Expressions.{expr_refusals}
use Rattle.vl_elab_spec.specs.Items.{inner_meanings, joined_context, object_width, output_target}
use Rattle.vl_elab_spec.specs.Items.{joined_value, joined_refusals, connection_refusals}
use Rattle.vl_elab_spec.specs.Meanings.{Meaning, undeclared, constant, loop_variable, object, faulty, shapeless, later}
use Rattle.vl_elab_spec.specs.Meanings.{Names, meaning_in, meanings_at}
use Rattle.vl_elab_scope.specs.Seen.{AllNamed}
use Rattle.vl_elab_accepted_laws.specs.Sized.{AreSound}
use Rattle.vl_elab_accepted_laws.specs.Means.{MeansIn, AreMeant}
use Rattle.vl_elab_accepted_laws.proofs.Knowing.{known_expr, known_target}
use Rattle.vl_elab_accepted_laws.specs.Right.{AreRight}
use Rattle.vl_elab_accepted_laws.specs.Joined.{IsObject, PortsAreObjects}

-- ---- the target that an output is joined to is well formed, as the expression is

record Both (o : Option Lval) (g : Lval → Option Lvals) (ls : Lvals) : Type 0 where
  first : Lval
  is : o ≡ Some first
  rest : g first ≡ Some ls

two_some : (o : Option Lval) (g : Lval → Option Lvals) (ls : Lvals) → (o >>= g) ≡ Some ls → Both o g ls
two_some None g ls h = cc
two_some (Some l) g ls h = record { first = l; is = refl; rest = h }

record Rest (o : Option Lvals) (l : Lval) (ls : Lvals) : Type 0 where
  others : Lvals
  is : o ≡ Some others
  whole_is : more_lvals l others ≡ ls

rest_some : (o : Option Lvals) (l : Lval) (ls : Lvals) → (o >>= λ ms. Some (more_lvals l ms)) ≡ Some ls → Rest o l ls
rest_some None l ls h = cc
rest_some (Some ms) l ls h = record { others = ms; is = refl; whole_is = cc }

record Joined (o : Option Lvals) (p : Pos) (l : Lval) : Type 0 where
  others : Lvals
  is : o ≡ Some others
  joined_is : joined p others ≡ l

joined_some : (o : Option Lvals) (p : Pos) (l : Lval) → (o >>= λ ls. Some (joined p ls)) ≡ Some l → Joined o p l
joined_some None p l h = cc
joined_some (Some ls) p l h = record { others = ls; is = refl; joined_is = cc }

some_target : (k l : Lval) → Some k ≡ Some l → k ≡ l
some_target k l h = cc

some_lvals : (k l : Lvals) → Some k ≡ Some l → k ≡ l
some_lvals k l h = cc

some_targets : (es : Exprs) (ls : Lvals) → expr.IsSome es → targets_of es ≡ Some ls → lval.IsSome ls
some_targets none ls s h = absurd s
some_targets (more e es) ls s h =
    let x = two_some (target_of e) _ ls h in
    let y = rest_some (targets_of es) x.first ls x.rest in
    subst lval.IsSome y.whole_is tt

mutual
  pub target_formed : (e : Expr) (l : Lval) → expr.IsWellFormed e → target_of e ≡ Some l → lval.IsWellFormed l
  target_formed (name p text ss) l w h = subst lval.IsWellFormed (some_target (named p text ss) l h) w
  target_formed (concat p es) l w h =
      let x = joined_some (targets_of es) p l h in
      subst lval.IsWellFormed x.joined_is (some_targets es x.others w.0 x.is, targets_formed es x.others w.1 x.is)
  target_formed (number p n) l w h = cc
  target_formed (paren p x) l w h = cc
  target_formed (unary p op x) l w h = cc
  target_formed (binary p op x y) l w h = cc
  target_formed (conditional p c x y) l w h = cc
  target_formed (repeat p n es) l w h = cc
  target_formed (cast p to x) l w h = cc

  targets_formed : (es : Exprs) (ls : Lvals) → expr.AreWellFormed es → targets_of es ≡ Some ls
      → lval.AreWellFormed ls
  targets_formed none ls w h = subst lval.AreWellFormed (some_lvals no_lvals ls h) tt
  targets_formed (more e es) ls w h =
      let x = two_some (target_of e) _ ls h in
      let y = rest_some (targets_of es) x.first ls x.rest in
      subst lval.AreWellFormed y.whole_is (target_formed e x.first w.0 x.is, targets_formed es y.others w.1 y.is)

-- ---- the port inside

record IsInside (ss : List Scope) (text : List ℕ) : Type 0 where
  target : TargetNames (IsSeen ss) ss (plain_target text)
  value : ExprNames (IsSeen ss) ss (plain text)

inside_known : (ss : List Scope) (text : List ℕ) (m : Meaning) → IsObject m → MeansIn ss text m → IsInside ss text
inside_known ss text undeclared o h = absurd o
inside_known ss text (constant c selected) o h = absurd o
inside_known ss text loop_variable o h = absurd o
inside_known ss text (object d role scalar) o h =
    let is_seen : IsSeen ss text = record { decl = d; declared = h.1 } in
    record {
      target = (h.0, is_seen, tt);
      value = subst (EachName (IsSeen ss)) (sym (ap (named_constant here text whole) h.0)) (is_seen, tt);
    }
inside_known ss text faulty o h = absurd o
inside_known ss text shapeless o h = absurd o
inside_known ss text later o h = absurd o

-- ---- connections

module _ (at : Place) (m : Module) (u : Use) (inside : List Scope) (named_so : AllNamed (meanings_at at))
    (meant : AreMeant (meanings_at at) at.scopes) where
  abbrev ns : List Names
  ns = meanings_at at

  known_input : (clock : Bool) (text : List ℕ) (c : Context) (x : Expr) → IsInside inside text → expr.IsWellFormed x
      → NoneOf (if clock then [] else expr_refusals ns false c x)
      → Each Known (if clock then [] else equation inside (plain_target text) at.scopes x ∷ [])
  known_input true text c x i w h = tt
  known_input false text c x i w h = ((i.target, known_expr ns at.scopes false c x named_so meant w h), tt)

  known_output : (port : List ℕ) (p : Pos) (text : List ℕ) (x : Expr) (o : Option Lval) → target_of x ≡ o
      → IsInside inside text → expr.IsWellFormed x → NoneOf (output_target ns port p x o)
      → Each Known (with_target o (λ l. equation at.scopes l inside (plain text) ∷ []))
  known_output port p text x None e i w h = tt
  known_output port p text x (Some l) e i w h =
      ((known_target ns at.scopes true true l named_so meant (target_formed x l w e) (none-back _ _ h), i.value), tt)

  known_joined : (d : Direction) (q : FullPort) (x : Connection) (y : Expr) → IsInside inside q.name
      → expr.IsWellFormed y → NoneOf (joined_value at ns (inner_meanings m u) q d x y)
      → Each Known (connection_part at.scopes inside d q.name y)
  known_joined direction.Input q x y i w h =
      known_input (is_clock at.scopes (Some y)) q.name
      (joined_context ns (object_width (meaning_in (inner_meanings m u) q.name)) y) y i w h
  known_joined direction.Output q x y i w h = known_output x.port x.pos q.name y (target_of y) refl i w h

  known_port_part : (q : Option FullPort) (x : Connection) (value : Option Expr)
      → ((p : FullPort) → q ≡ Some p → IsInside inside p.name) → expr.IsValue value
      → NoneOf (joined_refusals at ns (inner_meanings m u) q x value) → Each Known (port_part at.scopes inside q value)
  known_port_part None x value i w h = tt
  known_port_part (Some p) x None i w h = tt
  known_port_part (Some p) x (Some y) i w h = known_joined p.direction p x y (i p refl) w h

pub known_connection : (at : Place) (m : Module) (u : Use) (inside : List Scope) (given : List (List ℕ))
    (x : Connection) → AreRight (meanings_at at) at.scopes → AreSound (meanings_at at)
    → AreRight (inner_meanings m u) inside → AreSound (inner_meanings m u) → PortsAreObjects m u
    → expr.IsValue x.value → connection_refusals at m u given x ≡ []
    → Each Known (step_parts (connection at m u inside given x))
known_connection at m u inside given x r s ri si ports w h =
    known_port_part at m u inside r.0 (r.1 s) (port_named (ports_of m.ports) x.port) x x.value
    (λ p e. inside_known inside p.name (meaning_in (inner_meanings m u) p.name) (ports x.port p e) (ri.1 si p.name)) w
    (none-back _ _ h)
