-- What an instance that isn't refused joins to a port is an equation of a design without hierarchy.
use Rattle.std.specs.Prelude.{◌≡◌, refl, ℕ, ◌≤◌, List, [], ◌∷◌, ◌++◌, Bool, true, false, is_none, All, bytes_eq, find}
use Rattle.std.specs.Prelude.{if◌then◌else◌, Option, Some, None, IsSome, map}
use Rattle.std.proofs.Common.{ap, sym, ◌∙◌, subst, true≢false}
use Rattle.std.proofs.lemmas.Option.{same_Some}
use Rattle.std.proofs.lemmas.List.Elements.{All-nil, All-cons}
use Rattle.std.proofs.lemmas.Slice.Eq.{bytes_eq-Decides}
use Rattle.fv_text.specs.declared.pos.Pos.{Pos}
use Rattle.vl_tree.specs.declared.declaration.Direction.{Direction}
use Rattle.vl_tree.specs.declared.declaration.Direction.TheVariants as direction
use Rattle.vl_tree.specs.declared.declaration.FullPort.{FullPort}
use Rattle.vl_tree.specs.declared.declaration.NetKind.{NetKind}
use Rattle.vl_tree.specs.declared.declaration.NetKind.TheVariants as net
use Rattle.vl_tree.specs.declared.part.Connection.{Connection}
use Rattle.vl_tree.specs.declared.source.Module.{Module}
use Rattle.vl_tree.specs.Expr.{Expr, name, whole}
use Rattle.vl_tree.specs.ExprWellFormed as expr
use Rattle.vl_tree.specs.Lval.{Lval}
use Rattle.vl_size.specs.declared.context.Context.{Context}
use Rattle.vl_size.specs.declared.decl.Class.{Class}
use Rattle.vl_size.specs.declared.decl.Class.TheVariants as class
use Rattle.vl_size.specs.declared.decl.Decl.{Decl}
use Rattle.vl_size.specs.Size.{◌>>=◌, or_none, size, vector_size, word_size}
use Rattle.vl_size.specs.Table.{IsShaped, declared_as}
use Rattle.vl_mean.specs.Declarations.{class_of_port, declared_ports, port_decl, port_named, ports_of}
use Rattle.vl_mean.specs.FlatLaw.{IsAssigned, IsReadIn, is_net}
use Rattle.vl_mean.specs.Constants.{named_constant}
use Rattle.vl_mean.specs.Parts.{connection_part, equation, here, plain, plain_target, port_part, step_parts}
use Rattle.vl_mean.specs.Parts.{target_of, with_target}
use Rattle.vl_mean.specs.Runs.{Each}
use Rattle.vl_mean.specs.Scopes.{Scope, constant_in, full, is_clock, is_clock_class, is_clock_decl, visible}
use Rattle.vl_mean.specs.Walk.{Place, Use, connection, module_around, module_contents, module_scope}
use Rattle.vl_mean_flat.specs.Found.{IsFound}
use Rattle.vl_mean.specs.Targets.{is_decl}
use Rattle.vl_mean_flat.specs.FullNames.{flat_expr, flat_lval, renamed}
use Rattle.vl_mean_flat.proofs.FoundNames.{AreScopes, found}
use Rattle.vl_elab_spec.specs.declared.role.Role.{Role}
use Rattle.vl_elab_spec.specs.Expressions.{expr_refusals}
use Rattle.vl_elab_spec.specs.Items.{connection_refusals, inner_meanings, joined_context, joined_refusals, joined_value}
use Rattle.vl_elab_spec.specs.Items.{object_width, output_target}
use Rattle.vl_elab_spec.specs.Meanings.{Meaning, undeclared, constant, loop_variable, object, faulty, shapeless, later}
use Rattle.vl_elab_spec.specs.Meanings.{Names, is_undeclared, meaning_in, meaning_of, meanings_at, scope_meanings}
use Rattle.vl_elab_spec.specs.Statements.{assigned_in}
use Rattle.vl_elab_accepted_laws.proofs.Fresh.{NoneOf, none-back}
use Rattle.vl_elab_scope.specs.Seen.{AllNamed}
use Rattle.vl_elab_accepted_laws.specs.Sized.{AreSound}
use Rattle.vl_elab_accepted_laws.specs.Means.{AreMeant, MeansIn}
use Rattle.vl_elab_accepted_laws.specs.Right.{AreRight}
use Rattle.vl_elab_accepted_laws.proofs.Laid.{module_laid}
use Rattle.vl_elab_accepted_laws.proofs.Level.{LevelMeans, level_means}
use Rattle.vl_elab_accepted_laws.specs.Joined.{IsObject, PortsAreObjects}
use Rattle.vl_elab_accepted_laws.proofs.Joining.{target_formed}
use Rattle.vl_elab_flatten_laws.proofs.LawfulSteps.{IsDrawnPart}
use Rattle.vl_elab_flatten_laws.proofs.Targets.{assigned_read, flat_assigned}

-- ---- a port as its module declares it

module _ (around : List Scope) (top : Bool) (input : List ℕ → Class) (rest : List Decl) where
  port_declared : (ps : List FullPort) (text : List ℕ) (p : FullPort) → port_named ps text ≡ Some p
      → declared_as (declared_ports around top input ps ++ rest) text ≡ Some (port_decl around top input p)
  port_declared [] text p e = cc
  port_declared (q ∷ ps) text p e = by (bytes_eq text q.name) e (port_declared ps text p)
    where
      same : Some q ≡ Some p → q ≡ p
      same e = cc

      by : (b : Bool) → (if b then Some q else port_named ps text) ≡ Some p
          → (port_named ps text ≡ Some p
          → declared_as (declared_ports around top input ps ++ rest) text ≡ Some (port_decl around top input p))
          → (if b then Some (port_decl around top input q)
          else declared_as (declared_ports around top input ps ++ rest) text) ≡ Some (port_decl around top input p)
      by true e next = ap (λ x. Some (port_decl around top input x)) (same e)
      by false e next = next e

port_text : (ps : List FullPort) (text : List ℕ) (p : FullPort) → port_named ps text ≡ Some p → text ≡ p.name
port_text [] text p e = cc
port_text (q ∷ ps) text p e = by (bytes_eq text q.name) refl e (port_text ps text p)
  where
    same : Some q ≡ Some p → q ≡ p
    same e = cc

    by : (b : Bool) → bytes_eq text q.name ≡ b → (if b then Some q else port_named ps text) ≡ Some p
        → (port_named ps text ≡ Some p → text ≡ p.name) → text ≡ p.name
    by true f e next = (bytes_eq-Decides text q.name).0 f ∙ ap (λ x. x.name) (same e)
    by false f e next = next e

here_declared : (s : Scope) (text : List ℕ) (m : Meaning) (d : Decl) (role : Role) (scalar : Bool)
    → (if is_undeclared m then undeclared else m) ≡ object d role scalar → LevelMeans s text m
    → declared_as s.decls text ≡ Some d
here_declared s text undeclared d role scalar e h = cc
here_declared s text (constant c selected) d role scalar e h = cc
here_declared s text loop_variable d role scalar e h = cc
here_declared s text (object x i j) d role scalar e h =
    let same : x ≡ d = cc in h.1 ∙ ap Some same
here_declared s text faulty d role scalar e h = cc
here_declared s text shapeless d role scalar e h = cc
here_declared s text later d role scalar e h = cc

-- what a port means in its module is what the module declares
inner_declared : (m : Module) (u : Use) (text : List ℕ) (d : Decl) (role : Role) (scalar : Bool)
    → meaning_in (inner_meanings m u) text ≡ object d role scalar
    → declared_as (module_scope m u []).decls text ≡ Some d
inner_declared m u text d role scalar e =
    here_declared (module_scope m u []) text
    (meaning_of (scope_meanings (module_scope m u []) [] [] (module_contents m u)) text) d role scalar e
    (level_means (module_scope m u []) [] [] (module_contents m u) (module_laid m u []) text)

port_is : (m : Module) (u : Use) (text : List ℕ) (p : FullPort) (d : Decl) (role : Role) (scalar : Bool)
    → port_named (ports_of m.ports) text ≡ Some p → meaning_in (inner_meanings m u) text ≡ object d role scalar
    → d ≡ port_decl (module_around m u) u.is_top u.input p
port_is m u text p d role scalar e k =
    same_Some d (port_decl (module_around m u) u.is_top u.input p)
    (sym (inner_declared m u text d role scalar k)
    ∙ port_declared (module_around m u) u.is_top u.input _ (ports_of m.ports) text p e)

output_no_clock : (input : List ℕ → Class) (p : FullPort) (o : Option NetKind)
    → is_clock_class (class_of_port input p direction.Output o) ≡ false
output_no_clock input p None = refl
output_no_clock input p (Some net.Wire) = refl
output_no_clock input p (Some net.Reg) = refl

-- ---- the port inside

module _ (es : List Decl) (inside : List Scope) (laid : AreScopes es inside) where
  -- a net or a variable that is no memory, by itself
  pub record IsPlainPort (text : List ℕ) (d : Decl) : Type 0 where
    pub none_so : constant_in inside text ≡ None
    pub sized : size es (name here (full inside text) whole) ≡ Some d.width
    pub there : declared_as es (full inside text) ≡ Some (record d { name = full inside text })

  plain_port : (text : List ℕ) (d : Decl) → d.words ≡ None → constant_in inside text ≡ None
      → declared_as (visible inside) text ≡ Some d → IsPlainPort text d
  plain_port text d words is e =
      let x : IsFound (full inside) (visible inside) es text = found es inside text d laid e in
      let same : x.decl ≡ d = same_Some x.decl d (sym x.here ∙ e) in
      let there_so : declared_as es (full inside text) ≡ Some (record d { name = full inside text })
      = x.there ∙ (λ i. Some (record (same i) { name = full inside text })) in
      record {
        none_so = is;
        sized = ap (λ o. o >>= λ d. if is_none d.words then vector_size es d whole else word_size es d whole) there_so
            ∙ ap (λ w. if is_none w then Some d.width else None) words;
        there = there_so;
      }

  -- read by itself, as it stands without hierarchy
  plain_read : (text : List ℕ) (d : Decl) (c : Context) → IsPlainPort text d → is_clock_class d.class ≡ false
      → IsReadIn es c (flat_expr inside (plain text))
  plain_read text d c x k =
      subst (IsReadIn es c) (sym (ap (λ o. renamed (full inside) (named_constant here text whole o)) x.none_so))
      (record {
        sized = subst IsSome (sym x.sized) refl;
        divided = refl;
        clockless = All-cons (λ t. is_clock_decl (declared_as es t) ≡ false) (full inside text) []
            (ap is_clock_decl x.there ∙ k) (All-nil (λ t. is_clock_decl (declared_as es t) ≡ false));
      })

  plain_assigned : (text : List ℕ) (d : Decl) → IsPlainPort text d → d.class ≡ class.Net → d.width ≤ 128
      → IsAssigned es is_net true (flat_lval inside (plain_target text))
  plain_assigned text d x net few = (
    (
      record {
        sized = subst IsSome (sym x.sized) refl;
        divided = refl;
        clockless = All-cons (λ t. is_clock_decl (declared_as es t) ≡ false) (full inside text) []
            (ap is_clock_decl x.there ∙ ap is_clock_class net)
            (All-nil (λ t. is_clock_decl (declared_as es t) ≡ false));
      },
      ap (λ o. is_decl o is_net) x.there ∙ ap (λ k. is_net (record d { name = full inside text; class = k })) net,
      refl,
    ),
    subst (λ o. or_none o ≤ 128) (sym x.sized) few,
  )

-- ---- connections

module _ (at : Place) (m : Module) (u : Use) (inside : List Scope) (es : List Decl) (n : AllNamed (meanings_at at))
    (meant : AreMeant (meanings_at at) at.scopes) (laid : AreScopes es at.scopes) (laid_inside : AreScopes es inside)
  where
    abbrev ns : List Names
    ns = meanings_at at

    drawn_input : (clock : Bool) (text : List ℕ) (d : Decl) (e : Expr) → IsPlainPort es inside laid_inside text d
        → IsShaped d → d.class ≡ (if clock then class.Clock else class.Net) → expr.IsWellFormed e
        → NoneOf (if clock then [] else expr_refusals ns false (assigned_in ns (Some d.width) e) e)
        → Each (IsDrawnPart es) (if clock then [] else equation inside (plain_target text) at.scopes e ∷ [])
    drawn_input true text d e x s k w h = tt
    drawn_input false text d e x s k w h = (
      (
        plain_assigned es inside laid_inside text d x k s.few_bits,
        assigned_read ns at.scopes es n meant laid false (Some d.width) (flat_lval inside (plain_target text)) e d.width
            refl s.few_bits (ap or_none x.sized) w h,
      ),
      tt,
    )

    drawn_output : (port : List ℕ) (p : Pos) (text : List ℕ) (d : Decl) (e : Expr) (o : Option Lval)
        → target_of e ≡ o → IsPlainPort es inside laid_inside text d → is_clock_class d.class ≡ false
        → expr.IsWellFormed e → NoneOf (output_target ns port p e o)
        → Each (IsDrawnPart es) (with_target o (λ l. equation at.scopes l inside (plain text) ∷ []))
    drawn_output port p text d e None t x k w h = tt
    drawn_output port p text d e (Some l) t x k w h = (
      (
        flat_assigned ns at.scopes es n meant laid true true l (target_formed e l w t) (none-back _ _ h),
        plain_read es inside laid_inside text d _ x k,
      ),
      tt,
    )

    drawn_joined : (k : Direction) (q : FullPort) (x : Connection) (e : Expr) (d : Decl) (role : Role) (scalar : Bool)
        → q.direction ≡ k → meaning_in (inner_meanings m u) q.name ≡ object d role scalar
        → d ≡ port_decl (module_around m u) u.is_top u.input q → IsShaped d
        → IsPlainPort es inside laid_inside q.name d
        → u.input q.name ≡ (if is_clock at.scopes (Some e) then class.Clock else class.Net) → expr.IsWellFormed e
        → NoneOf (joined_value at ns (inner_meanings m u) q k x e)
        → Each (IsDrawnPart es) (connection_part at.scopes inside k q.name e)
    drawn_joined direction.Input q x e d role scalar f is same s y own w h =
        drawn_input (is_clock at.scopes (Some e)) q.name d e y s
        (ap (λ d. d.class) same ∙ ap (λ k. class_of_port u.input q k q.net) f ∙ own) w
        (subst (λ m. NoneOf (if is_clock at.scopes (Some e) then []
        else expr_refusals ns false (joined_context ns (object_width m) e) e)) is h)
    drawn_joined direction.Output q x e d role scalar f is same s y own w h =
        drawn_output x.port x.pos q.name d e (target_of e) refl y
        (ap (λ d. is_clock_class d.class) same ∙ ap (λ k. is_clock_class (class_of_port u.input q k q.net)) f
        ∙ output_no_clock u.input q q.net) w h

    drawn_object : (k : Meaning) (q : FullPort) (x : Connection) (e : Expr) → meaning_in (inner_meanings m u) q.name ≡ k
        → IsObject k → MeansIn inside q.name k → port_named (ports_of m.ports) q.name ≡ Some q
        → u.input q.name ≡ (if is_clock at.scopes (Some e) then class.Clock else class.Net) → expr.IsWellFormed e
        → NoneOf (joined_value at ns (inner_meanings m u) q q.direction x e)
        → Each (IsDrawnPart es) (connection_part at.scopes inside q.direction q.name e)
    drawn_object undeclared q x e is o means found own w h = absurd o
    drawn_object (constant c selected) q x e is o means found own w h = absurd o
    drawn_object loop_variable q x e is o means found own w h = absurd o
    drawn_object faulty q x e is o means found own w h = absurd o
    drawn_object shapeless q x e is o means found own w h = absurd o
    drawn_object later q x e is o means found own w h = absurd o
    drawn_object (object d role scalar) q x e is o means found own w h =
        let same : d ≡ port_decl (module_around m u) u.is_top u.input q = port_is m u q.name q d role scalar found is in
        drawn_joined q.direction q x e d role scalar refl is same means.2
        (plain_port es inside laid_inside q.name d (ap (λ d. d.words) same) means.0 means.1) own w h

    drawn_port_part : (q : Option FullPort) (x : Connection) (value : Option Expr)
        → port_named (ports_of m.ports) x.port ≡ q → AreMeant (inner_meanings m u) inside → PortsAreObjects m u
        → u.input x.port ≡ (if is_clock at.scopes value then class.Clock else class.Net) → expr.IsValue value
        → NoneOf (joined_refusals at ns (inner_meanings m u) q x value)
        → Each (IsDrawnPart es) (port_part at.scopes inside q value)
    drawn_port_part None x value e inner objects own w h = tt
    drawn_port_part (Some q) x None e inner objects own w h = tt
    drawn_port_part (Some q) x (Some y) e inner objects own w h =
        let named : x.port ≡ q.name = port_text (ports_of m.ports) x.port q e in
        drawn_object (meaning_in (inner_meanings m u) q.name) q x y refl (objects x.port q e) (inner q.name)
        (ap (port_named (ports_of m.ports)) (sym named) ∙ e) (ap u.input (sym named) ∙ own) w h

pub drawn_connection : (at : Place) (m : Module) (u : Use) (inside : List Scope) (es : List Decl)
    (given : List (List ℕ)) (x : Connection) → AreRight (meanings_at at) at.scopes → AreSound (meanings_at at)
    → AreRight (inner_meanings m u) inside → AreSound (inner_meanings m u) → PortsAreObjects m u
    → AreScopes es at.scopes → AreScopes es inside
    → u.input x.port ≡ (if is_clock at.scopes x.value then class.Clock else class.Net) → expr.IsValue x.value
    → connection_refusals at m u given x ≡ []
    → Each (IsDrawnPart es) (step_parts (connection at m u inside given x))
drawn_connection at m u inside es given x r s ri si objects laid laid_inside own w h =
    drawn_port_part at m u inside es r.0 (r.1 s) laid laid_inside (port_named (ports_of m.ports) x.port) x x.value refl
    (ri.1 si) objects own w (none-back _ _ h)
