-- Ports, and what is kept of the port before one that is written short.
use Rattle.std.specs.Prelude.{◌≡◌, refl, ℕ, List, [], ◌∷◌, ◌++◌, ◌&&◌, Option, Some, None, option_to_list}
use Rattle.std.proofs.Common.{ap, sym, ◌∙◌, subst}
use Rattle.std.proofs.lemmas.List.{map-append}
use Rattle.vl_tree.specs.declared.declaration.Direction.{Direction}
use Rattle.vl_tree.specs.declared.declaration.Direction.TheVariants as direction
use Rattle.vl_tree.specs.declared.declaration.FullPort.{FullPort}
use Rattle.vl_tree.specs.declared.declaration.NetKind.{NetKind}
use Rattle.vl_tree.specs.declared.declaration.Port.{Port}
use Rattle.vl_tree.specs.declared.declaration.PortKind.{PortKind}
use Rattle.vl_tree.specs.declared.declaration.PortKind.TheVariants as kinds
use Rattle.vl_tree.specs.Expr.{Expr}
use Rattle.vl_size.specs.declared.decl.Decl.{Decl}
use Rattle.vl_mean.specs.Declarations.{class_of_port, declared_ports, full_port, full_ports, is_output, port_decl}
use Rattle.vl_mean.specs.Declarations.{vector_bounds}
use Rattle.vl_mean.specs.Runs.{Each}
use Rattle.vl_mean.specs.Scopes.{Scope}
use Rattle.vl_mean.specs.Walk.{Use}
use Rattle.vl_elab_const.specs.InRange.{Covers}
use Rattle.vl_elab_const.specs.Openable.{IsInRange}
use Rattle.vl_elab_decls.specs.declared.inputs.Inputs.{Inputs}
use Rattle.vl_elab_decls.specs.Inputs.{AreInputs}
use Rattle.vl_elab_decls.specs.Objects.{port_class, port_text}
use Rattle.vl_elab_decls.specs.declared.decls_ports.PortForm.{PortForm}
use Rattle.vl_elab_decls.specs.Ports.{AreForms, IsPortForm, decls_with}
use Rattle.vl_elab_decls.proofs.Declared.{short_of}
use Rattle.vl_elab_decls.proofs.Going.{Goes, goes_first, goes_last, goes_on}

-- ---- the next form

pub next_full : (ss : List Scope) (q : Option FullPort) (kind : PortKind) (p : FullPort) (f : PortForm)
    → kind ≡ kinds.Full p → IsPortForm ss p f → AreForms ss (full_port q kind) (Some f)
next_full ss q kind p f e h = subst (λ k. AreForms ss (full_port q k) (Some f)) (sym e) h

same_form : (ss : List Scope) (text : List ℕ) (value : Option Expr) (q : Option FullPort) (last : Option PortForm)
    → AreForms ss q last → AreForms ss (full_port q (kinds.Short text value)) last
same_form ss text value None None h = tt
same_form ss text value None (Some f) h = h
same_form ss text value (Some p) None h = h
same_form ss text value (Some p) (Some f) h = record {
  direction = h.direction;
  kind = h.kind;
  signed = h.signed;
  extent = h.extent;
}

pub next_short : (ss : List Scope) (q : Option FullPort) (kind : PortKind) (text : List ℕ) (value : Option Expr)
    (last : Option PortForm) → kind ≡ kinds.Short text value → AreForms ss q last
    → AreForms ss (full_port q kind) last
next_short ss q kind text value last e h =
    subst (λ k. AreForms ss (full_port q k) last) (sym e) (same_form ss text value q last h)

-- ---- what a port declares

abbrev IsNamedSo : Option FullPort → List ℕ → Type 0
IsNamedSo None text = Unit {0}
IsNamedSo (Some p) text = p.name ≡ text

named_so : (q : Option FullPort) (kind : PortKind) → IsNamedSo (full_port q kind) (port_text kind)
named_so q (kinds.Full p) = refl
named_so None (kinds.Short text value) = tt
named_so (Some p) (kinds.Short text value) = refl

module _ (ss : List Scope) (u : Use) (inputs : Inputs) (g : AreInputs inputs u) where
  abbrev decls : List FullPort → List Decl
  decls ps = declared_ports ss u.is_top u.input ps

  class_is : (p : FullPort) (to : Direction) (net : Option NetKind)
      → port_class inputs to net p.name ≡ class_of_port u.input p to net
  class_is p direction.Input net = sym (g.stands p.name)
  class_is p direction.Output None = refl
  class_is p direction.Output (Some kind) = refl

  port_is : (q : Option FullPort) (f : Option PortForm) (text : List ℕ) → AreForms ss q f → IsNamedSo q text
      → Each IsInRange (decls (option_to_list q)) → decls_with inputs f text ≡ decls (option_to_list q)
  port_is None None text h n k = refl
  port_is None (Some f) text h n k = absurd h
  port_is (Some p) None text h n k = absurd h
  port_is (Some p) (Some f) text h n k =
      let e : Covers (vector_bounds ss p.shape.range) f.extent
      = h.extent (short_of (vector_bounds ss p.shape.range) k.0.short) in
      let class : port_class inputs f.direction f.net text ≡ class_of_port u.input p p.direction p.net
      = (λ i. port_class inputs (h.direction i) (h.kind i) (sym n i)) ∙ class_is p p.direction p.net in
      λ i. record {
        name = sym n i;
        width = e.bits i;
        signed = h.signed i;
        left = e.left i;
        right = e.right i;
        words = None;
        class = class i;
        output = sym g.top i && is_output (h.direction i);
      } ∷ []

  -- ---- port by port

  -- the ports that are left, behind one of this form
  pub record PortsGo (whole : List Decl) (last : Option PortForm) (now : List Decl) (left : List Port) : Type 0 where
    pub port : Option FullPort
    pub form : AreForms ss port last
    pub goes : Goes IsInRange whole now (decls (full_ports port left))

  pub ports_first : (old : List Decl) (all : List Port) → Each IsInRange (decls (full_ports None all))
      → PortsGo (old ++ decls (full_ports None all)) None old all
  ports_first old all h = record {
    port = None;
    form = tt;
    goes = goes_first IsInRange old (decls (full_ports None all)) h;
  }

  ahead : (q : Option FullPort) (p : Port) (rest left : List Port) → left ≡ p ∷ rest
      → decls (full_ports q left)
      ≡ decls (option_to_list (full_port q p.kind)) ++ decls (full_ports (full_port q p.kind) rest)
  ahead q p rest left e =
      ap (λ ps. decls (full_ports q ps)) e
      ∙ map-append (λ (x : FullPort). port_decl ss u.is_top u.input x) (option_to_list (full_port q p.kind))
      (full_ports (full_port q p.kind) rest)

  pub ports_on : (whole : List Decl) (last next : Option PortForm) (now new : List Decl) (p : Port)
      (rest left : List Port) → left ≡ p ∷ rest
      → ((q : Option FullPort) → AreForms ss q last → AreForms ss (full_port q p.kind) next)
      → new ≡ now ++ decls_with inputs next (port_text p.kind) → PortsGo whole last now left
      → PortsGo whole next new rest
  ports_on whole last next now new p rest left e follows made go =
      let q = full_port go.port p.kind in
      let form : AreForms ss (full_port go.port p.kind) next = follows go.port go.form in
      record {
        port = q;
        form = form;
        goes = goes_on IsInRange whole now new (decls (option_to_list q)) (decls (full_ports q rest))
            (decls (full_ports go.port left)) (ahead go.port p rest left e)
            (λ k. made ∙ ap (λ ds. now ++ ds) (port_is q next (port_text p.kind) form (named_so go.port p.kind) k))
            go.goes;
      }

  pub ports_last : (whole : List Decl) (last : Option PortForm) (now : List Decl) (left : List Port) → left ≡ []
      → PortsGo whole last now left → now ≡ whole
  ports_last whole last now left e go =
      goes_last IsInRange whole now (decls (full_ports go.port left))
      (ap (λ ps. decls (full_ports go.port ps)) e) go.goes
