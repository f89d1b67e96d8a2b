-- Ports that are written one behind the other.
use Rattle.std.specs.Prelude.{◌≡◌, refl, ℕ, List, [], ◌∷◌, ◌++◌, Option, Some, None, option_to_list}
use Rattle.std.proofs.Common.{ap, sym, ◌∙◌, subst}
use Rattle.fv_text.specs.declared.pos.Pos.{Pos}
use Rattle.vl_tree.specs.declared.declaration.FullPort.{FullPort}
use Rattle.vl_tree.specs.declared.declaration.NetKind.{NetKind}
use Rattle.vl_tree.specs.declared.declaration.Port.{Port}
use Rattle.vl_tree.specs.declared.declaration.PortKind.{PortKind}
use Rattle.vl_tree.specs.declared.declaration.PortKind.TheVariants as port
use Rattle.vl_size.specs.declared.decl.Decl.{Decl}
use Rattle.vl_mean.specs.Declarations.{full_port, full_ports, port_name_pos}
use Rattle.vl_mean.specs.Parts.{Part, declares_all}
use Rattle.vl_mean.specs.Scopes.{Scope}
use Rattle.vl_mean_flat.specs.DriverPlaces.{all_at}
use Rattle.vl_elab_draft.specs.Written.{Written}
use Rattle.vl_elab_decls.specs.Objects.{port_text}
use Rattle.vl_elab_emit.specs.Behind.{MayStandBehind, Placed, StandBehind, followed_by, placed_at, unplaced}
use Rattle.vl_elab_emit.proofs.Standing.{Rest, both_behind, may_first, may_next, rest_first, rest_last, rest_next}
use Rattle.vl_elab_flatten.specs.PortParts.{
  all_port_parts,
  behind_first,
  first_parts,
  kind_of,
  next_net,
  placed_ports,
  port_places,
  port_value,
}

-- what is declared drives nothing
declared_first : (p : Pos) (path : List ℕ) (ds : List Decl) (ps : List Part)
    → all_at p (declares_all path ds ++ ps) ≡ all_at p ps
declared_first p path [] ps = refl
declared_first p path (d ∷ ds) ps = declared_first p path ds ps

pub port_behind : (w v u : Written) (p : Pos) (path : List ℕ) (ds : List Decl) (ps : List Part)
    → StandBehind w (unplaced (declares_all path ds)) v → StandBehind v (placed_at p ps) u
    → StandBehind w (placed_at p (declares_all path ds ++ ps)) u
port_behind w v u p path ds ps h k =
    let same : followed_by (unplaced (declares_all path ds)) (placed_at p ps)
    ≡ placed_at p (declares_all path ds ++ ps) =
    λ i. record { parts = declares_all path ds ++ ps; places = sym (declared_first p path ds ps) i } in
    subst (λ xs. StandBehind w xs u) same (both_behind w v u (unplaced (declares_all path ds)) (placed_at p ps) h k)

kind_next : (q : Option FullPort) (kind : PortKind) → next_net (kind_of q) kind ≡ kind_of (full_port q kind)
kind_next q (port.Full p) = refl
kind_next None (port.Short text value) = refl
kind_next (Some p) (port.Short text value) = refl

module _ (ss : List Scope) (path : List ℕ) where
  abbrev parts : List Decl → List FullPort → List Part
  parts ds ps = all_port_parts ss path ds ps

  -- behind one of this kind
  abbrev placed : List Decl → Option FullPort → Option NetKind → List Port → Placed
  placed ds q last left = record {
    parts = parts ds (full_ports q left);
    places = port_places ss path ds last left;
  }

  no_port : (ds : List Decl) → parts ds [] ≡ []
  no_port [] = refl
  no_port (d ∷ ds) = refl

  -- a port, if it is one, before others
  one_before : (q : Option FullPort) (kind : PortKind) (ds : List Decl) (qs : List FullPort)
      → parts ds (option_to_list (full_port q kind) ++ qs)
      ≡ first_parts ss path ds (kind_of (full_port q kind)) (port_text kind) (port_value kind)
      ++ parts (behind_first (kind_of (full_port q kind)) ds) qs
  one_before q (port.Full p) [] qs = refl
  one_before q (port.Full p) (d ∷ ds) qs = refl
  one_before None (port.Short text value) ds qs = refl
  one_before (Some p) (port.Short text value) [] qs = refl
  one_before (Some p) (port.Short text value) (d ∷ ds) qs = refl

  -- the ports that are left, behind one of this kind
  pub record PortsLeft (start : Written) (all : Placed) (w : Written) (last : Option NetKind) (ds : List Decl)
      (left : List Port) : Type 0 where
    pub port : Option FullPort
    pub kind : last ≡ kind_of port
    pub may : MayStandBehind w (parts ds (full_ports port left))
    pub rest : Rest start all w (placed ds port last left)

  pub ports_first : (w : Written) (ds : List Decl) (all : List Port)
      → MayStandBehind w (parts ds (full_ports None all))
      → PortsLeft w (placed_ports ss path ds all) w None ds all
  ports_first w ds all may = record {
    port = None;
    kind = refl;
    may = may;
    rest = rest_first w (placed_ports ss path ds all);
  }

  module _ (start : Written) (all : Placed) (w : Written) (last net : Option NetKind) (ds : List Decl) (p : Port)
      (rest left : List Port) (e : left ≡ p ∷ rest) (is : net ≡ next_net last p.kind)
      (go : PortsLeft start all w last ds left) where
    net_is : kind_of (full_port go.port p.kind) ≡ net
    net_is = sym (is ∙ ap (λ k. next_net k p.kind) go.kind ∙ kind_next go.port p.kind)

    split : parts ds (full_ports go.port left)
        ≡ first_parts ss path ds net (port_text p.kind) (port_value p.kind)
        ++ parts (behind_first net ds) (full_ports (full_port go.port p.kind) rest)
    split =
        ap (λ xs. parts ds (full_ports go.port xs)) e
        ∙ one_before go.port p.kind ds (full_ports (full_port go.port p.kind) rest)
        ∙ ap (λ k. first_parts ss path ds k (port_text p.kind) (port_value p.kind)
        ++ parts (behind_first k ds) (full_ports (full_port go.port p.kind) rest)) net_is

    places_split : port_places ss path ds last left
        ≡ all_at (port_name_pos p) (first_parts ss path ds net (port_text p.kind) (port_value p.kind))
        ++ port_places ss path (behind_first net ds) net rest
    places_split =
        ap (port_places ss path ds last) e
        ∙ ap (λ k. all_at (port_name_pos p) (first_parts ss path ds k (port_text p.kind) (port_value p.kind))
        ++ port_places ss path (behind_first k ds) k rest) (sym is)

    placed_split : placed ds go.port last left
        ≡ followed_by (placed_at (port_name_pos p) (first_parts ss path ds net (port_text p.kind) (port_value p.kind)))
        (placed (behind_first net ds) (full_port go.port p.kind) net rest)
    placed_split = λ i. record { parts = split i; places = places_split i }

    pub first_may : MayStandBehind w (first_parts ss path ds net (port_text p.kind) (port_value p.kind))
    first_may =
        may_first w (parts ds (full_ports go.port left))
        (first_parts ss path ds net (port_text p.kind) (port_value p.kind))
        (parts (behind_first net ds) (full_ports (full_port go.port p.kind) rest)) go.may split

    pub ports_on : (v : Written) (es : List Decl) → es ≡ behind_first net ds
        → StandBehind w
        (placed_at (port_name_pos p) (first_parts ss path ds net (port_text p.kind) (port_value p.kind))) v
        → PortsLeft start all v net es rest
    ports_on v es es_are h =
        let here = placed_at (port_name_pos p) (first_parts ss path ds net (port_text p.kind) (port_value p.kind)) in
        let more = parts (behind_first net ds) (full_ports (full_port go.port p.kind) rest) in
        subst (λ es. PortsLeft start all v net es rest) (sym es_are) (record {
          port = full_port go.port p.kind;
          kind = sym net_is;
          may = may_next w v (parts ds (full_ports go.port left)) here more go.may split h;
          rest = rest_next start all w v (placed ds go.port last left) here
              (placed (behind_first net ds) (full_port go.port p.kind) net rest) go.rest placed_split h;
        })

  pub ports_last : (start : Written) (all : Placed) (w : Written) (last : Option NetKind) (ds : List Decl)
      (left : List Port) → left ≡ [] → PortsLeft start all w last ds left → StandBehind start all w
  ports_last start all w last ds left e go =
      let none : parts ds (full_ports go.port left) ≡ [] =
      ap (λ xs. parts ds (full_ports go.port xs)) e ∙ no_port ds in
      let nowhere : port_places ss path ds last left ≡ [] = ap (port_places ss path ds last) e in
      rest_last start all w (placed ds go.port last left) go.rest (λ i. record { parts = none i; places = nowhere i })
