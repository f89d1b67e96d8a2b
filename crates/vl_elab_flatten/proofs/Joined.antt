-- What the inputs of an instance's module stand for, and the direction of a port that it names.
use Rattle.std.specs.Prelude.{◌≡◌, refl, ℕ, List, [], ◌∷◌, Bool, true, false, bytes_eq, Option, Some, None}
use Rattle.std.specs.Prelude.{if◌then◌else◌}
use Rattle.std.proofs.Common.{ap, sym, ◌∙◌}
use Rattle.std.proofs.lemmas.Slice.Eq.{bytes_eq-Decides}
use Rattle.vl_tree.specs.declared.declaration.Direction.{Direction}
use Rattle.vl_tree.specs.declared.declaration.FullPort.{FullPort}
use Rattle.vl_tree.specs.declared.declaration.Port.{Port}
use Rattle.vl_tree.specs.declared.part.Connection.{Connection}
use Rattle.vl_tree.specs.declared.part.Instance.{Instance}
use Rattle.vl_tree.specs.declared.source.Module.{Module}
use Rattle.vl_tree.specs.Expr.{Expr}
use Rattle.vl_size.specs.declared.decl.Class.TheVariants as class
use Rattle.vl_mean.specs.Declarations.{full_ports, port_named, ports_of}
use Rattle.vl_mean.specs.Parts.{connection_part, port_part}
use Rattle.vl_mean.specs.Scopes.{Scope, is_clock}
use Rattle.vl_mean.specs.Walk.{has_any}
use Rattle.vl_mean.specs.Walk.{connected, use_of, written_ports}
use Rattle.vl_elab_names.specs.declared.set.NameSet.{NameSet}
use Rattle.vl_elab_names.specs.Known.{contains}
use Rattle.vl_elab_decls.specs.declared.inputs.Inputs.TheVariants as i
use Rattle.vl_elab_decls.specs.Inputs.{AreInputs}
use Rattle.vl_elab_check_instance.specs.Clock.{joined_to}
use Rattle.vl_elab_check_instance.specs.declared.ports.PortTable.{PortTable}
use Rattle.vl_elab_check_instance.specs.Ports.{AreDirectionsOf, direction_in, direction_of}
use Rattle.vl_elab_check_instance.proofs.Clocks.{all_joined_to}
use Rattle.vl_elab_emit.specs.OwnParts.{joined_part}

pub joined_are : (ss : List Scope) (x : Instance) (all : List Connection) (set : NameSet)
    → ((text : List ℕ) → contains set text ≡ joined_to (is_clock ss) all (λ t. false) (λ t. false) text)
    → x.connections ≡ all → AreInputs (i.Joined set) (use_of has_any ss x)
joined_are ss x all set made e = record {
  top = refl;
  stands = λ text.
      ap (λ b. if b then class.Clock else class.Net)
      (ap (λ xs. is_clock ss (connected xs text)) e
      ∙ sym (made text ∙ all_joined_to (is_clock ss) refl text all (λ t. false) (λ t. false)));
}

-- a port that is found has the name
found_named : (ps : List FullPort) (text : List ℕ) (p : FullPort) → port_named ps text ≡ Some p → p.name ≡ text
found_named [] text p h = cc
found_named (q ∷ ps) text p h = by (bytes_eq text q.name) refl h (found_named ps text p)
  where
    by : (b : Bool) → bytes_eq text q.name ≡ b → (if b then Some q else port_named ps text) ≡ Some p
        → (port_named ps text ≡ Some p → p.name ≡ text) → p.name ≡ text
    by true k h f =
        let same : q ≡ p = cc in
        sym (ap (λ (y : FullPort). y.name) same) ∙ sym ((bytes_eq-Decides text q.name).0 k)
    by false k h f = f h

-- what is joined to it is by its direction
pub joined_so : (ss inside : List Scope) (ps : List FullPort) (text : List ℕ) (value : Option Expr)
    (to : Option Direction) → to ≡ direction_of (port_named ps text)
    → joined_part ss inside to text value ≡ port_part ss inside (port_named ps text) value
joined_so ss inside ps text value to e =
    ap (λ d. joined_part ss inside d text value) e ∙ by (port_named ps text) (found_named ps text) value
  where
    by : (q : Option FullPort) → ((p : FullPort) → q ≡ Some p → p.name ≡ text) → (value : Option Expr)
        → joined_part ss inside (direction_of q) text value ≡ port_part ss inside q value
    by None f None = refl
    by None f (Some e) = refl
    by (Some p) f None = refl
    by (Some p) f (Some e) = ap (λ t. connection_part ss inside p.direction t e) (sym (f p refl))

written_are : (o : Option (List Port)) → full_ports None (written_ports o) ≡ ports_of o
written_are None = refl
written_are (Some ps) = refl

-- the table of a module has the directions of its ports
pub written_directions : (table : PortTable) (m : Module) → AreDirectionsOf table m → (text : List ℕ)
    → direction_in table text ≡ direction_of (port_named (ports_of m.ports) text)
written_directions table m h text =
    h text ∙ ap (λ ps. direction_of (port_named ps text)) (written_are m.ports)
