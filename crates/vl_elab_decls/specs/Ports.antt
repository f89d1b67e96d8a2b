-- Between functions: Declarations of ports, from what is kept of the port before one that is written short: what the
-- functions that read them promise one another. IEEE 1364-2005, section 12.3.
use Rattle.std.specs.Prelude.{◌≡◌, ℕ, List, [], ◌∷◌, ◌&&◌, Option, Some, None}
use Rattle.vl_tree.specs.declared.declaration.FullPort.{FullPort}
use Rattle.vl_size.specs.declared.decl.Decl.{Decl}
use Rattle.vl_mean.specs.Declarations.{is_output, vector_bounds}
use Rattle.vl_mean.specs.Scopes.{Scope}
use Rattle.vl_elab_const.specs.InRange.{Covers, IsShort}
use Rattle.vl_elab_decls.specs.declared.inputs.Inputs.{Inputs}
use Rattle.vl_elab_decls.specs.Inputs.{is_top}
use Rattle.vl_elab_decls.specs.Objects.{port_class}
use Rattle.vl_elab_decls.specs.declared.decls_forms.Form.{Form}
use Rattle.vl_elab_decls.specs.declared.decls_ports.PortForm.{PortForm}
use Rattle.vl_elab_decls.specs.Forms.{decl_with}

pub record IsPortForm (ss : List Scope) (p : FullPort) (f : PortForm) : Type 0 where
  pub direction : f.direction ≡ p.direction
  pub kind : f.net ≡ p.net
  pub signed : f.signed ≡ p.shape.signed
  pub extent : IsShort (vector_bounds ss p.shape.range) → Covers (vector_bounds ss p.shape.range) f.extent

-- of a port that there may be
abbrev pub AreForms : List Scope → Option FullPort → Option PortForm → Type 0
AreForms ss None None = Unit {0}
AreForms ss None (Some f) = ⊥
AreForms ss (Some p) None = ⊥
AreForms ss (Some p) (Some f) = IsPortForm ss p f

abbrev pub form_of_port : Inputs → PortForm → List ℕ → Form
form_of_port inputs f text = record {
  class = port_class inputs f.direction f.net text;
  signed = f.signed;
  output = is_top inputs && is_output f.direction;
  extent = f.extent;
}

-- what a port of this form declares, if it is one
abbrev pub decls_with : Inputs → Option PortForm → List ℕ → List Decl
decls_with inputs None text = []
decls_with inputs (Some f) text = decl_with (form_of_port inputs f text) text None ∷ []
