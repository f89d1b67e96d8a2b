-- Between functions: Names in tokens. Rule of this project.
use Rattle.std.specs.Prelude.{Bool, true}
use Rattle.fv_text.specs.Name.{is_name}
use Rattle.fv_text.specs.declared.kind.Kind.{Kind}
use Rattle.fv_text.specs.declared.kind.Kind.TheVariants.{Name}

-- the text of a name is a name
abbrev pub is_well_named : Kind → Bool
is_well_named (Name text) = is_name text
is_well_named _ = true
