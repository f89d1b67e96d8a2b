-- Between functions: What is asked of the scopes in which a step's names are read. Rule of this project.
use Rattle.std.specs.Prelude.{List}
use Rattle.vl_mean.specs.Parts.{Part, declares, equation, combinational, clocked, starts}
use Rattle.vl_mean.specs.Scopes.{Scope}
use Rattle.vl_mean.specs.Walk.{Step, header, port, item, override, connection, block_step}

-- P of those around the step; of a connection also of those of the module that it leads to
abbrev pub StepScopes : (List Scope → Type 0) → Step → Type 0
StepScopes P (header at x) = P at.scopes
StepScopes P (port at u p q) = P at.scopes
StepScopes P (item at x) = P at.scopes
StepScopes P (override at m u given x) = P at.scopes
StepScopes P (connection at m u inside given x) = P at.scopes × P inside
StepScopes P (block_step at b) = P at.scopes

-- P of each list of scopes in the part
abbrev pub PartScopes : (List Scope → Type 0) → Part → Type 0
PartScopes P (declares d) = Unit {0}
PartScopes P (equation ts l ss e) = P ts × P ss
PartScopes P (combinational ss s) = P ss
PartScopes P (clocked ss s) = P ss
PartScopes P (starts ss l e) = P ss
