-- Between functions: Scopes in which each name means the same, however they are kept. Rule of this project.
use Rattle.std.specs.Prelude.{◌≡◌, ℕ, List}
use Rattle.vl_elab_spec.specs.Meanings.{Names, meaning_in}
use Rattle.vl_elab_scope.specs.Seen.{AllNamed}

-- each name means the same in both, and each net and variable stands under its own name
pub record Alike (ns ms : List Names) : Type 0 where
  pub named : AllNamed ns
  pub also_named : AllNamed ms
  pub meaning : (text : List ℕ) → meaning_in ns text ≡ meaning_in ms text
