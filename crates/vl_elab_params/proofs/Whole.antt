-- A scope that is entered as far as its parameters.
use Rattle.std.specs.Prelude.{◌≡◌, ℕ, List, Option}
use Rattle.vl_tree.specs.Expr.{Expr}
use Rattle.vl_mean.specs.Declarations.{with_constants}
use Rattle.vl_mean.specs.Scopes.{Scope}
use Rattle.vl_mean.specs.Walk.{Contents}
use Rattle.vl_elab_spec.specs.Meanings.{Names, all_later, meaning_of}
use Rattle.vl_elab_scope.specs.Seen.{AreNamed}
use Rattle.vl_elab_scope.specs.Alike.{Alike}
use Rattle.vl_elab_const.specs.declared.given.Value.{Value}
use Rattle.vl_elab_const.specs.Given.{IsGiven}
use Rattle.vl_elab_const.specs.Numbers.{HaveNumbers}
use Rattle.vl_elab_params.specs.Among.{among_parameters, constants_of}
use Rattle.vl_elab_params.specs.Entered.{entered}
use Rattle.vl_elab_params.proofs.KeptParameters.{all_alike, all_numbers}
use Rattle.vl_elab_params.proofs.LaterNames.{all_named}

module _ (s : Scope) (c : Contents) (behind : Names) (outer around beneath : List Names) (ss : List Scope)
    (same_behind : (text : List ℕ) → meaning_of behind text ≡ meaning_of (all_later c) text) (named : AreNamed behind)
    (same_outer : Alike around outer) (same_numbers : HaveNumbers beneath ss) (given : List ℕ → Option Value)
    (g : IsGiven given c.overrides) (same : s.constants ≡ constants_of ss c) where
  pub entered_alike : Alike (entered given c.parameters c.items behind around beneath).names
      (among_parameters s outer outer c)
  entered_alike =
      all_alike s (all_later c) behind outer around beneath ss same_behind named (all_named c) same_outer same_numbers
      given c.overrides g c.parameters c.items same

  pub entered_numbers : HaveNumbers (entered given c.parameters c.items behind around beneath).numbers
      (with_constants s.constants ss)
  entered_numbers =
      all_numbers s (all_later c) behind outer around beneath ss same_behind named (all_named c) same_outer same_numbers
      given c.overrides g c.parameters c.items same
