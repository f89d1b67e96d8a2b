-- Between functions: The parameters of a scope that are entered. IEEE 1364-2005, sections 3.11 and 12.2.
use Rattle.std.specs.Prelude.{◌≡◌, ℕ, List, is_none}
use Rattle.vl_mean.specs.Constants.{Constants, constant_of}
use Rattle.vl_elab_spec.specs.Meanings.{Names, is_undeclared, meaning_of, value_of}
use Rattle.vl_elab_scope.specs.Seen.{AreNamed}

-- what is kept of them is what they mean, and their numbers, of which none isn't known, are these constants
pub record AreOwn (own values meant : Names) (cs : Constants) : Type 0 where
  pub own_named : AreNamed own
  pub also_named : AreNamed meant
  pub values_named : AreNamed values
  pub meaning : (text : List ℕ) → meaning_of own text ≡ meaning_of meant text
  pub there : (text : List ℕ) → is_undeclared (meaning_of meant text) ≡ is_none (constant_of cs text)
  pub value : (text : List ℕ) → value_of (meaning_of values text) ≡ constant_of cs text
  pub only : (text : List ℕ) → is_undeclared (meaning_of values text) ≡ is_none (constant_of cs text)

-- what is kept behind them is what the names of the scope mean there
pub record AreBehind (behind meant : Names) : Type 0 where
  pub named : AreNamed behind
  pub meaning : (text : List ℕ) → meaning_of behind text ≡ meaning_of meant text
