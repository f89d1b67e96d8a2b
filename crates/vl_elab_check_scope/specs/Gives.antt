-- Between functions: What an instance gives to the parameters of a scope. IEEE 1364-2005, section 12.2.
use Rattle.std.specs.Prelude.{◌≡◌, ℕ, List, is_some}
use Rattle.vl_mean.specs.Walk.{Place}
use Rattle.vl_elab_spec.specs.Items.{is_given}
use Rattle.vl_elab_const.specs.declared.given.Given.{Given}
use Rattle.vl_elab_const.specs.Given.{value_given}

-- to these parameters of the innermost scope a value is given
abbrev pub Gives : Given → Place → Type 0
Gives given at = (text : List ℕ) → is_given at.contents text ≡ is_some (value_given given text)
