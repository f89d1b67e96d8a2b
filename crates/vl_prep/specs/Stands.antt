-- Between functions: What functions promise each other. Where the code stands, as the definition sees it. Rule of this
-- project.
use Rattle.std.specs.Prelude.{◌≡◌, ℕ, zero, ◌<◌, true, List, Option, None, Some, Result, Ok, Err}
use Rattle.std.specs.Arc.{arc_value}
use Rattle.fv_text.specs.declared.pos.Pos.{Pos}
use Rattle.fv_text.specs.declared.token.Token.{Token}
use Rattle.vl_prep.specs.declared.prepared.Prepared.{Prepared}
use Rattle.vl_prep.specs.declared.scope.Scope.{Scope}
use Rattle.vl_prep.specs.declared.steps.Use.{Use}
use Rattle.vl_prep.specs.declared.steps.Use.TheVariants.{Text, Unknown, TooDeep, Quiet}
use Rattle.vl_prep.specs.Macros.{held}
use Rattle.vl_prep.specs.Prep.{Done, Stand, expand}

abbrev pub done_of : Prepared → Done
done_of p = record { macros = held p.macros; output = p.output; refusal = p.refusal }

abbrev pub stand_of : Done → Scope → Stand
stand_of done s = record { done = done; opens = s.opens; reading = s.reading }

-- a use of the macro at the place changes nothing
abbrev pub IsQuietUse : List ℕ → Pos → ℕ → Done → Type 0
IsQuietUse name place levels done =
    (text : List Token) → done.macros name ≡ Some text → expand levels place text done ≡ done

pub record IsQuietNow (name : List ℕ) (place : Pos) (levels : ℕ) (done : Done) : Type 0 where
  pub text : List Token
  pub held : done.macros name ≡ Some text
  pub nothing : expand levels place text done ≡ done

-- what is found for the use of a macro
abbrev pub IsUse : Use → List ℕ → Pos → ℕ → Done → Type 0
IsUse (Text text) name place levels done = (done.macros name ≡ Some (arc_value text)) × (0 < levels)
IsUse Unknown name place levels done = done.macros name ≡ None
IsUse TooDeep name place levels done = (levels ≡ 0) × ((text : List Token) × (done.macros name ≡ Some text))
IsUse Quiet name place levels done = IsQuietNow name place levels done

-- where the flag is still set, nothing has changed
abbrev pub KeepsFresh : Prepared → Prepared → Type 0
KeepsFresh old new = new.fresh ≡ true → (old.fresh ≡ true) × (done_of new ≡ done_of old)

abbrev pub OnOkFresh : {R E : Type 0} → Result R E → Prepared → Prepared → Type 0
OnOkFresh (Ok r) old new = KeepsFresh old new
OnOkFresh (Err e) old new = Unit {0}

-- where memory was left, the code went on as the definition does
abbrev pub Goes : {R E : Type 0} → Stand → Result R E → Prepared → Scope → Type 0
Goes next (Ok r) p s = next ≡ stand_of (done_of p) s
Goes next (Err e) p s = Unit {0}
