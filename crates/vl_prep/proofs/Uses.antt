-- What the use of a macro comes to, as the code finds it.
use Rattle.std.proofs.Common.{◌≡◌, ℕ, zero, suc, ◌-◌, ◌<◌, List, refl, ap, sym, ◌∙◌, arith}
use Rattle.std.proofs.lemmas.Option.{same_Some}
use Rattle.std.specs.Prelude.{Option, Some}
use Rattle.fv_text.specs.declared.pos.Pos.{Pos}
use Rattle.fv_text.specs.declared.token.Token.{Token}
use Rattle.vl_prep.specs.declared.refusal.Cause.TheVariants as cause
use Rattle.vl_prep.specs.Prep.{Done, refused, read_from, started, expand}

pub too_deep : (n : ℕ) (p : Pos) (text : List Token) (done : Done) → n ≡ 0
    → expand n p text done ≡ refused p cause.MacroDepth done
unfolding expand
too_deep zero p text done e = refl
too_deep (suc n) p text done e = absurd (omega arith)

pub one_level : (n : ℕ) (p : Pos) (text : List Token) (done : Done) → 0 < n
    → expand n p text done ≡ read_from (Some p) (expand (n - 1)) (started done) text
unfolding expand
one_level zero p text done l = absurd (omega arith)
one_level (suc n) p text done l =
    let e : n ≡ suc n - 1 = omega arith in ap (λ k. read_from (Some p) (expand k) (started done) text) e

-- a use that changed nothing
pub quiet_use : (n : ℕ) (p : Pos) (name : List ℕ) (text other : List Token) (old new : Done)
    → old.macros name ≡ Some text → 0 < n →
    new ≡ read_from (Some p) (expand (n - 1)) (started old) text → new ≡ old → new.macros name ≡ Some other
    → expand n p other new ≡ new
quiet_use n p name text other old new h l comes same g =
    ap (λ z. expand n p other z) same
    ∙ ap (λ z. expand n p z old) (same_Some other text (sym g ∙ ap (λ d. d.macros name) same ∙ h))
    ∙ one_level n p text old l
    ∙ sym comes
