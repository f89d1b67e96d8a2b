-- The macros that the fixed text defines.
use Rattle.std.proofs.Common.{◌≡◌, ℕ, List, None, Ok, sym, ap, ◌∙◌, subst}
use Rattle.fv_text.specs.declared.token.Token.{Token}
use Rattle.vl_token.specs.Tokens.{AreTokens}
use Rattle.vl_prep.specs.Macros.{Held}
use Rattle.vl_prep.specs.Prep.{Outcome, preprocessed}
use Rattle.vl_text.specs.Predefined.{prologue, none, ArePredefinedFor}
use Rattle.vl_text.specs.declared.macros.Core.{Core}
use Rattle.vl_text.proofs.Preparing.{ok_same}

module _ (core : Core) (text : List ℕ) (tokens : List Token) (empty macros : Held) (output : List Token)
    (is : text ≡ prologue core) (lexes : AreTokens 0 1 text tokens)
    (one : (us : List Token) → AreTokens 0 1 text us → us ≡ tokens) (nothing : (name : List ℕ) → empty name ≡ None)
    (prepared : preprocessed empty tokens ≡ Ok (record { macros = macros; output = output })) where
  empty_is : empty ≡ none
  empty_is = λ i name. nothing name i

  defined : preprocessed none tokens ≡ Ok (record { macros = macros; output = output })
  defined = ap (λ m. preprocessed m tokens) (sym empty_is) ∙ prepared

  pub defined_once : (other : Held) → ArePredefinedFor core other → other ≡ macros
  defined_once other p =
      let same : p.tokens ≡ tokens = one p.tokens (subst (λ t. AreTokens 0 1 t p.tokens) (sym is) p.lexes) in
      let done : record_of other p.output ≡ record_of macros output =
      ok_same (preprocessed none tokens) (record_of other p.output) (record_of macros output)
      (ap (preprocessed none) (sym same) ∙ p.defined) defined in
      ap (λ d. d.macros) done
    where
      record_of : Held → List Token → Outcome
      record_of m o = record { macros = m; output = o }
