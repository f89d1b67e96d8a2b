-- What the preprocessor answers is what comes of the tokens, or the refusal, that is there.
use Rattle.std.proofs.Common.{◌≡◌, List, Result, Ok, Err, sym, ap, ◌∙◌}
use Rattle.fv_text.specs.declared.token.Token.{Token}
use Rattle.vl_prep.specs.Faults.{OnNotMemory}
use Rattle.vl_prep.specs.Macros.{Held}
use Rattle.vl_prep.specs.Prep.{Outcome, preprocessed}
use Rattle.vl_prep.specs.declared.fault.PrepFault.{PrepFault}
use Rattle.vl_prep.specs.declared.fault.PrepFault.TheVariants as prep
use Rattle.vl_text.specs.Faults.{of_prep}
use Rattle.vl_text.specs.Predefined.{ArePredefinedFor}
use Rattle.vl_text.specs.SourceText.{ArePrepared, outcome_or_fault, Only, Answers}
use Rattle.vl_text.specs.declared.fault.TextFault.{TextFault}
use Rattle.vl_text.specs.declared.fault.TextFault.TheVariants.{Prep}
use Rattle.vl_text.specs.declared.macros.Core.{Core}

pub ok_same : {A E : Type 0} (r : Result A E) (a b : A) → r ≡ Ok a → r ≡ Ok b → a ≡ b
ok_same r a b p q = cc

module _ (core : Core) (tokens : List Token) (macros : Held) (predefined : ArePredefinedFor core macros)
    (one : (other : Held) → ArePredefinedFor core other → other ≡ macros) where
  only_prepared : (r : Result Outcome TextFault) → r ≡ outcome_or_fault (preprocessed macros tokens)
      → Only (ArePrepared core tokens) r
  only_prepared r e = record {
    is = record { macros = macros; predefined = predefined; comes = e };
    only = λ other h.
        h.comes ∙ ap (λ m. outcome_or_fault (preprocessed m tokens)) (one h.macros h.predefined) ∙ sym e;
  }

  pub prep_ok : (done : Outcome) → preprocessed macros tokens ≡ Ok done → Only (ArePrepared core tokens) (Ok done)
  prep_ok done e = only_prepared (Ok done) (sym (ap outcome_or_fault e))

  turned : (fault : PrepFault) → preprocessed macros tokens ≡ Err fault
      → Only (ArePrepared core tokens) (Err (Prep fault))
  turned fault e = only_prepared (Err (Prep fault)) (sym (ap outcome_or_fault e))

  pub prep_err : (fault : PrepFault) → OnNotMemory fault (preprocessed macros tokens ≡ Err fault)
      → Answers (ArePrepared core tokens) (Err (of_prep fault))
  prep_err (prep.UnknownMacro name at) e = turned (prep.UnknownMacro name at) e
  prep_err (prep.UnbalancedIf at) e = turned (prep.UnbalancedIf at) e
  prep_err (prep.MacroArgs at) e = turned (prep.MacroArgs at) e
  prep_err (prep.MacroDepth at) e = turned (prep.MacroDepth at) e
  prep_err (prep.Include at) e = turned (prep.Include at) e
  prep_err (prep.TooManyTokens at) e = turned (prep.TooManyTokens at) e
  prep_err (prep.NoName at) e = turned (prep.NoName at) e
  prep_err prep.Memory e = tt
