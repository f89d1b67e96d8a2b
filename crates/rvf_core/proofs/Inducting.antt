-- What the answers of an induction say of the designs that the texts of its checks write.
use Rattle.std.proofs.Common.{◌≡◌, ℕ, Bool, true, false, cond, List, [], ◌∷◌, map, Some, refl, sym, subst}
use Rattle.std.proofs.Common.{true≢false}
use Rattle.std.specs.List.{AllByRecursion, filter}
use Rattle.rv_table.specs.declared.retire.Opts.{Opts}
use Rattle.vl_mean.specs.FlatParts.{flat_parts}
use Rattle.bm_decide.specs.Searches.{TakesFewer}
use Rattle.ck_cfg.specs.declared.check.Check.{Check}
use Rattle.ck_ask.specs.declared.question.Question.{Question}
use Rattle.ck_ask.specs.declared.question.Question.TheVariants as question
use Rattle.ck_gen.specs.Monitors.{is_of_one_cycle}
use Rattle.ck_induct.specs.OneCycle.{in_cycle}
use Rattle.rvf_case.specs.Loads.{IsLoadedFrom, design_of}
use Rattle.rvf_case.specs.Loading.{Loaded}
use Rattle.rvf_case.specs.Cases.{AreLoaded, IsFit, loaded_for}
use Rattle.rvf_case.specs.Texts.{of_one_cycle}
use Rattle.rvf_case.specs.declared.case.Case.{Case}
use Rattle.rvf_judge.specs.Inducted.{IsInducted}
use Rattle.rvf_judge.specs.Sources.{InductionsAreTheSources}
use Rattle.rvf_judge.specs.declared.induction.Induction.{Induction}
use Rattle.rvf_checks.specs.Lengths.{AreLengths, IsLength}
use Rattle.rvf_core.specs.Lengths.{AreInducted, Inducts, InductsWhere}
use Rattle.rvf_core.specs.Verdicts.{text_for, wants_in}
use Rattle.rvf_core.proofs.Judging.{loaded_of}

-- ---- the questions are those of the checks of one cycle

module _ (P : Question → Type 0) (k : ℕ) where
  -- what holds of its question, where a check is of one cycle
  abbrev pub HoldsOf : Check → Type 0
  HoldsOf x = is_of_one_cycle x.kind ≡ true → P (question.Check (in_cycle x k))

  parts : (y : Check) (ys : List Check) (b : Bool)
      → AllByRecursion P (map (λ z. question.Check z) (map (λ z. in_cycle z k)
      (cond b (y ∷ filter (λ z. is_of_one_cycle z.kind) ys) (filter (λ z. is_of_one_cycle z.kind) ys))))
      → (b ≡ true → P (question.Check (in_cycle y k)))
      × AllByRecursion P (map (λ z. question.Check z) (of_one_cycle k ys))
  parts y ys true h = ((λ e. h.0), h.1)
  parts y ys false h = ((λ e. absurd (true≢false (sym e))), h)

  pub holds_of_each : (xs : List Check) → AllByRecursion P (map (λ z. question.Check z) (of_one_cycle k xs))
      → AllByRecursion HoldsOf xs
  holds_of_each [] all = tt
  holds_of_each (y ∷ ys) all =
      let both = parts y ys (is_of_one_cycle y.kind) all in (both.0, holds_of_each ys both.1)

-- ---- the answers

-- what is loaded for a question is there
abbrev pub IsThere : Case → Question → Type 0
IsThere case q = (l : Loaded) × (loaded_for case q ≡ Some l) × IsFit case.config.nret q l

module _ (law : InductionsAreTheSources TakesFewer) (case : Case) (files : List (List ℕ)) (steps budget : ℕ)
    (loaded : AreLoaded case.config files case.questions case.texts) where
  inducts : (x : Check) (l : Loaded) (m : Induction) → loaded_for case (question.Check x) ≡ Some l
      → IsLength TakesFewer case steps budget x m → Inducts case.config files case.questions steps budget x m
  inducts x l m there answer =
      let c = case.config in
      let text = text_for c files case.questions x.kind in
      let is : IsLoadedFrom text l = loaded_of case files (question.Check x) l loaded there in
      let source = design_of is.reading.tree.modules in
      let wants = wants_in text is.reading in
      record {
        reading = is.reading;
        is = record { reads = is.writes.reads; accepted = is.writes.is_flat.unrefused };
        one = is.one;
        inducted = subst (λ (opts : Opts). IsInducted TakesFewer source c.nret wants x opts steps budget m) is.options
            (law source is.flat c.nret wants x l.opts steps budget m is.writes.is_flat.drawn is.writes.is_flat.same
            (answer.inducted l there (flat_parts is.flat) wants is.loaded is.own));
      }

  by_kind : (x : Check) (m : Induction) (b : Bool) → is_of_one_cycle x.kind ≡ b → HoldsOf (IsThere case) steps x
      → IsLength TakesFewer case steps budget x m
      → InductsWhere b case.config files case.questions steps budget x m
  by_kind x m true one there answer = inducts x (there one).0 m (there one).1 answer
  by_kind x m false none there answer = answer.other none

  pub are_inducted : (xs : List Check) (ms : List Induction) → AllByRecursion (HoldsOf (IsThere case) steps) xs
      → AreLengths TakesFewer case steps budget xs ms
      → AreInducted case.config files case.questions steps budget xs ms
  are_inducted xs [] there answers = tt
  are_inducted [] (m ∷ ms) there answers = absurd answers
  are_inducted (x ∷ xs) (m ∷ ms) there answers =
      (by_kind x m (is_of_one_cycle x.kind) refl there.0 answers.0, are_inducted xs ms there.1 answers.1)
