-- Checks of a case in runs of every length, answered by what is loaded for them.
use Rattle.std.proofs.Common.{◌≡◌, refl, ℕ, zero, suc, Bool, true, false, List, [], ◌∷◌, Some, None, map, cond}
use Rattle.std.proofs.Common.{Result, Ok, Err, IfOk, slice_get, ap, sym, ◌∙◌, subst, true≢false}
use Rattle.std.specs.List.{AllByRecursion, filter}
use Rattle.std.specs.Prelude.{is_none}
use Rattle.std.proofs.lemmas.Option.{same_Some}
use Rattle.fv_text.specs.declared.memory.Memory.{Memory}
use Rattle.vl_mean.specs.Parts.{Part}
use Rattle.cnf_form.specs.Cnf.{Cnf}
use Rattle.lrat_check.specs.declared.step.Step.{Step}
use Rattle.rv_table.specs.declared.retire.Opts.{Opts}
use Rattle.rvfi_port.specs.declared.port.Wants.{Wants}
use Rattle.ck_cfg.specs.declared.check.Check.{Check}
use Rattle.ck_cfg.specs.Checks.{checks_of}
use Rattle.ck_ask.specs.declared.question.Question.{Question}
use Rattle.ck_ask.specs.declared.question.Question.TheVariants as question
use Rattle.ck_design.specs.Loaded.{IsLoaded}
use Rattle.ck_design.specs.Traces.{HaveOwnNames}
use Rattle.ck_gen.specs.Monitors.{is_of_one_cycle}
use Rattle.ck_induct.specs.OneCycle.{in_cycle}
use Rattle.rvf_judge.specs.Inducted.{IsInducted, IsInductedBy}
use Rattle.rvf_judge.specs.declared.induction.Induction.{Induction}
use Rattle.rvf_judge.specs.declared.induction.Induction.TheVariants as induction
use Rattle.rvf_case.specs.Loading.{Loaded}
use Rattle.rvf_case.specs.Cases.{IsFit, IsReady, loaded_for, text_among}
use Rattle.rvf_case.specs.Texts.{of_one_cycle}
use Rattle.rvf_case.specs.declared.case.Case.{Case}
use Rattle.rvf_checks.specs.Lengths.{AreOfSteps, IsLengthAt}

-- a check at a place of a list is one of the configuration's
pub in_checks : (case : Case) (xs : List Check) (i : ℕ) (x : Check) → xs ≡ checks_of case.config
    → slice_get xs i ≡ Some x → slice_get (checks_of case.config) i ≡ Some x
in_checks case xs i x all at = ap (λ (ys : List Check). slice_get ys i) (sym all) ∙ at

-- what holds of each question holds of that of a check of one cycle
question_at : (P : Question → Type 0) (k : ℕ) (xs : List Check) (i : ℕ) (x : Check)
    → AllByRecursion P (map (λ y. question.Check y) (of_one_cycle k xs)) → slice_get xs i ≡ Some x
    → is_of_one_cycle x.kind ≡ true → P (question.Check (in_cycle x k))
question_at P k [] i x all e one = absurd (true≢false (ap is_none e))
question_at P k (y ∷ ys) zero x all e one =
    let same : y ≡ x = same_Some y x e in
    let own : is_of_one_cycle y.kind ≡ true = ap (λ (z : Check). is_of_one_cycle z.kind) same ∙ one in
    let kept : of_one_cycle k (y ∷ ys) ≡ in_cycle y k ∷ of_one_cycle k ys =
    ap (λ b. map (λ z. in_cycle z k) (cond b (y ∷ filter (λ z. is_of_one_cycle z.kind) ys)
    (filter (λ z. is_of_one_cycle z.kind) ys))) own in
    let first = subst (λ (cs : List Check). AllByRecursion P (map (λ z. question.Check z) cs)) kept all in
    subst (λ (z : Check). P (question.Check (in_cycle z k))) same first.0
question_at P k (y ∷ ys) (suc i) x all e one = question_at P k ys i x (rest (is_of_one_cycle y.kind) all) e one
  where
    rest : (b : Bool)
        → AllByRecursion P (map (λ z. question.Check z) (map (λ z. in_cycle z k)
        (cond b (y ∷ filter (λ z. is_of_one_cycle z.kind) ys) (filter (λ z. is_of_one_cycle z.kind) ys))))
        → AllByRecursion P (map (λ z. question.Check z) (of_one_cycle k ys))
    rest true h = h.1
    rest false h = h

-- what a check of one cycle comes to doesn't depend on its cycle
same_induction : (more : ℕ → Cnf → List Step → Type 0) (ps : List Part) (channels : ℕ) (wants : Wants) (x : Check)
    (opts : Opts) (k j budget : ℕ) (made : Induction) → is_of_one_cycle x.kind ≡ true
    → IsInducted more ps channels wants (in_cycle x j) opts k budget made
    → IsInducted more ps channels wants x opts k budget made
same_induction more ps channels wants x opts k j budget made one h =
    subst (λ b. IsInductedBy b more ps channels wants x opts k budget made) (sym one)
    (subst (λ b. IsInductedBy b more ps channels wants (in_cycle x j) opts k budget made) one h)

module _ (case : Case) (steps i : ℕ) (x : Check) (ready : IsReady case) (asked : AreOfSteps case steps)
    (there : slice_get (checks_of case.config) i ≡ Some x) (one : is_of_one_cycle x.kind ≡ true) where
  abbrev IsReadyFor : Question → Type 0
  IsReadyFor q = (l : Loaded) × (loaded_for case q ≡ Some l) × IsFit case.config.nret q l

  ready_for : IsReadyFor (question.Check (in_cycle x steps))
  ready_for =
      question_at IsReadyFor steps (checks_of case.config) i x (subst (AllByRecursion IsReadyFor) asked ready) there one

  -- what is loaded of its text is fit for the check in the last cycle of the base
  pub length_fit : (l : Loaded) → Some l ≡ text_among case.config x.kind case.texts
      → IsFit case.config.nret (question.Check (in_cycle x steps)) l
  length_fit l found =
      let both : Some l ≡ Some ready_for.0 = found ∙ ready_for.1 in
      let same : ready_for.0 ≡ l = cc in
      subst (λ z. IsFit case.config.nret (question.Check (in_cycle x steps)) z) same ready_for.2

  -- and for a copy of it
  pub own_fit : (own : Check) → own ≡ in_cycle x steps → (l : Loaded)
      → Some l ≡ text_among case.config x.kind case.texts → IsFit case.config.nret (question.Check own) l
  own_fit own same l found =
      subst (λ (y : Check). IsFit case.config.nret (question.Check y) l) (sym same) (length_fit l found)

  -- and there is some
  pub length_there : None ≡ text_among case.config x.kind case.texts → ⊥
  length_there missing = let both : None ≡ Some ready_for.0 = missing ∙ ready_for.1 in cc

  -- so what it comes to by that is an answer
  pub length_answer : (more : ℕ → Cnf → List Step → Type 0) (budget : ℕ) (l : Loaded) (own : Check)
      (r : Result Induction Memory) → Some l ≡ text_among case.config x.kind case.texts → own ≡ in_cycle x steps
      → ((ps : List Part) (channels : ℕ) (wants : Wants) → IsLoaded ps l.net l.names channels wants l.port
      → HaveOwnNames ps → IfOk r (IsInducted more ps channels wants own l.opts steps budget))
      → IfOk r (IsLengthAt more case steps budget i)
  length_answer more budget l own (Ok made) found same inducts = record {
    check = x;
    there = there;
    answers = record {
      inducted = λ other loaded ps wants is_loaded names.
          let both : Some l ≡ Some other = found ∙ loaded in
          let alike : l ≡ other = cc in
          let P : Loaded → Type 0 = λ z. (ps : List Part) (wants : Wants)
          → IsLoaded ps z.net z.names case.config.nret wants z.port → HaveOwnNames ps
          → IsInducted more ps case.config.nret wants own z.opts steps budget made in
          same_induction more ps case.config.nret wants x other.opts steps steps budget made one
          (subst (λ (y : Check). IsInducted more ps case.config.nret wants y other.opts steps budget made) same
          (subst P alike (λ ps wants is names. inducts ps case.config.nret wants is names) ps wants is_loaded names));
      other = λ none. absurd (true≢false (sym one ∙ none));
    };
  }
  length_answer more budget l own (Err fault) found same inducts = tt

-- a check of another kind is skipped
pub length_skipped : (more : ℕ → Cnf → List Step → Type 0) (case : Case) (steps budget i : ℕ) (x : Check)
    → slice_get (checks_of case.config) i ≡ Some x → is_of_one_cycle x.kind ≡ false
    → IsLengthAt more case steps budget i induction.Skipped
length_skipped more case steps budget i x there other = record {
  check = x;
  there = there;
  answers = record {
    inducted = λ l loaded ps wants is_loaded names.
        subst (λ b. IsInductedBy b more ps case.config.nret wants x l.opts steps budget induction.Skipped) (sym other)
        refl;
    other = λ none. refl;
  };
}
