-- What the answers of a case's questions say of the designs that its texts write.
use Rattle.std.proofs.Common.{◌≡◌, ℕ, Bool, true, false, ◌||◌, if◌then◌else◌, List, [], ◌∷◌, map, Option, Some, None}
use Rattle.std.proofs.Common.{refl, sym, ap, ◌∙◌, subst}
use Rattle.std.specs.List.{AllByRecursion, list_any}
use Rattle.ck_cfg.specs.declared.config.Config.{Config}
use Rattle.ck_cfg.specs.declared.kind.CheckKind.{CheckKind}
use Rattle.ck_cfg.specs.declared.kind.CheckKind.TheVariants as kind
use Rattle.ck_cfg.specs.Kind.{is_kind}
use Rattle.ck_cfg.proofs.Lists.{is_insn}
use Rattle.rv_table.specs.declared.retire.Opts.{Opts}
use Rattle.vl_mean.specs.FlatParts.{flat_parts}
use Rattle.vl_text.specs.SourceText.{Reading}
use Rattle.rvf_case.specs.Loads.{IsLoadedFrom, Reads, design_of}
use Rattle.rvf_case.specs.Loading.{Loaded}
use Rattle.rvf_judge.specs.Judged.{IsJudged}
use Rattle.rvf_judge.specs.declared.judged.Judged.{Judged}
use Rattle.rvf_judge.specs.Sources.{JudgementsAreTheSources}
use Rattle.ck_ask.specs.Questions.{question_kind}
use Rattle.ck_ask.specs.declared.question.Question.{Question}
use Rattle.rvf_case.specs.Cases.{AreLoaded, IsFit, loaded_for, text_among}
use Rattle.rvf_case.specs.Texts.{asked_for, is_same_text, leader_among}
use Rattle.rvf_case.specs.declared.case.Case.{Case}
use Rattle.rvf_case.specs.declared.case.LoadedText.{LoadedText}
use Rattle.rvf_checks.specs.Answers.{AreAnswers, IsAnswer}
use Rattle.rvf_checks.specs.Checked.{has_altops}
use Rattle.rvf_checks.specs.Known.{known_of}
use Rattle.rvf_core.specs.Verdicts.{AreJudged, HasAltops, IsNotedWhere, Judges, has_rows, opts_in, text_for, wants_in}

-- ---- what is loaded of the text of a question

same_loaded : (a b : Loaded) → ◌≡◌ {A = Option Loaded} (Some a) (Some b) → a ≡ b
same_loaded a b e = cc

none_loaded : (l : Loaded) → ◌≡◌ {A = Option Loaded} None (Some l) → ⊥
none_loaded l e = cc

picked : (first_is : Bool) (P : CheckKind → Loaded → Type 0) (k other : CheckKind) (first l : Loaded)
    (behind : Option Loaded) → P k first → (behind ≡ Some l → P other l)
    → (if first_is then Some first else behind) ≡ Some l → P (if first_is then k else other) l
picked true P k other first l behind p f e = subst (P k) (same_loaded first l e) p
picked false P k other first l behind p f e = f e

loaded_among : (c : Config) (files : List (List ℕ)) (qs : List Question) (kind : CheckKind) (l : Loaded)
    (ts : List LoadedText) → AllByRecursion (λ t. IsLoadedFrom (asked_for c files qs t.kind) t.loaded) ts
    → text_among c kind ts ≡ Some l
    → IsLoadedFrom (asked_for c files qs (leader_among c kind (map (λ t. t.kind) ts))) l
loaded_among c files qs kind l [] each e = absurd (none_loaded l e)
loaded_among c files qs kind l (t ∷ ts) each e =
    picked (is_same_text c t.kind kind) (λ k loaded. IsLoadedFrom (asked_for c files qs k) loaded) t.kind
    (leader_among c kind (map (λ u. u.kind) ts)) t.loaded l (text_among c kind ts) each.0
    (loaded_among c files qs kind l ts each.1) e

pub loaded_of : (case : Case) (files : List (List ℕ)) (q : Question) (l : Loaded)
    → AreLoaded case.config files case.questions case.texts → loaded_for case q ≡ Some l
    → IsLoadedFrom (text_for case.config files case.questions (question_kind q)) l
loaded_of case files q l loaded there =
    subst (λ ks. IsLoadedFrom (asked_for case.config files case.questions
    (leader_among case.config (question_kind q) ks)) l) loaded.kinds_are
    (loaded_among case.config files case.questions (question_kind q) l case.texts loaded.each there)

-- ---- the answers

judges : (cubes : ℕ) → JudgementsAreTheSources (known_of cubes) → (case : Case) (files : List (List ℕ)) (budget : ℕ)
    (q : Question) (l : Loaded) (j : Judged) → AreLoaded case.config files case.questions case.texts
    → loaded_for case q ≡ Some l → IsAnswer (known_of cubes) case budget q j
    → Judges case.config files case.questions budget cubes q j
judges cubes law case files budget q l j loaded there answer =
    let c = case.config in
    let text = text_for c files case.questions (question_kind q) in
    let is : IsLoadedFrom text l = loaded_of case files q l loaded there in
    let source = design_of is.reading.tree.modules in
    let wants = wants_in text is.reading in
    record {
      reading = is.reading;
      is = record { reads = is.writes.reads; accepted = is.writes.is_flat.unrefused };
      one = is.one;
      judged = subst (λ (opts : Opts). IsJudged (known_of cubes) source c.nret wants q opts budget j) is.options
          (law source is.flat c.nret wants q l.opts budget j is.writes.is_flat.drawn is.writes.is_flat.same
          (answer l there (flat_parts is.flat) wants is.loaded is.own));
    }

-- each question has what is loaded of its text
abbrev pub AreThere : Case → List Question → Type 0
AreThere case qs = AllByRecursion (λ q. (l : Loaded) × (loaded_for case q ≡ Some l) × IsFit case.config.nret q l) qs

module _ (cubes : ℕ) (law : JudgementsAreTheSources (known_of cubes)) (case : Case) (files : List (List ℕ)) (budget : ℕ)
    (loaded : AreLoaded case.config files case.questions case.texts) where
  pub are_judged : (qs : List Question) (js : List Judged) → AreThere case qs
      → AreAnswers (known_of cubes) case budget qs js
      → AreJudged case.config files case.questions budget cubes qs js
  are_judged qs [] there answers = tt
  are_judged [] (j ∷ js) there answers = absurd answers
  are_judged (q ∷ qs) (j ∷ js) there answers = (
    judges cubes law case files budget q there.0.0 j loaded there.0.1 answers.0,
    are_judged qs js there.1 answers.1,
  )

-- ---- the note of other arithmetic operations

or_false : (b : Bool) → (b || false) ≡ b
or_false true = refl
or_false false = refl

or_same : (a b : Bool) → b ≡ a → (a || b) ≡ a
or_same true b e = refl
or_same false b e = e

-- the text of the questions on rows has this answer, and no other reading
record IsOnly (c : Config) (files : List (List ℕ)) (qs : List Question) (altops : Bool) : Type 0 where
  has : HasAltops c files qs altops
  one : (other : Reading) → Reads (text_for c files qs kind.Insn) other → other ≡ has.reading

one_note : (c : Config) (files : List (List ℕ)) (qs : List Question) (altops noted : Bool) → IsOnly c files qs altops
    → HasAltops c files qs noted → noted ≡ altops
one_note c files qs altops noted first h =
    h.noted_is ∙ ap (λ r. (opts_in (text_for c files qs kind.Insn) r).altops) (first.one h.reading h.is.reads)
    ∙ sym first.has.noted_is

has_same : (c : Config) (files : List (List ℕ)) (qs : List Question) (a b : Bool) → b ≡ a → HasAltops c files qs a → HasAltops c files qs b
has_same c files qs a b e h = record { reading = h.reading; is = h.is; noted_is = e ∙ h.noted_is }

noted_step : (c : Config) (files : List (List ℕ)) (qs : List Question) (row rows altops noted : Bool)
    → (row ≡ true → IsOnly c files qs altops) → IsNotedWhere rows c files qs noted
    → IsNotedWhere (row || rows) c files qs ((if row then altops else false) || noted)
noted_step c files qs true true altops noted f rest =
    let first : IsOnly c files qs altops = f refl in
    has_same c files qs altops (altops || noted) (or_same altops noted (one_note c files qs altops noted first rest))
    first.has
noted_step c files qs true false altops noted f rest =
    let first : IsOnly c files qs altops = f refl in
    has_same c files qs altops (altops || noted) (ap (λ n. altops || n) rest ∙ or_false altops) first.has
noted_step c files qs false true altops noted f rest = rest
noted_step c files qs false false altops noted f rest = rest

module _ (case : Case) (files : List (List ℕ)) (loaded : AreLoaded case.config files case.questions case.texts) where
  noted_at : (q : Question) (l : Loaded) → loaded_for case q ≡ Some l → is_kind (question_kind q) kind.Insn ≡ true
      → IsOnly case.config files case.questions (has_altops (loaded_for case q))
  noted_at q l there row =
      let c = case.config in
      let is : IsLoadedFrom (text_for c files case.questions kind.Insn) l =
      subst (λ k. IsLoadedFrom (text_for c files case.questions k) l) (is_insn (question_kind q) row)
      (loaded_of case files q l loaded there)
      in record {
        has = record {
          reading = is.reading;
          is = record { reads = is.writes.reads; accepted = is.writes.is_flat.unrefused };
          noted_is = ap has_altops there ∙ ap (λ (opts : Opts). opts.altops) is.options;
        };
        one = is.one;
      }

  pub noted_over : (qs : List Question) → AreThere case qs
      → IsNotedWhere (has_rows qs) case.config files case.questions
      (list_any (λ q. if is_kind (question_kind q) kind.Insn then has_altops (loaded_for case q) else false) qs)
  noted_over [] there = refl
  noted_over (q ∷ qs) there =
      noted_step case.config files case.questions (is_kind (question_kind q) kind.Insn) (has_rows qs)
      (has_altops (loaded_for case q))
      (list_any (λ y. if is_kind (question_kind y) kind.Insn then has_altops (loaded_for case y) else false) qs)
      (noted_at q there.0.0 there.0.1) (noted_over qs there.1)
