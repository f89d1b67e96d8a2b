-- Texts that are loaded one after the other.
use Rattle.std.proofs.Common.{◌≡◌, ℕ, ◌+◌, ◌<◌, List, [], ◌∷◌, ◌++◌, length, take, drop, get_or, Some, Ok, Err, Result}
use Rattle.std.proofs.Common.{refl, sym, ◌∙◌, ap, subst, arith}
use Rattle.std.specs.Prelude.{map, nat_lt, Bool, true, false, cond, min, ◌*◌, ◌-◌, ◌^◌, None, Option}
use Rattle.std.specs.List.{AllByRecursion}
use Rattle.std.proofs.lemmas.List.{length-map, map-append, take_more}
use Rattle.ck_cfg.specs.declared.check.Check.{Check}
use Rattle.ck_cfg.specs.declared.config.Config.{Config}
use Rattle.ck_cfg.specs.declared.kind.CheckKind.{CheckKind}
use Rattle.ck_cfg.specs.Checks.{checks_of}
use Rattle.vl_text.specs.Texts.{Text}
use Rattle.vl_text.specs.declared.macros.Core.{Core}
use Rattle.rvf_load.specs.declared.asked.Probes.{Probes}
use Rattle.rvf_load.specs.declared.fault.LoadFault.{LoadFault}
use Rattle.rvf_load.specs.declared.fault.LoadFault.TheVariants as load
use Rattle.rvf_load.specs.declared.loaded.Loaded.{Loaded}
use Rattle.rvf_load.specs.Loads.{Answers, Asked, IsRefused, IsTheRefusal, too_heavy, weight_of}
use Rattle.rvf_case.specs.Steps.{IsAtQuestion, LoadsInTurn, LoadsOne, kept_for, stop_of}
use Rattle.rvf_case.specs.Texts.{asked_for, core_of, factors_of, line_text, probes_for, sharing, texts_for, with_text}
use Rattle.rvf_case.specs.declared.case.LoadedText.{LoadedText}
use Rattle.rvf_case.specs.declared.loading.Stop.{Stop}
use Rattle.rvf_case.specs.declared.loading.Stop.TheVariants as stop
use Rattle.rvf_case.proofs.Next.{split_here}
use Rattle.ck_ask.specs.Questions.{question_cycle}
use Rattle.ck_ask.specs.declared.question.Question.{Question}

-- ---- one text

-- what comes of a text by what was put together for it
pub answered : (c : Config) (files : List (List ℕ)) (qs : List Question) (kind : CheckKind) (checks : List Check)
    (core : Core) (ts ls : List Text) (channels : ℕ) (probes : Probes) (fs : List ℕ) (result : Result Loaded LoadFault)
    → checks ≡ checks_of c → core ≡ core_of c.isa c.nret → ts ≡ texts_for c files kind → ls ≡ map line_text c.assumes
    → channels ≡ c.nret → probes ≡ probes_for (kept_for c kind checks) → fs ≡ factors_of (with_text c kind qs)
    → Answers (record { core = core; texts = ts; lines = ls; channels = channels; probes = probes; factors = fs })
    result → Answers (asked_for c files qs kind) result
answered c files qs kind checks core ts ls channels probes fs result e a b d n p f h =
    let of : Core → List Text → List Text → ℕ → Probes → List ℕ → Type 0 = λ core ts ls channels probes fs.
    Answers (record { core = core; texts = ts; lines = ls; channels = channels; probes = probes; factors = fs }) result
    in
    let q : probes ≡ probes_for (sharing c kind) = p ∙ ap (λ xs. probes_for (kept_for c kind xs)) e in
    subst (of (core_of c.isa c.nret) (texts_for c files kind) (map line_text c.assumes) c.nret
    (probes_for (sharing c kind))) f
    (subst (λ x. of (core_of c.isa c.nret) (texts_for c files kind) (map line_text c.assumes) c.nret x fs) q
    (subst (λ x. of (core_of c.isa c.nret) (texts_for c files kind) (map line_text c.assumes) x probes fs) n
    (subst (λ x. of (core_of c.isa c.nret) (texts_for c files kind) x channels probes fs) d
    (subst (λ x. of (core_of c.isa c.nret) x ls channels probes fs) b (subst (λ x. of x ts ls channels probes fs) a h)))))

-- it is refused
pub one_stops : (ask : CheckKind → Asked) (kind : CheckKind) (fault : LoadFault) → Answers (ask kind) (Err fault)
    → LoadsOne ask kind (Err (stop_of kind fault))
one_stops ask kind (load.Text f) h = (refl, h)
one_stops ask kind (load.Elab f) h = (refl, h)
one_stops ask kind (load.Flow f) h = (refl, h)
one_stops ask kind (load.Heavy place product) h = (refl, h)
one_stops ask kind (load.Port f) h = (refl, h)
one_stops ask kind load.Memory h = tt

-- ---- one after the other

abbrev pub AreAnswers : (CheckKind → Asked) → List LoadedText → Type 0
AreAnswers ask texts = AllByRecursion (λ x. Answers (ask x.kind) (Ok x.loaded)) texts

module _ (ask : CheckKind → Asked) (kinds : List CheckKind) (i : ℕ) (d : CheckKind) (texts : List LoadedText) where
  all_push : (xs : List LoadedText) (x : LoadedText) → AreAnswers ask xs → Answers (ask x.kind) (Ok x.loaded)
      → AreAnswers ask (xs ++ x ∷ [])
  all_push [] x a h = (h, tt)
  all_push (y ∷ ys) x a h = (a.0, all_push ys x a.1 h)

  -- one text more is loaded
  pub turn_kinds : (t : LoadedText) (new : List LoadedText) → i < length kinds
      → map (λ x. x.kind) texts ≡ take i kinds → new ≡ texts ++ t ∷ [] → LoadsOne ask (get_or kinds i d) (Ok t)
      → map (λ x. x.kind) new ≡ take (i + 1) kinds
  turn_kinds t new l e n h =
      ap (map (λ (x : LoadedText). x.kind)) n ∙ map-append (λ (x : LoadedText). x.kind) texts (t ∷ [])
      ∙ ap (λ ks. ks ++ t.kind ∷ []) e ∙ ap (λ k. take i kinds ++ k ∷ []) h.0 ∙ sym (take_more kinds i d l)

  pub turn_each : (t : LoadedText) (new : List LoadedText) → AreAnswers ask texts → new ≡ texts ++ t ∷ []
      → LoadsOne ask (get_or kinds i d) (Ok t) → AreAnswers ask new
  turn_each t new a n h =
      subst (AreAnswers ask) (sym n)
      (all_push texts t a (subst (λ k. Answers (ask k) (Ok t.loaded)) (sym h.0) h.1))

  -- the next text isn't
  pub turn_stops : (s : Stop) → i < length kinds → map (λ x. x.kind) texts ≡ take i kinds → AreAnswers ask texts
      → LoadsOne ask (get_or kinds i d) (Err s) → LoadsInTurn ask kinds (Err s)
  turn_stops stop.Memory l e a h = tt
  turn_stops (stop.Refused other f) l e a h =
      let same : get_or kinds i d ≡ other = sym h.0 in
      record {
        before = texts;
        behind = drop (i + 1) kinds;
        order = split_here kinds i other d l h.0 ∙ ap (λ ks. ks ++ other ∷ drop (i + 1) kinds) (sym e);
        each = a;
        refused = subst (λ k. IsTheRefusal (ask k) f) same h.1;
      }

-- ---- refusals

abbrev first_or_zero : Option (ℕ × ℕ) → ℕ
first_or_zero None = 0
first_or_zero (Some x) = x.0

heavy_place : (weight start : ℕ) (fs : List ℕ) (place product : ℕ)
    → too_heavy weight start fs ≡ Some (place, product) → place < start + length fs
heavy_place weight start [] place product e = absurd (let f : ⊥ = cc in f)
heavy_place weight start (f ∷ fs) place product e =
    step (nat_lt 20000000 (weight * f)) (heavy_place weight (start + 1) fs place product) e where
      step : (b : Bool) → (too_heavy weight (start + 1) fs ≡ Some (place, product)
          → place < start + 1 + length fs)
          → cond b (Some (start, min (weight * f) (2 ^ 64 - 1))) (too_heavy weight (start + 1) fs)
          ≡ Some (place, product) → place < start + length (f ∷ fs)
      step true g e =
          let s : start ≡ place = ap first_or_zero e in
          omega arith
      step false g e = let l : place < start + 1 + length fs = g e in omega arith

-- a design is too heavy for a question that has the text
pub at_question : (c : Config) (files : List (List ℕ)) (qs : List Question) (kind : CheckKind) (fault : LoadFault)
    → IsRefused (asked_for c files qs kind) fault → IsAtQuestion (with_text c kind qs) fault
at_question c files qs kind (load.Text f) h = tt
at_question c files qs kind (load.Elab f) h = tt
at_question c files qs kind (load.Flow f) h = tt
at_question c files qs kind (load.Heavy place product) h =
    let l = heavy_place (weight_of h.flat) 0 (factors_of (with_text c kind qs)) place product h.heavy in
    let e = length-map (with_text c kind qs) (λ (q : Question). question_cycle q + 1) in
    omega arith
at_question c files qs kind (load.Port f) h = tt
at_question c files qs kind load.Memory h = tt
