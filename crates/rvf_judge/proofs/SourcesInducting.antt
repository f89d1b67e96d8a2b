-- Parts with the same maps and the same declarations have the same inductions.
use Rattle.std.specs.Prelude.{◌≡◌, ◌↔◌, ℕ, ◌+◌, Bool, true, false, List, [], ◌∷◌, take}
use Rattle.std.proofs.Common.{ap, sym, ◌∙◌}
use Rattle.vl_size.specs.declared.decl.Decl.{Decl}
use Rattle.vl_size.specs.Size.{Values}
use Rattle.vl_mean.specs.FlatParts.{flat_parts}
use Rattle.vl_mean.specs.Parts.{Part}
use Rattle.vl_mean.specs.Runs.{Each, FollowedBy, HasReset, Holds, IsRun, KeepsOnce, Neighbours, Next, OnceIs, ResetIs}
use Rattle.vl_mean_flat.specs.Flattened.{decls_of}
use Rattle.vl_mean_flat.specs.SameMaps.{AreSameMaps}
use Rattle.ck_induct.specs.Steps.{FailsAt, IsStepRun}
use Rattle.vl_lower_spec.proofs.Declaring.{parts_declare}
use Rattle.cnf_form.specs.Cnf.{Cnf}
use Rattle.lrat_check.specs.declared.step.Step.{Step}
use Rattle.ck_gen.specs.Monitors.{is_of_one_cycle}
use Rattle.ck_design.specs.declared.note.Note.{Note}
use Rattle.ck_induct.specs.Halves.{AreClausesOf, AreMapsOn, LacksLast, LacksWithin}
use Rattle.ck_induct.specs.OneCycle.{holds_in_map}
use Rattle.vcd_dump.specs.Vcd.{vcd_text}
use Rattle.rvf_judge.specs.declared.judged.CertificateTexts.{CertificateTexts}
use Rattle.rvf_judge.specs.declared.induction.Induction.{Induction}
use Rattle.rvf_judge.specs.declared.induction.Induction.TheVariants as induction
use Rattle.rvf_judge.specs.Inducted.{IsExhausted, IsInductedBy, IsInductedOn, IsRefuted, NoneFailsFirst}
use Rattle.rvf_judge.specs.Sources.{InductionsAreTheSources, InductionsDependOnMaps}
use Rattle.rvf_judge.proofs.RunsJudging.{moved}
use Rattle.rvf_judge.proofs.SourcesJudging.{same_trace}

-- ---- lists of maps

each_moved : (P Q : Values → Type 0) (run : List Values) → ((v : Values) → P v → Q v) → Each P run → Each Q run
each_moved P Q [] f h = tt
each_moved P Q (v ∷ vs) f h = (f v h.0, each_moved P Q vs f h.1)

followed_moved : (R S : Values → Values → Type 0) (v : Values) (vs : List Values)
    → ((u w : Values) → R u w → S u w) → FollowedBy R v vs → FollowedBy S v vs
followed_moved R S v [] f h = tt
followed_moved R S v (w ∷ ws) f h = (f v w h.0, followed_moved R S w ws f h.1)

neighbours_moved : (R S : Values → Values → Type 0) (run : List Values)
    → ((u w : Values) → R u w → S u w) → Neighbours R run → Neighbours S run
neighbours_moved R S [] f h = tt
neighbours_moved R S (v ∷ vs) f h = followed_moved R S v vs f h

-- clauses of lists that are of one kind exactly where they are of another
same_clauses : (A B P Q : List Values → Type 0) (notes : List Note) (formula : Cnf)
    → ((run : List Values) → A run ↔ B run) → ((run : List Values) → P run ↔ Q run)
    → AreClausesOf A P notes formula → AreClausesOf B Q notes formula
same_clauses A B P Q notes formula one sought h = record {
  before = h.before;
  last = h.last;
  model = λ run r. h.model run ((one run).1 r);
  one = λ run v w r. h.one run v w ((one run).1 r);
  run = λ v t. let x = h.run v t in (x.0, (one x.0).0 x.1, x.2);
  verdict = λ v run t r g.
      let x = h.verdict v run t ((one run).1 r) g in
      (λ e. (sought run).0 (x.0 e), λ y. x.1 ((sought run).1 y));
}

same_refuted : (A B P Q : List Values → Type 0) (more : ℕ → Cnf → List Step → Type 0) (budget : ℕ)
    (texts : CertificateTexts) → ((run : List Values) → A run ↔ B run) → ((run : List Values) → P run ↔ Q run)
    → IsRefuted A P more budget texts → IsRefuted B Q more budget texts
same_refuted A B P Q more budget texts one sought h = record {
  notes = h.notes;
  formula = h.formula;
  steps = h.steps;
  written = h.written;
  clauses = same_clauses A B P Q h.notes h.formula one sought h.clauses;
  refuted = h.refuted;
  unsatisfiable = h.unsatisfiable;
  known = h.known;
  read_back = h.read_back;
}

same_exhausted : (A B P Q : List Values → Type 0) (budget : ℕ) (texts : CertificateTexts)
    → ((run : List Values) → A run ↔ B run) → ((run : List Values) → P run ↔ Q run)
    → IsExhausted A P budget texts → IsExhausted B Q budget texts
same_exhausted A B P Q budget texts one sought h = record {
  notes = h.notes;
  formula = h.formula;
  steps = h.steps;
  written = h.written;
  clauses = same_clauses A B P Q h.notes h.formula one sought h.clauses;
  valid = h.valid;
  resolved = h.resolved;
  count = h.count;
  few = h.few;
  read_back = h.read_back;
}

module _ (ps qs : List Part) (has : Values → Bool) (k : ℕ) (same : AreSameMaps ps qs) (e : decls_of ps ≡ decls_of qs)
  where
    -- ---- what holds of one map, and of two

    reset_here : (v : Values) → HasReset qs 0 v → HasReset ps 0 v
    reset_here v h = moved (λ (d : Decl). ResetIs d.class (v d.name) 0) qs ps (sym e) h

    reset_there : (v : Values) → HasReset ps 0 v → HasReset qs 0 v
    reset_there v h = moved (λ (d : Decl). ResetIs d.class (v d.name) 0) ps qs e h

    once_here : (v u : Values) → KeepsOnce qs v u → KeepsOnce ps v u
    once_here v u h = moved (λ (d : Decl). OnceIs d.class (u d.name) (v d.name)) qs ps (sym e) h

    once_there : (v u : Values) → KeepsOnce ps v u → KeepsOnce qs v u
    once_there v u h = moved (λ (d : Decl). OnceIs d.class (u d.name) (v d.name)) ps qs e h

    -- ---- lists of maps

    runs : (run : List Values) → IsRun qs k run ↔ IsRun ps k run
    runs run =
        let to = λ (r : IsRun qs k run). (same.runs k run).1 r in
        let from = λ (r : IsRun ps k run). (same.runs k run).0 r in
        (to, from)

    on_here : (run : List Values) → AreMapsOn qs k run → AreMapsOn ps k run
    on_here run r = record {
      cycles = r.cycles;
      holds = each_moved (Holds qs) (Holds ps) run (λ v h. (same.holds v).1 h) r.holds;
      steps = neighbours_moved (Next qs) (Next ps) run (λ v u h. (same.steps v u).1 h) r.steps;
      no_reset = each_moved (HasReset qs 0) (HasReset ps 0) run reset_here r.no_reset;
      once = neighbours_moved (KeepsOnce qs) (KeepsOnce ps) run once_here r.once;
    }

    on_there : (run : List Values) → AreMapsOn ps k run → AreMapsOn qs k run
    on_there run r = record {
      cycles = r.cycles;
      holds = each_moved (Holds ps) (Holds qs) run (λ v h. (same.holds v).0 h) r.holds;
      steps = neighbours_moved (Next ps) (Next qs) run (λ v u h. (same.steps v u).0 h) r.steps;
      no_reset = each_moved (HasReset ps 0) (HasReset qs 0) run reset_there r.no_reset;
      once = neighbours_moved (KeepsOnce ps) (KeepsOnce qs) run once_there r.once;
    }

    maps_on : (run : List Values) → AreMapsOn qs k run ↔ AreMapsOn ps k run
    maps_on run =
        let to = λ (r : AreMapsOn qs k run). on_here run r in
        let from = λ (r : AreMapsOn ps k run). on_there run r in
        (to, from)

    within : (run : List Values) → LacksWithin qs has k run ↔ LacksWithin ps has k run
    within run =
        let to : LacksWithin qs has k run → LacksWithin ps has k run = λ l. record {
          at = l.at;
          some = l.some;
          few = l.few;
          assumed = (same.assumed (take (l.at + 1) run)).1 l.assumed;
          lacks = l.lacks;
        } in
        let from : LacksWithin ps has k run → LacksWithin qs has k run = λ l. record {
          at = l.at;
          some = l.some;
          few = l.few;
          assumed = (same.assumed (take (l.at + 1) run)).0 l.assumed;
          lacks = l.lacks;
        } in
        (to, from)

    last : (run : List Values) → LacksLast qs has k run ↔ LacksLast ps has k run
    last run =
        let to : LacksLast qs has k run → LacksLast ps has k run = λ l. record {
          assumed = (same.assumed run).1 l.assumed;
          before = l.before;
          lacks = l.lacks;
        } in
        let from : LacksLast ps has k run → LacksLast qs has k run = λ l. record {
          assumed = (same.assumed run).0 l.assumed;
          before = l.before;
          lacks = l.lacks;
        } in
        (to, from)

    -- ---- both halves

    fails_here : (j : ℕ) (run : List Values) → FailsAt qs has j run → FailsAt ps has j run
    fails_here j run f = record {
      is_run = (same.runs j run).1 f.is_run;
      assumed = (same.assumed run).1 f.assumed;
      fails = f.fails;
    }

    fails_there : (j : ℕ) (run : List Values) → FailsAt ps has j run → FailsAt qs has j run
    fails_there j run f = record {
      is_run = (same.runs j run).0 f.is_run;
      assumed = (same.assumed run).0 f.assumed;
      fails = f.fails;
    }

    none_first : NoneFailsFirst qs has k → NoneFailsFirst ps has k
    none_first none j run some few f = none j run some few (fails_there j run f)

    step_here : (run : List Values) → IsStepRun qs has k run → IsStepRun ps has k run
    step_here run s =
        let are = on_here run (record {
          cycles = s.cycles;
          holds = s.holds;
          steps = s.steps;
          no_reset = s.no_reset;
          once = s.once;
        }) in
        record {
          cycles = are.cycles;
          holds = are.holds;
          steps = are.steps;
          no_reset = are.no_reset;
          once = are.once;
          assumed = (same.assumed run).1 s.assumed;
          before = s.before;
          fails = s.fails;
        }

    step_there : (run : List Values) → IsStepRun ps has k run → IsStepRun qs has k run
    step_there run s =
        let are = on_there run (record {
          cycles = s.cycles;
          holds = s.holds;
          steps = s.steps;
          no_reset = s.no_reset;
          once = s.once;
        }) in
        record {
          cycles = are.cycles;
          holds = are.holds;
          steps = are.steps;
          no_reset = are.no_reset;
          once = are.once;
          assumed = (same.assumed run).0 s.assumed;
          before = s.before;
          fails = s.fails;
        }

    inducted_on : (more : ℕ → Cnf → List Step → Type 0) (budget : ℕ) (made : Induction)
        → IsInductedOn qs has k more budget made → IsInductedOn ps has k more budget made
    inducted_on more budget induction.Skipped h = absurd h
    inducted_on more budget (induction.Fails dump) h = record {
      cycle = h.cycle;
      some = h.some;
      few = h.few;
      run = h.run;
      fails = fails_here h.cycle h.run h.fails;
      before = h.before;
      dump_is = h.dump_is ∙ ap vcd_text (same_trace ps qs h.run e);
    }
    inducted_on more budget (induction.Open dump) h = record {
      base = none_first h.base;
      run = h.run;
      step = step_here h.run h.step;
      dump_is = h.dump_is ∙ ap vcd_text (same_trace ps qs h.run e);
    }
    inducted_on more budget (induction.Proved base step) h = record {
      base_none = none_first h.base_none;
      base_refuted = same_refuted (IsRun qs k) (IsRun ps k) (LacksWithin qs has k) (LacksWithin ps has k) more budget base
          runs within h.base_refuted;
      step_none = λ run s. h.step_none run (step_there run s);
      step_refuted = same_refuted (AreMapsOn qs k) (AreMapsOn ps k) (LacksLast qs has k) (LacksLast ps has k) more budget
          step maps_on last h.step_refuted;
      always = λ j run some is_run assumed.
          h.always j run some ((same.runs j run).0 is_run) ((same.assumed run).0 assumed);
    }
    inducted_on more budget (induction.SpentBase texts) h =
        same_exhausted (IsRun qs k) (IsRun ps k) (LacksWithin qs has k) (LacksWithin ps has k) budget texts runs within h
    inducted_on more budget (induction.SpentStep texts) h = record {
      base = none_first h.base;
      step = same_exhausted (AreMapsOn qs k) (AreMapsOn ps k) (LacksLast qs has k) (LacksLast ps has k) budget texts
          maps_on last h.step;
    }

pub by_maps : (more : ℕ → Cnf → List Step → Type 0) → InductionsDependOnMaps more
by_maps more ps qs channels wants check opts k budget made same e h = by (is_of_one_cycle check.kind) h
  where
    by : (b : Bool) → IsInductedBy b more qs channels wants check opts k budget made
        → IsInductedBy b more ps channels wants check opts k budget made
    by true x = inducted_on ps qs (holds_in_map channels wants check opts) k same e more budget made x
    by false x = x

pub of_the_source : (more : ℕ → Cnf → List Step → Type 0) → InductionsAreTheSources more
of_the_source more ps flat channels wants check opts k budget made drawn same h =
    by_maps more ps (flat_parts flat) channels wants check opts k budget made same
    (sym (parts_declare flat.decls flat.drivers flat.starts ∙ drawn.decls_are)) h
