-- Parts with the same maps and the same declarations have the same judgements.
use Rattle.std.specs.Prelude.{◌≡◌, refl, ℕ, List, [], ◌∷◌, ◌++◌, map, if◌then◌else◌}
use Rattle.std.proofs.Common.{ap, sym, ◌∙◌, subst}
use Rattle.fv_text.specs.declared.trace.TraceName.{TraceName}
use Rattle.rv_table.specs.declared.retire.Opts.{Opts}
use Rattle.vl_size.specs.declared.decl.Decl.{Decl}
use Rattle.vl_size.specs.Size.{Values}
use Rattle.vl_mean.specs.FlatParts.{flat_parts}
use Rattle.vl_mean.specs.Parts.{Part, declares, equation, combinational, clocked, starts}
use Rattle.vl_mean.specs.Scopes.{is_clock_class}
use Rattle.vl_mean_flat.specs.Flattened.{decls_of}
use Rattle.vl_mean_flat.specs.SameMaps.{AreSameMaps}
use Rattle.vl_lower_spec.proofs.Declaring.{parts_declare}
use Rattle.cnf_form.specs.Cnf.{Cnf}
use Rattle.rvfi_port.specs.declared.port.Wants.{Wants}
use Rattle.lrat_check.specs.declared.step.Step.{Step}
use Rattle.ck_ask.specs.Questions.{question_channel, question_cycle}
use Rattle.ck_ask.specs.declared.question.Question.{Question}
use Rattle.ck_design.specs.Findings.{IsFound}
use Rattle.ck_design.specs.declared.note.Note.{Note}
use Rattle.ck_design.specs.NotesForm.{AreInForm}
use Rattle.ck_design.specs.Tight.{IsTight}
use Rattle.ck_design.specs.Traces.{shown, shown_by, trace_of_run}
use Rattle.vcd_dump.specs.Vcd.{vcd_text}
use Rattle.rvf_judge.specs.declared.judged.Judged.TheVariants as judged
use Rattle.rvf_judge.specs.Sources.{JudgementsAreTheSources, JudgementsDependOnMaps}
use Rattle.rvf_judge.proofs.RunsJudging.{has_one_run}

-- ---- the names of a trace are those of declarations

abbrev shown_all : List Decl → List TraceName
shown_all [] = []
shown_all (d ∷ ds) = if is_clock_class d.class then shown_all ds else shown_by d ++ shown_all ds

all_shown : (ps : List Part) → shown ps ≡ shown_all (decls_of ps)
all_shown [] = refl
all_shown (declares d ∷ ps) =
    let rest = all_shown ps in λ i. if is_clock_class d.class then rest i else shown_by d ++ rest i
all_shown (equation ts l ss e ∷ ps) = all_shown ps
all_shown (combinational ss s ∷ ps) = all_shown ps
all_shown (clocked ss s ∷ ps) = all_shown ps
all_shown (starts ss l e ∷ ps) = all_shown ps

same_shown : (ps qs : List Part) → decls_of ps ≡ decls_of qs → shown ps ≡ shown qs
same_shown ps qs e = all_shown ps ∙ ap shown_all e ∙ sym (all_shown qs)

pub same_trace : (ps qs : List Part) (run : List Values) → decls_of ps ≡ decls_of qs
    → trace_of_run qs run ≡ trace_of_run ps run
same_trace ps qs run e =
    ap (λ (ns : List TraceName). record { names = ns; cycles = map (λ v. map (λ n. v n.text) ns) run })
    (sym (same_shown ps qs e))

-- ---- what is said of parts by their maps

module _ (ps qs : List Part) (channels : ℕ) (wants : Wants) (q : Question) (opts : Opts) (same : AreSameMaps ps qs)
  where
    abbrev K : ℕ
    K = question_cycle q

    found_here : (run : List Values) → IsFound qs channels wants q opts run → IsFound ps channels wants q opts run
    found_here run v = record {
      is_run = (same.runs K run).1 v.is_run;
      assumed = (same.assumed run).1 v.assumed;
      given = v.given;
    }

    found_there : (run : List Values) → IsFound ps channels wants q opts run → IsFound qs channels wants q opts run
    found_there run v = record {
      is_run = (same.runs K run).0 v.is_run;
      assumed = (same.assumed run).0 v.assumed;
      given = v.given;
    }

    tight : (notes : List Note) (formula : Cnf) → IsTight qs channels wants q opts notes formula
        → IsTight ps channels wants q opts notes formula
    tight notes formula h = record {
      before = h.before;
      last = h.last;
      model = λ run r. h.model run ((same.runs K run).0 r);
      one = λ run v w r. h.one run v w ((same.runs K run).0 r);
      run = λ v t. let x = h.run v t in (x.0, (same.runs K x.0).1 x.1, x.2);
      verdict = λ v run t r g.
          let x = h.verdict v run t ((same.runs K run).0 r) g in
          (λ e. ((same.assumed run).1 (x.0 e).0, (x.0 e).1), λ y. x.1 ((same.assumed run).0 y.0, y.1));
      fields = h.fields;
    }

pub by_maps : (more : ℕ → Cnf → List Step → Type 0) → JudgementsDependOnMaps more
by_maps more ps qs channels wants q opts budget (judged.Never texts) same e h = record {
  runs = λ chosen. has_one_run ps qs same e (question_cycle q) chosen (h.runs chosen);
  never = λ run v. h.never run (found_there ps qs channels wants q opts same run v);
  notes = h.notes;
  formula = h.formula;
  steps = h.steps;
  written = h.written;
  tight = tight ps qs channels wants q opts same h.notes h.formula h.tight;
  in_form = subst (λ ds. AreInForm ds (question_channel q) (question_cycle q) h.notes) (sym e) h.in_form;
  refuted = h.refuted;
  unsatisfiable = h.unsatisfiable;
  known = h.known;
  read_back = h.read_back;
}
by_maps more ps qs channels wants q opts budget (judged.Found dump) same e h = record {
  run = h.run;
  found = found_here ps qs channels wants q opts same h.run h.found;
  dump_is = h.dump_is ∙ ap vcd_text (same_trace ps qs h.run e);
}
by_maps more ps qs channels wants q opts budget (judged.Spent texts) same e h = record {
  notes = h.notes;
  formula = h.formula;
  steps = h.steps;
  written = h.written;
  tight = tight ps qs channels wants q opts same h.notes h.formula h.tight;
  in_form = subst (λ ds. AreInForm ds (question_channel q) (question_cycle q) h.notes) (sym e) h.in_form;
  valid = h.valid;
  resolved = h.resolved;
  count = h.count;
  few = h.few;
  read_back = h.read_back;
}

pub of_the_source : (more : ℕ → Cnf → List Step → Type 0) → JudgementsAreTheSources more
of_the_source more ps flat channels wants q opts budget judged drawn same h =
    by_maps more ps (flat_parts flat) channels wants q opts budget judged same
    (sym (parts_declare flat.decls flat.drivers flat.starts ∙ drawn.decls_are)) h
