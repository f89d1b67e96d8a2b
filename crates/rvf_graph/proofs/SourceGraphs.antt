-- Parts with the same maps and the same declarations have the same graphs.
use Rattle.std.specs.Prelude.{◌≡◌, ℕ, true, Bool, List}
use Rattle.std.specs.List.{AllByRecursion}
use Rattle.std.proofs.Common.{sym, ◌∙◌, subst}
use Rattle.vl_size.specs.Size.{Values}
use Rattle.vl_size.specs.declared.decl.Decl.{Decl}
use Rattle.vl_mean.specs.FlatParts.{flat_parts}
use Rattle.vl_lower_spec.proofs.Declaring.{parts_declare}
use Rattle.ck_ask.specs.Questions.{question_cycle}
use Rattle.ck_design.specs.Findings.{IsFound}
use Rattle.ck_design.specs.NotesForm.{IsChosenBit}
use Rattle.rvf_graph.specs.GraphTexts.{TellsRuns}
use Rattle.rvf_graph.specs.Sources.{GraphsAreTheSources, GraphsDependOnMaps}

pub by_maps : GraphsDependOnMaps
by_maps ps qs channels wants q opts t same e h = record {
  bits = h.bits;
  chosen = subst (λ (ds : List Decl). AllByRecursion (IsChosenBit ds (question_cycle q)) h.bits) (sym e) h.chosen;
  graph = h.graph;
  root = h.root;
  text_is = h.text_is;
  named = h.named;
  inputs_are = h.inputs_are;
  gates_are = h.gates_are;
  said = h.said;
  profile = h.profile;
  inputs_said = h.inputs_said;
  output = λ run value is_run is_out.
      let both = h.output run value ((same.runs (question_cycle q) run).0 is_run) is_out in
      let to = λ (v : value ≡ true). found_here run (both.0 v) in
      let from = λ (f : IsFound ps channels wants q opts run). both.1 (found_there run f) in
      (to, from);
  run = λ inputs long.
      let r = h.run inputs long in
      (r.0, (same.runs (question_cycle q) r.0).1 r.1, r.2);
}
  where
    found_here : (run : List Values) → IsFound qs channels wants q opts run → IsFound ps channels wants q opts run
    found_here run v = record {
      is_run = (same.runs (question_cycle q) run).1 v.is_run;
      assumed = (same.assumed run).1 v.assumed;
      given = v.given;
    }

    found_there : (run : List Values) → IsFound ps channels wants q opts run → IsFound qs channels wants q opts run
    found_there run v = record {
      is_run = (same.runs (question_cycle q) run).0 v.is_run;
      assumed = (same.assumed run).0 v.assumed;
      given = v.given;
    }

pub of_the_source : GraphsAreTheSources
of_the_source ps flat channels wants q opts t drawn same h =
    by_maps ps (flat_parts flat) channels wants q opts t same
    (sym (parts_declare flat.decls flat.drivers flat.starts ∙ drawn.decls_are)) h
