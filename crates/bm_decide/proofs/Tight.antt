-- From the clauses of a net with the node of a question to those of the net itself.
use Rattle.std.specs.Prelude.{◌≡◌, refl, ℕ, ◌+◌, ◌≤◌, ◌↔◌, Bool, true, List, [], ◌∷◌, length, map}
use Rattle.std.specs.List.{AllByRecursion}
use Rattle.std.proofs.Common.{ap, sym, ◌∙◌, arith, subst}
use Rattle.rv_table.specs.declared.retire.Opts.{Opts}
use Rattle.wn_net.specs.declared.parts.Reg.{Reg}
use Rattle.wn_net.specs.declared.parts.State.{State}
use Rattle.wn_net.specs.Net.{Netlist, AreNodes, IsNet, value_at}
use Rattle.wn_run.specs.Runs.{Choices, AreChoicesOf, IsAssumed, cycle_at, inputs_at, mems_from, regs_from, start_number}
use Rattle.wn_run.specs.Runs.{start_of}
use Rattle.cnf_form.specs.Cnf.{Cnf}
use Rattle.bm_unroll.specs.declared.frames.Source.{Source}
use Rattle.bm_unroll.specs.Frames.{IsBadRun, IsChoice}
use Rattle.bm_decide.specs.Runs.{ModelsAreRuns, values_in}
use Rattle.rvfi_port.specs.declared.port.Port.{Port}
use Rattle.rvfi_port.specs.Ports.{ArePortNodes}
use Rattle.ck_history.specs.Lines.{AddsKnown}
use Rattle.bm_decide.proofs.Carried.{bad_gives, watched_are_same}
use Rattle.bm_decide.proofs.Sources.{choices_more, fewer_choices, first_is, first_of, more_choices, same_chosen}
use Rattle.ck_ask.specs.Asked.{IsAsked, given_in}
use Rattle.ck_ask.specs.Questions.{question_cycle}
use Rattle.ck_ask.specs.declared.question.Question.{Question}
use Rattle.bm_decide.specs.Verdicts.{Gives}

-- ---- the same start

same_regs : (n i : ℕ) (choices : ℕ → ℕ) (rs : List Reg) → i + length rs ≤ n
    → regs_from (first_of n choices) i rs ≡ regs_from choices i rs
same_regs n i choices [] h = refl
same_regs n i choices (r ∷ rs) h =
    λ j. start_number (first_is n i choices (omega (arith, h)) j) r.init
    ∷ same_regs n (i + 1) choices rs (omega (arith, h)) j

same_start : (net : Netlist) (ch : Choices) → start_of net (more_choices net ch) ≡ start_of net ch
same_start net ch = λ j. record {
  regs = same_regs (length net.regs) 0 ch.regs net.regs (omega arith) j;
  mems = mems_from ch.words 0 net.mems;
}

same_gives : (net : Netlist) (port : Port) (q : Question) (opts : Opts) (ch : Choices)
    → Gives net port q opts (more_choices net ch) ↔ Gives net port q opts ch
same_gives net port q opts ch =
    let S : State → Type 0 = λ s. IsAssumed net (inputs_at net ch) s (question_cycle q)
    × (given_in net (cycle_at net (inputs_at net ch) s) port q opts ≡ true) in
    let to = λ (x : Gives net port q opts (more_choices net ch)). subst S (same_start net ch) x in
    let from = λ (x : Gives net port q opts ch). subst S (sym (same_start net ch)) x in
    (to, from)

-- ---- clauses of the net with the node of a question, read as clauses of the net

pub tight : (old new : Netlist) (registers : ℕ) (port : Port) (q : Question) (opts : Opts) (bad : ℕ) (ids : List ℕ)
    (sources : List Source) (read : (ℕ → Bool) → List ℕ) (words : List (List ℕ)) (formula : Cnf)
    → IsNet old → IsNet new → AddsKnown old new registers → ArePortNodes old port → AreNodes old ids
    → IsAsked new port q opts bad → AllByRecursion (IsChoice new (question_cycle q)) sources
    → ModelsAreRuns new (IsBadRun new bad (question_cycle q)) (values_in new (question_cycle q) ids) sources read words
    formula
    → ModelsAreRuns old (Gives old port q opts) (values_in old (question_cycle q) ids) sources read words formula
tight old new registers port q opts bad ids sources read words formula own grown known nodes there asked are m =
    let adds = known.adds in
    let K = question_cycle q in
    let on = λ (ch : Choices) (of : AreChoicesOf old ch). choices_more old new ch adds of in
    let same = λ (ch : Choices). same_chosen old new registers K ch sources known are in
    let gives = λ (ch : Choices) (of : AreChoicesOf old ch).
    bad_gives old new port q opts bad (more_choices old ch) own grown adds nodes asked (on ch of) in
    record {
      before = m.before;
      last = m.last;
      choice = λ v h.
          let c = m.choice v h in
          record { ch = c.ch; of_net = fewer_choices old new c.ch adds c.of_net; same = c.same };
      complete = λ ch of.
          let made = m.complete (more_choices old ch) (on ch of) in
          (made.0, made.1, made.2 ∙ same ch);
      unique = m.unique;
      verdict = λ v ch h of is.
          let bad_one = m.verdict v (more_choices old ch) h (on ch of) (same ch ∙ is) in
          let bad_two = gives ch of in
          let bad_three = same_gives old port q opts ch in
          let to = λ (t : v formula.vars ≡ true). bad_three.0 (bad_two.0 (bad_one.0 t)) in
          let from = λ (x : Gives old port q opts ch). bad_one.1 (bad_two.1 (bad_three.1 x)) in
          (to, from);
      shows = λ v ch h of is.
          m.shows v (more_choices old ch) h (on ch of) (same ch ∙ is)
          ∙ watched_are_same old new K ids (more_choices old ch) own adds there
          ∙ ap (λ s. map (value_at old (cycle_at old (inputs_at old ch) s K)) ids) (same_start old ch);
    }
