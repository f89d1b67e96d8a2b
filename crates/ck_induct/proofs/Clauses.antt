-- Clauses of choices are those of the lists of maps that the choices make.
use Rattle.std.specs.Prelude.{◌≡◌, ◌↔◌, ℕ, Bool, true, List, map}
use Rattle.std.proofs.Common.{sym, ◌∙◌}
use Rattle.vl_size.specs.Size.{Values}
use Rattle.wn_net.specs.declared.names.Names.{Names}
use Rattle.wn_net.specs.Net.{Netlist}
use Rattle.wn_run.specs.Runs.{Choices, AreChoicesOf}
use Rattle.bb_clauses.specs.Models.{read_at}
use Rattle.bm_unroll.specs.declared.frames.Source.{Source}
use Rattle.bm_unroll.specs.Frames.{chosen}
use Rattle.bm_decide.specs.declared.verdict.Certificate.{Certificate}
use Rattle.ck_design.specs.Notes.{choice_notes}
use Rattle.ck_induct.specs.Halves.{AreClausesOf}
use Rattle.ck_induct.specs.Verdicts.{AreBitsBy, AreOfChoices}
use Rattle.ck_induct.proofs.Noted.{IsNotedBit, agree_there, read_same}

-- The lists of a kind are those that choices of the net make, and the sought ones are those of bad choices.
pub record AreMadeBy (net : Netlist) (names : Names) (IsSource : Source → Type 0) (IsBad : Choices → Type 0)
    (IsOne IsSought : List Values → Type 0) : Type 1 where
  pub IsMade : Choices → List Values → Type 0
  pub choices : (run : List Values) → IsOne run → (ch : Choices) × AreChoicesOf net ch × IsMade ch run
  pub maps : (ch : Choices) → AreChoicesOf net ch → (run : List Values) × IsOne run × IsMade ch run
  pub bits : (ch : Choices) (run : List Values) → AreChoicesOf net ch → IsOne run → IsMade ch run
      → IsNotedBit net names IsSource ch run
  pub sought : (ch : Choices) (run : List Values) → AreChoicesOf net ch → IsOne run → IsMade ch run
      → IsBad ch ↔ IsSought run

pub are_clauses : (net : Netlist) (names : Names) (IsSource : Source → Type 0) (IsBad : Choices → Type 0)
    (IsOne IsSought : List Values → Type 0) (c : Certificate) → AreMadeBy net names IsSource IsBad IsOne IsSought
    → AreBitsBy net IsSource c.bits → AreOfChoices net IsSource IsBad c
    → AreClausesOf IsOne IsSought (choice_notes names c.bits) c.formula
are_clauses net names IsSource IsBad IsOne IsSought c made are m =
    let notes = choice_notes names c.bits in
    let read : (ℕ → Bool) → List ℕ = read_at c.bits.places c.bits.widths in
    let agree = λ (v : ℕ → Bool) (ch : Choices) (of : AreChoicesOf net ch) (run : List Values) (one : IsOne run)
    (is : made.IsMade ch run) (same : read v ≡ map (chosen ch) c.bits.sources).
    agree_there net names IsSource c.bits are ch run (made.bits ch run of one is) v same in
    record {
      before = m.before;
      last = m.last;
      model = λ run one.
          let e = made.choices run one in
          let x = m.complete e.0 e.1 in
          (x.0, x.1, agree x.0 e.0 e.1 run one e.2 x.2);
      one = λ run v w one t u av aw. m.unique v w t u (read_same names c.bits v w run av aw);
      run = λ v t.
          let x = m.choice v t in
          let made_run = made.maps x.ch x.of_net in
          (made_run.0, made_run.1, agree v x.ch x.of_net made_run.0 made_run.1 made_run.2 (sym x.same));
      verdict = λ v run t one agrees.
          let e = made.choices run one in
          let x = m.complete e.0 e.1 in
          let theirs = agree x.0 e.0 e.1 run one e.2 x.2 in
          let alike : read v ≡ read x.0 = read_same names c.bits v x.0 run agrees theirs in
          let first = m.verdict v e.0 t e.1 (sym (alike ∙ x.2)) in
          let second = made.sought e.0 run e.1 one e.2 in
          let to = λ (y : v c.formula.vars ≡ true). second.0 (first.0 y) in
          let from = λ (y : IsSought run). first.1 (second.1 y) in
          (to, from);
    }
