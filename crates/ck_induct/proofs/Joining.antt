-- From numbers of sources to choices, of which whatever ones are bad.
use Rattle.std.specs.Prelude.{◌≡◌, refl, ◌↔◌, ℕ, zero, suc, ◌+◌, ◌<◌, ◌^◌, Bool, true}
use Rattle.std.specs.Prelude.{List, [], ◌∷◌, length, map, slice_index}
use Rattle.std.proofs.Common.{ap, sym, ◌∙◌, arith, subst, lit<}
use Rattle.wn_net.specs.Given.{AreNumbersOf}
use Rattle.wn_net.specs.Net.{Netlist}
use Rattle.wn_run.specs.Runs.{Choices, AreChoicesOf}
use Rattle.cnf_form.specs.Cnf.{Cnf}
use Rattle.bb_aig.specs.Bits.{number}
use Rattle.bb_aig.proofs.Numbers.{number_fits}
use Rattle.bb_blast.specs.declared.places.Placed.{Placed}
use Rattle.bb_blast.specs.Choice.{all_places, bits_from, numbers_from}
use Rattle.bb_blast.specs.Walk.{all_other_than_0, values_by}
use Rattle.bb_clauses.specs.Models.{AreOfWidths, ModelsAreNumbers, read_at}
use Rattle.bb_clauses.proofs.Joined.{inputs_in}
use Rattle.bb_clauses.proofs.Reading.{read_is}
use Rattle.bm_unroll.specs.declared.frames.Frames.{Frames}
use Rattle.bm_unroll.specs.Frames.{AreChosen, chosen, values_under}
use Rattle.bm_induct.specs.Halves.{AreOther}
use Rattle.bm_decide.specs.Runs.{ModelsAreRuns}
use Rattle.bm_decide.proofs.Joining.{all_tested, tested_all}

-- ---- widths

length-bits_from : (x : ℕ → Bool) (at w : ℕ) → length (bits_from x at w) ≡ w
length-bits_from x at zero = refl
length-bits_from x at (suc w) = ap suc (length-bits_from x (at + 1) w)

length-numbers_from : (x : ℕ → Bool) (at : ℕ) (ws : List ℕ) → length (numbers_from x at ws) ≡ length ws
length-numbers_from x at [] = refl
length-numbers_from x at (w ∷ ws) = ap suc (length-numbers_from x (at + w) ws)

bits_small : (x : ℕ → Bool) (at w : ℕ) → number (bits_from x at w) < 2 ^ w
bits_small x at w =
    let P : ℕ → Type 0 = λ n. number (bits_from x at w) < 2 ^ n in
    subst P (length-bits_from x at w) (number_fits (bits_from x at w))

numbers_small : (x : ℕ → Bool) (at : ℕ) (ws : List ℕ) (i : ℕ)
    → slice_index (numbers_from x at ws) i < 2 ^ slice_index ws i
numbers_small x at [] i = lit< tt
numbers_small x at (w ∷ ws) zero = bits_small x at w
numbers_small x at (w ∷ ws) (suc i) = numbers_small x (at + w) ws i

-- what is read at the places has the widths
read_fits : (v : ℕ → Bool) (places : List Placed) (ws : List ℕ) → places ≡ all_places 0 0 ws
    → AreNumbersOf ws (read_at places ws v)
read_fits v places ws e =
    let P : List ℕ → Type 0 = λ ns. AreNumbersOf ws ns in
    subst P (sym (read_is v places ws e)) (record {
      each = length-numbers_from (inputs_in v) 0 ws;
      below = numbers_small (inputs_in v) 0 ws;
    })

of_widths : (ws ns : List ℕ) → AreNumbersOf ws ns → AreOfWidths ws ns
of_widths [] [] h = tt
of_widths [] (n ∷ ns) h = absurd (omega (arith, h.each))
of_widths (w ∷ ws) [] h = absurd (omega (arith, h.each))
of_widths (w ∷ ws) (n ∷ ns) h =
    (h.below 0, of_widths ws ns (record { each = omega (arith, h.each); below = λ i. h.below (suc i) }))

-- ---- choices

nothing_shown : (f : Frames) (vs : List ℕ) → f.watch ≡ [] → map (λ i. slice_index vs i) f.watch ≡ []
nothing_shown f vs e = ap (map (λ i. slice_index vs i)) e

pub models_are_choices : (net : Netlist) (IsBad : Choices → Type 0) (f : Frames) (places : List Placed)
    (words : List (List ℕ)) (formula : Cnf) → places ≡ all_places 0 0 f.widths
    → ModelsAreNumbers f.widths (read_at places f.widths)
    (λ numbers. all_other_than_0 (values_by f.widths f.nodes numbers) f.roots)
    (λ numbers. map (λ i. slice_index (values_by f.widths f.nodes numbers) i) f.watch) words formula
    → AreChosen net f.widths f.sources → ((ch : Choices) → AreChoicesOf net ch → AreOther f ch ↔ IsBad ch)
    → f.watch ≡ []
    → ModelsAreRuns net IsBad (λ ch. []) f.sources (read_at places f.widths) words formula
models_are_choices net IsBad f places words formula e m chosen_are roots none =
    let H : List ℕ → Type 0 = λ ns. all_other_than_0 (values_by f.widths f.nodes ns) f.roots ≡ true in
    record {
      before = m.before;
      last = m.last;
      choice = λ v model. chosen_are.choice (read_at places f.widths v) (read_fits v places f.widths e);
      complete = λ ch own.
          m.complete (map (chosen ch) f.sources)
          (of_widths f.widths (map (chosen ch) f.sources) (chosen_are.number ch own));
      unique = m.unique;
      verdict = λ v ch model own same.
          let to = λ (t : v formula.vars ≡ true).
          (roots ch own).0
          (all_tested (values_under f ch) f.roots (subst H (sym same) (sym (m.verdict v model) ∙ t))) in
          let from = λ (is : IsBad ch).
          m.verdict v model ∙ subst H same (tested_all (values_under f ch) f.roots ((roots ch own).1 is)) in
          (to, from);
      shows = λ v ch model own same.
          m.shows v model ∙ nothing_shown f (values_by f.widths f.nodes (read_at places f.widths v)) none;
    }
