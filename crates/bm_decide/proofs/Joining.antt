-- From numbers of sources to choices of runs.
use Rattle.std.specs.Prelude.{◌≡◌, refl, ℕ, zero, suc, ◌+◌, ◌<◌, ◌^◌, ◌==◌, ◌&&◌, Bool, true, false, not}
use Rattle.std.specs.Prelude.{◌||◌, List, [], ◌∷◌, ◌++◌, length, map, slice_index, ℤ, pos}
use Rattle.std.specs.List.{AllByRecursion}
use Rattle.std.proofs.Common.{ap, sym, ◌∙◌, arith, subst, lit<}
use Rattle.std.proofs.lemmas.Bool.{and_parts, and_from}
use Rattle.std.proofs.lemmas.List.Folds.{list_all-append}
use Rattle.std.proofs.lemmas.Bool.Decides.{nat_tests}
use Rattle.wn_net.specs.Given.{AreNumbersOf}
use Rattle.wn_net.specs.Net.{Netlist}
use Rattle.cnf_form.specs.Cnf.{Cnf, clause_true, formula_true}
use Rattle.bb_aig.specs.Bits.{number}
use Rattle.bb_aig.proofs.Numbers.{number_fits}
use Rattle.bb_blast.specs.declared.places.Placed.{Placed}
use Rattle.bb_blast.specs.Choice.{bits_from, numbers_from, all_places}
use Rattle.bb_blast.specs.Walk.{all_other_than_0, values_by}
use Rattle.bb_clauses.specs.Models.{AreOfWidths, AreTrue, ModelsAreNumbers, read_at}
use Rattle.bb_clauses.proofs.Joined.{inputs_in}
use Rattle.bb_clauses.proofs.Reading.{read_is}
use Rattle.bm_unroll.specs.declared.frames.Frames.{Frames}
use Rattle.bm_unroll.specs.Frames.{AreChosen, HasRoots, HasWatch, IsBadRun, chosen, values_under}
use Rattle.bm_decide.specs.Runs.{ModelsAreRuns, values_in}

-- ---- all roots

not_zero : (n : ℕ) (b rest : Bool) → (n == 0) ≡ b → (not b && rest) ≡ true → (n ≡ 0 → ⊥) × (rest ≡ true)
not_zero n true rest q e = cc
not_zero n false rest q e = (λ z. grind (arith, nat_tests, q, z), e)

is_not_zero : (n : ℕ) (b rest : Bool) → (n == 0) ≡ b → (n ≡ 0 → ⊥) → rest ≡ true → (not b && rest) ≡ true
is_not_zero n true rest q h e = absurd (h (grind (arith, nat_tests, q)))
is_not_zero n false rest q h e = e

pub all_tested : (vs ids : List ℕ) → all_other_than_0 vs ids ≡ true
    → AllByRecursion (λ id. slice_index vs id ≡ 0 → ⊥) ids
all_tested vs [] e = tt
all_tested vs (id ∷ ids) e =
    let v = slice_index vs id in
    let h = not_zero v (v == 0) (all_other_than_0 vs ids) refl e in
    (h.0, all_tested vs ids h.1)

pub tested_all : (vs ids : List ℕ) → AllByRecursion (λ id. slice_index vs id ≡ 0 → ⊥) ids
    → all_other_than_0 vs ids ≡ true
tested_all vs [] h = refl
tested_all vs (id ∷ ids) h =
    let v = slice_index vs id in
    is_not_zero v (v == 0) (all_other_than_0 vs ids) refl h.0 (tested_all vs ids h.1)

-- ---- widths

length-bits_from : (x : ℕ → Bool) (at w : ℕ) → length (bits_from x at w) ≡ w
length-bits_from x at zero = refl
length-bits_from x at (suc w) = ap suc (length-bits_from x (at + 1) w)

length-numbers_from : (x : ℕ → Bool) (at : ℕ) (ws : List ℕ) → length (numbers_from x at ws) ≡ length ws
length-numbers_from x at [] = refl
length-numbers_from x at (w ∷ ws) = ap suc (length-numbers_from x (at + w) ws)

bits_small : (x : ℕ → Bool) (at w : ℕ) → number (bits_from x at w) < 2 ^ w
bits_small x at w =
    let P : ℕ → Type 0 = λ n. number (bits_from x at w) < 2 ^ n in
    subst P (length-bits_from x at w) (number_fits (bits_from x at w))

numbers_small : (x : ℕ → Bool) (at : ℕ) (ws : List ℕ) (i : ℕ)
    → slice_index (numbers_from x at ws) i < 2 ^ slice_index ws i
numbers_small x at [] i = lit< tt
numbers_small x at (w ∷ ws) zero = bits_small x at w
numbers_small x at (w ∷ ws) (suc i) = numbers_small x (at + w) ws i

-- what is read at the places has the widths
read_fits : (v : ℕ → Bool) (places : List Placed) (ws : List ℕ) → places ≡ all_places 0 0 ws
    → AreNumbersOf ws (read_at places ws v)
read_fits v places ws e =
    let P : List ℕ → Type 0 = λ ns. AreNumbersOf ws ns in
    subst P (sym (read_is v places ws e)) (record {
      each = length-numbers_from (inputs_in v) 0 ws;
      below = numbers_small (inputs_in v) 0 ws;
    })

of_widths : (ws ns : List ℕ) → AreNumbersOf ws ns → AreOfWidths ws ns
of_widths [] [] h = tt
of_widths [] (n ∷ ns) h = absurd (omega (arith, h.each))
of_widths (w ∷ ws) [] h = absurd (omega (arith, h.each))
of_widths (w ∷ ws) (n ∷ ns) h =
    (h.below 0, of_widths ws ns (record { each = omega (arith, h.each); below = λ i. h.below (suc i) }))

-- ---- runs

pub models_are_runs : (net : Netlist) (bad cycle : ℕ) (watch : List ℕ) (f : Frames) (places : List Placed)
    (words : List (List ℕ)) (formula : Cnf) → places ≡ all_places 0 0 f.widths
    → ModelsAreNumbers f.widths (read_at places f.widths)
    (λ numbers. all_other_than_0 (values_by f.widths f.nodes numbers) f.roots)
    (λ numbers. map (λ i. slice_index (values_by f.widths f.nodes numbers) i) f.watch) words formula
    → AreChosen net f.widths f.sources → HasRoots net bad cycle f → HasWatch net watch cycle f
    → ModelsAreRuns net (IsBadRun net bad cycle) (values_in net cycle watch) f.sources (read_at places f.widths) words
    formula
models_are_runs net bad cycle watch f places words formula e m chosen_are roots watched =
    let H : List ℕ → Type 0 = λ ns. all_other_than_0 (values_by f.widths f.nodes ns) f.roots ≡ true in
    record {
      before = m.before;
      last = m.last;
      choice = λ v model. chosen_are.choice (read_at places f.widths v) (read_fits v places f.widths e);
      complete = λ ch own.
          m.complete (map (chosen ch) f.sources)
          (of_widths f.widths (map (chosen ch) f.sources) (chosen_are.number ch own));
      unique = m.unique;
      verdict = λ v ch model own same.
          let to = λ (t : v formula.vars ≡ true).
          (roots ch own).0
          (all_tested (values_under f ch) f.roots (subst H (sym same) (sym (m.verdict v model) ∙ t))) in
          let from = λ (is : IsBadRun net bad cycle ch).
          m.verdict v model ∙ subst H same (tested_all (values_under f ch) f.roots ((roots ch own).1 is)) in
          (to, from);
      shows = λ v ch model own same.
          m.shows v model
          ∙ ap (λ ns. map (λ i. slice_index (values_by f.widths f.nodes ns) i) f.watch) (sym same) ∙ watched ch own;
    }

-- ---- models of all clauses

one_clause : (b : Bool) → ((b || false) && true) ≡ b
one_clause true = refl
one_clause false = refl

-- a model of all clauses is one of those before the last in which the verdict is true
pub parts : (before : List (List ℤ)) (formula : Cnf) (v : ℕ → Bool)
    → formula.clauses ≡ before ++ (pos formula.vars ∷ []) ∷ [] → AreTrue formula.clauses v
    → AreTrue before v × (v formula.vars ≡ true)
parts before formula v last h =
    let behind = (pos formula.vars ∷ []) ∷ [] in
    let both = and_parts _ _ (sym (list_all-append (clause_true v) before behind) ∙ ap (formula_true v) (sym last)
    ∙ h) in
    (both.0, sym (one_clause (v formula.vars)) ∙ both.1)

pub whole : (before : List (List ℤ)) (formula : Cnf) (v : ℕ → Bool)
    → formula.clauses ≡ before ++ (pos formula.vars ∷ []) ∷ [] → AreTrue before v → v formula.vars ≡ true
    → AreTrue formula.clauses v
whole before formula v last h t =
    let behind = (pos formula.vars ∷ []) ∷ [] in
    ap (formula_true v) last ∙ list_all-append (clause_true v) before behind
    ∙ and_from _ _ h (one_clause (v formula.vars) ∙ t)
