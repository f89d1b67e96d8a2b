-- The verdict behind the clauses of all variables, and words of literals.
use Rattle.std.specs.Prelude.{◌≡◌, refl, ℕ, ◌*◌, ◌/◌, ◌%◌, ◌≤◌, ◌==◌, Bool}
use Rattle.std.specs.Prelude.{true, false, ◌&&◌, List, [], ◌∷◌, ◌++◌, length, map, ℤ, pos}
use Rattle.std.proofs.Common.{ap, sym, ◌∙◌, arith}
use Rattle.std.proofs.lemmas.List.Folds.{list_all-append}
use Rattle.std.proofs.lemmas.Bool.{and_parts, and_from}
use Rattle.cnf_form.specs.Cnf.{Cnf, clause_true, formula_true}
use Rattle.bb_aig.specs.declared.node.AigNode.{AigNode}
use Rattle.bb_aig.specs.Graph.{turned, lit_at}
use Rattle.bb_aig.specs.Bits.{number}
use Rattle.bb_aig.specs.Gates.{bits}
use Rattle.bb_words.specs.Words.{count}
use Rattle.bb_clauses.specs.Clauses.{and_clauses}
use Rattle.bb_clauses.specs.Models.{value_in, number_in}
use Rattle.bb_clauses.proofs.ClauseLaws.{lit_true, and_law, agree}
use Rattle.bb_cuts.specs.Variables.{var_at, Stand, AreTold, IsSame, AreSame, AreSameWords, TellsCuts}
use Rattle.bb_cuts.proofs.CoverLaws.{var_some, at_is, even, agree_same, same_agree}
use Rattle.bb_cuts.proofs.Standing.{named_value}

-- a literal of a variable has the value of the graph's literal
pub same_value : (graph : List AigNode) (x v : ℕ → Bool) (nodes : List ℕ) (lit old : ℕ) → Stand graph x nodes v
    → IsSame nodes lit old → value_in v lit ≡ lit_at graph x old
same_value graph x v nodes lit old h same =
    ap (λ r. turned (r == 1) (var_at v (lit / 2))) same.1
    ∙ ap (turned (old % 2 == 1)) (named_value graph x v nodes (lit / 2) (old / 2) h same.0)

bits_same : (graph : List AigNode) (x v : ℕ → Bool) (nodes lits olds : List ℕ) → Stand graph x nodes v
    → AreSame nodes lits olds → map (value_in v) lits ≡ bits graph x olds
bits_same graph x v nodes [] [] h same = refl
bits_same graph x v nodes [] (o ∷ os) h same = absurd same
bits_same graph x v nodes (l ∷ ls) [] h same = absurd same
bits_same graph x v nodes (l ∷ ls) (o ∷ os) h same =
    ap (λ b. b ∷ map (value_in v) ls) (same_value graph x v nodes l o h same.0)
    ∙ ap (λ bs. lit_at graph x o ∷ bs) (bits_same graph x v nodes ls os h same.1)

words_same : (graph : List AigNode) (x v : ℕ → Bool) (nodes : List ℕ) (new old : List (List ℕ))
    → Stand graph x nodes v → AreSameWords nodes new old → map (number_in v) new ≡ map (count graph x) old
words_same graph x v nodes [] [] h same = refl
words_same graph x v nodes [] (o ∷ os) h same = absurd same
words_same graph x v nodes (w ∷ ws) [] h same = absurd same
words_same graph x v nodes (w ∷ ws) (o ∷ os) h same =
    ap (λ n. n ∷ map (number_in v) ws) (ap number (bits_same graph x v nodes w o h same.0))
    ∙ ap (λ ns. count graph x o ∷ ns) (words_same graph x v nodes ws os h same.1)

lits_wide : (nodes lits olds : List ℕ) → AreSame nodes lits olds → length lits ≡ length olds
lits_wide nodes [] [] same = refl
lits_wide nodes [] (o ∷ os) same = absurd same
lits_wide nodes (l ∷ ls) [] same = absurd same
lits_wide nodes (l ∷ ls) (o ∷ os) same = omega (arith, lits_wide nodes ls os same.1)

words_wide : (nodes : List ℕ) (new old : List (List ℕ)) → AreSameWords nodes new old → map length new ≡ map length old
words_wide nodes [] [] same = refl
words_wide nodes [] (o ∷ os) same = absurd same
words_wide nodes (w ∷ ws) [] same = absurd same
words_wide nodes (w ∷ ws) (o ∷ os) same =
    ap (λ n. n ∷ map length ws) (lits_wide nodes w o same.0)
    ∙ ap (λ ns. length o ∷ ns) (words_wide nodes ws os same.1)

and_true : (b : Bool) → (b && true) ≡ b
and_true true = refl
and_true false = refl

-- the verdict's clauses say that it is the root
verdict_law : (graph : List AigNode) (x v : ℕ → Bool) (nodes : List ℕ) (var own root : ℕ) → 1 ≤ var
    → Stand graph x nodes v → IsSame nodes own root
    → formula_true v (and_clauses (2 * var) own 1) ≡ agree (v var) (lit_at graph x root)
verdict_law graph x v nodes var own root some h same =
    and_law v (2 * var) own 1
    ∙ ap (λ b. agree b (lit_true v own && true)) (even v var ∙ var_some v var some)
    ∙ ap (agree (v var)) (and_true (lit_true v own)
    ∙ ap (turned (own % 2 == 1)) (at_is v (own / 2)) ∙ same_value graph x v nodes own root h same)

pub tells_cuts : (graph : List AigNode) (nodes : List ℕ) (clauses : List (List ℤ)) (var own root : ℕ)
    (old new : List (List ℕ)) (formula : Cnf) → AreTold graph nodes clauses → IsSame nodes own root
    → AreSameWords nodes new old → var ≡ length nodes → formula.vars ≡ length nodes
    → formula.clauses ≡ (clauses ++ and_clauses (2 * var) own 1) ++ (pos var ∷ []) ∷ []
    → TellsCuts graph root old new formula
tells_cuts graph nodes clauses var own root old new formula told same words is vars whole =
    let more = and_clauses (2 * var) own 1 in
    let last : var ≡ formula.vars = is ∙ sym vars in
    let some : 1 ≤ var = omega (arith, is, told.some) in
    record {
      nodes = nodes;
      before = clauses ++ more;
      vars = vars;
      last = whole ∙ ap (λ n. (clauses ++ more) ++ (pos n ∷ []) ∷ []) last;
      some = told.some;
      first = told.first;
      inputs = told.inputs;
      extends = λ x v h e.
          list_all-append (clause_true v) clauses more
          ∙ and_from _ _ (told.extends x v h) (verdict_law graph x v nodes var own root some h same
          ∙ same_agree _ _ (ap v last ∙ e));
      only = λ x v read t.
          let both = and_parts _ _ (sym (list_all-append (clause_true v) clauses more) ∙ t) in
          let h = told.only x v read both.0 in (
            h,
            ap v (sym last)
                ∙ agree_same _ _ (sym (verdict_law graph x v nodes var own root some h same) ∙ both.1),
          );
      shows = λ x v h. words_same graph x v nodes new old h words;
      wide = words_wide nodes new old words;
    }
