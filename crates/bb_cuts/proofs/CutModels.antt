-- The models of the clauses of cuts are the numbers of sources.
use Rattle.std.specs.Prelude.{◌≡◌, refl, ℕ, zero, suc, ◌+◌, ◌<◌, ◌≤◌, ◌==◌, if◌then◌else◌, Bool}
use Rattle.std.specs.Prelude.{List, [], ◌∷◌, ◌++◌, sum, length, map, slice_index, slice_index_or, ℤ}
use Rattle.std.proofs.Common.{ap, sym, ◌∙◌, arith, subst, inl, inr}
use Rattle.std.proofs.lemmas.Bool.{cases_lt, eq-eqb, ne_eqb}
use Rattle.cnf_form.specs.Cnf.{Cnf}
use Rattle.bb_aig.specs.declared.node.AigNode.{AigNode}
use Rattle.bb_aig.specs.declared.node.AigNode.TheVariants as n
use Rattle.bb_aig.specs.Graph.{IsGraph, inputs_of, lit_at}
use Rattle.bb_aig.specs.Gates.{Meaning, IsMade}
use Rattle.bb_aig.proofs.AigGates.{first_value}
use Rattle.bb_words.specs.Words.{AreWords, Numbers, count}
use Rattle.bb_blast.specs.declared.places.Placed.{Placed}
use Rattle.bb_blast.specs.Choice.{InputsAreFirst, numbers_of, all_places}
use Rattle.bb_clauses.specs.Models.{AreTrue, ModelsAreNumbers, read_at, value_in}
use Rattle.bb_clauses.proofs.Inputs.{input_value}
use Rattle.bb_clauses.proofs.Joined.{inputs_in, ModelsAreChoices}
use Rattle.bb_clauses.proofs.Joined.{AreSame as AlikeInputs}
use Rattle.bb_clauses.proofs.Reading.{by_numbers, read_is}
use Rattle.bb_cuts.specs.Variables.{node_at, Stand, TellsCuts}
use Rattle.bb_cuts.proofs.CoverLaws.{var_some}

-- the values of the variables, and of the root behind them
abbrev values_with : List AigNode → ℕ → List ℕ → (ℕ → Bool) → ℕ → Bool
values_with graph root nodes x k =
    if k == length nodes then lit_at graph x root else node_at graph x (slice_index_or nodes k 0)

value_below : (graph : List AigNode) (root : ℕ) (nodes : List ℕ) (x : ℕ → Bool) (k : ℕ) → k < length nodes
    → values_with graph root nodes x k ≡ node_at graph x (slice_index_or nodes k 0)
value_below graph root nodes x k below =
    let pick : Bool → Bool =
    λ b. if b then lit_at graph x root else node_at graph x (slice_index_or nodes k 0) in
    ap pick (ne_eqb k (length nodes) (λ e. omega (arith, e, below)))

value_last : (graph : List AigNode) (root : ℕ) (nodes : List ℕ) (x : ℕ → Bool) (k : ℕ) → k ≡ length nodes
    → values_with graph root nodes x k ≡ lit_at graph x root
value_last graph root nodes x k is =
    let pick : Bool → Bool =
    λ b. if b then lit_at graph x root else node_at graph x (slice_index_or nodes k 0) in
    ap pick (eq-eqb k (length nodes) is)

-- these values are those of the nodes
values_stand : (graph : List AigNode) (root : ℕ) (nodes : List ℕ) (x : ℕ → Bool) → IsGraph graph
    → slice_index_or nodes 0 0 ≡ 0 → Stand graph x nodes (values_with graph root nodes x)
values_stand graph root nodes x g first zero below =
    sym (first_value graph x g.begins) ∙ ap (node_at graph x) (sym first)
values_stand graph root nodes x g first (suc k) below =
    var_some (values_with graph root nodes x) (suc k) (omega arith) ∙ value_below graph root nodes x (suc k) below

-- a literal of node 0
constant : (v x : ℕ → Bool) (l : ℕ) → l < 2 → value_in v l ≡ lit_at (n.False ∷ []) x l
constant v x zero below = refl
constant v x (suc zero) below = refl
constant v x (suc (suc l)) below = absurd (omega arith)

variables_same : (graph : List AigNode) (x v w : ℕ → Bool) (nodes : List ℕ) → Stand graph x nodes v
    → Stand graph x nodes w → (k : ℕ) → 1 ≤ k → k < length nodes → v k ≡ w k
variables_same graph x v w nodes h i k some below =
    sym (var_some v k some) ∙ h k below ∙ sym (i k below) ∙ var_some w k some

choices : (graph : List AigNode) (root inputs : ℕ) (holds : Meaning) (old new : List (List ℕ)) (formula : Cnf)
    → IsGraph graph → InputsAreFirst graph → inputs_of graph ≡ inputs → IsMade graph holds root
    → TellsCuts graph root old new formula → ModelsAreChoices inputs holds (n.False ∷ []) formula
choices graph root inputs holds old new formula g first count made t = record {
  before = t.before;
  last = t.last;
  verdict = λ v h. (t.only (inputs_in v) v (λ i below. refl) h).1 ∙ made.value (inputs_in v);
  complete = λ x.
      let v = values_with graph root t.nodes x in
      let same : AlikeInputs inputs (inputs_in v) x = λ i below.
      let less : i < inputs_of graph = omega (arith, count, below) in
      let there = t.inputs i less in
      value_below graph root t.nodes x (i + 1) there.0 ∙ ap (node_at graph x) there.1
      ∙ input_value graph x first i less in (
        v,
        t.extends x v (values_stand graph root t.nodes x g t.first)
            (value_last graph root t.nodes x formula.vars t.vars),
        same,
      );
  unique = λ v w h k same j some below.
      let x = inputs_in v in
      let one = t.only x v (λ i less. refl) h in
      let two = t.only x w (λ i less. sym (same i (omega (arith, count, less)))) k in
      elim (cases_lt j (length t.nodes)) [
        | inl lt ↦ variables_same graph x v w t.nodes one.0 two.0 j some lt
        | inr ge ↦
            let is : j ≡ formula.vars = omega (arith, t.vars, below, ge) in
            ap v is ∙ one.1 ∙ sym two.1 ∙ ap w (sym is)
      ];
  literal = λ v h l there. constant v (inputs_in v) l (omega (arith, there));
}

-- lists that end alike begin alike
begins_alike : {A : Type 0} (xs ys : List A) (a b : A) → xs ++ a ∷ [] ≡ ys ++ b ∷ [] → xs ≡ ys
begins_alike [] [] a b e = refl
begins_alike [] (y ∷ ys) a b e = absurd (longer y ys b e)
  where
    longer : {A : Type 0} {a : A} (y : A) (ys : List A) (b : A) → a ∷ [] ≡ y ∷ ys ++ b ∷ [] → ⊥
    longer y [] b e = cc
    longer y (z ∷ zs) b e = cc
begins_alike (x ∷ xs) [] a b e = absurd (shorter x xs a e)
  where
    shorter : {A : Type 0} {b : A} (x : A) (xs : List A) (a : A) → x ∷ xs ++ a ∷ [] ≡ b ∷ [] → ⊥
    shorter x [] a e = cc
    shorter x (z ∷ zs) a e = cc
begins_alike (x ∷ xs) (y ∷ ys) a b e =
    let head : x ≡ y = cc in
    let tail : xs ++ a ∷ [] ≡ ys ++ b ∷ [] = cc in
    ap (λ z. z ∷ xs) head ∙ ap (λ zs. y ∷ zs) (begins_alike xs ys a b tail)

-- what each item of a table comes to
pub each_item : (f : List ℕ → ℕ) (table : List (List ℕ)) (ns : List ℕ) → length table ≡ length ns
    → ((i : ℕ) → i < length table → f (slice_index_or table i []) ≡ slice_index ns i) → map f table ≡ ns
each_item f [] [] e h = refl
each_item f [] (n ∷ ns) e h = absurd (omega (arith, e))
each_item f (t ∷ ts) [] e h = absurd (omega (arith, e))
each_item f (t ∷ ts) (n ∷ ns) e h =
    ap (λ m. m ∷ map f ts) (h 0 (omega arith))
    ∙ ap (λ ms. n ∷ ms) (each_item f ts ns (omega (arith, e)) (λ i less. h (suc i) (omega (arith, less))))

-- the widths of words
pub words_wide : (graph : List AigNode) (widths : List ℕ) (means : Numbers) (table : List (List ℕ))
    → AreWords graph widths means table → map length table ≡ widths
words_wide graph widths means table words =
    each_item length table widths words.each (λ i less. (words.words i less).wide)

pub cut_models : (places : List Placed) (ws : List ℕ) (holds : List ℕ → Bool) (graph : List AigNode) (root : ℕ)
    (shown : List ℕ → List ℕ) (widths : List ℕ) (old new : List (List ℕ)) (formula : Cnf)
    → IsGraph graph → InputsAreFirst graph → inputs_of graph ≡ sum ws
    → IsMade graph (λ x. holds (numbers_of ws x)) root → places ≡ all_places 0 0 ws
    → AreWords graph widths (λ x. shown (numbers_of ws x)) old
    → ((ns : List ℕ) → length old ≡ length (shown ns))
    → TellsCuts graph root old new formula
    → ModelsAreNumbers ws (read_at places ws) holds shown new formula
cut_models places ws holds graph root shown widths old new formula g first count_is made e are each t =
    let none : AreWords (n.False ∷ []) [] (λ x. []) [] =
    record { each = refl; words = λ i below. absurd (omega (arith, below)) } in
    let m = by_numbers places ws holds (n.False ∷ []) (λ ns. []) [] [] formula e none (λ ns. refl)
    (choices graph root (sum ws) (λ x. holds (numbers_of ws x)) old new formula g first count_is made t) in
    let same : m.before ≡ t.before = begins_alike _ _ _ _ (sym m.last ∙ t.last) in
    record {
      before = m.before;
      last = m.last;
      verdict = m.verdict;
      complete = m.complete;
      unique = m.unique;
      shows = λ v h.
          let x = inputs_in v in
          let P : List (List ℤ) → Type 0 = λ cs. AreTrue cs v in
          let stand = (t.only x v (λ i below. refl) (subst P same h)).0 in
          t.shows x v stand
          ∙ each_item (count graph x) old (shown (numbers_of ws x)) (each (numbers_of ws x))
          (λ i less. (are.words i less).value x)
          ∙ ap shown (sym (read_is v places ws e));
    }
