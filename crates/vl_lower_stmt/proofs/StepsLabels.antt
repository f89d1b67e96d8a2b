-- Labels of a case, as a node that says whether one of them matches.
use Rattle.std.specs.Prelude.{◌≡◌, refl, ℕ, ◌==◌, bit_or, Bool, true, false, ◌||◌, List, [], ◌∷◌, ◌++◌, Option}
use Rattle.std.proofs.Common.{ap, sym, ◌∙◌}
use Rattle.fv_bits.specs.Bits.{bit}
use Rattle.vl_tree.specs.declared.stmt.CaseKind.{CaseKind}
use Rattle.vl_tree.specs.Expr.{Expr}
use Rattle.vl_size.specs.declared.decl.Decl.{Decl}
use Rattle.vl_size.specs.Size.{Values}
use Rattle.vl_mean.specs.Execution.{matches, wild_bits}
use Rattle.vl_mean.specs.FlatLaw.{flat_scopes}
use Rattle.vl_mean.specs.Scopes.{operand_in}
use Rattle.wn_net.specs.Value.{Given}
use Rattle.wn_net.specs.Net.{Netlist, IsNodeOf, value_at}
use Rattle.wn_net.specs.Given.{IsGiven}
use Rattle.wn_net.specs.Changes.{AddsNodes, Shows}
use Rattle.wn_net.proofs.Laws.{adds_on, given_on, node_on, value_on}
use Rattle.vl_lower_expr.proofs.Compose.{bits_or}
use Rattle.vl_lower_assign.specs.Frames.{AreCellsOf}
use Rattle.vl_lower_assign.proofs.Behind.{stand_on}
use Rattle.vl_lower_stmt.specs.StepsArms.{number_or}
use Rattle.vl_lower_stmt.specs.Executes.{Evaluates, Matches}

or_none_false : (b : Bool) → b ≡ (b || false)
or_none_false true = refl
or_none_false false = refl

or_assoc : (a b c : Bool) → (a || (b || c)) ≡ ((a || b) || c)
or_assoc true b c = refl
or_assoc false b c = refl

-- the node of a word, and the wild bits of a label, stay
pub word_on : (old mid new : Netlist) (w id : ℕ) → AddsNodes old mid → AddsNodes mid new → IsNodeOf old w id
    → IsNodeOf new w id
word_on old mid new w id one two there = node_on old new w id (adds_on old mid new one two) there

module _ (ds : List Decl) (cells : List ℕ) (kind : CaseKind) (width : ℕ) (signed : Bool) (word : ℕ) where
  matches_behind : (v : Values) (x : ℕ) (es : List Expr) (e : Expr)
      → (matches (flat_scopes ds) kind v width signed x es
      || matches (flat_scopes ds) kind v width signed x (e ∷ []))
      ≡ matches (flat_scopes ds) kind v width signed x (es ++ e ∷ [])
  matches_behind v x [] e = refl
  matches_behind v x (y ∷ ys) e =
      let wild = wild_bits kind width signed y in
      let first = bit_or ((operand_in (flat_scopes ds) v y).at width signed) wild == bit_or x wild in
      sym (or_assoc first (matches (flat_scopes ds) kind v width signed x ys)
      (matches (flat_scopes ds) kind v width signed x (e ∷ [])))
      ∙ ap (λ b. first || b) (matches_behind v x ys e)

  -- none matches
  pub matches_none : (old new : Netlist) (id : ℕ) → AddsNodes old new → Shows old new 1 (λ g. 0) id
      → Matches ds old new cells kind width signed word [] id
  matches_none old new id adds shows = record {
    adds = adds;
    node = shows.node;
    value = λ g v given has. shows.value g given;
  }

  -- one label has the number of the word, but for its wild bits
  pub matches_one : (old a b new : Netlist) (e : Expr) (node id : ℕ) (wild : Option ℕ) → IsNodeOf old width word
      → Evaluates ds old a cells width (λ v. (operand_in (flat_scopes ds) v e).at width signed) node → AddsNodes a b
      → ((g : Given) → IsGiven a g → number_or b g wild ≡ wild_bits kind width signed e) → AddsNodes b new
      → Shows b new 1 (λ g. bit (bit_or (value_at b g node) (number_or b g wild)
      == bit_or (value_at b g word) (number_or b g wild))) id
      → Matches ds old new cells kind width signed word (e ∷ []) id
  matches_one old a b new e node id wild there one two wilds three shows =
      let before = adds_on old a b one.adds two in
      record {
        adds = adds_on old b new before three;
        node = shows.node;
        value = λ g v given has.
            let given_a = given_on old a g one.adds given in
            let label = value_on a b g node two one.node.0 ∙ one.value g v given has in
            let own = value_on old b g word before there.0 in
            let bits = wilds g given_a in
            shows.value g (given_on old b g before given)
            ∙ (λ i. bit (bit_or (label i) (bits i) == bit_or (own i) (bits i)))
            ∙ ap bit (or_none_false (bit_or ((operand_in (flat_scopes ds) v e).at width signed)
            (wild_bits kind width signed e)
            == bit_or (value_at old g word) (wild_bits kind width signed e)));
      }

  -- one label more
  pub matches_more : (old mid at new : Netlist) (es : List Expr) (e : Expr) (some one id : ℕ) → AreCellsOf old ds cells
      → IsNodeOf old width word → Matches ds old mid cells kind width signed word es some
      → Matches ds mid at cells kind width signed word (e ∷ []) one → AddsNodes at new
      → Shows at new 1 (λ g. bit_or (value_at at g some) (value_at at g one)) id
      → Matches ds old new cells kind width signed word (es ++ e ∷ []) id
  matches_more old mid at new es e some one id own there first last adds shows =
      let before = adds_on old mid at first.adds last.adds in
      record {
        adds = adds_on old at new before adds;
        node = shows.node;
        value = λ g v given has.
            let x = value_at old g word in
            let given_mid = given_on old mid g first.adds given in
            let stands = stand_on old mid g ds cells v first.adds own has in
            let front = value_on mid at g some last.adds first.node.0 ∙ first.value g v given has in
            let back = last.value g v given_mid stands
            ∙ ap (λ n. bit (matches (flat_scopes ds) kind v width signed n (e ∷ [])))
            (value_on old mid g word first.adds there.0) in
            shows.value g (given_on old at g before given) ∙ (λ i. bit_or (front i) (back i))
            ∙ bits_or (matches (flat_scopes ds) kind v width signed x es)
            (matches (flat_scopes ds) kind v width signed x (e ∷ []))
            ∙ ap bit (matches_behind v x es e);
      }
