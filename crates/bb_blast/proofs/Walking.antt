-- The walk over nodes.
use Rattle.std.specs.Prelude.{◌≡◌, refl, ℕ, ◌+◌, ◌<◌, ◌≤◌, Bool, List, [], ◌∷◌, ◌++◌}
use Rattle.std.specs.Prelude.{length, slice_index}
use Rattle.std.specs.Prelude.{slice_index_or}
use Rattle.std.proofs.Common.{ap, sym, ◌∙◌, arith, subst, inl, inr, ◌⊎◌}
use Rattle.std.proofs.lemmas.List.{get_or_append_left, get_or_push, length_push}
use Rattle.std.proofs.lemmas.Bool.{cases_lt}
use Rattle.bb_aig.specs.declared.node.AigNode.{AigNode}
use Rattle.bb_aig.specs.Bits.{number}
use Rattle.bb_aig.specs.Gates.{Grows, AreLits, bits}
use Rattle.wn_net.specs.declared.node.Node.{Node}
use Rattle.wn_net.specs.Width.{AreFitting, width, widths}
use Rattle.wn_net.specs.Value.{value, values}
use Rattle.wn_net.proofs.Small.{AreSmall, width_small, widths_push}
use Rattle.bb_words.specs.Words.{Counts, Numbers, IsWord, AreWords}
use Rattle.bb_blast.specs.Walk.{sources, given_by, values_by, widths_by, AreWidths, IsReady, MeansNode}
use Rattle.bb_blast.proofs.Nodes.{words_on}

-- one more word behind the others
pub words_push : (graph : List AigNode) (ws : List ℕ) (means : Numbers) (table : List (List ℕ)) (w : ℕ)
    (m : Counts)
    (lits : List ℕ) → ((x : ℕ → Bool) → length (means x) ≡ length ws) → AreWords graph ws means table
    → IsWord graph w m lits → AreWords graph (ws ++ w ∷ []) (λ x. means x ++ m x ∷ []) (table ++ lits ∷ [])
words_push graph ws means table w m lits long h k = record {
  each = length_push table lits ∙ ap (λ n. n + 1) h.each ∙ sym (length_push ws w);
  words = λ i below. here i below (cases_lt i (length table));
}
  where
    here : (i : ℕ) → i < length (table ++ lits ∷ []) → (i < length table) ⊎ (length table ≤ i)
        → IsWord graph (slice_index (ws ++ w ∷ []) i) (λ x. slice_index (means x ++ m x ∷ []) i)
        (slice_index_or (table ++ lits ∷ []) i [])
    here i below (inl lt) =
        let own = h.words i lt in
        let W : slice_index ws i ≡ slice_index (ws ++ w ∷ []) i = sym
        (get_or_append_left ws (w ∷ []) 0 i (omega (arith, h.each))) in
        let L : slice_index_or table i [] ≡ slice_index_or (table ++ lits ∷ []) i [] = sym
        (get_or_append_left table (lits ∷ []) [] i lt) in
        record {
          there = let P : List ℕ → Type 0 = λ ls. AreLits graph ls in subst P L own.there;
          wide = ap length (sym L) ∙ own.wide ∙ W;
          value = λ x.
              ap (λ ls. number (bits graph x ls)) (sym L) ∙ own.value x
              ∙ sym (get_or_append_left (means x) (m x ∷ []) 0 i (omega (arith, h.each, long x)));
        }
    here i below (inr ge) =
        let is : length table ≡ i = omega (arith, length_push table lits) in
        let W : slice_index (ws ++ w ∷ []) i ≡ w = get_or_push ws w 0 i (omega (arith, h.each)) in
        let L : slice_index_or (table ++ lits ∷ []) i [] ≡ lits = get_or_push table lits [] i is in
        record {
          there = let P : List ℕ → Type 0 = λ ls. AreLits graph ls in subst P (sym L) k.there;
          wide = ap length L ∙ k.wide ∙ sym W;
          value = λ x.
              ap (λ ls. number (bits graph x ls)) L ∙ k.value x
              ∙ sym (get_or_push (means x) (m x) 0 i (omega (arith, h.each, long x)));
        }

-- What the walk keeps: behind these words the nodes that are left have all widths and all values.
pub record Blasting (now : List AigNode) (wi : List ℕ) (given : Numbers) (table : List (List ℕ))
    (left nodes : List Node) : Type 0 where
  pub ws : List ℕ
  pub means : Numbers
  pub long : (x : ℕ → Bool) → length (means x) ≡ length ws
  pub small : AreWidths ws
  pub words : AreWords now ws means table
  pub fitting : AreFitting (sources wi) ws left
  pub widths_are : widths (sources wi) ws left ≡ widths_by wi nodes
  pub values_are : (x : ℕ → Bool)
      → values (sources wi) (given_by (given x)) ws (means x) left ≡ values_by wi nodes (given x)

pub blasting_none : (graph : List AigNode) (wi : List ℕ) (given : Numbers) (nodes : List Node)
    → AreFitting (sources wi) [] nodes → Blasting graph wi given [] nodes nodes
blasting_none graph wi given nodes fits = record {
  ws = [];
  means = λ x. [];
  long = λ x. refl;
  small = λ i below. absurd (omega arith);
  words = record { each = refl; words = λ i below. absurd (omega arith) };
  fitting = fits;
  widths_are = refl;
  values_are = λ x. refl;
}

pub all_small : (wi : List ℕ) → AreWidths wi → AreSmall (sources wi)
all_small wi h = record { inputs = h; regs = λ i below. absurd (omega arith); mems = λ i below. absurd (omega arith) }

pub blasting_next : (now new : List AigNode) (wi : List ℕ) (given : Numbers) (inputs table : List (List ℕ))
    (node : Node) (left nodes : List Node) (lits : List ℕ) → AreWidths wi → Grows now new
    → AreWords now wi given inputs → MeansNode now new inputs table node lits
    → Blasting now wi given table (node ∷ left) nodes → Blasting new wi given (table ++ lits ∷ []) left nodes
blasting_next now new wi given inputs table node left nodes lits wide grows ins made h =
    let w = width (sources wi) h.ws node in
    let v = λ (x : ℕ → Bool). value (given_by (given x)) h.ws (h.means x) node in
    record {
      ws = h.ws ++ w ∷ [];
      means = λ x. h.means x ++ v x ∷ [];
      long = λ x. length_push (h.means x) (v x) ∙ ap (λ n. n + 1) (h.long x) ∙ sym (length_push h.ws w);
      small = widths_push h.ws w h.small (width_small (sources wi) h.ws node (all_small wi wide) h.small h.fitting.0);
      words =
          words_push new h.ws h.means table w v lits h.long (words_on now new h.ws h.means table grows h.words)
          (made wi h.ws given h.means h.fitting.0 ins h.words);
      fitting = h.fitting.1;
      widths_are = h.widths_are;
      values_are = h.values_are;
    }

pub blasted_all : (now : List AigNode) (wi : List ℕ) (given : Numbers) (table : List (List ℕ)) (nodes : List Node)
    → Blasting now wi given table [] nodes
    → AreWords now (widths_by wi nodes) (λ x. values_by wi nodes (given x)) table
blasted_all now wi given table nodes h =
    let P : List ℕ → Type 0 = λ ws. AreWords now ws h.means table in
    let wide = subst P h.widths_are h.words in
    record {
      each = wide.each;
      words = λ i below.
          let own = wide.words i below in
          record {
            there = own.there;
            wide = own.wide;
            value = λ x. own.value x ∙ ap (λ vs. slice_index vs i) (h.values_are x);
          };
    }

-- the node at a place is ready
pub node_ready : (now : List AigNode) (wi : List ℕ) (given : Numbers) (inputs table : List (List ℕ)) (node : Node)
    (left nodes : List Node) → AreWords now wi given inputs → Blasting now wi given table (node ∷ left) nodes
    → IsReady now inputs table node
node_ready now wi given inputs table node left nodes ins h = record {
  input_widths = wi;
  given = given;
  inputs_are = ins;
  node_widths = h.ws;
  means = h.means;
  small = h.small;
  words = h.words;
  fitting = h.fitting.0;
}
