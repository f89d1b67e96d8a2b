-- Watched nodes, and roots that are there.
use Rattle.std.specs.Prelude.{◌≡◌, refl, ℕ, zero, suc, ◌<◌, List, [], ◌∷◌}
use Rattle.std.specs.Prelude.{length, map, sum}
use Rattle.std.specs.Prelude.{slice_index, slice_index_or}
use Rattle.std.specs.List.{AllByRecursion}
use Rattle.std.proofs.Common.{ap, sym, arith, subst}
use Rattle.bb_aig.specs.declared.node.AigNode.{AigNode}
use Rattle.bb_aig.specs.Graph.{inputs_of}
use Rattle.wn_net.specs.declared.node.Node.{Node}
use Rattle.wn_net.specs.Width.{AreFitting}
use Rattle.wn_net.proofs.Small.{widths_small}
use Rattle.wn_net.proofs.Sweep.{length-widths}
use Rattle.bb_words.specs.Words.{Numbers, IsWord, AreWords}
use Rattle.bb_blast.specs.Choice.{HasInputsAlone, numbers_of, table_from}
use Rattle.bb_blast.specs.Walk.{sources, values_by, widths_by, AreWidths, Reads, AreReady, MeansNodes}
use Rattle.bb_blast.proofs.Nodes.{word_is}
use Rattle.bb_blast.proofs.Sources.{source_words}
use Rattle.bb_blast.proofs.Walking.{all_small}

pub all_there : (n m : ℕ) (ids : List ℕ) → n ≡ m → AllByRecursion (λ i. i < n) ids → AllByRecursion
    (λ i. i < m) ids
all_there n m ids e h = let P : ℕ → Type 0 = λ k. AllByRecursion (λ i. i < k) ids in subst P e h

pub ids_there : (wi : List ℕ) (nodes : List Node) (ids : List ℕ) → AllByRecursion (λ i. i < length nodes) ids
    → AllByRecursion (λ i. i < length (widths_by wi nodes)) ids
ids_there wi nodes ids h =
    let e : length nodes ≡ length (widths_by wi nodes) = omega (arith, length-widths (sources wi) [] nodes) in
    all_there (length nodes) (length (widths_by wi nodes)) ids e h

watch_here : (graph : List AigNode) (ws : List ℕ) (means : Numbers) (table : List (List ℕ)) (w : ℕ)
    (watch : List ℕ)
    → AreWords graph ws means table → w < length ws
    → AreWords graph (map (λ i. slice_index ws i) watch) (λ x. map (λ i. slice_index (means x) i) watch)
    (map (λ i. slice_index_or table i []) watch)
    → (i : ℕ) → i < length (map (λ i. slice_index_or table i []) (w ∷ watch))
    → IsWord graph (slice_index (map (λ i. slice_index ws i) (w ∷ watch)) i)
    (λ x. slice_index (map (λ i. slice_index (means x) i) (w ∷ watch)) i)
    (slice_index_or (map (λ i. slice_index_or table i []) (w ∷ watch)) i [])
watch_here graph ws means table w watch words there rest zero below =
    word_is graph ws means table w (slice_index_or table w []) refl words there
watch_here graph ws means table w watch words there rest (suc i) below = rest.words i (omega arith)

pub watch_words : (graph : List AigNode) (ws : List ℕ) (means : Numbers) (table : List (List ℕ)) (watch : List ℕ)
    → AreWords graph ws means table → AllByRecursion (λ i. i < length ws) watch
    → AreWords graph (map (λ i. slice_index ws i) watch) (λ x. map (λ i. slice_index (means x) i) watch)
    (map (λ i. slice_index_or table i []) watch)
watch_words graph ws means table [] words there = record { each = refl; words = λ i below. absurd (omega arith) }
watch_words graph ws means table (w ∷ watch) words there =
    let rest = watch_words graph ws means table watch words there.1 in
    record { each = ap suc rest.each; words = watch_here graph ws means table w watch words there.0 rest }

-- the words of the sources
pub given_words : (graph : List AigNode) (wi : List ℕ) (inputs : List (List ℕ)) → HasInputsAlone graph
    → inputs_of graph ≡ sum wi → inputs ≡ table_from 0 wi → AreWords graph wi (numbers_of wi) inputs
given_words graph wi inputs first count e =
    let P : List (List ℕ) → Type 0 = λ t. AreWords graph wi (numbers_of wi) t in
    subst P (sym e) (source_words graph first 0 wi (omega (arith, count)))

-- the walk may begin
pub ready : (graph : List AigNode) (wi : List ℕ) (nodes : List Node) (inputs : List (List ℕ)) → AreWidths wi
    → AreFitting (sources wi) [] nodes → HasInputsAlone graph → inputs_of graph ≡ sum wi
    → inputs ≡ table_from 0 wi
    → AreReady graph inputs nodes
ready graph wi nodes inputs small fits first count e = record {
  input_widths = wi;
  given = numbers_of wi;
  small = small;
  inputs_are = given_words graph wi inputs first count e;
  fitting = fits;
}

-- and comes to the words of all nodes
pub walked : (start shown new : List AigNode) (wi : List ℕ) (nodes : List Node) (inputs table : List (List ℕ))
    → AreWidths wi → AreFitting (sources wi) [] nodes → HasInputsAlone start → inputs_of start ≡ sum wi
    → inputs ≡ table_from 0 wi → shown ≡ start → MeansNodes shown new inputs nodes table
    → AreWords new (widths_by wi nodes) (λ x. values_by wi nodes (numbers_of wi x)) table
walked start shown new wi nodes inputs table small fits first count e is made =
    let P : List AigNode → Type 0 = λ g. AreWords g wi (numbers_of wi) inputs in
    made wi (numbers_of wi) small fits (subst P (sym is) (given_words start wi inputs first count e))

pub roots_ready : (graph : List AigNode) (wi : List ℕ) (nodes : List Node) (table : List (List ℕ))
    (roots : List ℕ)
    → AreWidths wi → AreFitting (sources wi) [] nodes
    → AreWords graph (widths_by wi nodes) (λ x. values_by wi nodes (numbers_of wi x)) table
    → AllByRecursion (λ i. i < length nodes) roots
    → Reads graph table (λ ws. AllByRecursion (λ i. i < length ws) roots)
roots_ready graph wi nodes table roots small fits words there = record {
  node_widths = widths_by wi nodes;
  means = λ x. values_by wi nodes (numbers_of wi x);
  small = widths_small (sources wi) [] nodes (all_small wi small) (λ i below. absurd (omega arith)) fits;
  words = words;
  fitting = ids_there wi nodes roots there;
}
