-- Words of a memory of the net, read there.
use Rattle.std.specs.Prelude.{◌≡◌, refl, ℕ, zero, suc, ◌<◌, ◌≤◌, nat_lt, Bool, true, false, List, [], ◌∷◌, length, map}
use Rattle.std.specs.Prelude.{slice_index, slice_index_or, slice_get, Some, ◌++◌}
use Rattle.std.proofs.Common.{ap, sym, ◌∙◌, arith, subst}
use Rattle.std.proofs.lemmas.Bool.Decides.{nat_tests}
use Rattle.std.proofs.lemmas.List.{get_or_past, get_or-map, length-map}
use Rattle.wn_net.specs.declared.node.Node.{Node}
use Rattle.wn_net.specs.declared.node.Node.TheVariants as n
use Rattle.wn_net.specs.declared.parts.Mem.{Mem}
use Rattle.wn_net.specs.Width.{AreFitting, IsFitting, Shape, width}
use Rattle.wn_net.specs.Value.{Given, word_at, words_at, words_of}
use Rattle.wn_net.specs.Given.{AreMemsOf, IsGiven}
use Rattle.wn_net.specs.Net.{Netlist, IsNet, IsNode, AreNodes, shape_of, value_at, width_at}
use Rattle.wn_net.specs.Changes.{mem_width}
use Rattle.wn_run.proofs.Own.{each_value, each_width}
use Rattle.wn_mem.specs.Words.{AreWordsOf, numbers_of}

-- a memory has as many words as it says
pub words_long : (ms : List Mem) (all : List (List ℕ)) (m : ℕ) → AreMemsOf ms all → m < length ms
    → length (words_at all m) ≡ slice_index (map (λ x. x.words) ms) m
words_long [] all m h below = absurd (omega arith)
words_long (x ∷ xs) [] m h below = absurd h
words_long (x ∷ xs) (words ∷ rest) zero h below = h.0.each
words_long (x ∷ xs) (words ∷ rest) (suc m) h below = words_long xs rest m h.1 (omega arith)

-- the word at an address, wherever it is
pub read_whole : (net : Netlist) (g : Given) (words : List ℕ) (m a : ℕ) → IsGiven net g → AreWordsOf net words m
    → word_at (words_of g m) a ≡ word_at (numbers_of net g words) a
read_whole net g words m a given h = by (nat_lt a (length words)) refl
  where
    by : (b : Bool) → nat_lt a (length words) ≡ b → word_at (words_of g m) a ≡ word_at (numbers_of net g words) a
    by true t =
        let less : a < length words = grind (arith, nat_tests, t) in
        sym (get_or-map (value_at net g) words a 0 0 less ∙ h.numbers g a less)
    by false t =
        let past : length words ≤ a = grind (arith, nat_tests, t) in
        get_or_past (words_of g m) a 0
        (omega (arith, past, words_long net.mems g.state.mems m given.state.mems h.there, h.count))
        ∙ sym (get_or_past (numbers_of net g words) a 0 (omega (arith, past, length-map words (value_at net g))))

-- ---- words read at constant addresses

found : (xs : List Node) (i : ℕ) (y z : Node) → i < length xs → slice_index_or xs i y ≡ z → slice_get xs i ≡ Some z
found [] i y z h e = absurd (omega arith)
found (u ∷ us) zero y z h e = ap Some e
found (u ∷ us) (suc i) y z h e = found us i y z (omega arith) e

-- the node as a list without its default has it
pub found_in : (net : Netlist) (nodes : List Node) (id : ℕ) (z d : Node) → nodes ≡ net.nodes → id < length net.nodes
    → slice_index_or nodes id d ≡ z → slice_get net.nodes id ≡ Some z
found_in net nodes id z d nodes_are below read =
    let P : List Node → Type 0 = λ xs. slice_get xs id ≡ Some z in
    subst P nodes_are (found nodes id d z (omega (arith, ap length nodes_are, below)) read)

fitting_there : (s : Shape) (ws : List ℕ) (xs : List Node) (i m a : ℕ) → AreFitting s ws xs
    → slice_get xs i ≡ Some (n.Read m a) → m < length s.mems
fitting_there s ws [] zero m a fits at = absurd (ne at)
  where
    ne : slice_get {X = Node} [] 0 ≡ Some (n.Read m a) → ⊥
    ne e = cc
fitting_there s ws [] (suc i) m a fits at = absurd (ne at)
  where
    ne : slice_get {X = Node} [] (suc i) ≡ Some (n.Read m a) → ⊥
    ne e = cc
fitting_there s ws (x ∷ xs) zero m a fits at =
    let P : Node → Type 0 = λ z. IsFitting s ws z in
    let own : IsFitting s ws (n.Read m a) = subst P (inj at) fits.0 in
    own.0
  where
    inj : Some x ≡ Some (n.Read m a) → x ≡ n.Read m a
    inj e = cc
fitting_there s ws (x ∷ xs) (suc i) m a fits at = fitting_there s (ws ++ width s ws x ∷ []) xs i m a fits.1 at

pub word_there : (net : Netlist) (id m a : ℕ) → IsNet net → slice_get net.nodes id ≡ Some (n.Read m a)
    → m < length net.mems
word_there net id m a whole at =
    omega (arith, fitting_there (shape_of net) [] net.nodes id m a whole.nodes at, length-map net.mems (λ x. x.width))

pub word_width : (net : Netlist) (id m a : ℕ) → IsNet net → slice_get net.nodes id ≡ Some (n.Read m a)
    → width_at net id ≡ mem_width net m
word_width net id m a whole at = each_width net id (n.Read m a) whole at

pub word_value : (net : Netlist) (g : Given) (id m a k : ℕ) → IsNet net
    → slice_get net.nodes id ≡ Some (n.Read m a) → value_at net g a ≡ k
    → value_at net g id ≡ word_at (words_of g m) k
unfolding value_at
word_value net g id m a k whole at is = each_value net g id (n.Read m a) whole at ∙ ap (word_at (words_of g m)) is

-- nodes of a list are nodes
pub node_in : (net : Netlist) (ids : List ℕ) (k : ℕ) → AreNodes net ids → k < length ids
    → IsNode net (slice_index ids k)
node_in net [] k own below = absurd (omega arith)
node_in net (x ∷ xs) zero own below = own.0
node_in net (x ∷ xs) (suc k) own below = node_in net xs k own.1 (omega arith)
