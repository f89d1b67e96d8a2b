-- One operator each: what is answered, and what it shows.
use Rattle.std.specs.Prelude.{◌≡◌, ℕ, ◌^◌, ◌<◌, ◌≤◌, [], ◌∷◌, ◌++◌, length, Some, None, slice_get}
use Rattle.std.proofs.Common.{ap, sym, ◌∙◌, arith, subst, ◌⊎◌, inl, inr}
use Rattle.fv_graph.proofs.Lists.{get_less, get_last, get_cases, length_more}
use Rattle.fv_text.specs.declared.word.Word.{Word}
use Rattle.fv_text.specs.Word.{number}
use Rattle.wn_net.specs.declared.node.Node.{Node}
use Rattle.wn_net.specs.declared.node.Node.TheVariants as n
use Rattle.wn_net.specs.Net.{Netlist, IsNet}
use Rattle.wn_net.specs.Changes.{AddsNodes, Shows, cut_to, width_in, value_in, with_node}
use Rattle.wn_net.proofs.Laws.{adds_none, cut_nodes_back}
use Rattle.wn_net.proofs.Stays.{with_node_builds}
use Rattle.wn_run.proofs.Own.{each_value, each_width}
use Rattle.wn_opt.specs.declared.fold.Folded.{Folded}
use Rattle.wn_opt.specs.declared.table.Table.{Table}
use Rattle.wn_opt.specs.Folding.{folded}
use Rattle.wn_opt.specs.Hashing.{IsFirst, IsOnce, IsNumber, Gives, Answers}
use Rattle.wn_opt.specs.Sound.{IsSame, IsConstant, IsLike, IsSound}
use Rattle.wn_opt.specs.Table.{IsOperator, IsTableOf, place_in}

-- ---- an equal one is there

module _ (old new : Netlist) (t : Table) (x : Node) (id : ℕ) (h : IsTableOf old.nodes t)
    (found : place_in t x ≡ Some id) (same : new ≡ old) where
  pub once_found : IsOnce old new x id
  once_found =
      let first = h.first x id found in
      record {
        first = subst (λ m. IsFirst m.nodes x id) (sym same) first;
        known = λ k e. same;
        added = λ none. absurd (none id first.there);
      }

  pub shows_found : IsNet old → Shows old new (width_in old x) (λ g. value_in old g x) id
  shows_found whole =
      let there = (h.first x id found).there in
      subst (λ m. Shows old m (width_in old x) (λ g. value_in old g x) id) (sym same) (record {
        node = (get_less old.nodes id x there, each_width old id x whole there);
        value = λ g given. each_value old g id x whole there;
      })

  pub adds_found : AddsNodes old new
  adds_found = subst (AddsNodes old) (sym same) (adds_none old)

-- ---- none was there

module _ (old new : Netlist) (t : Table) (x : Node) (id : ℕ) (h : IsTableOf old.nodes t) (op : IsOperator x)
    (absent : place_in t x ≡ None) (last : id ≡ length old.nodes) (is : new ≡ with_node old x) where
  pub once_added : IsOnce old new x id
  once_added = record {
    first =
        subst (λ m. IsFirst m.nodes x id) (sym is)
        (subst (λ k. IsFirst (old.nodes ++ x ∷ []) x k) (sym last) (record {
          there = get_last old.nodes x;
          first = λ k low e. before k low (get_cases old.nodes x k x e);
        }));
    known = λ k e. absurd (h.whole x k op e absent);
    added = λ none. is;
  }
    where
      before : (k : ℕ) → k < length old.nodes → (slice_get old.nodes k ≡ Some x) ⊎ ((k ≡ length old.nodes) × (x ≡ x))
          → ⊥
      before k low (inl e) = h.whole x k op e absent
      before k low (inr e) = omega (arith, low, e.0)

  pub shows_added : Shows old new (width_in old x) (λ g. value_in old g x) id
  shows_added =
      let built = with_node_builds old x in
      let there : length old.nodes < length (old.nodes ++ x ∷ []) = omega (arith, length_more old.nodes x) in
      subst (λ m. Shows old m (width_in old x) (λ g. value_in old g x) id) (sym is)
      (subst (λ k. Shows old (with_node old x) (width_in old x) (λ g. value_in old g x) k) (sym last) (record {
        node = (there, built.width);
        value = λ g given. built.value g;
      }))

  pub adds_added : AddsNodes old new
  adds_added = subst (AddsNodes old) (sym is) (with_node_builds old x).adds

-- ---- what a call comes to

pub shows_same : (old new : Netlist) (x : Node) (id : ℕ) → IsSame old x id → new ≡ old
    → Shows old new (width_in old x) (λ g. value_in old g x) id
shows_same old new x id h e =
    subst (λ m. Shows old m (width_in old x) (λ g. value_in old g x) id) (sym e)
    (record { node = h.node; value = h.value })

pub shows_number : (old new : Netlist) (x : Node) (width value id : ℕ) → IsConstant old x width value
    → Shows old new width (λ g. value) id → Shows old new (width_in old x) (λ g. value_in old g x) id
shows_number old new x width value id h s = record {
  node = (s.node.0, s.node.1 ∙ h.width_is);
  value = λ g given. s.value g given ∙ h.value g given;
}

pub shows_like : (old new : Netlist) (x y : Node) (id : ℕ) → IsLike old x y
    → Shows old new (width_in old y) (λ g. value_in old g y) id
    → Shows old new (width_in old x) (λ g. value_in old g x) id
shows_like old new x y id h s = record {
  node = (s.node.0, s.node.1 ∙ h.width);
  value = λ g given. s.value g given ∙ h.value g given;
}

pub sound_as : (old : Netlist) (x : Node) (a b : Folded) → a ≡ b → IsSound old x a → IsSound old x b
sound_as old x a b e h = subst (IsSound old x) e h

pub answers_as : (old new : Netlist) (x : Node) (a b : Folded) (id : ℕ) → a ≡ folded old x → a ≡ b → Gives old new b id
    → Answers old new x id
answers_as old new x a b id e g h = subst (λ fold. Gives old new fold id) (sym g ∙ e) h

-- a constant, of which the word is known
pub is_number : (old new : Netlist) (word : Word) (width value id : ℕ) → word.width ≡ width → number word ≡ value
    → word.low < 2 ^ 64 → IsOnce old new (n.Konst word) id → IsNumber old new width value id
is_number old new word width value id e g low h =
    record { word = word; width_is = e; value_is = g; low_half = low; once = h }

pub shows_word : (old new : Netlist) (word : Word) (width value id : ℕ) → word.width ≡ width → number word ≡ value
    → Shows old new (width_in old (n.Konst word)) (λ g. value_in old g (n.Konst word)) id
    → Shows old new width (λ g. value) id
shows_word old new word width value id e h s = record {
  node = (s.node.0, s.node.1 ∙ e);
  value = λ g given. s.value g given ∙ h;
}

-- what is cut back is as it was
pub cut_is : (old mid : Netlist) (x : Node) (nodes regs : ℕ) → mid ≡ with_node old x → nodes ≡ length old.nodes
    → regs ≡ length old.regs → cut_to nodes regs mid ≡ old
cut_is old mid x nodes regs e f g =
    (λ i. cut_to (f i) (g i) (e i)) ∙ cut_nodes_back old (with_node old x) (with_node_builds old x).adds

pub cut_whole : (old mid : Netlist) (x : Node) (nodes regs : ℕ) → mid ≡ with_node old x → nodes ≡ length old.nodes
    → regs ≡ length old.regs → IsNet old → IsNet (cut_to nodes regs mid)
cut_whole old mid x nodes regs e f g whole = subst IsNet (sym (cut_is old mid x nodes regs e f g)) whole

pub cut_fewer : (old mid : Netlist) (x : Node) (nodes : ℕ) → mid ≡ with_node old x → nodes ≡ length old.nodes
    → nodes ≤ length mid.nodes
cut_fewer old mid x nodes e f = omega (arith, f, ap (λ m. length m.nodes) e, length_more old.nodes x)

pub cut_regs : (old mid : Netlist) (x : Node) (regs : ℕ) → mid ≡ with_node old x → regs ≡ length old.regs
    → regs ≤ length mid.regs
cut_regs old mid x regs e f = omega (arith, f, ap (λ m. length m.regs) e)

-- the table of a net with one more node
pub table_added : (old mid : Netlist) (t u : Table) (x : Node) (id : ℕ) → mid ≡ with_node old x
    → IsTableOf (old.nodes ++ x ∷ []) u → IsTableOf mid.nodes u
table_added old mid t u x id e h = subst (λ m. IsTableOf m.nodes u) (sym e) h
