-- Roots that are all other than 0.
use Rattle.std.specs.Prelude.{◌≡◌, refl, ℕ, zero, suc, ◌+◌, ◌<◌, ◌≤◌, ◌==◌, Bool, true}
use Rattle.std.specs.Prelude.{false, not, ◌&&◌, List, []}
use Rattle.std.specs.Prelude.{◌∷◌, length}
use Rattle.std.specs.Prelude.{drop, slice_index, slice_index_or}
use Rattle.std.specs.List.{AllByRecursion}
use Rattle.std.proofs.Common.{ap, sym, ◌∙◌, arith}
use Rattle.std.proofs.lemmas.List.{drop_more, drop_all}
use Rattle.bb_aig.specs.declared.node.AigNode.{AigNode}
use Rattle.bb_aig.specs.Graph.{IsLit, lit_at}
use Rattle.bb_aig.specs.Bits.{any_bit}
use Rattle.bb_aig.proofs.All.{ordered}
use Rattle.bb_aig.specs.Gates.{Meaning, Grows, IsMade, bits}
use Rattle.bb_aig.proofs.Growth.{grows_none, grows_on, made_on}
use Rattle.bb_words.specs.Words.{Numbers, AreWords}
use Rattle.bb_blast.specs.Walk.{all_other_than_0}
use Rattle.bb_blast.proofs.Nodes.{word_is, word_on}

-- What the loop keeps: what is found so far with the roots that are left is what all roots give.
pub record Rooting (old now : List AigNode) (table : List (List ℕ)) (roots : List ℕ) (i all : ℕ) : Type 0 where
  pub grows : Grows old now
  pub there : IsLit now all
  pub value : (ws : List ℕ) (means : Numbers) → AllByRecursion (λ i. i < length ws) roots
      → AreWords old ws means table → (x : ℕ → Bool)
      → (lit_at now x all && all_other_than_0 (means x) (drop i roots)) ≡ all_other_than_0 (means x) roots

pub rooting_none : (old : List AigNode) (table : List (List ℕ)) (roots : List ℕ) (all : ℕ)
    → IsMade old (λ x. true) all → Rooting old old table roots 0 all
rooting_none old table roots all is_yes = record {
  grows = grows_none old;
  there = is_yes.there;
  value = λ ws means ins words x. ap (λ b. b && all_other_than_0 (means x) roots) (is_yes.value x);
}

and_assoc : (a b c : Bool) → ((a && b) && c) ≡ (a && (b && c))
and_assoc true b c = refl
and_assoc false b c = refl

pub root_in : (n : ℕ) (roots : List ℕ) (i d : ℕ) → AllByRecursion (λ i. i < n) roots → i < length roots
    → slice_index_or roots i d < n
root_in n [] i d h below = absurd (omega arith)
root_in n (r ∷ rs) zero d h below = h.0
root_in n (r ∷ rs) (suc i) d h below = root_in n rs i d h.1 (omega arith)

-- one more root
pub rooting_next : (old now mid new : List AigNode) (table : List (List ℕ)) (roots : List ℕ)
    (i d all none any next : ℕ) (word : List ℕ) → i < length roots → word ≡ slice_index_or table
    (slice_index_or roots i d) []
    → Rooting old now table roots i all → IsMade now (λ x. false) none → Grows now mid
    → IsMade mid (λ x. any_bit (lit_at now x none) (bits now x word)) any → Grows mid new
    → ((f h : Meaning) → IsMade mid f all → IsMade mid h any → IsMade new (λ x. f x && h x) next)
    → Rooting old new table roots (i + 1) next
rooting_next old now mid new table roots i d all none any next word within e h is_no grows is more both =
    let f : Meaning = λ x. lit_at now x all in
    let g : Meaning = λ x. any_bit (lit_at now x none) (bits now x word) in
    let own : IsMade now f all = record { there = h.there; value = λ x. refl } in
    let made = both f g (made_on now mid f all grows own) is in
    record {
      grows = grows_on old mid new (grows_on old now mid h.grows grows) more;
      there = made.there;
      value = λ ws means ins words x.
          let root = slice_index_or roots i d in
          let there = root_in (length ws) roots i d ins within in
          let rest = all_other_than_0 (means x) (drop (i + 1) roots) in
          let w = word_on old now (slice_index ws root) (λ y. slice_index (means y) root) word h.grows
          (word_is old ws means table root word e words there) in
          let set : g x ≡ not (slice_index (means x) root == 0) = ap (λ b. any_bit b (bits now x word))
          (is_no.value x)
          ∙ ordered.other_than_0 (bits now x word) ∙ ap (λ k. not (k == 0)) (w.value x) in
          ap (λ b. b && rest) (made.value x) ∙ ap (λ b. (f x && b) && rest) set
          ∙ and_assoc (f x) (not (slice_index (means x) root == 0)) rest
          ∙ ap (λ ids. f x && all_other_than_0 (means x) ids) (sym (drop_more roots i d within))
          ∙ h.value ws means ins words x;
    }

and_true : (b : Bool) → b ≡ (b && true)
and_true true = refl
and_true false = refl

pub rooted_all : (old now : List AigNode) (table : List (List ℕ)) (roots : List ℕ) (i all : ℕ)
    → length roots ≤ i
    → Rooting old now table roots i all → (ws : List ℕ) (means : Numbers) → AllByRecursion
    (λ i. i < length ws) roots
    → AreWords old ws means table → IsMade now (λ x. all_other_than_0 (means x) roots) all
rooted_all old now table roots i all past h ws means ins words = record {
  there = h.there;
  value = λ x.
      let none : drop i roots ≡ [] = drop_all i roots past in
      and_true (lit_at now x all) ∙ ap (λ ids. lit_at now x all && all_other_than_0 (means x) ids) (sym none)
      ∙ h.value ws means ins words x;
}
