-- The lines of a graph, one node or one name more.
use Rattle.std.proofs.Common.{◌≡◌, ℕ, ◌+◌, ◌<◌, ◌≤◌, List, [], ◌∷◌, ◌++◌, length, get_or, drop, ap, sym, ◌∙◌}
use Rattle.std.proofs.Common.{append_assoc}
use Rattle.std.proofs.lemmas.List.{at_drop_more, at_drop_all, drop_more, append-nil}
use Rattle.bb_aig.specs.declared.node.AigNode.{AigNode}
use Rattle.bb_aig.specs.declared.node.AigNode.TheVariants as n
use Rattle.aiger_text.specs.Written.{aag_text, header_text, inputs_text, gates_text, names_text, input_text}
use Rattle.aiger_text.specs.Written.{gate_text, name_text, with_end}

shift : (before part rest after left all : List ℕ) → left ≡ part ++ rest → before ++ left ≡ all
    → after ≡ before ++ part → after ++ rest ≡ all
shift before part rest after left all e p q =
    ap (λ x. x ++ rest) q ∙ append_assoc before part rest ∙ ap (λ x. before ++ x) (sym e) ∙ p

pub inputs_step : (gs : List AigNode) (i : ℕ) (d : AigNode) (before after all : List ℕ) → i < length gs
    → before ++ inputs_text (i + 1) (drop i gs) ≡ all → after ≡ before ++ input_text (i + 1) (get_or gs i d)
    → after ++ inputs_text (i + 1 + 1) (drop (i + 1) gs) ≡ all
inputs_step gs i d before after all l p q =
    shift before (input_text (i + 1) (get_or gs i d)) (inputs_text (i + 1 + 1) (drop (i + 1) gs)) after
    (inputs_text (i + 1) (drop i gs)) all (ap (inputs_text (i + 1)) (drop_more gs i d l)) p q

pub inputs_end : (before all : List ℕ) (i : ℕ) (gs : List AigNode) → length gs ≤ i
    → before ++ inputs_text (i + 1) (drop i gs) ≡ all → before ≡ all
inputs_end before all i gs l p =
    sym (append-nil before) ∙ ap (λ x. before ++ x) (sym (at_drop_all (λ x. inputs_text (i + 1) x) gs i l)) ∙ p

pub gates_step : (gs : List AigNode) (i : ℕ) (d : AigNode) (before after all : List ℕ) → i < length gs
    → before ++ gates_text (i + 1) (drop i gs) ≡ all → after ≡ before ++ gate_text (i + 1) (get_or gs i d)
    → after ++ gates_text (i + 1 + 1) (drop (i + 1) gs) ≡ all
gates_step gs i d before after all l p q =
    shift before (gate_text (i + 1) (get_or gs i d)) (gates_text (i + 1 + 1) (drop (i + 1) gs)) after
    (gates_text (i + 1) (drop i gs)) all (ap (gates_text (i + 1)) (drop_more gs i d l)) p q

pub gates_end : (before all : List ℕ) (i : ℕ) (gs : List AigNode) → length gs ≤ i
    → before ++ gates_text (i + 1) (drop i gs) ≡ all → before ≡ all
gates_end before all i gs l p =
    sym (append-nil before) ∙ ap (λ x. before ++ x) (sym (at_drop_all (λ x. gates_text (i + 1) x) gs i l)) ∙ p

pub names_step : (before after all : List ℕ) (i : ℕ) (ns : List (List ℕ)) (n : List ℕ) → i < length ns
    → n ≡ get_or ns i n → before ++ names_text i (drop i ns) ≡ all
    → after ≡ before ++ name_text i n → after ++ names_text (i + 1) (drop (i + 1) ns) ≡ all
names_step before after all i ns n l e p q = shift before (name_text i n)
    (names_text (i + 1) (drop (i + 1) ns)) after (names_text i (drop i ns)) all
    (at_drop_more (λ x. names_text i x) ns i n l
    ∙ ap (λ x. names_text i (x ∷ drop (i + 1) ns)) (sym e)) p q

pub names_end : (before all : List ℕ) (i : ℕ) (ns : List (List ℕ)) → length ns ≤ i
    → before ++ names_text i (drop i ns) ≡ all → before ≡ all
names_end before all i ns l p =
    sym (append-nil before) ∙ ap (λ x. before ++ x) (sym (at_drop_all (λ x. names_text i x) ns i l)) ∙ p

pub parts_put : (graph nodes : List AigNode) (root : ℕ) (names : List (List ℕ)) (o a b c d e : List ℕ)
    → graph ≡ n.False ∷ nodes → o ≡ [] → a ≡ o ++ header_text graph → b ≡ a ++ inputs_text 1 nodes
    → c ≡ b ++ with_end 10 root → d ≡ c ++ gates_text 1 nodes → e ≡ d ++ names_text 0 names
    → e ≡ aag_text graph root names
parts_put graph nodes root names o a b c d e g ho ha hb hc hd he =
    he ∙ ap (λ x. x ++ names_text 0 names) (hd ∙ ap (λ x. x ++ gates_text 1 nodes)
    (hc ∙ ap (λ x. x ++ with_end 10 root) (hb ∙ ap (λ x. x ++ inputs_text 1 nodes)
    (ha ∙ ap (λ x. x ++ header_text graph) ho))))
    ∙ ap (λ x. header_text graph ++ inputs_text 0 x ++ with_end 10 root ++ gates_text 0 x ++ names_text 0 names)
    (sym g)
